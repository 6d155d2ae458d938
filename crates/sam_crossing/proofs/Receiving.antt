-- The terminal takes each frame that comes, and both sides stay in order.
use Rattle.sam_crossing.proofs.Common.{◌≡◌, ℕ, ◌+◌, ◌≤◌, Bool, false, List, ◌∷◌, ◌++◌, length, Option, Some, None, refl, subst, arith, length-append, length-drop, length-take-le, ltb-false, length-map, Checks, first_of_checks, slot-free_same, slot-free_other, slot-map, PartialText, load_cells, Tmesg, Hmesg, Hcheck, Hunlockfile, Hack, PlainHost, PlainTerminal, window_at, unsent_message, frame_checks, frame_outcome, took_bindname, took_data, took_grow, took_growdata, took_cut, took_unlockfile, took_close, took_exit, Unsent, TermFault, Lens, Action, move, is_crossing, ComesToSync, HFile, OpenAt, Anything, action, at_file, view, effect, Moves, AreTidy, IsHeldBack, views, InOrder}
use Rattle.sam_runes.proofs.CheckLaws.{none_holds}
use Rattle.sam_term.specs.Term.{past_end}
use Rattle.sam_crossing.proofs.Runs.{first_is_quiet}
use Rattle.sam_crossing.proofs.Folds.{frame_moves}
use Rattle.sam_crossing.proofs.FrameMoves.{take_law}
use Rattle.sam_crossing.proofs.Views.{tidy-put, tidy-window}
use Rattle.sam_crossing.proofs.Dots.{tidy-ins, tidy-del}
use Rattle.sam_crossing.proofs.Sending.{Goes, nothing_goes}
use Rattle.sam_crossing.proofs.Acting.{requested_goes, acknowledged_goes}

-- ## The unsent runes are left alone

-- a frame that comes doesn't touch a free file
quiet_frame : (a : Action) (s : List Action) (v : Lens) (d : Bool) (n : ℕ) (file : HFile) → ComesToSync (a ∷ s) v d n file → OpenAt Anything v → is_crossing a ≡ false
quiet_frame a s v d n file k o = grind (arith, first_is_quiet)

-- and leaves it
left_open : (a : Action) (s : List Action) (v v2 : Lens) (d : Bool) (n : ℕ) (file : HFile) → ComesToSync (a ∷ s) v d n file → OpenAt Anything v → move a v ≡ Some v2 → OpenAt Anything v2
left_open a s v v2 d n file k o m = grind (arith, first_is_quiet)

unsent_stays : (t : PlainTerminal) (m : Hmesg) (u : Unsent) → t.unsent ≡ Some u → is_crossing (action u.file m) ≡ false → (effect t m).unsent ≡ Some u
unfolding took_bindname took_data took_grow took_growdata took_cut took_unlockfile took_close took_exit
unsent_stays t m u e w = grind arith

unsent_none : (t : PlainTerminal) (m : Hmesg) → t.unsent ≡ None → (effect t m).unsent ≡ None
unfolding took_bindname took_data took_grow took_growdata took_cut took_unlockfile took_close took_exit
unsent_none t m e = grind arith

-- ## Dots stay in their texts

place_of : (t : PlainTerminal) (f p : ℕ) (rest : Checks TermFault) → first_of_checks (past_end t f p ∷ rest) ≡ None → p ≤ length (window_at t f).rasp
place_of t f p rest e = ltb-false _ p (none_holds (past_end t f p) rest e).0

length-load : (r : PartialText) (p : ℕ) (s : List ℕ) → p + length s ≤ length r → length (load_cells r p s) ≡ length r
length-load r p s l = grind (arith, length-map, length-append, length-take-le, length-drop)

tidy_effect : (t : PlainTerminal) (m : Hmesg) → first_of_checks (frame_checks t m) ≡ None → AreTidy t → AreTidy (effect t m)
unfolding took_bindname took_data took_grow took_growdata took_cut took_unlockfile took_close took_exit
tidy_effect t m e u = grind (arith, tidy-window, tidy-put, tidy-ins, place_of, length-load, tidy-del, slot-map, slot-free_same, slot-free_other)

-- ## A frame is taken

-- before anything is composed for it
effect_order : (h : PlainHost) (t : PlainTerminal) (up : List Tmesg) (m : Hmesg) (down : List Hmesg) → InOrder h t up (m ∷ down) → Moves t m → InOrder h (effect t m) up down
effect_order h t up m down o v = by_unsent t.unsent refl
  where
    by_unsent : (u : Option Unsent) → t.unsent ≡ u → InOrder h (effect t m) up down
    by_unsent None e = grind (arith, tidy_effect, (unsent_none t m e))
    by_unsent (Some u) e =
        let held : IsHeldBack (views t) (Some u) = subst (IsHeldBack (views t)) e o.unsent in
        grind (arith, tidy_effect, (unsent_stays t m u e), (quiet_frame (action u.file m) (at_file u.file (down ++ o.kept.frames)) (view u.file t) _ _ _ (o.kept.each u.file) held.1), left_open)

-- nothing stands against the frame, and what it makes follows
pub record Received (h : PlainHost) (t : PlainTerminal) (up : List Tmesg) (m : Hmesg) (down : List Hmesg) : Type 0 where
  pub passes : first_of_checks (frame_checks t m) ≡ None
  pub goes : Goes h up down (frame_outcome t m)

made_goes : (h : PlainHost) (t : PlainTerminal) (up : List Tmesg) (m : Hmesg) (down : List Hmesg) → InOrder h (effect t m) up down → Goes h up down (frame_outcome t m)
made_goes h t up (Hcheck f) down o = requested_goes h t up down f o
made_goes h t up (Hunlockfile f) down o = requested_goes h (took_unlockfile t f) up down f o
made_goes h t up Hack down o = grind (arith, (nothing_goes h t up down o), (acknowledged_goes h t up down o))
made_goes h t up m down o = nothing_goes h (effect t m) up down o

pub received : (h : PlainHost) (t : PlainTerminal) (up : List Tmesg) (m : Hmesg) (down : List Hmesg) → InOrder h t up (m ∷ down) → Received h t up m down
received h t up m down o = grind (arith, (take_law t m (frame_moves h (views t) (up ++ unsent_message t.unsent) m down o.kept)), (made_goes h t up m down), (effect_order h t up m down o))
