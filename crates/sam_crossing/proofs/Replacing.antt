-- An edit of any length keeps both sides in order: its messages one after another do what the terminal does at once.
use Rattle.std.proofs.lemmas.List.{take_at, drop_at}
use Rattle.sam_crossing.proofs.Common.{◌≡◌, ℕ, zero, suc, ◌+◌, ◌-◌, ◌≤◌, Bool, true, false, ◌==◌, if◌then◌else◌, nat_le, List, [], ◌∷◌, ◌++◌, length, map, take, drop, Option, Some, None, refl, sym, ap, ◌∙◌, subst, arith, append_assoc, append-nil, map-append, length-append, length-map, length-take-le, length-drop, take-append-drop, eqb-true, eq-eqb, le-leb, leb-true, del-nothing, ins, max_runes, most_in_message, drop_all, Tmesg, Ttype, Tcut, Hmesg, PlainHost, PlainTerminal, window_at, edited, window_after_ins, window_after_del, cut_rasp, ins_rasp, moved_unsent, Unsent, IsHeldBack, slot-put_same, del_cells, composed, all_composed, pieces, typed_pieces, edit_messages, replaced, place_after_ins, place_after_del, unsent_message, Lens, OpenAt, view, AllComeToSync, AreTidy, views, InOrder}
use mathlib.Core.Path.{fun_ext}
use Rattle.sam_crossing.proofs.Lenses.{IsFree, IsOpen, exited_of, command_of}
use Rattle.sam_crossing.proofs.Changes.{Change, Types, Cuts, change_by, typed_in, cut_out, changed, Within}
use Rattle.sam_crossing.proofs.Composing.{composes}
use Rattle.sam_crossing.proofs.Views.{view-made, tidy-window, tidy-edited}
use Rattle.sam_crossing.proofs.Dots.{length-ins_cells, length-del_cells, tidy-ins, tidy-del}
use Rattle.sam_crossing.proofs.Sending.{open_is, has_open, open_cut, cut_view, exited_cut, command_cut}

-- ## Runes in pieces

-- what comes in in two goes comes in at once
ins-ins : {X : Type 0} (r a b : List X) (p : ℕ) → p ≤ length r → ins (ins r p a) (p + length a) b ≡ ins r p (a ++ b)
ins-ins r a b p l = grind (arith, length-append, length-take-le, take_at, drop_at, append_assoc)

ins-nothing : {X : Type 0} (r : List X) (p : ℕ) → ins r p [] ≡ r
ins-nothing r p = grind (arith, append-nil, take-append-drop)

abbrev Room : ℕ → List ℕ → List (Option ℕ) → Type 0
Room p s r = (p ≤ length r) × (length r + length s ≤ max_runes)

-- what stands from p to q can go, and there is room for these runes in its place
abbrev pub Wide : ℕ → ℕ → List ℕ → List (Option ℕ) → Type 0
Wide p q s r = (p ≤ q) × (q ≤ length r) × (length r - (q - p) + length s ≤ max_runes)

range_there : (p q : ℕ) (s : List ℕ) (v : Lens) → OpenAt (Wide p q s) v → OpenAt (Within p q) v
range_there p q s v o = grind arith

typed-typed : (p : ℕ) (a b : List ℕ) (v : Lens) → OpenAt (Room p a) v → typed_in (p + length a) b (typed_in p a v) ≡ typed_in p (a ++ b) v
typed-typed p a b v o = grind (arith, ins-ins, map-append, length-map)

typed-nothing : (p : ℕ) (v : Lens) → typed_in p [] v ≡ v
typed-nothing p v = grind (arith, ins-nothing)

cut-nothing : (p q : ℕ) (v : Lens) → p ≡ q → cut_out p q v ≡ v
cut-nothing p q v e = grind (arith, del-nothing)

-- outside the command file typing takes no lock
types_only : (f p : ℕ) (s : List ℕ) → (f == 0) ≡ false → change_by (Ttype f p s) ≡ Types f p s
types_only f p s e = grind arith

-- where the file is open to the user, no lock is held
open_alone : (P : List (Option ℕ) → Type 0) (v : Lens) → OpenAt P v → IsFree v
open_alone P v o = grind arith

-- the command lock, and whether the terminal has exited, are as before
here_kept : (c : Bool) (p : ℕ) (s : List ℕ) (v : Lens) → exited_of (if c then typed_in p s v else v) ≡ exited_of v
here_kept c p s v = grind arith

free_kept : (c : Bool) (p : ℕ) (s : List ℕ) (v : Lens) → command_of (if c then typed_in p s v else v) ≡ command_of v
free_kept c p s v = grind arith

-- after the first piece there is room for the rest
room_after : (p : ℕ) (a b : List ℕ) (v : Lens) → OpenAt (Room p (a ++ b)) v → OpenAt (Room (p + length a) b) (typed_in p a v)
room_after p a b v o = grind (arith, length-ins_cells, length-map, length-append)

room_first : (p : ℕ) (a b : List ℕ) (v : Lens) → OpenAt (Room p (a ++ b)) v → OpenAt (Room p a) v
room_first p a b v o = grind (arith, length-append)

pub pieces-nothing : (n p : ℕ) → pieces n p [] ≡ []
unfolding pieces
pieces-nothing zero p = refl
pieces-nothing (suc n) p = refl

-- the first piece, and the pieces of the rest after it
pub pieces_step : (n p c : ℕ) (s : List ℕ) → let a = take most_in_message (c ∷ s) in pieces (suc n) p (c ∷ s) ≡ (p, a) ∷ pieces n (p + length a) (drop most_in_message (c ∷ s))
unfolding pieces
pieces_step n p c s = ap (λ (xs : List (ℕ × List ℕ)). (p, take most_in_message (c ∷ s)) ∷ xs) (go (nat_le (length (c ∷ s)) most_in_message) refl)
  where
    a : List ℕ
    a = take most_in_message (c ∷ s)

    b : List ℕ
    b = drop most_in_message (c ∷ s)

    go : (short : Bool) → nat_le (length (c ∷ s)) most_in_message ≡ short → pieces n (p + most_in_message) b ≡ pieces n (p + length a) b
    go true e =
        let none : b ≡ [] = drop_all most_in_message (c ∷ s) (grind (arith, leb-true, e)) in
        ap (λ (x : List ℕ). pieces n (p + most_in_message) x) none ∙ pieces-nothing n (p + most_in_message)
        ∙ sym (ap (λ (x : List ℕ). pieces n (p + length a) x) none ∙ pieces-nothing n (p + length a))
    go false e = ap (λ (m : ℕ). pieces n (p + m) b) (sym (length-take-le most_in_message (c ∷ s) (grind (arith, le-leb, e))))

-- ## The fold

module _ (h : PlainHost) (down : List Hmesg) (f : ℕ) (plain : (f == 0) ≡ false) where
  abbrev Carried : (ℕ → Lens) → List Tmesg → Type 0
  Carried shown line = AllComeToSync h shown line down

  -- where the user may type so much at a place
  record MayType (p : ℕ) (s : List ℕ) (shown : ℕ → Lens) : Type 0 where
    here : exited_of (shown 0) ≡ false
    free : command_of (shown 0) ≡ false
    room : OpenAt (Room p s) (shown f)

  abbrev typed : ℕ → List ℕ → (ℕ → Lens) → ℕ → Lens
  typed p s shown g = changed (Types f p s) g (shown g)

  one_piece : (p : ℕ) (s : List ℕ) (shown : ℕ → Lens) (line : List Tmesg) → MayType p s shown → Carried shown line → Carried (typed p s shown) (line ++ Ttype f p s ∷ [])
  one_piece p s shown line may k =
      let change = types_only f p s plain in
      subst (λ (c : Change). AllComeToSync h (λ g. changed c g (shown g)) (line ++ Ttype f p s ∷ []) down) change
      (composes h shown line down (Ttype f p s) k may.here may.free (rw change (open_alone (Room p s) (shown f) may.room)) may.room)

  may_first : (p : ℕ) (a b : List ℕ) (shown : ℕ → Lens) → MayType p (a ++ b) shown → MayType p a shown
  may_first p a b shown may = record { here = may.here; free = may.free; room = room_first p a b (shown f) may.room }

  may_rest : (p : ℕ) (a b : List ℕ) (shown : ℕ → Lens) → MayType p (a ++ b) shown → MayType (p + length a) b (typed p a shown)
  may_rest p a b shown may = record {
    here = here_kept (0 == f) p a (shown 0) ∙ may.here;
    free = free_kept (0 == f) p a (shown 0) ∙ may.free;
    room = rw (eq-eqb f f refl) (room_after p a b (shown f) may.room);
  }

  typed_then : (p : ℕ) (a b : List ℕ) (shown : ℕ → Lens) → MayType p (a ++ b) shown → typed (p + length a) b (typed p a shown) ≡ typed p (a ++ b) shown
  typed_then p a b shown may = fun_ext (λ g. at g (g == f) refl)
    where
      at : (g : ℕ) (here : Bool) → (g == f) ≡ here
          → (if here then typed_in (p + length a) b (if here then typed_in p a (shown g) else shown g) else (if here then typed_in p a (shown g) else shown g)) ≡ (if here then typed_in p (a ++ b) (shown g) else shown g)
      at g false e = refl
      at g true e = subst (λ (k : ℕ). typed_in (p + length a) b (typed_in p a (shown k)) ≡ typed_in p (a ++ b) (shown k)) (sym (eqb-true g f e))
          (typed-typed p a b (shown f) (room_first p a b (shown f) may.room))

  -- a piece, and these messages for the rest
  then_rest : (p : ℕ) (a b : List ℕ) (shown : ℕ → Lens) (line ms : List Tmesg) → MayType p (a ++ b) shown
      → Carried (typed (p + length a) b (typed p a shown)) ((line ++ Ttype f p a ∷ []) ++ ms) → Carried (typed p (a ++ b) shown) (line ++ Ttype f p a ∷ ms)
  then_rest p a b shown line ms may k =
      subst (λ (l : List Tmesg). Carried (typed p (a ++ b) shown) l) (append_assoc line (Ttype f p a ∷ []) ms)
      (subst (λ (v : ℕ → Lens). Carried v ((line ++ Ttype f p a ∷ []) ++ ms)) (typed_then p a b shown may) k)

  nothing_typed : (p : ℕ) (shown : ℕ → Lens) (line : List Tmesg) → Carried shown line → Carried (typed p [] shown) (line ++ [])
  nothing_typed p shown line k = subst (λ (l : List Tmesg). Carried (typed p [] shown) l) (sym (append-nil line))
      (subst (λ (v : ℕ → Lens). Carried v line) (fun_ext (λ g. sym (at g (g == f)))) k)
    where
      at : (g : ℕ) (here : Bool) → (if here then typed_in p [] (shown g) else shown g) ≡ shown g
      at g true = typed-nothing p (shown g)
      at g false = refl

  abbrev PiecesFold : ℕ → Type 0
  PiecesFold n = (p : ℕ) (s : List ℕ) (shown : ℕ → Lens) (line : List Tmesg) → length s ≤ n → MayType p s shown → Carried shown line
      → Carried (typed p s shown) (line ++ typed_pieces f (pieces n p s))

  -- a piece, and the rest of the text
  some_text : (n p c : ℕ) (s : List ℕ) (shown : ℕ → Lens) (line : List Tmesg) → PiecesFold n → length (c ∷ s) ≤ suc n → MayType p (c ∷ s) shown → Carried shown line
      → Carried (typed p (c ∷ s) shown) (line ++ typed_pieces f (pieces (suc n) p (c ∷ s)))
  some_text n p c s shown line rest fuel may k =
      let a : List ℕ = take most_in_message (c ∷ s) in
      let b : List ℕ = drop most_in_message (c ∷ s) in
      let whole : a ++ b ≡ c ∷ s = take-append-drop most_in_message (c ∷ s) in
      let left : length b ≤ n = omega (arith, length-drop most_in_message (c ∷ s), fuel) in
      let both : MayType p (a ++ b) shown = subst (λ (x : List ℕ). MayType p x shown) (sym whole) may in
      let later = rest (p + length a) b (typed p a shown) (line ++ Ttype f p a ∷ []) left (may_rest p a b shown both) (one_piece p a shown line (may_first p a b shown both) k) in
      subst (λ (x : List ℕ). Carried (typed p x shown) (line ++ typed_pieces f (pieces (suc n) p (c ∷ s)))) whole
      (subst (λ (xs : List (ℕ × List ℕ)). Carried (typed p (a ++ b) shown) (line ++ typed_pieces f xs)) (sym (pieces_step n p c s))
      (then_rest p a b shown line (typed_pieces f (pieces n (p + length a) b)) both later))

  -- all pieces of a text
  pieces_fold : (n : ℕ) → PiecesFold n
  unfolding pieces
  pieces_fold zero p [] shown line l may k = nothing_typed p shown line k
  pieces_fold zero p (c ∷ s) shown line l may k = absurd (omega (arith, l))
  pieces_fold (suc n) p [] shown line l may k = nothing_typed p shown line k
  pieces_fold (suc n) p (c ∷ s) shown line l may k = some_text n p c s shown line (pieces_fold n) l may k

  -- ## The whole

  abbrev cut_shown : ℕ → ℕ → (ℕ → Lens) → ℕ → Lens
  cut_shown p q shown g = changed (Cuts f p q) g (shown g)

  -- where the user may put so much in the place of what stands from p to q
  pub record MayReplace (p q : ℕ) (s : List ℕ) (shown : ℕ → Lens) : Type 0 where
    pub here : exited_of (shown 0) ≡ false
    pub free : command_of (shown 0) ≡ false
    pub room : OpenAt (Wide p q s) (shown f)

  may_type : (p q : ℕ) (s : List ℕ) (shown : ℕ → Lens) → MayReplace p q s shown → MayType p s (cut_shown p q shown)
  may_type p q s shown may = record {
    here = exited_cut (0 == f) p q (shown 0) ∙ may.here;
    free = command_cut (0 == f) p q (shown 0) ∙ may.free;
    room = rw (eq-eqb f f refl) (open_cut (Wide p q s) (Room p s) p q (shown f) may.room (λ r w. room_left r w));
  }
    where
      room_left : (r : List (Option ℕ)) → Wide p q s r → Room p s (del_cells r p q)
      room_left r w = grind (arith, length-del_cells)

  nothing_cut : (p q : ℕ) (shown : ℕ → Lens) → p ≡ q → cut_shown p q shown ≡ shown
  nothing_cut p q shown e = fun_ext (λ g. at g (g == f))
    where
      at : (g : ℕ) (here : Bool) → (if here then cut_out p q (shown g) else shown g) ≡ shown g
      at g true = cut-nothing p q (shown g) e
      at g false = refl

  messages_fold : (p q : ℕ) (s : List ℕ) (shown : ℕ → Lens) (line : List Tmesg) → MayReplace p q s shown → Carried shown line
      → Carried (typed p s (cut_shown p q shown)) (line ++ edit_messages f p q s)
  messages_fold p q s shown line may k = go (p == q) refl
    where
      ready : MayType p s (cut_shown p q shown)
      ready = may_type p q s shown may

      go : (none : Bool) → (p == q) ≡ none
          → Carried (typed p s (cut_shown p q shown)) (line ++ ((if none then [] else Tcut f p q ∷ []) ++ typed_pieces f (pieces (length s) p s)))
      go true e = pieces_fold (length s) p s (cut_shown p q shown) line (omega arith) ready (subst (λ (v : ℕ → Lens). Carried v line) (sym (nothing_cut p q shown (eqb-true p q e))) k)
      go false e =
          subst (λ (l : List Tmesg). Carried (typed p s (cut_shown p q shown)) l) (append_assoc line (Tcut f p q ∷ []) (typed_pieces f (pieces (length s) p s)))
          (pieces_fold (length s) p s (cut_shown p q shown) (line ++ Tcut f p q ∷ []) (omega arith) ready
          (composes h shown line down (Tcut f p q) k may.here may.free (open_alone (Wide p q s) (shown f) may.room) (range_there p q s (shown f) may.room)))

-- ## The terminal

-- messages of an edit are counted, and change nothing else
pieces_counted : (t : PlainTerminal) (f : ℕ) → (f == 0) ≡ false → (xs : List (ℕ × List ℕ)) → all_composed t (typed_pieces f xs) ≡ record t { sent = t.sent + length xs }
pieces_counted t f e [] = grind arith
pieces_counted t f e (x ∷ xs) = grind (arith, (pieces_counted (composed t (Ttype f x.0 x.1)) f e xs))

counted : (t : PlainTerminal) (f p q : ℕ) (s : List ℕ) → (f == 0) ≡ false
    → all_composed t (edit_messages f p q s) ≡ record t { sent = (all_composed t (edit_messages f p q s)).sent }
counted t f p q s e = grind (arith, (λ (u : PlainTerminal). pieces_counted u f e (pieces (length s) p s)))

ins_view : (t : PlainTerminal) (f p : ℕ) (s : List ℕ) → IsOpen (view f t) → (g : ℕ) → view g (ins_rasp t f p (map Some s)) ≡ changed (Types f p s) g (view g t)
ins_view t f p s o g = view-made t f (window_after_ins (window_at t f) p (map Some s)) (typed_in p s) o refl g

still_open : (t : PlainTerminal) (f p q : ℕ) → IsOpen (view f t) → IsOpen (view f (cut_rasp t f p q))
still_open t f p q o = grind (arith, (cut_view t f p q o f), (eq-eqb f f refl))

-- what is shown after the whole change
replaced_view : (t : PlainTerminal) (f p q : ℕ) (s : List ℕ) → IsOpen (view f t) → (g : ℕ)
    → view g (replaced t f p q s) ≡ changed (Types f p s) g (changed (Cuts f p q) g (view g t))
replaced_view t f p q s o g =
    ins_view (cut_rasp t f p q) f p s (still_open t f p q o) g ∙ ap (λ (v : Lens). changed (Types f p s) g v) (cut_view t f p q o g)

same_rasp : (t : PlainTerminal) (f : ℕ) → (window_at (edited t f) f).rasp ≡ (window_at t f).rasp
same_rasp t f = grind (arith, slot-put_same)

cut_rasp_is : (t : PlainTerminal) (f p q : ℕ) → (window_at (cut_rasp t f p q) f).rasp ≡ del_cells (window_at t f).rasp p q
cut_rasp_is t f p q = grind (arith, slot-put_same)

cut_tidy : (t : PlainTerminal) (f p q : ℕ) → AreTidy t → Within p q (window_at t f).rasp → AreTidy (cut_rasp t f p q)
cut_tidy t f p q tidy w =
    tidy-window (edited t f) f (window_after_del (window_at (edited t f) f) p q) (tidy-edited t f tidy)
    (tidy-del (window_at (edited t f) f) p q (tidy-edited t f tidy f) w.0 (rw (same_rasp t f) w.1))

replaced_tidy : (t : PlainTerminal) (f p q : ℕ) (s : List ℕ) → AreTidy t → Within p q (window_at t f).rasp → AreTidy (replaced t f p q s)
replaced_tidy t f p q s tidy w =
    let cut = cut_tidy t f p q tidy w in
    let place : p ≤ length (window_at (cut_rasp t f p q) f).rasp = rw (cut_rasp_is t f p q) (omega (arith, length-del_cells (window_at t f).rasp p q w.0 w.1, w.0, w.1)) in
    tidy-window (cut_rasp t f p q) f (window_after_ins (window_at (cut_rasp t f p q) f) p (map Some s)) cut (tidy-ins (window_at (cut_rasp t f p q) f) p (map Some s) (cut f) place)

-- the messages go after the unsent runes, of which none is left
pub replaced_goes : (h : PlainHost) (t : PlainTerminal) (up : List Tmesg) (down : List Hmesg) (f p q : ℕ) (s : List ℕ) (plain : (f == 0) ≡ false) → InOrder h t up down → t.unsent ≡ None
    → MayReplace h down f plain p q s (views t) → InOrder h (all_composed (replaced t f p q s) (edit_messages f p q s)) (up ++ edit_messages f p q s) down
replaced_goes h t up down f p q s plain o none may =
    rw (counted (replaced t f p q s) f p q s plain) (record { kept = kept; tidy = tidy; unsent = held })
  where
    ms : List Tmesg
    ms = edit_messages f p q s

    is_open : IsOpen (view f t)
    is_open = open_is (Wide p q s) (view f t) may.room

    within : Within p q (window_at t f).rasp
    within = has_open (Within p q) t f (range_there p q s (view f t) may.room)

    gone : (replaced t f p q s).unsent ≡ None
    gone = ap (λ (u : Option Unsent). moved_unsent f (place_after_ins p (length (map {A = ℕ} {B = Option ℕ} Some s))) (moved_unsent f (place_after_del p q) u)) none

    kept : AllComeToSync h (views (replaced t f p q s)) ((up ++ ms) ++ unsent_message (replaced t f p q s).unsent) down
    kept = rw (gone, append-nil) (subst (λ (v : ℕ → Lens). AllComeToSync h v (up ++ ms) down) (fun_ext (λ g. sym (replaced_view t f p q s is_open g)))
        (messages_fold h down f plain p q s (views t) up may (rw (none, append-nil) at o.kept)))

    tidy : AreTidy (replaced t f p q s)
    tidy = replaced_tidy t f p q s o.tidy within

    held : IsHeldBack (views (replaced t f p q s)) (replaced t f p q s).unsent
    held = rw gone tt
