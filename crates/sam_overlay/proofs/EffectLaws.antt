-- What a frame does to rasps, and to cells over them.
use Rattle.std.proofs.Common.{◌≡◌, refl, sym, ap, ◌∙◌, subst, ℕ, ◌+◌, ◌⊎◌, inl, inr, Bool, true, false, nat_eq, if◌then◌else◌, List, [], ◌∷◌, map, length, replicate, Some, None, Ok, arith}
use Rattle.std.specs.Prelude.{◌≢◌, ◌==◌, unwrap_or}
use Rattle.std.proofs.lemmas.Bool.Decides.{eqb_tells}
use Rattle.std.proofs.lemmas.List.{length-map, length-replicate}
use Rattle.sam_mesg.specs.declared.hmesg.Hmesg.{Hmesg}
use Rattle.sam_mesg.specs.declared.hmesg.Hmesg.TheVariants.{Hbindname, Hnewname, Hmovname, Hgrow, Hcheck, Hdata, Horigin, Hunlockfile, Hsetdot, Hgrowdata, Hmoveto, Hclean, Hdirty, Hcut, Hdelname, Hclose, Hack, Hexit}
use Rattle.sam_mesg.specs.declared.hmesg.HFrame.{HFrame}
use Rattle.sam_mesg.specs.declared.tmesg.Tmesg.{Tmesg}
use Rattle.sam_mesg.specs.declared.tmesg.Tmesg.TheVariants.{Tack}
use Rattle.sam_runes.specs.Checks.{first_of_checks}
use Rattle.sam_runes.specs.Slots.{free_slot}
use Rattle.sam_runes.proofs.SlotLaws.{slot-free_same, slot-free_other, slot-map}
use Rattle.sam_rasp.specs.Rasp.{ins_cells, del_cells, load_cells}
use Rattle.sam_term.specs.Term.{PlainTerminal, frame_checks, frame_outcome, known_at, put_known, rasp_at, sends, unchanged, window_at}
unfoldable use Rattle.sam_term.specs.Term.{take_of, took_bindname, took_close, took_cut, took_data, took_exit, took_grow, took_growdata, took_unlockfile}
use Rattle.sam_term.specs.Windows.{blank_known, blank_window}
use Rattle.sam_term.specs.declared.records.KnownFile.{KnownFile}
use Rattle.sam_term.proofs.TermLaws.{known-put, rasp-stays, rasp-change, rasp-sends, rasp-requested}
use Rattle.sam_pending.specs.Cells.{PartialText}
use Rattle.sam_overlay.specs.Effects.{Effect, FitsIn, Stays, Inserts, Fills, Removes, Empties, at_file, effect, members_after}
use Rattle.sam_overlay.specs.Frames.{FramesMoveRasps}

-- ## One file among others

-- what is done to the text of g, seen at f
seen-at : (x : Effect) (f g : ℕ) (r after : PartialText) → after ≡ (if g == f then members_after x r else r) → after ≡ members_after (at_file f g x) r
seen-at x f g r after e = go (eqb_tells g f)
  where
    go : ((nat_eq g f ≡ true) × (g ≡ f)) ⊎ ((nat_eq g f ≡ false) × (g ≢ f)) → after ≡ members_after (at_file f g x) r
    go (inl (b, here)) = e ∙ (ap (λ y. if y then members_after x r else r) b ∙ sym (ap (λ y. members_after (if y then x else Stays) r) b))
    go (inr (b, other)) = e ∙ (ap (λ y. if y then members_after x r else r) b ∙ sym (ap (λ y. members_after (if y then x else Stays) r) b))

-- what fits at g fits at each file
fits-at : (x : Effect) (t : PlainTerminal) (f g : ℕ) → FitsIn (length (rasp_at t g)) x → FitsIn (length (rasp_at t f)) (at_file f g x)
fits-at x t f g fit = go (eqb_tells g f)
  where
    go : ((nat_eq g f ≡ true) × (g ≡ f)) ⊎ ((nat_eq g f ≡ false) × (g ≢ f)) → FitsIn (length (rasp_at t f)) (at_file f g x)
    go (inl (b, here)) = subst (λ y. FitsIn (length (rasp_at t f)) (if y then x else Stays)) (sym b) (subst (λ y. FitsIn (length (rasp_at t y)) x) here fit)
    go (inr (b, other)) = subst (λ y. FitsIn (length (rasp_at t f)) (if y then x else Stays)) (sym b) tt

-- ## Frames

rasp-known : (t : PlainTerminal) (g : ℕ) (x : KnownFile) (f : ℕ) → (unwrap_or x.window blank_window).rasp ≡ rasp_at t g → rasp_at (put_known t g x) f ≡ rasp_at t f
rasp-known t g x f e = grind (arith, (known-put (λ known. (unwrap_or known.window blank_window).rasp) t g x f))

-- a file that is not open afterwards
rasp-shut : (t : PlainTerminal) (g : ℕ) (x : KnownFile) (f : ℕ) → x.window ≡ None → rasp_at (put_known t g x) f ≡ (if g == f then [] else rasp_at t f)
rasp-shut t g x f e = grind (arith, (known-put (λ known. (unwrap_or known.window blank_window).rasp) t g x f))

rasp-removed : (t : PlainTerminal) (g f : ℕ) → rasp_at (record t { files = free_slot t.files g }) f ≡ (if g == f then [] else rasp_at t f)
rasp-removed t g f = grind (arith, slot-free_same, slot-free_other)

rasp-acknowledged : (b : Bool) (t : PlainTerminal) (ms : List Tmesg) (f : ℕ) → rasp_at (if b then (t, []) else sends t unchanged ms).0 f ≡ rasp_at t f
rasp-acknowledged true t ms f = refl
rasp-acknowledged false t ms f = rasp-sends t ms f

rasp-ended : (t : PlainTerminal) (f : ℕ) → rasp_at (took_exit t) f ≡ rasp_at t f
unfolding took_exit
rasp-ended t f = grind (arith, slot-map)

message-moves : (t : PlainTerminal) (m : Hmesg) (f : ℕ) → rasp_at (frame_outcome t m).0 f ≡ members_after (effect f m) (rasp_at t f)
unfolding took_bindname took_data took_grow took_growdata took_cut took_unlockfile took_close
message-moves t (Hdata g p s) f = seen-at (Fills p s) f g (rasp_at t f) _ (rasp-change (λ r. load_cells r p s) t g _ f refl)
message-moves t (Hgrow g p n) f = seen-at (Inserts p (replicate n None)) f g (rasp_at t f) _ (rasp-change (λ r. ins_cells r p (replicate n None)) t g _ f refl)
message-moves t (Hgrowdata g p s) f = seen-at (Inserts p (map Some s)) f g (rasp_at t f) _ (rasp-change (λ r. ins_cells r p (map Some s)) t g _ f refl)
message-moves t (Hcut g p n) f = seen-at (Removes p n) f g (rasp_at t f) _ (rasp-change (λ r. del_cells r p (p + n)) t g _ f refl)
message-moves t (Hbindname g) f = seen-at Empties f g (rasp_at t f) _ (rasp-change (λ r. []) t g blank_window f refl)
message-moves t (Hclose g) f = seen-at Empties f g (rasp_at t f) _ (rasp-shut t g (record (known_at t g) { window = None }) f refl)
message-moves t (Hnewname g) f = seen-at Empties f g (rasp_at t f) _ (rasp-shut t g blank_known f refl)
message-moves t (Hdelname g) f = seen-at Empties f g (rasp_at t f) _ (rasp-removed t g f)
message-moves t (Hmovname g s) f = rasp-known t g (record (known_at t g) { name = s }) f refl
message-moves t (Hcheck g) f = rasp-requested t g f
message-moves t (Horigin g p) f = rasp-stays t g (record (window_at t g) { view_start = p }) f refl
message-moves t (Hunlockfile g) f = rasp-requested (took_unlockfile t g) g f ∙ rasp-stays t g _ f refl
message-moves t (Hsetdot g p q) f = rasp-stays t g (record (window_at t g) { dot = (p, q) }) f refl
message-moves t (Hmoveto g p) f = rasp-stays t g (record (window_at t g) { view_start = p }) f refl
message-moves t (Hclean g) f = rasp-known t g (record (known_at t g) { dirty = false; changed = false }) f refl
message-moves t (Hdirty g) f = rasp-known t g (record (known_at t g) { dirty = true }) f refl
message-moves t Hack f = rasp-acknowledged t.has_exited t (Tack ∷ []) f
message-moves t Hexit f = rasp-ended t f
message-moves t m f = refl

message-fits : (t : PlainTerminal) (m : Hmesg) (f : ℕ) → first_of_checks (frame_checks t m) ≡ None → FitsIn (length (rasp_at t f)) (effect f m)
message-fits t (Hdata g p s) f free = fits-at (Fills p s) t f g (grind (arith, free))
message-fits t (Hgrow g p n) f free = fits-at (Inserts p (replicate n None)) t f g (grind (arith, free, length-replicate))
message-fits t (Hgrowdata g p s) f free = fits-at (Inserts p (map Some s)) t f g (grind (arith, free, length-map))
message-fits t (Hcut g p n) f free = fits-at (Removes p n) t f g (grind (arith, free))
message-fits t (Hbindname g) f free = fits-at Empties t f g tt
message-fits t (Hclose g) f free = fits-at Empties t f g tt
message-fits t (Hnewname g) f free = fits-at Empties t f g tt
message-fits t (Hdelname g) f free = fits-at Empties t f g tt
message-fits t m f free = tt

taken-is : (t u : PlainTerminal) (frame : HFrame) (ms : List Tmesg) → take_of t frame ≡ Ok (u, ms)
    → (u ≡ (frame_outcome t frame.msg).0) × (first_of_checks (frame_checks t frame.msg) ≡ None)
unfolding take_of
taken-is t u frame ms e = grind arith

pub frames_move_rasps : FramesMoveRasps
frames_move_rasps t u frame ms f taken =
    let is = taken-is t u frame ms taken in
    (message-fits t frame.msg f is.1, ap (λ v. rasp_at v f) is.0 ∙ message-moves t frame.msg f)
