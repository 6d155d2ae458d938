-- What the terminal's frames, events and flushes leave of a text that is kept.
use Rattle.sam_endpoint.proofs.Common.{◌≡◌, refl, sym, ap, subst, ◌∙◌, ℕ, ◌+◌, ◌-◌, ◌≤◌, ◌⊎◌, inl, inr, List, [], ◌∷◌, ◌++◌, length, length-take, map, take, drop, append-nil, Bool, true, false, if◌then◌else◌, Option, Some, None, Ok, arith, slice_get, HFrame, Tmesg, PlainTerminal, Made, act_of, act_on, decided, flush_of, take_of, frame_outcome, event_outcome, sends, unchanged, flushed, took_bindname, took_close, took_cut, took_data, took_exit, took_grow, took_growdata, took_unlockfile, Acted, Idle, Locked, Done, Refused, UserEvent, Verdict, act_touch, frame_touch, kept_after, left_by, Err, Result}
use Rattle.std.specs.Prelude.{◌≢◌, ◌==◌, nat_eq, replicate, unwrap_or, option_and_then}
use Rattle.std.proofs.lemmas.List.{length-map, length-replicate}
use Rattle.sam_mesg.specs.declared.hmesg.Hmesg.{Hmesg}
use Rattle.std.proofs.Math.Seq.{drop-append-add, take-append_seam}
use Rattle.std.proofs.lemmas.Bool.Decides.{eqb_tells}
use Rattle.sam_runes.specs.Checks.{first_of_checks}
use Rattle.sam_runes.proofs.SlotLaws.{slot-free_same, slot-free_other, slot-map}
use Rattle.sam_runes.specs.Slots.{free_slot}
use Rattle.sam_rasp.specs.Rasp.{PartialText, del_cells, ins_cells, load_cells, put_cells}
use Rattle.sam_term.specs.Effect.{changed_by}
use Rattle.sam_term.specs.Sound.{IsSound}
use Rattle.sam_term.specs.declared.fault.TermFault.{TermFault}
use Rattle.sam_term.specs.Term.{frame_checks, if_countable, event_checks, has_bad_place, put_known, known_at, rasp_at, window_at}
use Rattle.sam_term.specs.Windows.{blank_known, blank_window}
use Rattle.sam_term.specs.declared.records.KnownFile.{KnownFile}
use Rattle.sam_mesg.specs.declared.hmesg.Hmesg.TheVariants.{Hbindname, Hnewname, Hmovname, Hgrow, Hcheck, Hdata, Horigin, Hunlockfile, Hsetdot, Hgrowdata, Hmoveto, Hclean, Hdirty, Hcut, Hdelname, Hclose, Hack, Hexit}
use Rattle.sam_mesg.specs.declared.tmesg.Tmesg.TheVariants.{Tack}
use Rattle.sam_term.specs.declared.event.UserEvent.TheVariants.{Typed, Select, Cut, Paste, Dclick, View, Load, Edit}
use Rattle.sam_term.specs.declared.event.Verdict.TheVariants.{Waits, Refuses}
use Rattle.sam_term.proofs.Acts.{none_holds, test_at}
use Rattle.sam_term.proofs.TermLaws.{known-put, rasp-stays, rasp-change, rasp-sends, rasp-requested, rasp-flushed, event_changes}
use Rattle.sam_endpoint.specs.Changes.{ActsKeep, FlushesKeep, FramesKeep, IsKept, edit_touch, event_touch, kept_at, narrowed, oldest_touch, whole_touch}
use Rattle.sam_endpoint.specs.declared.changes.Kept.{Kept}
use Rattle.sam_endpoint.proofs.ChangeLaws.{edit-keeps, edit-other, kept-set_same, kept-set_other, whole-keeps}
use Rattle.sam_endpoint.proofs.TermEndpointHeld.{counted}

-- ## One file among others

-- an edit of the text of g, seen at f
edit-of : (old after cells : PartialText) (t : PlainTerminal) (ks : List Kept) (f g p q gone n : ℕ) → after ≡ (if g == f then put_cells (rasp_at t f) p q cells else rasp_at t f)
    → q ≡ p + gone → q ≤ length (rasp_at t g) → n ≡ length cells → IsKept old (rasp_at t f) (kept_at ks f)
    → IsKept old after (kept_at (kept_after ks (edit_touch g (length (rasp_at t g)) p gone n)) f)
edit-of old after cells t ks f g p q gone n is end within many kept = go (eqb_tells g f)
  where
    touched : List Kept
    touched = kept_after ks (edit_touch g (length (rasp_at t g)) p gone n)

    go : ((nat_eq g f ≡ true) × (g ≡ f)) ⊎ ((nat_eq g f ≡ false) × (g ≢ f)) → IsKept old after (kept_at touched f)
    go (inl (e, here)) =
        let there : after ≡ put_cells (rasp_at t f) p q cells = is ∙ ap (λ b. if b then put_cells (rasp_at t f) p q cells else rasp_at t f) e in
        let at_g = edit-keeps old (rasp_at t g) cells ks g p q gone n end within many (subst (λ x. IsKept old (rasp_at t x) (kept_at ks x)) (sym here) kept) in
        subst (λ x. IsKept old x (kept_at touched f)) (sym there)
        (subst (λ x. IsKept old (put_cells (rasp_at t x) p q cells) (kept_at touched x)) here at_g)
    go (inr (e, other)) =
        let same : after ≡ rasp_at t f = is ∙ ap (λ b. if b then put_cells (rasp_at t f) p q cells else rasp_at t f) e in
        subst (λ x. IsKept old x (kept_at touched f)) (sym same)
        (subst (λ k. IsKept old (rasp_at t f) k) (sym (edit-other ks f g p gone (length (rasp_at t g)) n (λ x. other (sym x)))) kept)

-- the text of g is empty afterwards, seen at f
whole-of : (old after : PartialText) (t : PlainTerminal) (ks : List Kept) (f g : ℕ) → after ≡ (if g == f then [] else rasp_at t f)
    → IsKept old (rasp_at t f) (kept_at ks f) → IsKept old after (kept_at (kept_after ks (whole_touch g)) f)
whole-of old after t ks f g is kept = go (eqb_tells g f)
  where
    touched : List Kept
    touched = kept_after ks (whole_touch g)

    go : ((nat_eq g f ≡ true) × (g ≡ f)) ⊎ ((nat_eq g f ≡ false) × (g ≢ f)) → IsKept old after (kept_at touched f)
    go (inl (e, here)) =
        let there : after ≡ [] = is ∙ ap (λ b. if b then [] else rasp_at t f) e in
        let at_g : IsKept old [] (narrowed (kept_at ks g) 0 0) = whole-keeps old (rasp_at t g) [] (kept_at ks g) (subst (λ x. IsKept old (rasp_at t x) (kept_at ks x)) (sym here) kept) in
        let set_at_g : IsKept old [] (kept_at touched g) = subst (λ k. IsKept old [] k) (sym (kept-set_same ks g 0 0)) at_g in
        subst (λ x. IsKept old x (kept_at touched f)) (sym there) (subst (λ x. IsKept old [] (kept_at touched x)) here set_at_g)
    go (inr (e, other)) =
        let same : after ≡ rasp_at t f = is ∙ ap (λ b. if b then [] else rasp_at t f) e in
        subst (λ x. IsKept old x (kept_at touched f)) (sym same)
        (subst (λ k. IsKept old (rasp_at t f) k) (sym (kept-set_other ks g f (narrowed (kept_at ks g) 0 0) (λ x. other (sym x)))) kept)

stay-of : (old after before : PartialText) (k : Kept) → after ≡ before → IsKept old before k → IsKept old after k
stay-of old after before k same kept = subst (λ x. IsKept old x k) (sym same) kept

-- ## Frames

rasp-known : (t : PlainTerminal) (g : ℕ) (x : KnownFile) (f : ℕ) → (unwrap_or x.window blank_window).rasp ≡ rasp_at t g → rasp_at (put_known t g x) f ≡ rasp_at t f
rasp-known t g x f e = grind (arith, (known-put (λ known. (unwrap_or known.window blank_window).rasp) t g x f))

-- a file that is not open afterwards
rasp-shut : (t : PlainTerminal) (g : ℕ) (x : KnownFile) (f : ℕ) → x.window ≡ None → rasp_at (put_known t g x) f ≡ (if g == f then [] else rasp_at t f)
rasp-shut t g x f e = grind (arith, (known-put (λ known. (unwrap_or known.window blank_window).rasp) t g x f))

rasp-removed : (t : PlainTerminal) (g f : ℕ) → rasp_at (record t { files = free_slot t.files g }) f ≡ (if g == f then [] else rasp_at t f)
rasp-removed t g f = grind (arith, slot-free_same, slot-free_other)

rasp-acknowledged : (b : Bool) (t : PlainTerminal) (ms : List Tmesg) (f : ℕ) → rasp_at (if b then (t, []) else sends t unchanged ms).0 f ≡ rasp_at t f
rasp-acknowledged true t ms f = refl
rasp-acknowledged false t ms f = rasp-sends t ms f

rasp-ended : (t : PlainTerminal) (f : ℕ) → rasp_at (took_exit t) f ≡ rasp_at t f
unfolding took_exit
rasp-ended t f = grind (arith, slot-map)

message-keeps : (old : PartialText) (t : PlainTerminal) (m : Hmesg) (ks : List Kept) (f : ℕ) → first_of_checks (frame_checks t m) ≡ None
    → IsKept old (rasp_at t f) (kept_at ks f) → IsKept old (rasp_at (frame_outcome t m).0 f) (kept_at (kept_after ks (frame_touch t m)) f)
unfolding took_bindname took_data took_grow took_growdata took_cut took_unlockfile took_close
message-keeps old t (Hdata g p s) ks f free kept =
    edit-of old _ (map Some s) t ks f g p (p + length s) (length s) (length s) (rasp-change (λ r. load_cells r p s) t g _ f refl) refl (grind arith) (sym (length-map s Some)) kept
message-keeps old t (Hgrow g p n) ks f free kept =
    edit-of old _ (replicate n None) t ks f g p p 0 n (rasp-change (λ r. ins_cells r p (replicate n None)) t g _ f refl) (omega arith) (grind arith) (sym (length-replicate n None)) kept
message-keeps old t (Hgrowdata g p s) ks f free kept =
    edit-of old _ (map Some s) t ks f g p p 0 (length s) (rasp-change (λ r. ins_cells r p (map Some s)) t g _ f refl) (omega arith) (grind arith) (sym (length-map s Some)) kept
message-keeps old t (Hcut g p n) ks f free kept =
    let cut : del_cells (rasp_at t g) p (p + n) ≡ put_cells (rasp_at t g) p (p + n) [] = ap (λ front. front ++ drop (p + n) (rasp_at t g)) (sym (append-nil (take p (rasp_at t g)))) in
    edit-of old _ [] t ks f g p (p + n) n 0 (rasp-change (λ r. put_cells r p (p + n) []) t g _ f cut) refl (grind arith) refl kept
message-keeps old t (Hbindname g) ks f free kept = whole-of old _ t ks f g (rasp-change (λ r. []) t g blank_window f refl) kept
message-keeps old t (Hclose g) ks f free kept = whole-of old _ t ks f g (rasp-shut t g (record (known_at t g) { window = None }) f refl) kept
message-keeps old t (Hnewname g) ks f free kept = whole-of old _ t ks f g (rasp-shut t g blank_known f refl) kept
message-keeps old t (Hdelname g) ks f free kept = whole-of old _ t ks f g (rasp-removed t g f) kept
message-keeps old t (Hmovname g s) ks f free kept = stay-of old _ _ _ (rasp-known t g (record (known_at t g) { name = s }) f refl) kept
message-keeps old t (Hcheck g) ks f free kept = stay-of old _ _ _ (rasp-requested t g f) kept
message-keeps old t (Horigin g p) ks f free kept = stay-of old _ _ _ (rasp-stays t g (record (window_at t g) { view_start = p }) f refl) kept
message-keeps old t (Hunlockfile g) ks f free kept =
    stay-of old _ _ _ (rasp-requested (took_unlockfile t g) g f ∙ rasp-stays t g _ f refl) kept
message-keeps old t (Hsetdot g p q) ks f free kept = stay-of old _ _ _ (rasp-stays t g (record (window_at t g) { dot = (p, q) }) f refl) kept
message-keeps old t (Hmoveto g p) ks f free kept = stay-of old _ _ _ (rasp-stays t g (record (window_at t g) { view_start = p }) f refl) kept
message-keeps old t (Hclean g) ks f free kept = stay-of old _ _ _ (rasp-known t g (record (known_at t g) { dirty = false; changed = false }) f refl) kept
message-keeps old t (Hdirty g) ks f free kept = stay-of old _ _ _ (rasp-known t g (record (known_at t g) { dirty = true }) f refl) kept
message-keeps old t Hack ks f free kept = stay-of old _ _ _ (rasp-acknowledged t.has_exited t (Tack ∷ []) f) kept
message-keeps old t Hexit ks f free kept = stay-of old _ _ _ (rasp-ended t f) kept
message-keeps old t m ks f free kept = kept

taken-is : (t u : PlainTerminal) (frame : HFrame) (ms : List Tmesg) → take_of t frame ≡ Ok (u, ms)
    → (u ≡ (frame_outcome t frame.msg).0) × (first_of_checks (frame_checks t frame.msg) ≡ None)
unfolding take_of
taken-is t u frame ms e = grind arith

pub frames_keep : FramesKeep
frames_keep old t u frame ms ks f taken kept =
    let is = taken-is t u frame ms taken in
    subst (λ v. IsKept old (rasp_at v f) (kept_at (kept_after ks (frame_touch t frame.msg)) f)) (sym is.0) (message-keeps old t frame.msg ks f is.1 kept)

-- ## Events

cut-and-put : (r cells : PartialText) (p q : ℕ) → p ≤ q → q ≤ length r → ins_cells (del_cells r p q) p cells ≡ put_cells r p q cells
cut-and-put r cells p q up within =
    let size : length (take p r) ≡ p = omega (arith, length-take p r) in
    let front : take p (take p r ++ drop q r) ≡ take p r = ap (λ n. take n (take p r ++ drop q r)) (sym size) ∙ take-append_seam (take p r) (drop q r) in
    let back : drop p (take p r ++ drop q r) ≡ drop q r = ap (λ n. drop n (take p r ++ drop q r)) (omega (arith, size)) ∙ drop-append-add (take p r) (drop q r) 0 in
    ap (λ x. x ++ cells ++ drop p (take p r ++ drop q r)) front ∙ ap (λ x. take p r ++ cells ++ x) back

typed-is : (t : PlainTerminal) (f g : ℕ) (cells : PartialText) (p q : ℕ) → p ≤ q → q ≤ length (rasp_at t g)
    → (if g == f then ins_cells (del_cells (rasp_at t f) p q) p cells else rasp_at t f) ≡ (if g == f then put_cells (rasp_at t f) p q cells else rasp_at t f)
typed-is t f g cells p q up within = go (eqb_tells g f)
  where
    one : PartialText
    one = ins_cells (del_cells (rasp_at t f) p q) p cells

    other : PartialText
    other = put_cells (rasp_at t f) p q cells

    go : ((nat_eq g f ≡ true) × (g ≡ f)) ⊎ ((nat_eq g f ≡ false) × (g ≢ f)) → (if g == f then one else rasp_at t f) ≡ (if g == f then other else rasp_at t f)
    go (inl (e, here)) = ap (λ x. if g == f then x else rasp_at t f) (cut-and-put (rasp_at t f) cells p q up (subst (λ x. q ≤ length (rasp_at t x)) here within))
    go (inr (e, apart)) = ap (λ b. if b then one else rasp_at t f) e ∙ sym (ap (λ b. if b then other else rasp_at t f) e)

cut-is : (t : PlainTerminal) (f g p q : ℕ)
    → (if g == f then del_cells (rasp_at t f) p q else rasp_at t f) ≡ (if g == f then put_cells (rasp_at t f) p q [] else rasp_at t f)
cut-is t f g p q = ap (λ x. if g == f then x ++ drop q (rasp_at t f) else rasp_at t f) (sym (append-nil (take p (rasp_at t f))))

event-keeps : (old : PartialText) (t : PlainTerminal) (e : UserEvent) (ks : List Kept) (f : ℕ) → IsSound t → has_bad_place t e ≡ false
    → IsKept old (rasp_at t f) (kept_at ks f) → IsKept old (changed_by t e f (rasp_at t f)) (kept_at (kept_after ks (event_touch t e)) f)
event-keeps old t (Typed g s) ks f sound place kept =
    let d = (window_at t g).dot in
    let w = sound.windows g in
    edit-of old _ (map Some s) t ks f g d.0 d.1 (d.1 - d.0) (length s) (typed-is t f g (map Some s) d.0 d.1 w.dot_start w.dot_end) (omega (arith, w.dot_start)) w.dot_end (sym (length-map s Some)) kept
event-keeps old t (Cut g) ks f sound place kept =
    let d = (window_at t g).dot in
    let w = sound.windows g in
    edit-of old _ [] t ks f g d.0 d.1 (d.1 - d.0) 0 (cut-is t f g d.0 d.1) (omega (arith, w.dot_start)) w.dot_end refl kept
event-keeps old t (Paste g) ks f sound place kept =
    let d = (window_at t g).dot in
    let w = sound.windows g in
    edit-of old _ [] t ks f g d.0 d.1 (d.1 - d.0) 0 (cut-is t f g d.0 d.1) (omega (arith, w.dot_start)) w.dot_end refl kept
event-keeps old t (Edit g p q s) ks f sound place kept =
    let range : (p ≤ q) × (q ≤ length (rasp_at t g)) = grind (arith, place) in
    edit-of old _ (map Some s) t ks f g p q (q - p) (length s) (typed-is t f g (map Some s) p q range.0 range.1) (omega (arith, range.0)) range.1 (sym (length-map s Some)) kept
event-keeps old t e ks f sound place kept = kept

same-places : (t : PlainTerminal) (es : List UserEvent) (e : UserEvent) → has_bad_place (record t { held = es }) e ≡ has_bad_place t e
same-places t es (Select f p q) = refl
same-places t es (Dclick f p) = refl
same-places t es (View f p n) = refl
same-places t es (Load f p n) = refl
same-places t es (Edit f p q s) = refl
same-places t es _ = refl

-- an event that nothing stands against names places of the text, also once it is held no longer
names-places : (t : PlainTerminal) (es : List UserEvent) (e : UserEvent) → first_of_checks (event_checks t e) ≡ None → has_bad_place (record t { held = es }) e ≡ false
unfolding test_at
names-places t es e free = same-places t es e ∙ none_holds (event_checks t e) 7 free

-- an event that is held no longer touches the same
same-touch : (t : PlainTerminal) (es : List UserEvent) (e : UserEvent) → event_touch (record t { held = es }) e ≡ event_touch t e
same-touch t es (Typed g s) = refl
same-touch t es (Cut g) = refl
same-touch t es (Paste g) = refl
same-touch t es (Edit g p q s) = refl
same-touch t es e = refl

abbrev acted-of : Result (PlainTerminal × Acted) TermFault → Acted
acted-of (Ok x) = x.1
acted-of (Err why) = Idle

done-is : (n : ℕ) (made : Made) (u : PlainTerminal) (acted : Acted) → if_countable {A = PlainTerminal × Acted} n (made.0, Done made.1) ≡ Ok (u, acted)
    → (u ≡ made.0) × (acted ≡ Done made.1)
done-is n made u acted e = grind arith

pub acts_keep : ActsKeep
unfolding act_of
acts_keep old t u acted ks f sound act kept = go t.held refl act
  where
    Goal : PlainTerminal → Acted → Type 0
    Goal v a = IsKept old (rasp_at v f) (kept_at (kept_after ks (act_touch t a)) f)

    to_goal : (v : PlainTerminal) (a : Acted) → u ≡ v → acted ≡ a → Goal v a → Goal u acted
    to_goal v a same become g = subst (λ x. Goal x acted) (sym same) (subst (λ x. Goal v x) (sym become) g)

    decides : (e : UserEvent) (es : List UserEvent) (o : Option Verdict) → first_of_checks (event_checks t e) ≡ o → t.held ≡ e ∷ es
        → decided o t es (event_outcome (record t { held = es }) e) ≡ Ok (u, acted) → Goal u acted
    decides e es None free held q =
        let after : PlainTerminal = record t { held = es } in
        let made : Made = event_outcome after e in
        let is = done-is made.0.sent made u acted q in
        let still : IsSound after = record { countable = sound.countable; windows = sound.windows; unsent = sound.unsent; short = sound.short } in
        let touch : event_touch after e ≡ oldest_touch t = same-touch t es e ∙ ap (λ hs. option_and_then (event_touch t) (slice_get hs 0)) (sym held) in
        to_goal made.0 (Done made.1) is.0 is.1
        (subst (λ o. IsKept old (rasp_at made.0 f) (kept_at (kept_after ks o) f)) touch
        (stay-of old (rasp_at made.0 f) _ _ (event_changes after e f) (event-keeps old after e ks f still (names-places t es e free) kept)))
    decides e es (Some Waits) stands held q = to_goal t Locked (sym (ap (left_by t) q)) (sym (ap acted-of q)) kept
    decides e es (Some (Refuses r)) stands held q = to_goal (record t { held = es }) (Refused r) (sym (ap (left_by t) q)) (sym (ap acted-of q)) kept

    go : (es : List UserEvent) → t.held ≡ es → act_on t es ≡ Ok (u, acted) → Goal u acted
    go [] held q = to_goal t Idle (sym (ap (left_by t) q)) (sym (ap acted-of q)) kept
    go (e ∷ es) held q = decides e es (first_of_checks (event_checks t e)) refl held q

pub flushes_keep : FlushesKeep
unfolding flush_of
flushes_keep t u ms f e = ap (λ v. rasp_at v f) (counted (flushed t).0.sent (flushed t) u ms e) ∙ rasp-flushed t f
