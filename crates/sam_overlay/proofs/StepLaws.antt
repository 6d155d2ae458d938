-- Steps of a terminal end under edits that wait.
use Rattle.std.proofs.Common.{Option, Result, ◌≡◌, ◌≢◌, refl, sym, ap, ◌∙◌, subst, ℕ, ◌+◌, ◌-◌, ◌≤◌, ◌<◌, ◌⊎◌, inl, inr, Bool, true, false, nat_eq, ◌&&◌, if◌then◌else◌, List, [], ◌∷◌, ◌++◌, map, take, drop, set, length, Some, None, Ok, Err, arith, option_map, slice_get, take-append-drop, length-take-le, length-drop, drop-drop, append_assoc, append-nil}
use Rattle.std.specs.Prelude.{◌==◌, IfOk, option_and_then}
use Rattle.std.proofs.lemmas.Bool.Decides.{eqb_tells, nat_tests}
use Rattle.sam_runes.specs.Checks.{first_of_checks}
use Rattle.sam_runes.specs.Slots.{Slots, slot}
use Rattle.sam_runes.specs.declared.edit.Edit.{Edit}
use Rattle.sam_mesg.specs.declared.hmesg.HFrame.{HFrame}
use Rattle.sam_mesg.specs.declared.tmesg.Tmesg.{Tmesg}
use Rattle.sam_rasp.specs.Rasp.{del_cells, ins_cells}
use Rattle.sam_pending.specs.Cells.{PartialText, IsMade, put, shown_of}
use Rattle.sam_pending.specs.Groups.{IsMadeBy}
use Rattle.sam_pending.specs.Layers.{Layer, IsOver, cells_over, next_made}
use Rattle.sam_pending.specs.Runs.{edit_change}
use Rattle.sam_pending.proofs.CellLaws.{shown_resting}
use Rattle.sam_term.specs.Effect.{changed_by}
use Rattle.sam_term.specs.Sound.{IsSound}
use Rattle.sam_term.specs.Term.{Made, PlainTerminal, act_on, decided, event_checks, event_outcome, has_bad_place, if_countable, rasp_at, window_at}
unfoldable use Rattle.sam_term.specs.Term.{act_of, take_of}
use Rattle.sam_term.specs.declared.event.Acted.{Acted}
use Rattle.sam_term.specs.declared.event.Acted.TheVariants as become
use Rattle.sam_term.specs.declared.event.UserEvent.{UserEvent}
use Rattle.sam_term.specs.declared.event.UserEvent.TheVariants as event
use Rattle.sam_term.specs.declared.event.Verdict.{Verdict}
use Rattle.sam_term.specs.declared.fault.TermFault.{TermFault}
use Rattle.sam_term.specs.declared.event.Verdict.TheVariants.{Waits, Refuses}
use Rattle.sam_term.proofs.Acts.{none_holds, test_at}
use Rattle.sam_term.proofs.TermLaws.{edit_text, event_changes}
use Rattle.sam_endpoint.specs.Changes.{IsChange, IsKept, all_kept, change_between, change_of, edit_touch, event_touch, kept_after, kept_at, left_by, narrowed, oldest_touch}
use Rattle.sam_endpoint.specs.declared.changes.Change.{Change}
use Rattle.sam_endpoint.specs.declared.changes.Kept.{Kept}
use Rattle.sam_endpoint.specs.declared.changes.Touch.{Touch}
use Rattle.sam_endpoint.specs.TermEndpoints.{PlainTermEndpoint}
use Rattle.sam_endpoint.specs.TermStepping.{Steps}
use Rattle.sam_endpoint.specs.TermSteps.{ActsFirst}
use Rattle.sam_endpoint.specs.declared.fault.EndpointFault.{EndpointFault}
use Rattle.sam_endpoint.specs.declared.fault.EndpointFault.TheVariants as fault
use Rattle.sam_endpoint.specs.declared.fault.TermStop.{TermStop}
use Rattle.sam_endpoint.specs.declared.fault.TermStop.TheVariants as stop
use Rattle.sam_endpoint.specs.declared.step.TermStep.{TermStep}
use Rattle.sam_endpoint.specs.declared.step.TermStep.TheVariants as did
use Rattle.sam_endpoint.proofs.ChangeLaws.{kept_tells_change}
use Rattle.sam_endpoint.proofs.TermChanges.{acts_keep}
use Rattle.sam_endpoint.proofs.TermEndpointHeld.{event_keeps, take_held}
use Rattle.sam_overlay.specs.Effects.{Effect, FitsIn, Stays, cells_after, effect, members_after, plan_at, plan_of}
use Rattle.sam_overlay.specs.Outcomes.{Follows, IsNextMade, IsNextMadeBy, IsOverRasp, Leads, Meets, cells_in, change_told, event_told, layer_after}
use Rattle.sam_overlay.specs.Overlays.{AreOver, AreRequests, Brought, IsPutting, Stepped, StopsOnly, cells_of_file, edit_event, end_step, first_effect, is_received, is_request, step_effect, told_at}
use Rattle.sam_overlay.specs.Setting.{Sets}
use Rattle.sam_overlay.specs.declared.frame_plan.FilePlan.{FilePlan}
use Rattle.sam_overlay.specs.declared.frame_plan.Plan.{Plan}
use Rattle.sam_overlay.specs.declared.frame_plan.Plan.TheVariants as plan
use Rattle.sam_overlay.specs.declared.outcome.LayerChange.{LayerChange}
use Rattle.sam_overlay.specs.declared.outcome.LayerChange.TheVariants as change
use Rattle.sam_overlay.specs.declared.outcome.Outcome.{Outcome}
use Rattle.sam_overlay.specs.declared.shown_change.OverlayStep.{OverlayStep}
use Rattle.sam_overlay.specs.declared.shown_change.Told.{Told}
use Rattle.sam_overlay.specs.declared.shown_change.Told.TheVariants as told
use Rattle.sam_overlay.proofs.EffectLaws.{frames_move_rasps}
use Rattle.sam_overlay.proofs.OutcomeLaws.{stays-at}

-- ## Events that leave each text

other-file : {X : Type 0} (g f : ℕ) (x y : X) → (g == 0) ≡ true → f ≢ 0 → (if g == f then x else y) ≡ y
other-file g f x y is other = go (eqb_tells g f)
  where
    zero_is : g ≡ 0
    zero_is = grind (arith, is, nat_tests)

    go : ((nat_eq g f ≡ true) × (g ≡ f)) ⊎ ((nat_eq g f ≡ false) × (g ≢ f)) → (if g == f then x else y) ≡ y
    go (inl (b, here)) = absurd (other (sym here ∙ zero_is))
    go (inr (b, apart)) = ap (λ t. if t then x else y) b

request-stays : (t : PlainTerminal) (e : UserEvent) (f : ℕ) (r : PartialText) → is_request e ≡ true → f ≢ 0 → changed_by t e f r ≡ r
request-stays t (event.Typed g s) f r is other = other-file g f _ r is other
request-stays t (event.Cut g) f r is other = other-file g f _ r is other
request-stays t (event.Paste g) f r is other = other-file g f _ r is other
request-stays t (event.Edit g p q s) f r is other = absurd cc
request-stays t e f r is other = refl

-- every rasp but that of the command file is as it was, and requests alone are held
record Quiet (t u : PlainTerminal) : Type 0 where
  rasps : (f : ℕ) → f ≢ 0 → rasp_at u f ≡ rasp_at t f
  requests : AreRequests u.held

same-quiet : (t u : PlainTerminal) → u ≡ t → AreRequests t.held → Quiet t u
same-quiet t u e all = record { rasps = λ f other. ap (λ v. rasp_at v f) e; requests = subst (λ (v : PlainTerminal). AreRequests v.held) (sym e) all }

done-is : (n : ℕ) (made : Made) (u : PlainTerminal) (acted : Acted) → if_countable {A = PlainTerminal × Acted} n (made.0, become.Done made.1) ≡ Ok (u, acted)
    → (u ≡ made.0) × (acted ≡ become.Done made.1)
done-is n made u acted e = grind arith

acts-quietly : (t u : PlainTerminal) (acted : Acted) → act_of t ≡ Ok (u, acted) → AreRequests t.held → Quiet t u
unfolding act_of
acts-quietly t u acted act all = go t.held refl act
  where
    decides : (e : UserEvent) (es : List UserEvent) (o : Option Verdict) → t.held ≡ e ∷ es
        → decided o t es (event_outcome (record t { held = es }) e) ≡ Ok (u, acted) → Quiet t u
    decides e es None held q =
        let after : PlainTerminal = record t { held = es } in
        let made : Made = event_outcome after e in
        let is : u ≡ made.0 = (done-is made.0.sent made u acted q).0 in
        let parts : AreRequests (e ∷ es) = subst AreRequests held all in
        record {
          rasps = λ f other. ap (λ v. rasp_at v f) is ∙ (event_changes after e f ∙ request-stays after e f (rasp_at t f) parts.0 other);
          requests = subst (λ (v : PlainTerminal). AreRequests v.held) (sym is) (subst AreRequests (sym (event_keeps after e)) parts.1);
        }
    decides e es (Some Waits) held q = same-quiet t u (sym (ap (left_by t) q)) all
    decides e es (Some (Refuses r)) held q =
        let parts : AreRequests (e ∷ es) = subst AreRequests held all in
        let is : u ≡ record t { held = es } = sym (ap (left_by t) q) in
        record {
          rasps = λ f other. ap (λ v. rasp_at v f) is;
          requests = subst (λ (v : PlainTerminal). AreRequests v.held) (sym is) parts.1;
        }

    go : (es : List UserEvent) → t.held ≡ es → act_on t es ≡ Ok (u, acted) → Quiet t u
    go [] held q = same-quiet t u (sym (ap (left_by t) q)) all
    go (e ∷ es) held q = decides e es (first_of_checks (event_checks t e)) held q

acts-first : (e g : PlainTermEndpoint) → ActsFirst e g → AreRequests e.term.held → Quiet e.term g.term
acts-first e g a all =
    subst (λ (x : PlainTermEndpoint). Quiet e.term x.term) (sym a.after) (acts-quietly e.term a.term a.acted a.acts all)

-- ## Events of the command file

leads-change : (old new : PartialText) (c : Change) → IsChange old new c → Leads (change_told c) old new
leads-change old new c is = go (c.gone == 0 && c.came == 0) refl
  where
    go : (b : Bool) → (c.gone == 0 && c.came == 0) ≡ b → Leads (if b then told.Nothing else told.Changed c.start c.gone c.came) old new
    go true none =
        let gone : c.gone ≡ 0 = grind (arith, none, nat_tests) in
        let came : c.came ≡ 0 = grind (arith, none, nat_tests) in
        let rest : drop c.start new ≡ drop c.start old =
        ap (λ n. drop n new) (omega (arith, came)) ∙ (is.rest ∙ ap (λ n. drop n old) (omega (arith, gone))) in
        sym (take-append-drop c.start new)
        ∙ (ap (λ x. x ++ drop c.start new) is.front ∙ (ap (λ x. take c.start old ++ x) rest ∙ take-append-drop c.start old))
    go false some =
        let cells : PartialText = take c.came (drop c.start new) in (
          cells,
          length-take-le c.came (drop c.start new) (omega (arith, is.new_end, length-drop c.start new)),
          sym (take-append-drop c.start new)
              ∙ (ap (λ x. x ++ drop c.start new) is.front
              ∙ (ap (λ x. take c.start old ++ x) (sym (take-append-drop c.came (drop c.start new)))
              ∙ (sym (append_assoc (take c.start old) cells (drop c.came (drop c.start new)))
              ∙ ap (λ x. take c.start old ++ cells ++ x) (drop-drop c.came c.start new ∙ (ap (λ n. drop n new) (omega arith) ∙ is.rest))))),
        )

edit-tag : (tag n p gone came : ℕ) (x : Touch) → (tag == 0) ≡ true → edit_touch tag n p gone came ≡ Some x → x.tag ≡ 0
edit-tag tag n p gone came x is touched = go (gone == 0 && came == 0) touched
  where
    go : (b : Bool) → (if b then None else Some (record { tag = tag; front = p; back = n - (p + gone) })) ≡ Some x → x.tag ≡ 0
    go true e = absurd cc
    go false e =
        let one : Touch = record { tag = tag; front = p; back = n - (p + gone) } in
        let same : one ≡ x = cc in
        let zero_is : tag ≡ 0 = grind (arith, is, nat_tests) in
        sym (ap (λ (y : Touch). y.tag) same) ∙ zero_is

-- an event of the command file touches that file
touches-command : (t : PlainTerminal) (e : UserEvent) (x : Touch) → is_request e ≡ true → event_touch t e ≡ Some x → x.tag ≡ 0
touches-command t (event.Typed g s) x is touched =
    let d = (window_at t g).dot in edit-tag g (length (rasp_at t g)) d.0 (d.1 - d.0) (length s) x is touched
touches-command t (event.Cut g) x is touched =
    let d = (window_at t g).dot in edit-tag g (length (rasp_at t g)) d.0 (d.1 - d.0) 0 x is touched
touches-command t (event.Paste g) x is touched =
    let d = (window_at t g).dot in edit-tag g (length (rasp_at t g)) d.0 (d.1 - d.0) 0 x is touched
touches-command t (event.Edit g p q s) x is touched = absurd cc
touches-command t e x is touched = absurd cc

if-same : {X : Type 0} (b : Bool) (x y : X) → x ≡ y → (if b then x else y) ≡ y
if-same true x y e = e
if-same false x y e = refl

-- an edit that touches nothing
record Touchless (p q : ℕ) (s : List ℕ) : Type 0 where
  place : q ≡ p
  empty : s ≡ []

no-runes : (s : List ℕ) → length s ≡ 0 → s ≡ []
no-runes [] e = refl
no-runes (c ∷ s) e = absurd (omega (arith, e))

touchless : (tag n p q : ℕ) (s : List ℕ) → p ≤ q → edit_touch tag n p (q - p) (length s) ≡ None → Touchless p q s
touchless tag n p q s up touched = go ((q - p) == 0 && length s == 0) refl touched
  where
    touch : Touch
    touch = record { tag = tag; front = p; back = n - (p + (q - p)) }

    go : (b : Bool) → ((q - p) == 0 && length s == 0) ≡ b → (if b then None else Some touch) ≡ None → Touchless p q s
    go true both e =
        let gone : q - p ≡ 0 = grind (arith, both, nat_tests) in
        let came : length s ≡ 0 = grind (arith, both, nat_tests) in
        record { place = omega (arith, gone, up); empty = no-runes s came }
    go false both e = absurd cc

cut-nothing : (r : PartialText) (p q : ℕ) → q ≡ p → del_cells r p q ≡ r
cut-nothing r p q at = ap (λ n. take p r ++ drop n r) at ∙ take-append-drop p r

put-nothing : (r : PartialText) (p q : ℕ) (s : List ℕ) → Touchless p q s → ins_cells (del_cells r p q) p (map Some s) ≡ r
put-nothing r p q s h =
    ap (λ x. ins_cells x p (map Some s)) (cut-nothing r p q h.place)
    ∙ (ap (λ x. ins_cells r p (map Some x)) h.empty ∙ (ap (λ x. x ++ drop p r) (append-nil (take p r)) ∙ take-append-drop p r))

-- what touches nothing changes nothing
untouched : (t : PlainTerminal) (es : List UserEvent) (e : UserEvent) (f : ℕ) (r : PartialText) → IsSound t → is_request e ≡ true → event_touch t e ≡ None
    → changed_by (record t { held = es }) e f r ≡ r
untouched t es (event.Typed g s) f r sound is touched =
    let d = (window_at t g).dot in
    if-same (g == f) (ins_cells (del_cells r d.0 d.1) d.0 (map Some s)) r
    (put-nothing r d.0 d.1 s (touchless g (length (rasp_at t g)) d.0 d.1 s (sound.windows g).dot_start touched))
untouched t es (event.Cut g) f r sound is touched =
    let d = (window_at t g).dot in
    if-same (g == f) (del_cells r d.0 d.1) r (cut-nothing r d.0 d.1 (touchless g (length (rasp_at t g)) d.0 d.1 [] (sound.windows g).dot_start touched).place)
untouched t es (event.Paste g) f r sound is touched =
    let d = (window_at t g).dot in
    if-same (g == f) (del_cells r d.0 d.1) r (cut-nothing r d.0 d.1 (touchless g (length (rasp_at t g)) d.0 d.1 [] (sound.windows g).dot_start touched).place)
untouched t es (event.Edit g p q s) f r sound is touched = absurd cc
untouched t es e f r sound is touched = refl

-- what an event that was decided does to each rasp
abbrev ActRasps : PlainTerminal → PlainTerminal → Acted → Type 0
ActRasps t u (become.Done ms) =
    (e : UserEvent) × (es : List UserEvent) × (t.held ≡ e ∷ es) × ((f : ℕ) → rasp_at u f ≡ changed_by (record t { held = es }) e f (rasp_at t f))
ActRasps t u become.Idle = (f : ℕ) → rasp_at u f ≡ rasp_at t f
ActRasps t u become.Locked = (f : ℕ) → rasp_at u f ≡ rasp_at t f
ActRasps t u (become.Refused why) = (f : ℕ) → rasp_at u f ≡ rasp_at t f

abbrev acted-of : Result (PlainTerminal × Acted) TermFault → Acted
acted-of (Ok x) = x.1
acted-of (Err why) = become.Idle

act-rasps : (t u : PlainTerminal) (acted : Acted) → act_of t ≡ Ok (u, acted) → ActRasps t u acted
unfolding act_of
act-rasps t u acted act = go t.held refl act
  where
    to : (v : PlainTerminal) (a : Acted) → u ≡ v → acted ≡ a → ActRasps t v a → ActRasps t u acted
    to v a same become_is h = subst (λ x. ActRasps t x acted) (sym same) (subst (λ x. ActRasps t v x) (sym become_is) h)

    decides : (e : UserEvent) (es : List UserEvent) (o : Option Verdict) → t.held ≡ e ∷ es
        → decided o t es (event_outcome (record t { held = es }) e) ≡ Ok (u, acted) → ActRasps t u acted
    decides e es None held q =
        let after : PlainTerminal = record t { held = es } in
        let made : Made = event_outcome after e in
        let is = done-is made.0.sent made u acted q in
        to made.0 (become.Done made.1) is.0 is.1 (e, es, held, λ f. event_changes after e f)
    decides e es (Some Waits) held q = to t become.Locked (sym (ap (left_by t) q)) (sym (ap acted-of q)) (λ f. refl)
    decides e es (Some (Refuses r)) held q = to (record t { held = es }) (become.Refused r) (sym (ap (left_by t) q)) (sym (ap acted-of q)) (λ f. refl)

    go : (es : List UserEvent) → t.held ≡ es → act_on t es ≡ Ok (u, acted) → ActRasps t u acted
    go [] held q = to t become.Idle (sym (ap (left_by t) q)) (sym (ap acted-of q)) (λ f. refl)
    go (e ∷ es) held q = decides e es (first_of_checks (event_checks t e)) held q

command-leads : (t u : PlainTerminal) (ms : List Tmesg) → IsSound t → act_of t ≡ Ok (u, become.Done ms) → AreRequests t.held
    → Leads (change_told (change_between t (oldest_touch t) u)) (rasp_at t 0) (rasp_at u 0)
command-leads t u ms sound act all = go (oldest_touch t) refl
  where
    x : ActRasps t u (become.Done ms)
    x = act-rasps t u (become.Done ms) act

    old : PartialText
    old = rasp_at t 0

    new : PartialText
    new = rasp_at u 0

    is : is_request x.0 ≡ true
    is = (subst AreRequests x.2 all).0

    oldest : oldest_touch t ≡ event_touch t x.0
    oldest = ap (λ hs. option_and_then (event_touch t) (slice_get hs 0)) x.2

    whole : IsKept old old (all_kept (length old))
    whole = record { len = refl; front = refl; back = refl; apart = inr (refl, refl, refl) }

    kept : IsKept old new (kept_at (kept_after (all_kept (length old) ∷ []) (oldest_touch t)) 0)
    kept = acts_keep old t u (become.Done ms) (all_kept (length old) ∷ []) 0 sound act whole

    go : (o : Option Touch) → oldest_touch t ≡ o → Leads (change_told (change_between t o u)) old new
    go None none = x.3 0 ∙ untouched t x.1 x.0 0 old sound is (sym oldest ∙ none)
    go (Some touch) some =
        let tag : touch.tag ≡ 0 = touches-command t x.0 touch is (sym oldest ∙ some) in
        let ks : List Kept = all_kept (length old) ∷ [] in
        let here : IsKept old new (kept_at (kept_after ks (Some touch)) 0) = subst (λ o. IsKept old new (kept_at (kept_after ks o) 0)) some kept in
        let k : IsKept old new (narrowed (all_kept (length old)) touch.front touch.back) =
        subst (λ i. IsKept old new (kept_at (set ks i (narrowed (kept_at ks i) touch.front touch.back)) 0)) tag here in
        subst (λ i. Leads (change_told (change_of (narrowed (all_kept (length (rasp_at t i))) touch.front touch.back) (length (rasp_at u i)))) old new) (sym tag)
        (leads-change old new (change_of (narrowed (all_kept (length old)) touch.front touch.back) (length new)) (kept_tells_change old new (narrowed (all_kept (length old)) touch.front touch.back) k))

-- what is told of a step that receives no frame leads to what stands in the command file then
event_leads : (e g : PlainTermEndpoint) (step : TermStep) → Steps e (Ok step) g → is_received step ≡ false → IsSound e.term → AreRequests e.term.held
    → Leads (event_told step) (rasp_at e.term 0) (rasp_at g.term 0)
event_leads e g did.Idle s not sound all = ap (λ (x : PlainTermEndpoint). rasp_at x.term 0) s.2
event_leads e g did.Locked s not sound all = ap (λ (x : PlainTermEndpoint). rasp_at x.term 0) s.2
event_leads e g did.Wrote s not sound all = ap (λ (x : PlainTermEndpoint). rasp_at x.term 0) s.2
event_leads e g (did.Received kind tag change) s not sound all = absurd cc
event_leads e g (did.Acted number tag change) s not sound all =
    let first = s.1.first in
    let here : g.term ≡ first.term = ap (λ (x : PlainTermEndpoint). x.term) first.after in
    let acts : act_of e.term ≡ Ok (first.term, become.Done s.1.composed) = first.acts ∙ ap (λ x. Ok (first.term, x)) s.1.acted in
    subst (λ c. Leads (change_told c) (rasp_at e.term 0) (rasp_at g.term 0)) (sym s.1.changed)
    (subst (λ v. Leads (change_told (change_between e.term (oldest_touch e.term) v)) (rasp_at e.term 0) (rasp_at v 0)) (sym here)
    (command-leads e.term first.term s.1.composed sound acts all))
event_leads e g (did.Refused number why) s not sound all =
    let first = s.1.first in
    let acts : act_of e.term ≡ Ok (first.term, become.Refused why) = first.acts ∙ ap (λ x. Ok (first.term, x)) s.1.refused in
    ap (λ (x : PlainTermEndpoint). rasp_at x.term 0) first.after ∙ act-rasps e.term first.term (become.Refused why) acts 0

-- a step that receives no frame
steps-quietly : (e g : PlainTermEndpoint) (step : TermStep) → Steps e (Ok step) g → is_received step ≡ false → AreRequests e.term.held → Quiet e.term g.term
steps-quietly e g did.Idle s not all = same-quiet e.term g.term (ap (λ (x : PlainTermEndpoint). x.term) s.2) all
steps-quietly e g did.Locked s not all = same-quiet e.term g.term (ap (λ (x : PlainTermEndpoint). x.term) s.2) all
steps-quietly e g did.Wrote s not all = same-quiet e.term g.term (ap (λ (x : PlainTermEndpoint). x.term) s.2) all
steps-quietly e g (did.Received kind tag change) s not all = absurd cc
steps-quietly e g (did.Acted number tag change) s not all = acts-first e g s.1.first all
steps-quietly e g (did.Refused number why) s not all = acts-first e g s.1.first all

-- an error leaves the end, but that it may stop
pub err_kept : (e g : PlainTermEndpoint) (why : EndpointFault TermStop) → Steps e (Err why) g → StopsOnly e g
err_kept e g fault.Unfinished s = same-stops e g s.2
  where
    same-stops : (e g : PlainTermEndpoint) → g ≡ e → g ≡ record e { stop = g.stop }
    same-stops e g is = is ∙ ap (λ s. record e { stop = s }) (sym (ap (λ (x : PlainTermEndpoint). x.stop) is))
err_kept e g (fault.Stopped (stop.Stream why)) (inl s) = s.1 ∙ ap (λ s. record e { stop = s }) (sym (ap (λ (x : PlainTermEndpoint). x.stop) s.1))
err_kept e g (fault.Stopped (stop.Refused why)) (inl s) = s.1 ∙ ap (λ s. record e { stop = s }) (sym (ap (λ (x : PlainTermEndpoint). x.stop) s.1))
err_kept e g (fault.Stopped (stop.Stream why)) (inr s) = s.1.2 ∙ ap (λ s. record e { stop = s }) (sym (ap (λ (x : PlainTermEndpoint). x.stop) s.1.2))
err_kept e g (fault.Stopped (stop.Refused why)) (inr (w, inl s)) = s.4 ∙ ap (λ s. record e { stop = s }) (sym (ap (λ (x : PlainTermEndpoint). x.stop) s.4))
err_kept e g (fault.Stopped (stop.Refused why)) (inr (w, inr s)) = s.2 ∙ ap (λ s. record e { stop = s }) (sym (ap (λ (x : PlainTermEndpoint). x.stop) s.2))
err_kept e g fault.OutOfMemory s = absurd s
err_kept e g fault.CountFull s = absurd s

-- ## A step of which nothing is told

pub told-nothing : (step : TermStep) (tag f : ℕ) → told_at (record { step = step; tag = tag; told = told.Nothing }) f ≡ told.Nothing
told-nothing step tag f = go (tag == f)
  where
    go : (b : Bool) → (if b then told.Nothing else told.Nothing) ≡ told.Nothing
    go true = refl
    go false = refl

still-over : (r v : PartialText) (o : Option Layer) → v ≡ r → IsOverRasp r o → IsOverRasp v o
still-over r v o e h = subst (λ x. IsOverRasp x o) (sym e) h

-- what is shown of the command file, over which nothing waits
command-shown : (t : PlainTerminal) (ls : Slots Layer) → slot ls 0 ≡ None → shown_of (cells_of_file t ls 0) ≡ rasp_at t 0
command-shown t ls none = ap (λ o. shown_of (cells_in (rasp_at t 0) o)) none ∙ shown_resting (rasp_at t 0)

pub quiet_stepped : (e g : PlainTermEndpoint) (ls : Slots Layer) (step : TermStep) → Steps e (Ok step) g → is_received step ≡ false
    → IsSound e.term → AreOver e.term ls → slot ls 0 ≡ None → AreRequests e.term.held
    → Stepped e ls (record { step = step; tag = 0; told = event_told step }) g ls
quiet_stepped e g ls step s not sound over none all = record {
  over = λ f. over-at f (eqb_tells f 0);
  command = none;
  requests = q.requests;
  cells = λ f frame. at-cells f frame (eqb_tells f 0);
  told = λ f. at-told f (eqb_tells 0 f);
}
  where
    q : Quiet e.term g.term
    q = steps-quietly e g step s not all

    same : (f : ℕ) → f ≢ 0 → cells_of_file g.term ls f ≡ cells_of_file e.term ls f
    same f other = ap (λ r. cells_in r (slot ls f)) (q.rasps f other)

    over-at : (f : ℕ) → ((nat_eq f 0 ≡ true) × (f ≡ 0)) ⊎ ((nat_eq f 0 ≡ false) × (f ≢ 0)) → IsOverRasp (rasp_at g.term f) (slot ls f)
    over-at f (inl (b, is)) =
        subst (λ h. IsOverRasp (rasp_at g.term h) (slot ls h)) (sym is) (subst (IsOverRasp (rasp_at g.term 0)) (sym none) tt)
    over-at f (inr (b, other)) = still-over (rasp_at e.term f) (rasp_at g.term f) (slot ls f) (q.rasps f other) (over f)

    at-cells : (f : ℕ) → (f ≡ 0 → is_received step ≡ true) → ((nat_eq f 0 ≡ true) × (f ≡ 0)) ⊎ ((nat_eq f 0 ≡ false) × (f ≢ 0))
        → cells_of_file g.term ls f ≡ cells_after (step_effect e step f) (cells_of_file e.term ls f)
    at-cells f frame (inl (b, is)) =
        let wrong : true ≡ false = sym (frame is) ∙ not in
        absurd cc
    at-cells f frame (inr (b, other)) =
        same f other ∙ sym (ap (λ b. cells_after (if b then first_effect e.waiting f else Stays) (cells_of_file e.term ls f)) not)

    there : Leads (event_told step) (shown_of (cells_of_file e.term ls 0)) (shown_of (cells_of_file g.term ls 0))
    there =
        subst (λ old. Leads (event_told step) old (shown_of (cells_of_file g.term ls 0))) (sym (command-shown e.term ls none))
        (subst (λ new. Leads (event_told step) (rasp_at e.term 0) new) (sym (command-shown g.term ls none)) (event_leads e g step s not sound all))

    Goal : ℕ → Bool → Type 0
    Goal f b = Leads (if b then event_told step else told.Nothing) (shown_of (cells_of_file e.term ls f)) (shown_of (cells_of_file g.term ls f))

    at-told : (f : ℕ) → ((nat_eq 0 f ≡ true) × (0 ≡ f)) ⊎ ((nat_eq 0 f ≡ false) × (0 ≢ f)) → Goal f (0 == f)
    at-told f (inl (b, is)) = subst (λ t. Goal f t) (sym b) (subst (λ h. Goal h true) is there)
    at-told f (inr (b, other)) = subst (λ t. Goal f t) (sym b) (ap shown_of (same f (λ is. other (sym is))))

-- ## A step that receives a frame

record Receives (e g : PlainTermEndpoint) : Type 0 where
  frame : HFrame
  rest : List HFrame
  composed : List Tmesg
  waited : e.waiting ≡ frame ∷ rest
  taken : take_of e.term frame ≡ Ok (g.term, composed)

receives : (e g : PlainTermEndpoint) (step : TermStep) → Steps e (Ok step) g → is_received step ≡ true → Receives e g
receives e g (did.Received kind tag change) s is =
    let first = s.1.first in
    record {
      frame = first.frame;
      rest = first.rest;
      composed = first.composed;
      waited = first.waited;
      taken = subst (λ (x : PlainTermEndpoint). take_of e.term first.frame ≡ Ok (x.term, first.composed)) (sym first.after) first.taken;
    }
receives e g did.Idle s is = absurd cc
receives e g did.Locked s is = absurd cc
receives e g did.Wrote s is = absurd cc
receives e g (did.Acted number tag change) s is = absurd cc
receives e g (did.Refused number why) s is = absurd cc

-- where no frame waits none is received
pub none-received : (e g : PlainTermEndpoint) (step : TermStep) → Steps e (Ok step) g → e.waiting ≡ [] → is_received step ≡ false
none-received e g step s none = go (is_received step) refl
  where
    go : (b : Bool) → is_received step ≡ b → b ≡ false
    go false is = refl
    go true is =
        let x = receives e g step s is in
        let both : x.frame ∷ x.rest ≡ [] = sym x.waited ∙ none in
        absurd cc

-- what holds of one file after a change
abbrev FileGoes : PartialText → Option Layer → Effect → Told → PartialText → Option Layer → Type 0
FileGoes r o x y v n =
    IsOverRasp v n × (cells_in v n ≡ cells_after x (cells_in r o)) × Leads y (shown_of (cells_in r o)) (shown_of (cells_in v n))

file-follows : (r v : PartialText) (o n : Option Layer) (x : Effect) (p : Plan) (y : Outcome) → Follows o p y → Meets o p r x
    → v ≡ members_after x r → n ≡ layer_after y.change o → FileGoes r o x y.told v n
file-follows r v o n x p y h m e d =
    let cells = h.cells r x m in
    let there : FileGoes r o x y.told (members_after x r) (layer_after y.change o) =
    (h.over r x m, cells, subst (λ cs. Leads y.told (shown_of (cells_in r o)) (shown_of cs)) (sym cells) (h.told r x m)) in
    subst (λ a. FileGoes r o x y.told a n) (sym e) (subst (λ b. FileGoes r o x y.told (members_after x r) b) (sym d) there)

file-stays : (r v : PartialText) (o n : Option Layer) (x : Effect) → x ≡ Stays → IsOverRasp r o → v ≡ members_after x r → n ≡ o
    → FileGoes r o x told.Nothing v n
file-stays r v o n x is over e d =
    let same : v ≡ r = e ∙ ap (λ y. members_after y r) is in
    let there : FileGoes r o Stays told.Nothing r o = (over, refl, refl) in
    subst (λ y. FileGoes r o y told.Nothing v n) (sym is)
    (subst (λ a. FileGoes r o Stays told.Nothing a n) (sym same) (subst (λ b. FileGoes r o Stays told.Nothing r b) (sym d) there))

-- nothing waits over the command file after a change of what waits over some file
still-none : (tag : ℕ) (x : LayerChange) (ls ks : Slots Layer) → slot ls 0 ≡ None → Sets ls tag (layer_after x (slot ls tag)) ks → slot ks 0 ≡ None
still-none tag x ls ks none sets = go (eqb_tells tag 0)
  where
    no-layer : (c : LayerChange) → layer_after c None ≡ None
    no-layer change.Stays = refl
    no-layer (change.Runs runs) = refl
    no-layer change.Ends = refl

    go : ((nat_eq tag 0 ≡ true) × (tag ≡ 0)) ⊎ ((nat_eq tag 0 ≡ false) × (tag ≢ 0)) → slot ks 0 ≡ None
    go (inl (b, is)) = subst (λ g. slot ks g ≡ None) is (sets.0 ∙ (ap (λ g. layer_after x (slot ls g)) is ∙ (ap (layer_after x) none ∙ no-layer x)))
    go (inr (b, other)) = sets.1 0 (λ q. other (sym q)) ∙ none

pub received_stepped : (e g : PlainTermEndpoint) (ls ks : Slots Layer) (step : TermStep) (p : FilePlan) (y : Outcome) → Steps e (Ok step) g
    → is_received step ≡ true → IsSound e.term → AreOver e.term ls → slot ls 0 ≡ None → AreRequests e.term.held
    → ((f : ℕ) → plan_at f p ≡ plan_of (first_effect e.waiting f)) → Follows (slot ls p.tag) p.plan y
    → Sets ls p.tag (layer_after y.change (slot ls p.tag)) ks
    → Stepped e ls (record { step = step; tag = p.tag; told = y.told }) g ks
received_stepped e g ls ks step p y s is sound over none all planned follows sets =
    record {
      over = λ f. (file f).0;
      command = still-none p.tag y.change ls ks none sets;
      requests = subst AreRequests (sym (take_held e.term g.term x.frame x.composed x.taken)) all;
      cells = λ f frame. (file f).1 ∙ sym (ap (λ b. cells_after (if b then first_effect e.waiting f else Stays) (cells_of_file e.term ls f)) is);
      told = λ f. (file f).2;
    }
  where
    x : Receives e g
    x = receives e g step s is

    first : (f : ℕ) → first_effect e.waiting f ≡ effect f x.frame.msg
    first f = ap (λ frames. first_effect frames f) x.waited

    Goal : ℕ → Type 0
    Goal f = FileGoes (rasp_at e.term f) (slot ls f) (first_effect e.waiting f) (told_at (record { step = step; tag = p.tag; told = y.told }) f) (rasp_at g.term f) (slot ks f)

    moves : (f : ℕ) → FitsIn (length (rasp_at e.term f)) (first_effect e.waiting f) × (rasp_at g.term f ≡ members_after (first_effect e.waiting f) (rasp_at e.term f))
    moves f =
        subst (λ z. FitsIn (length (rasp_at e.term f)) z × (rasp_at g.term f ≡ members_after z (rasp_at e.term f))) (sym (first f))
        (frames_move_rasps e.term g.term x.frame x.composed f x.taken)

    at_tag : Goal p.tag
    at_tag =
        let b : nat_eq p.tag p.tag ≡ true = grind arith in
        let plan_is : plan_of (first_effect e.waiting p.tag) ≡ p.plan = sym (planned p.tag) ∙ ap (λ z. if z then p.plan else plan.Stays) b in
        subst (λ z. FileGoes (rasp_at e.term p.tag) (slot ls p.tag) (first_effect e.waiting p.tag) (if z then y.told else told.Nothing) (rasp_at g.term p.tag) (slot ks p.tag)) (sym b)
        (file-follows (rasp_at e.term p.tag) (rasp_at g.term p.tag) (slot ls p.tag) (slot ks p.tag) (first_effect e.waiting p.tag) p.plan y follows
        (record { plan_is = plan_is; size = (sound.windows p.tag).size; over = over p.tag; fit = (moves p.tag).0 }) (moves p.tag).1 sets.0)

    file : (f : ℕ) → Goal f
    file f = go (eqb_tells p.tag f)
      where
        go : ((nat_eq p.tag f ≡ true) × (p.tag ≡ f)) ⊎ ((nat_eq p.tag f ≡ false) × (p.tag ≢ f)) → Goal f
        go (inl (b, here)) = subst Goal here at_tag
        go (inr (b, other)) =
            let stays : first_effect e.waiting f ≡ Stays = stays-at (first_effect e.waiting f) (sym (planned f) ∙ ap (λ z. if z then p.plan else plan.Stays) b) in
            subst (λ z. FileGoes (rasp_at e.term f) (slot ls f) (first_effect e.waiting f) (if z then y.told else told.Nothing) (rasp_at g.term f) (slot ks f)) (sym b)
            (file-stays (rasp_at e.term f) (rasp_at g.term f) (slot ls f) (slot ks f) (first_effect e.waiting f) stays (over f) (moves f).1 (sets.1 f (λ q. other (sym q))))

-- ## The edit that was put acts

act-free : (t u : PlainTerminal) (acted : Acted) (x : UserEvent) → t.held ≡ x ∷ [] → first_of_checks (event_checks t x) ≡ None → act_of t ≡ Ok (u, acted)
    → (u ≡ (event_outcome (record t { held = [] }) x).0) × (ms : List Tmesg) × (acted ≡ become.Done ms)
unfolding act_of
act-free t u acted x held free act =
    let made : Made = event_outcome (record t { held = [] }) x in
    let on : act_on t (x ∷ []) ≡ Ok (u, acted) = ap (act_on t) (sym held) ∙ act in
    let now : decided None t [] made ≡ Ok (u, acted) = ap (λ o. decided o t [] made) (sym free) ∙ on in
    let is = done-is made.0.sent made u acted now in
    (is.0, made.1, is.1)

-- the terminal after the edit acted
edit-acts : (e g : PlainTermEndpoint) (ls : Slots Layer) (f : ℕ) (m : Option ℕ) (step : TermStep) (h : IsPutting e ls m f) → Steps e (Ok step) g
    → g.term ≡ (event_outcome (record e.term { held = [] }) (edit_event f h.edit)).0
edit-acts e g ls f m did.Idle h s =
    let done = act-free e.term e.term become.Idle (edit_event f h.edit) h.held h.free s.1 in
    let wrong : become.Idle ≡ become.Done done.1 = done.2 in
    absurd cc
edit-acts e g ls f m did.Locked h s =
    let done = act-free e.term e.term become.Locked (edit_event f h.edit) h.held h.free s.1 in
    let wrong : become.Locked ≡ become.Done done.1 = done.2 in
    absurd cc
edit-acts e g ls f m did.Wrote h s =
    let some : 0 < length e.unwritten = s.1 in
    absurd (omega (arith, some, ap length h.unwritten))
edit-acts e g ls f m (did.Received kind tag change) h s =
    let first = s.1.first in
    let both : first.frame ∷ first.rest ≡ [] = sym first.waited ∙ h.waiting in
    absurd cc
edit-acts e g ls f m (did.Acted number tag change) h s =
    let first = s.1.first in
    ap (λ (x : PlainTermEndpoint). x.term) first.after
    ∙ (act-free e.term first.term first.acted (edit_event f h.edit) h.held h.free first.acts).0
edit-acts e g ls f m (did.Refused number why) h s =
    let first = s.1.first in
    let done = act-free e.term first.term first.acted (edit_event f h.edit) h.held h.free first.acts in
    let wrong : become.Refused why ≡ become.Done done.1 = sym s.1.refused ∙ done.2 in
    absurd cc

places : (t : PlainTerminal) (f : ℕ) (x : Edit) → first_of_checks (event_checks t (edit_event f x)) ≡ None → (x.p ≤ x.q) × (x.q ≤ length (rasp_at t f))
unfolding test_at
places t f x free =
    let bad : has_bad_place t (edit_event f x) ≡ false = none_holds (event_checks t (edit_event f x)) 7 free in
    grind (arith, bad)

other-stays : (t : PlainTerminal) (f h : ℕ) (x : Edit) (r : PartialText) → h ≢ f → changed_by t (edit_event f x) h r ≡ r
other-stays t f h x r n = go (eqb_tells f h)
  where
    go : ((nat_eq f h ≡ true) × (f ≡ h)) ⊎ ((nat_eq f h ≡ false) × (f ≢ h)) → changed_by t (edit_event f x) h r ≡ r
    go (inl (b, here)) = absurd (n (sym here))
    go (inr (b, other)) = grind (arith, b)

pub edit_brought : (e g : PlainTermEndpoint) (ls ks : Slots Layer) (f : ℕ) (m : Option ℕ) (step : TermStep) → IsPutting e ls m f → Steps e (Ok step) g
    → AreOver e.term ls → slot ls 0 ≡ None → ((l : Layer) → slot ls f ≡ Some l → IsNextMade m l) → ((l : Layer) → slot ls f ≡ Some l → IsNextMadeBy m l)
    → Sets ls f (option_map (next_made m) (slot ls f)) ks → Brought e ls m f g ks
edit_brought e g ls ks f m step h s over none made groups sets =
    record {
      command = go-command (eqb_tells f 0);
      change = edit_change h.edit;
      made = subst (λ (z : PartialText × Option Layer). IsMade (cells_of_file e.term ls f) (edit_change h.edit) (cells_in z.0 z.1)) (sym (pair-is here now))
          (subst (λ o. IsMade (cells_in r o) (edit_change h.edit) (cells_over (put r (edit_change h.edit)) (next_made m h.layer))) (sym h.waits) comes.0);
      by = λ b is. subst (λ (z : PartialText × Option Layer). IsMadeBy b (cells_of_file e.term ls f) (edit_change h.edit) (cells_in z.0 z.1)) (sym (pair-is here now))
          (subst (λ o. IsMadeBy b (cells_in r o) (edit_change h.edit) (cells_over (put r (edit_change h.edit)) (next_made m h.layer))) (sym h.waits)
          (groups h.layer h.waits b r h.edit is (subst (IsOverRasp r) h.waits (over f)) h.next));
      others = λ k n. ap (λ v. cells_in v (slot ks k)) (elsewhere k n) ∙ ap (cells_in (rasp_at e.term k)) (sets.1 k n);
      over = all-over;
      requests = subst (λ (v : PlainTerminal). AreRequests v.held) (sym acts) (subst AreRequests (sym (event_keeps after (edit_event f h.edit))) tt);
    }
  where
    go-command : ((nat_eq f 0 ≡ true) × (f ≡ 0)) ⊎ ((nat_eq f 0 ≡ false) × (f ≢ 0)) → slot ks 0 ≡ None
    go-command (inl (b, is)) = subst (λ g. slot ks g ≡ None) is (sets.0 ∙ (ap (λ g. option_map (next_made m) (slot ls g)) is ∙ ap (option_map (next_made m)) none))
    go-command (inr (b, other)) = sets.1 0 (λ q. other (sym q)) ∙ none

    r : PartialText
    r = rasp_at e.term f

    after : PlainTerminal
    after = record e.term { held = [] }

    acts : g.term ≡ (event_outcome after (edit_event f h.edit)).0
    acts = edit-acts e g ls f m step h s

    pair-is : {v w : PartialText} {o n : Option Layer} → v ≡ w → o ≡ n → ◌≡◌ {A = PartialText × Option Layer} (v, o) (w, n)
    pair-is a b = grind (arith, a, b)

    at : (h.edit.p ≤ h.edit.q) × (h.edit.q ≤ length r)
    at = places e.term f h.edit h.free

    here : rasp_at g.term f ≡ put r (edit_change h.edit)
    here = ap (λ v. rasp_at v f) acts ∙ edit_text after f h.edit.p h.edit.q h.edit.text at.0 at.1

    now : slot ks f ≡ Some (next_made m h.layer)
    now = sets.0 ∙ ap (option_map (next_made m)) h.waits

    comes : IsMade (cells_over r h.layer) (edit_change h.edit) (cells_over (put r (edit_change h.edit)) (next_made m h.layer)) × IsOver (put r (edit_change h.edit)) (next_made m h.layer)
    comes = made h.layer h.waits r h.edit (subst (IsOverRasp r) h.waits (over f)) h.next

    elsewhere : (k : ℕ) → k ≢ f → rasp_at g.term k ≡ rasp_at e.term k
    elsewhere k n = ap (λ v. rasp_at v k) acts ∙ (event_changes after (edit_event f h.edit) k ∙ other-stays after f k h.edit (rasp_at e.term k) n)

    all-over : AreOver g.term ks
    all-over k = go (eqb_tells k f)
      where
        go : ((nat_eq k f ≡ true) × (k ≡ f)) ⊎ ((nat_eq k f ≡ false) × (k ≢ f)) → IsOverRasp (rasp_at g.term k) (slot ks k)
        go (inl (b, is)) =
            subst (λ z. IsOverRasp (rasp_at g.term z) (slot ks z)) (sym is)
            (subst (λ v. IsOverRasp v (slot ks f)) (sym here) (subst (λ o. IsOverRasp (put r (edit_change h.edit)) o) (sym now) comes.1))
        go (inr (b, other)) =
            subst (λ v. IsOverRasp v (slot ks k)) (sym (elsewhere k other)) (subst (λ o. IsOverRasp (rasp_at e.term k) o) (sym (sets.1 k other)) (over k))

pub no-frame : (frames : List HFrame) → slice_get frames 0 ≡ None → frames ≡ []
no-frame [] is = refl
no-frame (frame ∷ frames) is = absurd cc

pub quiet_told : (e g : PlainTermEndpoint) (ls : Slots Layer) (result : Result OverlayStep (EndpointFault TermStop)) → Steps e (end_step result) g
    → IfOk result (λ x. x ≡ record { step = x.step; tag = 0; told = event_told x.step }) → e.waiting ≡ [] → IsSound e.term → AreOver e.term ls
    → slot ls 0 ≡ None → AreRequests e.term.held → IfOk result (λ x. Stepped e ls x g ls)
quiet_told e g ls (Ok x) s is none sound over command all =
    subst (λ (y : OverlayStep). Stepped e ls y g ls) (sym is) (quiet_stepped e g ls x.step s (none-received e g x.step s none) sound over command all)
quiet_told e g ls (Err why) s is none sound over command all = tt

pub first_is : (frames : List HFrame) (frame : HFrame) (f : ℕ) → slice_get frames 0 ≡ Some frame → first_effect frames f ≡ effect f frame.msg
first_is [] frame f is = absurd cc
first_is (x ∷ frames) frame f is =
    let same : x ≡ frame = cc in
    ap (λ (y : HFrame). effect f y.msg) same

pub ruleset step_facts = (quiet_stepped, quiet_told, received_stepped, err_kept, no-frame)

pub ruleset edit_facts = (edit_brought, err_kept)
