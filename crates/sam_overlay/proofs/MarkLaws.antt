-- Places that requests name, and where they go.
use Rattle.std.proofs.Common.{◌≡◌, refl, sym, ap, ◌∙◌, subst, ℕ, zero, suc, ◌+◌, ◌-◌, ◌<◌, ◌≤◌, ◌^◌, Bool, true, false, cond, nat_eq, nat_lt, List, [], ◌∷◌, ◌++◌, map, take, drop, length, Option, Some, None, arith, append_assoc, length-append, length-take-le, take-append-drop}
use Rattle.std.specs.Prelude.{Result, Ok, Err, get_or, min, set, slice_get}
use Rattle.std.specs.List.{filter}
use Rattle.std.proofs.Math.Seq.{take-append-add}
use Rattle.std.proofs.lemmas.Bool.Decides.{nat_tests}
use Rattle.std.proofs.lemmas.List.{drop-take, take-append-le}
use Rattle.sam_runes.specs.Slots.{slot}
use Rattle.sam_mesg.specs.declared.hmesg.HFrame.{HFrame}
use Rattle.sam_rasp.specs.Rasp.{place_after_ins}
use Rattle.sam_pending.specs.Cells.{Cell, PartialText, drop_by, in_rasp, place_at, rasp_of, resting, stands_at, take_by, text_at}
use Rattle.sam_pending.specs.Layers.{Layer, IsOver, cells_over, rasp_length, runs_of}
use Rattle.sam_pending.specs.Runs.{lost_in}
use Rattle.sam_pending.proofs.CellLaws.{members-append, take-drop-by}
use Rattle.sam_pending.proofs.GroupLaws.{text_inserted}
use Rattle.sam_pending.proofs.PlaceLaws.{place_resting, removal_resting}
use Rattle.sam_term.specs.Events.{file_of}
use Rattle.sam_term.specs.Term.{rasp_at}
use Rattle.sam_term.specs.declared.event.UserEvent.{UserEvent}
use Rattle.sam_term.specs.declared.event.UserEvent.TheVariants as event
use Rattle.sam_endpoint.specs.declared.fault.EndpointFault.{EndpointFault}
use Rattle.sam_endpoint.specs.declared.fault.TermStop.{TermStop}
use Rattle.sam_endpoint.specs.declared.step.TermStep.{TermStep}
use Rattle.sam_overlay.specs.Calls.{PlainOverlay, cells_at}
use Rattle.sam_overlay.specs.Effects.{Effect, Stays, effect, plan_at, plan_of}
use Rattle.sam_overlay.specs.Marks.{InsertionsMovePlaces, file_marks, lost_of, marked, marks_after, marks_after_drop, marks_of, moved_by, moved_by_drop, moved_place, place_after, place_after_drop, with_marks, with_request_marks}
use Rattle.sam_overlay.specs.Ordered.{queue_after}
use Rattle.sam_overlay.specs.Outcomes.{IsOverRasp, cells_in}
use Rattle.sam_overlay.specs.Overlays.{AreOver, first_effect, is_received, is_request, step_effect}
use Rattle.sam_overlay.specs.Requests.{AreAsked}
use Rattle.sam_overlay.proofs.CallLaws.{rasp-runs}
use Rattle.sam_overlay.specs.declared.frame_plan.FilePlan.{FilePlan}
use Rattle.sam_overlay.specs.declared.frame_plan.Plan.{Plan}
use Rattle.sam_overlay.specs.declared.frame_plan.Plan.TheVariants as plan
use Rattle.sam_overlay.specs.declared.marks.Marks.{Marks}
use Rattle.sam_overlay.specs.declared.ordered.OrderedOverlay.{OrderedOverlay}
use Rattle.sam_overlay.specs.declared.request.Request.{Request}
use Rattle.sam_overlay.specs.declared.shown_change.OverlayStep.{OverlayStep}

-- ## Where a place of the text goes

pub inserts_go : (l : Layer) (g p n x a b : ℕ) → ((r : PartialText) → IsOver r l → a ≡ place_at g p (cells_over r l))
    → b ≡ min (2 ^ 32 - 1) (place_after_ins a n x) → (r : PartialText) → IsOver r l → b ≡ moved_place g (plan.Inserts p n) (cells_over r l) x
inserts_go l g p n x a b at is r over = is ∙ ap (λ k. min (2 ^ 32 - 1) (place_after_ins k n x)) (at r over)

pub ruleset pending_facts = (inserts_go)

pub rasp_inserts : (len p n x a b : ℕ) → a ≡ min len p → b ≡ min (2 ^ 32 - 1) (place_after_ins a n x)
    → (g : ℕ) (r : PartialText) → length r ≡ len → b ≡ moved_place g (plan.Inserts p n) (resting r) x
rasp_inserts len p n x a b at is g r size =
    is ∙ ap (λ k. min (2 ^ 32 - 1) (place_after_ins k n x)) (at ∙ (ap (λ k. min k p) (sym size) ∙ sym (place_resting g p r)))

pub rasp_removes : (len p k x b : ℕ) → b ≡ x - min k (min len x - p)
    → (g : ℕ) (r : PartialText) → length r ≡ len → b ≡ moved_place g (plan.Removes p k) (resting r) x
rasp_removes len p k x b is g r size = is ∙ (ap (λ n. x - min k (min n x - p)) (sym size) ∙ sym (removal_resting g p k x r))

pub ruleset rasp_facts = (rasp_inserts, rasp_removes)

-- ## Where a place goes that a request names

-- behind the last member of the rasp, and what waits there, stands nothing
take-whole : (n : ℕ) (cs : List Cell) → length (rasp_of cs) ≤ n → take_by in_rasp (suc n) cs ≡ cs
take-whole n [] le = refl
take-whole n (c ∷ cs) le = go (in_rasp c) refl n (λ m most. take-whole m cs most) le
  where
    more : Bool → List Cell
    more t = cond t (c ∷ filter in_rasp cs) (filter in_rasp cs)

    go : (t : Bool) → in_rasp c ≡ t → (m : ℕ) → ((k : ℕ) → length (rasp_of cs) ≤ k → take_by in_rasp (suc k) cs ≡ cs)
        → length (map (λ (x : Cell). x.member) (more (in_rasp c))) ≤ m → take_by in_rasp (suc m) (c ∷ cs) ≡ c ∷ cs
    go true is zero next most = absurd (omega (arith, subst (λ t. length (map (λ (x : Cell). x.member) (more t)) ≤ 0) is most))
    go true is (suc m) next most =
        ap (λ t. c ∷ take_by in_rasp (cond t (suc m) (suc (suc m))) cs) is
        ∙ ap (λ ds. c ∷ ds) (next m (omega (arith, subst (λ t. length (map (λ (x : Cell). x.member) (more t)) ≤ suc m) is most)))
    go false is m next most =
        ap (λ t. c ∷ take_by in_rasp (cond t m (suc m)) cs) is
        ∙ ap (λ ds. c ∷ ds) (next m (subst (λ t. length (map (λ (x : Cell). x.member) (more t)) ≤ m) is most))

pub length_of_text : (l : Layer) (g n k : ℕ) → n ≡ rasp_length l → ((r : PartialText) → IsOver r l → k ≡ place_at g (n + 1) (cells_over r l))
    → (r : PartialText) → IsOver r l → k ≡ length (text_at g (cells_over r l))
length_of_text l g n k len at r over =
    let past : n + 1 ≡ suc n = omega arith in
    at r over
    ∙ (ap (λ m. place_at g m (cells_over r l)) past
    ∙ ap (λ cs. length (text_at g cs)) (take-whole n (cells_over r l) (omega (arith, len, over, ap length (rasp-runs l.text r (runs_of l) over)))))

pub ruleset length_facts = (length_of_text)

-- a place of the text, and one past its end
past-end : (g n x : ℕ) (w : Plan) (cs : List Cell) → n ≡ length (text_at g cs) → n < x → x ≡ place_after g w cs x
past-end g n x w cs size past =
    let is : nat_lt (length (text_at g cs)) x ≡ true = grind (arith, nat_tests, size, past) in
    sym (ap (λ t. cond t x (moved_place g w cs x)) is)

of-text : (g n x b : ℕ) (w : Plan) (cs : List Cell) → n ≡ length (text_at g cs) → x ≤ n → b ≡ moved_place g w cs x → b ≡ place_after g w cs x
of-text g n x b w cs size within moved =
    let is : nat_lt (length (text_at g cs)) x ≡ false = grind (arith, nat_tests, size, within) in
    moved ∙ sym (ap (λ t. cond t x (moved_place g w cs x)) is)

pub pending_past : (l : Layer) (g n x : ℕ) (w : Plan) → ((r : PartialText) → IsOver r l → n ≡ length (text_at g (cells_over r l))) → n < x
    → (r : PartialText) → IsOver r l → x ≡ place_after g w (cells_over r l) x
pending_past l g n x w size past r over = past-end g n x w (cells_over r l) (size r over) past

pub pending_within : (l : Layer) (g n x b : ℕ) (w : Plan) → ((r : PartialText) → IsOver r l → n ≡ length (text_at g (cells_over r l))) → x ≤ n
    → ((r : PartialText) → IsOver r l → b ≡ moved_place g w (cells_over r l) x)
    → (r : PartialText) → IsOver r l → b ≡ place_after g w (cells_over r l) x
pending_within l g n x b w size within moved r over = of-text g n x b w (cells_over r l) (size r over) within (moved r over)

pub ruleset within_facts = (pending_past, pending_within)

text-resting : (g : ℕ) (r : PartialText) → length (text_at g (resting r)) ≡ length r
text-resting g [] = refl
text-resting g (m ∷ r) = ap suc (text-resting g r)

pub rasp_past : (n x : ℕ) (w : Plan) → n < x → (g : ℕ) (r : PartialText) → length r ≡ n → x ≡ place_after g w (resting r) x
rasp_past n x w past g r size = past-end g n x w (resting r) (sym (text-resting g r ∙ size)) past

pub rasp_within : (n x b : ℕ) (w : Plan) → x ≤ n → ((g : ℕ) (r : PartialText) → length r ≡ n → b ≡ moved_place g w (resting r) x)
    → (g : ℕ) (r : PartialText) → length r ≡ n → b ≡ place_after g w (resting r) x
rasp_within n x b w within moved g r size =
    of-text g n x b w (resting r) (sym (text-resting g r ∙ size)) within (moved g r size)

pub ruleset rasp_within_facts = (rasp_past, rasp_within)

-- the begin of a text stays
pub begin_stays : (g : ℕ) (w : Plan) (cs : List Cell) → 0 ≡ place_after g w cs 0
begin_stays g w cs = go w (nat_lt (length (text_at g cs)) 0)
  where
    go : (v : Plan) (t : Bool) → 0 ≡ cond t 0 (moved_place g v cs 0)
    go v true = refl
    go plan.Stays false = refl
    go (plan.Inserts p n) false = grind (arith, nat_tests)
    go (plan.Fills p n) false = refl
    go (plan.Removes p n) false = omega arith
    go plan.Empties false = refl

-- ## The text before a place

place-within : (g p : ℕ) (cs : List Cell) → place_at g p cs ≤ length (text_at g cs)
place-within g p cs = omega (
  arith,
  ap length (members-append (stands_at g) (take_by in_rasp p cs) (drop_by in_rasp p cs)),
  length-append (text_at g (take_by in_rasp p cs)) (text_at g (drop_by in_rasp p cs)),
  ap (λ ds. length (text_at g ds)) (take-drop-by in_rasp p cs),
)

take-front-short : (x k : ℕ) (t new : PartialText) → x ≤ k → k ≤ length t → take x (take k t ++ new ++ drop k t) ≡ take x t
take-front-short x k t new short within =
    ap (take x) (append_assoc (take k t) new (drop k t))
    ∙ (take-append-le x (take k t) (new ++ drop k t) (omega (arith, short, within, length-take-le k t within))
    ∙ (sym (take-append-le x (take k t) (drop k t) (omega (arith, short, within, length-take-le k t within)))
    ∙ ap (take x) (take-append-drop k t)))

take-front-long : (j k : ℕ) (t new : PartialText) → k ≤ length t
    → take (k + j + length new) (take k t ++ new ++ drop k t) ≡ take k t ++ new ++ drop k (take (k + j) t)
take-front-long j k t new within =
    let size : length (take k t) ≡ k = length-take-le k t within in
    let whole : k + j + length new ≡ length (take k t) + (length new + j) = omega (arith, size) in
    ap (λ n. take n (take k t ++ new ++ drop k t)) whole
    ∙ (ap (take (length (take k t) + (length new + j))) (append_assoc (take k t) new (drop k t))
    ∙ (take-append-add (take k t) (new ++ drop k t) (length new + j)
    ∙ (ap (λ ys. take k t ++ ys) (take-append-add new (drop k t) j ∙ ap (λ ys. new ++ ys) (sym (drop-take k j t)))
    ∙ sym (append_assoc (take k t) new (drop k (take (k + j) t))))))

pub insertions_move_places : InsertionsMovePlaces
insertions_move_places g p x new cs within =
    ap (take (place_after_ins k (length new) x)) (text_inserted cs g p new) ∙ go (nat_lt k x) refl
  where
    k : ℕ
    k = place_at g p cs

    t : PartialText
    t = text_at g cs

    go : (b : Bool) → nat_lt k x ≡ b
        → take (cond b (x + length new) x) (take k t ++ new ++ drop k t) ≡ cond b (take k t ++ new ++ drop k (take x t)) (take x t)
    go true is =
        let up : k < x = grind (arith, nat_tests, is) in
        let far : x ≡ k + (x - k) = omega (arith, up) in
        subst (λ y. take (y + length new) (take k t ++ new ++ drop k t) ≡ take k t ++ new ++ drop k (take y t)) (sym far)
        (take-front-long (x - k) k t new (place-within g p cs))
    go false is =
        let short : x ≤ k = grind (arith, nat_tests, is) in
        take-front-short x k t new short (place-within g p cs)

-- ## By the oldest frame

-- a text that stays moves no place
stays-put : (g x : ℕ) (cs : List Cell) → place_after g plan.Stays cs x ≡ x
stays-put g x cs = go (nat_lt (length (text_at g cs)) x)
  where
    go : (t : Bool) → cond t x x ≡ x
    go true = refl
    go false = refl

pub no_frame : (ws : List HFrame) (f g x : ℕ) (cs : List Cell) → slice_get ws 0 ≡ None → x ≡ place_after g (plan_of (first_effect ws f)) cs x
no_frame [] f g x cs none = sym (stays-put g x cs)
no_frame (w ∷ ws) f g x cs none = absurd cc

-- what the oldest frame does to a file, by its plan
first-plan : (ws : List HFrame) (w : HFrame) (x : FilePlan) (f : ℕ) → slice_get ws 0 ≡ Some w → ((h : ℕ) → plan_at h x ≡ plan_of (effect h w.msg))
    → plan_of (first_effect ws f) ≡ plan_at f x
first-plan [] w x f is planned = absurd cc
first-plan (v ∷ ws) w x f is planned =
    let same : v ≡ w = cc in
    ap (λ (y : HFrame). plan_of (effect f y.msg)) same ∙ sym (planned f)

pub frame_elsewhere : (ws : List HFrame) (w : HFrame) (x : FilePlan) (f g y : ℕ) (cs : List Cell) → slice_get ws 0 ≡ Some w
    → ((h : ℕ) → plan_at h x ≡ plan_of (effect h w.msg)) → nat_eq x.tag f ≡ false → y ≡ place_after g (plan_of (first_effect ws f)) cs y
frame_elsewhere ws w x f g y cs is planned other =
    sym (stays-put g y cs)
    ∙ ap (λ (k : Plan). place_after g k cs y) (sym (first-plan ws w x f is planned ∙ ap (λ t. cond t x.plan plan.Stays) other))

pub frame_here : (ws : List HFrame) (w : HFrame) (x : FilePlan) (f : ℕ) → slice_get ws 0 ≡ Some w
    → ((h : ℕ) → plan_at h x ≡ plan_of (effect h w.msg)) → nat_eq x.tag f ≡ true → plan_of (first_effect ws f) ≡ x.plan
frame_here ws w x f is planned here = first-plan ws w x f is planned ∙ ap (λ t. cond t x.plan plan.Stays) here

-- where something waits over the file, and where nothing does
pub pending_frame : (o : PlainOverlay) (l : Layer) (f g x b : ℕ) (w : Plan) → slot o.layers f ≡ Some l → AreOver o.end.term o.layers
    → plan_of (first_effect o.end.waiting f) ≡ w → ((r : PartialText) → IsOver r l → b ≡ place_after g w (cells_over r l) x)
    → b ≡ place_after g (plan_of (first_effect o.end.waiting f)) (cells_at o f) x
pending_frame o l f g x b w has over here made =
    let r = rasp_at o.end.term f in
    made r (subst (IsOverRasp r) has (over f))
    ∙ (ap (λ (v : Plan). place_after g v (cells_over r l) x) (sym here)
    ∙ ap (λ (k : Option Layer). place_after g (plan_of (first_effect o.end.waiting f)) (cells_in r k) x) (sym has))

pub rasp_frame : (o : PlainOverlay) (f g x b n : ℕ) (w : Plan) → slot o.layers f ≡ None → n ≡ length (rasp_at o.end.term f)
    → plan_of (first_effect o.end.waiting f) ≡ w → ((h : ℕ) (r : PartialText) → length r ≡ n → b ≡ place_after h w (resting r) x)
    → b ≡ place_after g (plan_of (first_effect o.end.waiting f)) (cells_at o f) x
rasp_frame o f g x b n w has size here made =
    let r = rasp_at o.end.term f in
    made g r (sym size)
    ∙ (ap (λ (v : Plan). place_after g v (resting r) x) (sym here)
    ∙ ap (λ (k : Option Layer). place_after g (plan_of (first_effect o.end.waiting f)) (cells_in r k) x) (sym has))

-- ## Into the requests

still-request : (m : Marks) (e : UserEvent) → is_request (with_marks m e) ≡ is_request e
still-request m (event.Select f p q) = refl
still-request m (event.Dclick f p) = refl
still-request m (event.View f p n) = refl
still-request m (event.Load f p n) = refl
still-request m e = refl

pub marked_asked : (ms : List Marks) (rs : List Request) → AreAsked rs → AreAsked (marked ms rs)
marked_asked [] rs all = all
marked_asked (m ∷ ms) [] all = tt
marked_asked (m ∷ ms) (r ∷ rs) all = ((still-request m r.event ∙ all.0.0, all.0.1), marked_asked ms rs all.1)

pub ruleset put_facts = (marked_asked)

pub marked_next : (ms : List Marks) (rs : List Request) (i : ℕ) (m : Marks) (d : Request) → i < length ms → length ms ≡ length rs
    → set (marked (take i ms) rs) i (with_request_marks (get_or ms i m) (get_or (marked (take i ms) rs) i d)) ≡ marked (take (suc i) ms) rs
marked_next [] rs i m d within same = absurd (omega (arith, within))
marked_next (n ∷ ms) [] i m d within same = absurd (omega (arith, same))
marked_next (n ∷ ms) (r ∷ rs) zero m d within same = refl
marked_next (n ∷ ms) (r ∷ rs) (suc i) m d within same =
    ap (λ xs. with_request_marks n r ∷ xs) (marked_next ms rs i m d (omega (arith, within)) (omega (arith, same)))

pub marked_length : (ms : List Marks) (rs : List Request) → length (marked ms rs) ≡ length rs
marked_length [] rs = refl
marked_length (m ∷ ms) [] = refl
marked_length (m ∷ ms) (r ∷ rs) = ap suc (marked_length ms rs)

pub ruleset mark_facts = (marked_next, marked_length)

-- ## By a step

-- an event with its own places
own-marks : (e : UserEvent) → with_marks (marks_of e) e ≡ e
own-marks (event.Select f p q) = refl
own-marks (event.Dclick f p) = refl
own-marks (event.View f p n) = refl
own-marks (event.Load f p n) = refl
own-marks e = refl

file-same : (o : PlainOverlay) (c d : ℕ → Effect) (r : Request) (f : Option ℕ) → ((h : ℕ) → c h ≡ d h) → file_marks o c r f ≡ file_marks o d r f
file-same o c d r None same = refl
file-same o c d r (Some f) same =
    ap (λ (x : Effect). record { p = place_after r.group (plan_of x) (cells_at o f) (marks_of r.event).p; q = place_after r.group (plan_of x) (cells_at o f) (marks_of r.event).q })
    (same f)

file-still : (o : PlainOverlay) (r : Request) (f : Option ℕ) → file_marks o (λ h. Stays) r f ≡ marks_of r.event
file-still o r None = refl
file-still o r (Some f) =
    let m = marks_of r.event in
    let after = place_after r.group plan.Stays (cells_at o f) in
    ap (λ p. record { p = p; q = after m.q }) (stays-put r.group m.p (cells_at o f))
    ∙ ap (λ q. record { p = m.p; q = q }) (stays-put r.group m.q (cells_at o f))

map-same : {X : Type 0} (c d : X → X) (xs : List X) → ((x : X) → c x ≡ d x) → map c xs ≡ map d xs
map-same c d [] same = refl
map-same c d (x ∷ xs) same = ap (λ y. y ∷ map c xs) (same x) ∙ ap (λ ys. d x ∷ ys) (map-same c d xs same)

map-still : {X : Type 0} (c : X → X) (xs : List X) → ((x : X) → c x ≡ x) → xs ≡ map c xs
map-still c [] still = refl
map-still c (x ∷ xs) still = ap (λ ys. x ∷ ys) (map-still c xs still) ∙ ap (λ y. y ∷ map c xs) (sym (still x))

moved-same : (o : PlainOverlay) (c d : ℕ → Effect) → ((h : ℕ) → c h ≡ d h) → (r : Request) → moved_by o c r ≡ moved_by o d r
moved-same o c d same r = ap (λ m. with_request_marks m r) (file-same o c d r (file_of r.event) same)

moved-still : (o : PlainOverlay) (c : ℕ → Effect) → ((h : ℕ) → c h ≡ Stays) → (r : Request) → moved_by o c r ≡ r
moved-still o c still r =
    moved-same o c (λ h. Stays) still r
    ∙ (ap (λ m. with_request_marks m r) (file-still o r (file_of r.event)) ∙ ap (λ (e : UserEvent). record r { event = e }) (own-marks r.event))

marked-map : (to : Request → Marks) (rs : List Request) → marked (map to rs) rs ≡ map (λ r. with_request_marks (to r) r) rs
marked-map to [] = refl
marked-map to (r ∷ rs) = ap (λ xs. with_request_marks (to r) r ∷ xs) (marked-map to rs)

pub received_moves : (o : PlainOverlay) (step : TermStep) (rs ks : List Request) (ms : List Marks) → is_received step ≡ true
    → ms ≡ map (marks_after o (first_effect o.end.waiting)) rs → ks ≡ marked ms rs → ks ≡ map (moved_by o (step_effect o.end step)) rs
received_moves o step rs ks ms is made put =
    put ∙ (ap (λ xs. marked xs rs) made ∙ (marked-map (marks_after o (first_effect o.end.waiting)) rs
    ∙ map-same (moved_by o (first_effect o.end.waiting)) (moved_by o (step_effect o.end step)) rs
    (moved-same o (first_effect o.end.waiting) (step_effect o.end step) (λ h. sym (ap (λ t. cond t (first_effect o.end.waiting h) Stays) is)))))

pub other_moves : (o : PlainOverlay) (step : TermStep) (rs : List Request) → is_received step ≡ false → rs ≡ map (moved_by o (step_effect o.end step)) rs
other_moves o step rs is =
    map-still (moved_by o (step_effect o.end step)) rs
    (moved-still o (step_effect o.end step) (λ h. ap (λ t. cond t (first_effect o.end.waiting h) Stays) is))

pub quiet_moves : (o : PlainOverlay) (step : TermStep) (rs : List Request) → o.end.waiting ≡ [] → rs ≡ map (moved_by o (step_effect o.end step)) rs
quiet_moves o step rs none =
    map-still (moved_by o (step_effect o.end step)) rs
    (moved-still o (step_effect o.end step)
    (λ h. ap (λ ws. cond (is_received step) (first_effect ws h) Stays) none ∙ stays (is_received step)))
  where
    stays : (t : Bool) → cond t Stays Stays ≡ Stays
    stays true = refl
    stays false = refl

pub quiet_goes : (o : OrderedOverlay) (answer : Result OverlayStep (EndpointFault TermStop)) → o.overlay.end.waiting ≡ [] → o.queue ≡ queue_after o answer
quiet_goes o (Ok x) none = quiet_moves o.overlay x.step o.queue none
quiet_goes o (Err why) none = refl

pub ruleset step_facts = (received_moves, other_moves, quiet_goes)

-- ## As runes are taken back

-- a place of the text, and one past its end
past-dropped : (m : Option ℕ) (g n x : ℕ) (k : Option Layer) (cs : List Cell) → n ≡ length (text_at g cs) → n < x → x ≡ place_after_drop m g k cs x
past-dropped m g n x k cs size past =
    let is : nat_lt (length (text_at g cs)) x ≡ true = grind (arith, nat_tests, size, past) in
    sym (ap (λ t. cond t x (x - lost_of m g x k)) is)

of-dropped : (m : Option ℕ) (g n x b : ℕ) (k : Option Layer) (cs : List Cell) → n ≡ length (text_at g cs) → x ≤ n → b ≡ x - lost_of m g x k
    → b ≡ place_after_drop m g k cs x
of-dropped m g n x b k cs size within moved =
    let is : nat_lt (length (text_at g cs)) x ≡ false = grind (arith, nat_tests, size, within) in
    moved ∙ sym (ap (λ t. cond t x (x - lost_of m g x k)) is)

pub drop_past : (l : Layer) (m : Option ℕ) (g n x : ℕ) → ((r : PartialText) → IsOver r l → n ≡ length (text_at g (cells_over r l))) → n < x
    → (r : PartialText) → IsOver r l → x ≡ place_after_drop m g (Some l) (cells_over r l) x
drop_past l m g n x size past r over = past-dropped m g n x (Some l) (cells_over r l) (size r over) past

pub drop_within : (l : Layer) (m : Option ℕ) (g n x b : ℕ) → ((r : PartialText) → IsOver r l → n ≡ length (text_at g (cells_over r l))) → x ≤ n
    → b ≡ x - lost_in m g x (runs_of l) → (r : PartialText) → IsOver r l → b ≡ place_after_drop m g (Some l) (cells_over r l) x
drop_within l m g n x b size within moved r over = of-dropped m g n x b (Some l) (cells_over r l) (size r over) within moved

pub ruleset pending_drop_facts = (drop_past, drop_within)

-- the begin of a text stays
pub begin_dropped : (m : Option ℕ) (g : ℕ) (k : Option Layer) (cs : List Cell) → 0 ≡ place_after_drop m g k cs 0
begin_dropped m g k cs = go (nat_lt (length (text_at g cs)) 0)
  where
    go : (t : Bool) → 0 ≡ cond t 0 (0 - lost_of m g 0 k)
    go true = refl
    go false = omega arith

-- where something waits over the file, and where nothing does
pub pending_dropped : (o : PlainOverlay) (l : Layer) (m : Option ℕ) (f g x b : ℕ) → slot o.layers f ≡ Some l → AreOver o.end.term o.layers
    → ((r : PartialText) → IsOver r l → b ≡ place_after_drop m g (Some l) (cells_over r l) x)
    → b ≡ place_after_drop m g (slot o.layers f) (cells_at o f) x
pending_dropped o l m f g x b has over made =
    let r = rasp_at o.end.term f in
    made r (subst (IsOverRasp r) has (over f))
    ∙ ap (λ (k : Option Layer). place_after_drop m g k (cells_in r k) x) (sym has)

pub none_dropped : (o : PlainOverlay) (m : Option ℕ) (f g x : ℕ) → slot o.layers f ≡ None → x ≡ place_after_drop m g (slot o.layers f) (cells_at o f) x
none_dropped o m f g x none =
    let r = rasp_at o.end.term f in
    go (nat_lt (length (text_at g (cells_in r None))) x)
    ∙ ap (λ (k : Option Layer). place_after_drop m g k (cells_in r k) x) (sym none)
  where
    go : (t : Bool) → x ≡ cond t x (x - 0)
    go true = refl
    go false = omega arith

pub ruleset place_drop_facts = (begin_dropped, pending_dropped, none_dropped)

pub dropped_moves : (o : PlainOverlay) (m : Option ℕ) (f : ℕ) (rs ks : List Request) (ms : List Marks) → ms ≡ map (marks_after_drop m o f) rs
    → ks ≡ marked ms rs → ks ≡ map (moved_by_drop m o f) rs
dropped_moves o m f rs ks ms made put = put ∙ (ap (λ xs. marked xs rs) made ∙ marked-map (marks_after_drop m o f) rs)

pub ruleset drop_facts = (dropped_moves)
