-- What is true of each clock. A clock is taken apart into its fields, so that each state is a case.
use Rattle.std.proofs.Common.{◌≡◌, ℕ, zero, suc, ◌+◌, ◌-◌, ◌<◌, ◌≤◌, ◌⊎◌, inl, inr, max, min, nat_lt, ◌==◌, List, [], ◌∷◌, replicate, Any, Bool, true, false, not, Option, None, Some, option_map, slice_index, if◌then◌else◌, refl, sym, ap, subst, ◌∙◌, arith}
use Rattle.std.specs.Prelude.{unwrap_or}
use Rattle.std.proofs.lemmas.Bool.{cases_Bool, cond-true, cond-false, eq-eqb, ne_eqb, ltb-false}
use Rattle.sam_link.specs.declared.hello.Refusal.TheVariants.{NoSession}
use Rattle.sam_line.specs.Clock.{after, at, connecting, deadline_in, failed, failures_before, is_over, late, left, lost, missing_since, pause, pauses, refused, says, says_in}
use Rattle.sam_line.specs.Laws.{IsExact, IsLost, IsNear, IsNearIn, IsTimely, PausesGrow, SaysOnce, count, is_connect, is_drop, said}
use Rattle.sam_line.specs.declared.clock.Clock.{Clock}
use Rattle.sam_line.specs.declared.clock.Deadline.{Deadline}
use Rattle.sam_line.specs.declared.clock.State.{State}
use Rattle.sam_line.specs.declared.clock.State.TheVariants.{Down, Connecting, Open, Late, Lost}
use Rattle.sam_line.specs.declared.clock.Tick.{Tick}
use Rattle.sam_line.specs.declared.clock.Tick.TheVariants.{Nothing, Connect, Drop}
use Rattle.sam_line.specs.declared.clock.Tick.TheVariants as ticks

-- ## One deadline

pub not_over : (d : Deadline) (now time : ℕ) → d.since ≤ now → now ≤ time → time < now + left d now → (left d time == 0) ≡ false
not_over d now time begun later sooner = ne_eqb (left d time) 0 (λ e. omega (arith, e, begun, later, sooner))

pub over : (d : Deadline) (now time : ℕ) → d.since ≤ now → now + left d now ≤ time → (left d time == 0) ≡ true
over d now time begun later = eq-eqb (left d time) 0 (omega (arith, begun, later))

-- what is said in this state, silent since then
abbrev pub said_in : State → ℕ → Bool → ℕ → Tick
said_in s quiet due time = if is_over (deadline_in s quiet due) time then says_in s else Nothing

never_in : (s : State) (quiet now : ℕ) (due : Bool) → option_map (λ (d : Deadline). left d now) (deadline_in s quiet due) ≡ None → (time : ℕ) → said_in s quiet due time ≡ Nothing
never_in (Down d) quiet now due e time = absurd (cc)
never_in (Connecting d) quiet now due e time = absurd (cc)
never_in Open quiet now true e time = absurd (cc)
never_in Open quiet now false e time = refl
never_in (Late d) quiet now due e time = absurd (cc)
never_in (Lost why) quiet now due e time = refl

-- nothing is said before the deadline
early : (d : Deadline) (tick : Tick) (start now time n : ℕ) → d.since ≤ start → start ≤ now → Some (left d now) ≡ Some n → now ≤ time → time < now + n
    → (if left d time == 0 then tick else Nothing) ≡ Nothing
early d tick start now time n begun later is from to =
    let same : left d now ≡ n = cc in
    cond-false (left d time == 0) tick Nothing (not_over d now time (omega (arith, begun, later)) from (omega (arith, same, to)))

before_in : (s : State) (quiet start now : ℕ) (due : Bool) (n time : ℕ) → IsNearIn s start → quiet ≤ start → start ≤ now
    → option_map (λ (d : Deadline). left d now) (deadline_in s quiet due) ≡ Some n → now ≤ time → time < now + n → said_in s quiet due time ≡ Nothing
before_in (Down d) quiet start now due n time near silent later is from to = early d Connect start now time n near.begun later is from to
before_in (Connecting d) quiet start now due n time near silent later is from to = early d Drop start now time n near.begun later is from to
before_in Open quiet start now true n time near silent later is from to =
    early (record { since = quiet; within = 15000 }) ticks.Ask start now time n silent later is from to
before_in Open quiet start now false n time near silent later is from to = refl
before_in (Late d) quiet start now due n time near silent later is from to = early d Drop start now time n near.begun later is from to
before_in (Lost why) quiet start now due n time near silent later is from to = refl

-- something is said from then on
due_now : (d : Deadline) (tick : Tick) (start now time n : ℕ) → d.since ≤ start → start ≤ now → Some (left d now) ≡ Some n → now + n ≤ time
    → (if left d time == 0 then tick else Nothing) ≡ tick
due_now d tick start now time n begun later is from =
    let same : left d now ≡ n = cc in
    cond-true (left d time == 0) tick Nothing (over d now time (omega (arith, begun, later)) (omega (arith, same, from)))

from_in : (s : State) (quiet start now : ℕ) (due : Bool) (n time : ℕ) → IsNearIn s start → quiet ≤ start → start ≤ now
    → option_map (λ (d : Deadline). left d now) (deadline_in s quiet due) ≡ Some n → now + n ≤ time → said_in s quiet due time ≡ Nothing → ⊥
from_in (Down d) quiet start now due n time near silent later is from none =
    let e : Connect ≡ Nothing = sym (due_now d Connect start now time n near.begun later is from) ∙ none in cc
from_in (Connecting d) quiet start now due n time near silent later is from none =
    let e : Drop ≡ Nothing = sym (due_now d Drop start now time n near.begun later is from) ∙ none in cc
from_in Open quiet start now true n time near silent later is from none =
    let e : ticks.Ask ≡ Nothing = sym (due_now (record { since = quiet; within = 15000 }) ticks.Ask start now time n silent later is from) ∙ none in cc
from_in Open quiet start now false n time near silent later is from none = absurd (cc)
from_in (Late d) quiet start now due n time near silent later is from none =
    let e : Drop ≡ Nothing = sym (due_now d Drop start now time n near.begun later is from) ∙ none in cc
from_in (Lost why) quiet start now due n time near silent later is from none = absurd (cc)

pub due_in_is_exact : (c : Clock) (due : Bool) (now : ℕ) → IsTimely c → IsExact c due now
due_in_is_exact c due now timely =
    record {
      never = λ e time. never_in c.state c.quiet (max c.time now) due e (max c.time time);
      before = λ n time e from to. before_in c.state c.quiet c.time (max c.time now) due n (max c.time time) timely.near timely.quiet (omega arith) e
          (omega (arith, from)) (omega (arith, from, to));
      from = λ n time e from. from_in c.state c.quiet c.time (max c.time now) due n (max c.time time) timely.near timely.quiet (omega arith) e
          (omega (arith, from));
    }

-- ## Pauses

most_of : (number : ℕ) → slice_index pauses number ≤ 30000
most_of zero = omega arith
most_of (suc zero) = omega arith
most_of (suc (suc zero)) = omega arith
most_of (suc (suc (suc zero))) = omega arith
most_of (suc (suc (suc (suc zero)))) = omega arith
most_of (suc (suc (suc (suc (suc zero))))) = omega arith
most_of (suc (suc (suc (suc (suc (suc zero)))))) = omega arith
most_of (suc (suc (suc (suc (suc (suc (suc n))))))) = omega arith

pub pause_bounded : (failures : ℕ) → pause failures ≤ 30000
pause_bounded failures = most_of (min failures 6)

grows_at : (failures here next : ℕ) → here ≡ min failures 6 → next ≡ min (min failures 5 + 1) 6 → slice_index pauses here ≤ slice_index pauses next
grows_at failures zero (suc zero) a b = omega arith
grows_at failures (suc zero) (suc (suc zero)) a b = omega arith
grows_at failures (suc (suc zero)) (suc (suc (suc zero))) a b = omega arith
grows_at failures (suc (suc (suc zero))) (suc (suc (suc (suc zero)))) a b = omega arith
grows_at failures (suc (suc (suc (suc zero)))) (suc (suc (suc (suc (suc zero))))) a b = omega arith
grows_at failures (suc (suc (suc (suc (suc zero))))) (suc (suc (suc (suc (suc (suc zero)))))) a b = omega arith
grows_at failures (suc (suc (suc (suc (suc (suc zero)))))) (suc (suc (suc (suc (suc (suc zero)))))) a b = omega arith
grows_at failures here next a b = absurd (omega (arith, a, b))

pub all_pauses_grow : (c : Clock) (due : Bool) → PausesGrow c due
all_pauses_grow c due =
    record {
      grow = grows_at (failures_before c) (min (failures_before c) 6) (min (min (failures_before c) 5 + 1) 6) refl refl;
      bounded = pause_bounded (failures_before c);
    }

-- ## No clock is stuck

step : (c : Clock) (due : Bool) (time : ℕ) (times : List ℕ) (tick : Tick) → says (at c time) due ≡ tick
    → said c due (time ∷ times) ≡ tick ∷ said (after (at c time) due tick) due times
step c due time times tick is = ap (λ (t : Tick). t ∷ said (after (at c time) due t) due times) is

-- in 30 seconds each deadline is over
gone : (d : Deadline) (start time : ℕ) → IsNear d start → start + 30000 ≤ time → (left d time == 0) ≡ true
gone d start time near later = eq-eqb (left d time) 0 (omega (arith, (near.begun), (near.soon), later))

gone_now : (start within time : ℕ) → within ≤ 30000 → start + 30000 ≤ time → (within - (time - start) == 0) ≡ true
gone_now start within time soon later = eq-eqb (within - (time - start)) 0 (omega (arith, soon, later))

abbrev Both : List Tick → Type 0
Both said = Any (λ tick. tick ≡ Drop) said × Any (λ tick. tick ≡ Connect) said

drop_connect : (rest : List Tick) → Both (Drop ∷ Connect ∷ rest)
drop_connect rest = ((0, Drop, omega arith, refl, refl), (1, Connect, omega arith, refl, refl))

connect_drop : (rest : List Tick) → Both (Connect ∷ Drop ∷ rest)
connect_drop rest = ((1, Drop, omega arith, refl, refl), (0, Connect, omega arith, refl, refl))

ask_drop_connect : (rest : List Tick) → Both (ticks.Ask ∷ Drop ∷ Connect ∷ rest)
ask_drop_connect rest = ((1, Drop, omega arith, refl, refl), (2, Connect, omega arith, refl, refl))

-- a connection was given up at a time: the next is tried in 30 seconds
then_connect : (c : Clock) (time next : ℕ) (times : List ℕ) → c.time + 30000 ≤ next
    → said (failed c true) true (next ∷ times) ≡ Connect ∷ said (after (at (failed c true) next) true Connect) true times
then_connect c time next times later =
    step (failed c true) true next times Connect
    (cond-true (pause (failures_before c) - (max c.time next - c.time) == 0) Connect Nothing
    (gone_now c.time (pause (failures_before c)) (max c.time next) (pause_bounded (failures_before c)) (omega (arith, later))))

stuck_at : (s : State) (start quiet failures opened : ℕ) (missing : Option ℕ) (first second third : ℕ) → IsNearIn s start → quiet ≤ start → (IsLost s → ⊥)
    → start + 30000 ≤ first → first + 30000 ≤ second → second + 30000 ≤ third
    → Both (said (record { time = start; state = s; quiet = quiet; failures = failures; opened = opened; missing = missing }) true (first ∷ second ∷ third ∷ []))
stuck_at (Down d) start quiet failures opened missing first second third near silent not_lost one two three =
    let c : Clock = record { time = start; state = Down d; quiet = quiet; failures = failures; opened = opened; missing = missing } in
    let a = step c true first (second ∷ third ∷ []) Connect (cond-true (left d (max start first) == 0) Connect Nothing (gone d start (max start first) near (omega (arith, one)))) in
    let m : Clock = connecting (at c first) in
    let b = step m true second (third ∷ []) Drop
    (cond-true (30000 - (max (max start first) second - max start first) == 0) Drop Nothing
    (gone_now (max start first) 30000 (max (max start first) second) (omega arith) (omega (arith, one, two)))) in
    subst Both (sym (a ∙ ap (λ (l : List Tick). Connect ∷ l) b)) (connect_drop (said (after (at m second) true Drop) true (third ∷ [])))
stuck_at (Connecting d) start quiet failures opened missing first second third near silent not_lost one two three =
    let c : Clock = record { time = start; state = Connecting d; quiet = quiet; failures = failures; opened = opened; missing = missing } in
    let a = step c true first (second ∷ third ∷ []) Drop (cond-true (left d (max start first) == 0) Drop Nothing (gone d start (max start first) near (omega (arith, one)))) in
    let b = then_connect (at c first) first second (third ∷ []) (omega (arith, one, two)) in
    subst Both (sym (a ∙ ap (λ (l : List Tick). Drop ∷ l) b)) (drop_connect (said (after (at (failed (at c first) true) second) true Connect) true (third ∷ [])))
stuck_at (Late d) start quiet failures opened missing first second third near silent not_lost one two three =
    let c : Clock = record { time = start; state = Late d; quiet = quiet; failures = failures; opened = opened; missing = missing } in
    let a = step c true first (second ∷ third ∷ []) Drop (cond-true (left d (max start first) == 0) Drop Nothing (gone d start (max start first) near (omega (arith, one)))) in
    let b = then_connect (at c first) first second (third ∷ []) (omega (arith, one, two)) in
    subst Both (sym (a ∙ ap (λ (l : List Tick). Drop ∷ l) b)) (drop_connect (said (after (at (failed (at c first) true) second) true Connect) true (third ∷ [])))
stuck_at Open start quiet failures opened missing first second third near silent not_lost one two three =
    let c : Clock = record { time = start; state = Open; quiet = quiet; failures = failures; opened = opened; missing = missing } in
    let a = step c true first (second ∷ third ∷ []) ticks.Ask
    (cond-true (15000 - (max start first - quiet) == 0) ticks.Ask Nothing (eq-eqb (15000 - (max start first - quiet)) 0 (omega (arith, silent, one)))) in
    let m : Clock = late (at c first) in
    let b = step m true second (third ∷ []) Drop
    (cond-true (15000 - (max (max start first) second - max start first) == 0) Drop Nothing
    (gone_now (max start first) 15000 (max (max start first) second) (omega arith) (omega (arith, one, two)))) in
    let e = then_connect (at m second) second third [] (omega (arith, one, two, three)) in
    subst Both (sym (a ∙ ap (λ (l : List Tick). ticks.Ask ∷ l) (b ∙ ap (λ (l : List Tick). Drop ∷ l) e)))
    (ask_drop_connect (said (after (at (failed (at m second) true) third) true Connect) true []))
stuck_at (Lost why) start quiet failures opened missing first second third near silent not_lost one two three = absurd (not_lost tt)

pub never_stuck : (c : Clock) (first second third : ℕ) → IsTimely c → (IsLost c.state → ⊥) → c.time + 30000 ≤ first → first + 30000 ≤ second
    → second + 30000 ≤ third → Both (said c true (first ∷ second ∷ third ∷ []))
never_stuck c first second third timely not_lost one two three =
    stuck_at c.state c.time c.quiet c.failures c.opened c.missing first second third timely.near timely.quiet not_lost one two three

-- ## A jump

twice : (c : Clock) (time : ℕ) → at (at c time) time ≡ at c time
twice c time =
    let same : max (max c.time time) time ≡ max c.time time = omega arith in
    ap (λ (t : ℕ). record c { time = t }) same

-- who says nothing says nothing again at the same time
calm : (many : ℕ) (c : Clock) (due : Bool) (time : ℕ) → says (at c time) due ≡ Nothing → said c due (replicate many time) ≡ replicate many Nothing
calm zero c due time none = refl
calm (suc many) c due time none =
    step c due time (replicate many time) Nothing none
    ∙ ap (λ (l : List Tick). Nothing ∷ l) (calm many (at c time) due time (subst (λ (d : Clock). says d due ≡ Nothing) (sym (twice c time)) none))

no_drops : (many : ℕ) → count is_drop (replicate many Nothing) ≡ 0
no_drops zero = refl
no_drops (suc many) =
    let here : count is_drop (replicate (suc many) Nothing) ≡ 0 + count is_drop (replicate many Nothing) = refl in
    omega (arith, here, no_drops many)

no_connects : (many : ℕ) → count is_connect (replicate many Nothing) ≡ 0
no_connects zero = refl
no_connects (suc many) =
    let here : count is_connect (replicate (suc many) Nothing) ≡ 0 + count is_connect (replicate many Nothing) = refl in
    omega (arith, here, no_connects many)

-- a tick before what is counted
one_drop : (tick : Tick) (l : List Tick) → count is_drop (tick ∷ l) ≤ 1 + count is_drop l
one_drop Nothing l = let here : count is_drop (Nothing ∷ l) ≡ 0 + count is_drop l = refl in omega (arith, here)
one_drop Connect l = let here : count is_drop (Connect ∷ l) ≡ 0 + count is_drop l = refl in omega (arith, here)
one_drop Drop l = let here : count is_drop (Drop ∷ l) ≡ 1 + count is_drop l = refl in omega (arith, here)
one_drop ticks.Ask l = let here : count is_drop (ticks.Ask ∷ l) ≡ 0 + count is_drop l = refl in omega (arith, here)

one_connect : (tick : Tick) (l : List Tick) → count is_connect (tick ∷ l) ≤ 1 + count is_connect l
one_connect Nothing l = let here : count is_connect (Nothing ∷ l) ≡ 0 + count is_connect l = refl in omega (arith, here)
one_connect Connect l = let here : count is_connect (Connect ∷ l) ≡ 1 + count is_connect l = refl in omega (arith, here)
one_connect Drop l = let here : count is_connect (Drop ∷ l) ≡ 0 + count is_connect l = refl in omega (arith, here)
one_connect ticks.Ask l = let here : count is_connect (ticks.Ask ∷ l) ≡ 0 + count is_connect l = refl in omega (arith, here)

once : (many : ℕ) → SaysOnce (replicate many Nothing)
once many = record { drops = omega (arith, no_drops many); connects = omega (arith, no_connects many) }

-- a connection is being made: nothing more is said at this time
after_connect : (c : Clock) (due : Bool) (time many : ℕ) → said (connecting (at c time)) due (replicate many time) ≡ replicate many Nothing
after_connect c due time many =
    calm many (connecting (at c time)) due time
    (cond-false (30000 - (max (max c.time time) time - max c.time time) == 0) Drop Nothing
    (ne_eqb (30000 - (max (max c.time time) time - max c.time time)) 0 (λ e. omega (arith, e))))

after_ask : (c : Clock) (due : Bool) (time many : ℕ) → said (late (at c time)) due (replicate many time) ≡ replicate many Nothing
after_ask c due time many =
    calm many (late (at c time)) due time
    (cond-false (15000 - (max (max c.time time) time - max c.time time) == 0) Drop Nothing
    (ne_eqb (15000 - (max (max c.time time) time - max c.time time)) 0 (λ e. omega (arith, e))))

-- one tick, and nothing after it
then_nothing : (tick : Tick) (many : ℕ) → SaysOnce (tick ∷ replicate many Nothing)
then_nothing tick many =
    record {
      drops = omega (arith, one_drop tick (replicate many Nothing), no_drops many);
      connects = omega (arith, one_connect tick (replicate many Nothing), no_connects many);
    }

drop_connect_once : (many : ℕ) → SaysOnce (Drop ∷ Connect ∷ replicate many Nothing)
drop_connect_once many =
    let drops : count is_drop (Drop ∷ Connect ∷ replicate many Nothing) ≡ 1 + (0 + count is_drop (replicate many Nothing)) = refl in
    let connects : count is_connect (Drop ∷ Connect ∷ replicate many Nothing) ≡ 0 + (1 + count is_connect (replicate many Nothing)) = refl in
    record { drops = omega (arith, drops, no_drops many); connects = omega (arith, connects, no_connects many) }

with_drop : (l : List Tick) (many : ℕ) → (l ≡ replicate many Nothing) ⊎ (l ≡ Connect ∷ replicate many Nothing) → SaysOnce (Drop ∷ l)
with_drop l many (inl e) = subst (λ (x : List Tick). SaysOnce (Drop ∷ x)) (sym e) (then_nothing Drop many)
with_drop l many (inr e) = subst (λ (x : List Tick). SaysOnce (Drop ∷ x)) (sym e) (drop_connect_once many)

-- a connection was given up: the next may be tried at this time, if there is no pause
after_drop : (c : Clock) (due : Bool) (time many : ℕ)
    → (k : ℕ) × ((said (failed (at c time) due) due (replicate many time) ≡ replicate k Nothing)
    ⊎ (said (failed (at c time) due) due (replicate many time) ≡ Connect ∷ replicate k Nothing))
after_drop c due time zero = (0, inl refl)
after_drop c due time (suc many) =
    let wait : ℕ = pause (failures_before (at c time)) - (max (max c.time time) time - max c.time time) in
    by_wait (cases_Bool (wait == 0))
  where
    by_wait : (((pause (failures_before (at c time)) - (max (max c.time time) time - max c.time time)) == 0) ≡ true)
        ⊎ (((pause (failures_before (at c time)) - (max (max c.time time) time - max c.time time)) == 0) ≡ false)
        → (k : ℕ) × ((said (failed (at c time) due) due (time ∷ replicate many time) ≡ replicate k Nothing)
        ⊎ (said (failed (at c time) due) due (time ∷ replicate many time) ≡ Connect ∷ replicate k Nothing))
    by_wait (inl now) = (
      many,
      inr (step (failed (at c time) due) due time (replicate many time) Connect
          (cond-true ((pause (failures_before (at c time)) - (max (max c.time time) time - max c.time time)) == 0) Connect Nothing now)
          ∙ ap (λ (l : List Tick). Connect ∷ l) (after_connect (failed (at c time) due) due time many)),
    )
    by_wait (inr later) = (
      suc many,
      inl (calm (suc many) (failed (at c time) due) due time
          (cond-false ((pause (failures_before (at c time)) - (max (max c.time time) time - max c.time time)) == 0) Connect Nothing later)),
    )

jump_by : (c : Clock) (due : Bool) (time many : ℕ) (tick : Tick) → says (at c time) due ≡ tick
    → SaysOnce (tick ∷ said (after (at c time) due tick) due (replicate many time))
jump_by c due time many Nothing is =
    subst SaysOnce (sym (calm (suc many) c due time is) ∙ step c due time (replicate many time) Nothing is) (once (suc many))
jump_by c due time many Connect is =
    subst (λ (l : List Tick). SaysOnce (Connect ∷ l)) (sym (after_connect c due time many)) (then_nothing Connect many)
jump_by c due time many Drop is = let next = after_drop c due time many in with_drop (said (failed (at c time) due) due (replicate many time)) next.0 next.1
jump_by c due time many ticks.Ask is = subst (λ (l : List Tick). SaysOnce (ticks.Ask ∷ l)) (sym (after_ask c due time many)) (then_nothing ticks.Ask many)

pub jumps_say_once : (c : Clock) (due : Bool) (time many : ℕ) → SaysOnce (said c due (replicate many time))
jumps_say_once c due time zero = once 0
jumps_say_once c due time (suc many) = jump_by c due time many (says (at c time) due) refl

-- ## A session that is not found

missing_by : (c : Clock) (due b : Bool) → (if not b then lost c due NoSession else record (failed c due) { missing = Some (missing_since c) }).state ≡ Lost NoSession
    → b ≡ false
missing_by c due true is = absurd (cc)
missing_by c due false is = refl

since_then : (missing : Option ℕ) (time : ℕ) → 60000 ≤ time - unwrap_or missing time → (since : ℕ) × (missing ≡ Some since) × (60000 ≤ time - since)
since_then None time long = absurd (omega (arith, long))
since_then (Some since) time long = (since, refl, long)

pub missing_for_a_minute : (c : Clock) (due : Bool) → (refused c true due NoSession).state ≡ Lost NoSession
    → (since : ℕ) × (c.missing ≡ Some since) × (60000 ≤ c.time - since)
missing_for_a_minute c due is =
    let over : nat_lt (c.time - missing_since c) 60000 ≡ false = missing_by c due (nat_lt (c.time - missing_since c) 60000) is in
    since_then c.missing c.time (ltb-false (c.time - missing_since c) 60000 over)
