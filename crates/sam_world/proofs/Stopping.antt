-- Why a step of the world stops: it wants memory, or a count is full. Neither side refuses the other.
use Rattle.sam_world.proofs.Common.{◌≡◌, ◌⊎◌, ℕ, Bool, true, false, if◌then◌else◌, ◌==◌, List, drop, Some, Result, Ok, Err, refl, sym, ap, ◌∙◌, arith, answer, HostFault, take_of, TermFault, Tmesg, HFrame, PlainWorld, new_world, IsAhead, head, WasReached, IsInOrder, IsCountable, IsFaultOf, OutOfMemory, CountFull, Event, Act, Flush, HostTake, TermTake, PlainHost, is_empty, step_of, act_of, flush_of}
use Rattle.sam_host.specs.declared.fault.HostFault.TheVariants as host
use Rattle.sam_term.specs.declared.fault.TermFault.TheVariants as term
use Rattle.std.specs.Prelude.{OnOk, IfErr}
use Rattle.sam_runes.specs.Texts.{most_count}
use Rattle.sam_runes.specs.Checks.{fault_of}
use Rattle.sam_host.specs.Host.{IsRefusal}
use Rattle.sam_term.specs.Taking.{IsFailure, is_term_full}
use Rattle.sam_world.specs.Counts.{FullCountsStop, composes_past, is_host_full, passes_at, passes_count}
use Rattle.sam_world.specs.Faults.{IsTermStop, IsHostStop, is_barred, is_empty_take}
use Rattle.sam_world.specs.declared.event.StepFault.{StepFault}
use Rattle.sam_world.proofs.Keeping.{first_rest}
use Rattle.sam_crossing.proofs.OrderLaws.{starts_in_order, runs_in_order, host_never_refuses, terminal_never_refuses, quiet_means_agreement, free_means_one_version, free_means_ahead}
use Rattle.sam_local.proofs.Runs.{ends_as_if_local}

pub order_of : (w : PlainWorld) → WasReached w → IsInOrder w
order_of w r = runs_in_order (new_world r.given) w r.reached.0 (starts_in_order r.given r.limits) r.reached.1

pub ahead_of : (w : PlainWorld) (f : ℕ) → WasReached w → IsCountable w → IsAhead w f
ahead_of w f r room = free_means_ahead w f (order_of w r) room

-- ## The faults of a side

pub host_stops : (w : PlainWorld) (m : Tmesg) (why : HostFault)
    → WasReached w → head w.up ≡ Some m → (why ≡ host.OutOfMemory) ⊎ (answer w.host m ≡ Err why) → (why ≡ host.OutOfMemory) ⊎ (why ≡ host.CountFull)
host_stops w m why r first e = grind (arith, (host_never_refuses w m (drop 1 w.up) why (order_of w r) (first_rest w.up m first)))

pub take_stops : (w : PlainWorld) (frame : HFrame) (why : TermFault)
    → WasReached w → head w.down ≡ Some frame → (why ≡ term.OutOfMemory) ⊎ (take_of w.term frame ≡ Err why) → (why ≡ term.OutOfMemory) ⊎ (why ≡ term.CountFull)
take_stops w frame why r first e = grind (arith, (terminal_never_refuses w frame (drop 1 w.down) why (order_of w r) (first_rest w.down frame first)))

-- ## A count that would be passed

empty_not_full : (w : PlainWorld) (e : Event) → is_empty_take w e ≡ true → passes_count w e ≡ false
empty_not_full w e none = grind arith

barred_not_full : (w : PlainWorld) (e : Event) → is_barred w e ≡ true → passes_count w e ≡ false
barred_not_full w e barred = grind arith

-- a host that answers has not taken all messages that can be counted
taken_below : (h : PlainHost) (m : Tmesg) (x : PlainHost × List HFrame) → answer h m ≡ Ok x → (h.taken == most_count) ≡ false
unfolding answer
taken_below h m x e = grind arith

-- it stops the step
pub passing_stops : FullCountsStop
passing_stops e u w = grind arith

-- ## Which fault a step meets

-- a full count comes before want of memory
pub room_fault : (w : PlainWorld) (e : Event) (full : Bool) → is_barred w e ≡ false → is_empty_take w e ≡ false → full ≡ passes_count w e
    → IsFaultOf w e (if full then CountFull else OutOfMemory)
room_fault w e full may there is = grind arith

-- where the terminal failed by what its definition answers
pub term_fault : {A : Type 0} (w : PlainWorld) (e : Event) (r : Result A TermFault) (why : TermFault) (s : StepFault) → is_barred w e ≡ false → is_empty_take w e ≡ false
    → passes_count w e ≡ is_term_full r → IsFailure r why → IsTermStop why s → IsFaultOf w e s
term_fault w e (Ok x) why s may there same failed stop = grind arith
term_fault w e (Err other) why s may there same failed stop = grind arith

pub act_fault : (w : PlainWorld) (why : TermFault) (s : StepFault) → IsFailure (act_of w.term) why → IsTermStop why s → IsFaultOf w Act s
act_fault w why s failed stop = term_fault w Act (act_of w.term) why s refl refl refl failed stop

pub flush_fault : (w : PlainWorld) (why : TermFault) (s : StepFault) → IsFailure (flush_of w.term) why → IsTermStop why s → IsFaultOf w Flush s
flush_fault w why s failed stop = term_fault w Flush (flush_of w.term) why s refl refl refl failed stop

-- the oldest frame and message
there_down : (w : PlainWorld) (frame : HFrame) → head w.down ≡ Some frame → is_empty_take w TermTake ≡ false
there_down w frame first = ap is_empty (first_rest w.down frame first)

there_up : (w : PlainWorld) (m : Tmesg) → head w.up ≡ Some m → is_empty_take w HostTake ≡ false
there_up w m first = ap is_empty (first_rest w.up m first)

passes_down : (w : PlainWorld) (frame : HFrame) → head w.down ≡ Some frame → passes_count w TermTake ≡ is_term_full (take_of w.term frame)
passes_down w frame first = ap (composes_past w.term) (first_rest w.down frame first)

passes_up : (w : PlainWorld) (m : Tmesg) → head w.up ≡ Some m → passes_count w HostTake ≡ is_host_full (answer w.host m)
passes_up w m first = ap (passes_at w.host) (first_rest w.up m first)

pub take_fault : (w : PlainWorld) (frame : HFrame) (why : TermFault) (s : StepFault) → head w.down ≡ Some frame → IsFailure (take_of w.term frame) why → IsTermStop why s
    → IsFaultOf w TermTake s
take_fault w frame why s first failed stop =
    term_fault w TermTake (take_of w.term frame) why s refl (there_down w frame first) (passes_down w frame first) failed stop

pub take_room : (w : PlainWorld) (frame : HFrame) (full : Bool) → head w.down ≡ Some frame → full ≡ is_term_full (take_of w.term frame)
    → IsFaultOf w TermTake (if full then CountFull else OutOfMemory)
take_room w frame full first is = room_fault w TermTake full refl (there_down w frame first) (is ∙ sym (passes_down w frame first))

-- the host's count is full just where it answers so
host_full : (w : PlainWorld) (m : Tmesg) → WasReached w → head w.up ≡ Some m → is_host_full (answer w.host m) ≡ (w.host.taken == most_count)
host_full w m r first = by (answer w.host m) refl
  where
    by : (a : Result (PlainHost × List HFrame) HostFault) → answer w.host m ≡ a → is_host_full a ≡ (w.host.taken == most_count)
    by (Ok x) q = grind (arith, (taken_below w.host m x q))
    by (Err why) q = grind (arith, (host_never_refuses w m (drop 1 w.up) why (order_of w r) (first_rest w.up m first) q))

pub answer_room : (w : PlainWorld) (m : Tmesg) (full : Bool) → WasReached w → head w.up ≡ Some m → full ≡ (w.host.taken == most_count)
    → IsFaultOf w HostTake (if full then CountFull else OutOfMemory)
answer_room w m full r first is = room_fault w HostTake full refl (there_up w m first) (is ∙ sym (passes_up w m first ∙ host_full w m r first))

pub answer_fault : (w : PlainWorld) (m : Tmesg) (why : HostFault) (s : StepFault) → head w.up ≡ Some m → IsRefusal (fault_of (answer w.host m)) why → IsHostStop why s
    → IsFaultOf w HostTake s
answer_fault w m why s first failed stop = by (answer w.host m) (passes_up w m first) failed
  where
    by : (a : Result (PlainHost × List HFrame) HostFault) → passes_count w HostTake ≡ is_host_full a → IsRefusal (fault_of a) why → IsFaultOf w HostTake s
    by (Ok x) same f = grind (arith, (there_up w m first))
    by (Err other) same f = grind (arith, (there_up w m first))

-- a step that fails does so for a full count exactly where one is full
pub full_told : {A : Type 0} (r : Result A StepFault) (w v : PlainWorld) (e : Event) → OnOk r (step_of w e ≡ Some v) → IfErr r (λ why. IsFaultOf w e why)
    → passes_count w e ≡ true → r ≡ Err CountFull
full_told (Ok x) w v e done failed full = absurd (grind (arith, (passing_stops w e full)))
full_told (Err why) w v e done failed full = grind (arith, (empty_not_full w e), (barred_not_full w e))

-- what holds of a quiet world
pub ruleset quiet_facts = (order_of, quiet_means_agreement, free_means_one_version, ends_as_if_local)
