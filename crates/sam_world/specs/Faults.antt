-- Why a step of the world is not made.
use Rattle.std.specs.Prelude.{◌≡◌, ◌⊎◌, ◌<◌, ℕ, Bool, true, false, not, ◌||◌, List, [], ◌∷◌, length, take, slice_get, Some, IfSome, MatchOption}
use Rattle.sam_runes.specs.Texts.{is_empty}
use Rattle.sam_host.specs.declared.fault.HostFault.{HostFault}
use Rattle.sam_host.specs.declared.fault.HostFault.TheVariants as host
use Rattle.sam_term.specs.declared.fault.TermFault.{TermFault}
use Rattle.sam_term.specs.declared.fault.TermFault.TheVariants as term
use Rattle.sam_crossing.specs.Joining.{may_join}
use Rattle.sam_crossing.specs.World.{PlainWorld, may_mark, step_of, run_of}
use Rattle.sam_world.specs.Drain.{next_event, drained}
use Rattle.sam_world.specs.Counts.{passes_count}
use Rattle.sam_crossing.specs.declared.event.Event.{Event}
use Rattle.sam_crossing.specs.declared.event.Event.TheVariants.{User, Add, Mark, Act, Flush, HostTake, TermTake}
use Rattle.sam_world.specs.declared.event.RunStop.{RunStop}
use Rattle.sam_world.specs.declared.event.StepFault.{StepFault}
use Rattle.sam_world.specs.declared.event.StepFault.TheVariants.{NothingThere, OutOfMemory, CountFull, Barred}

-- a take, from an empty list
abbrev pub is_empty_take : PlainWorld → Event → Bool
is_empty_take w (User e) = false
is_empty_take w (Add name text) = false
is_empty_take w (Mark f) = false
is_empty_take w Act = false
is_empty_take w Flush = false
is_empty_take w HostTake = is_empty w.up
is_empty_take w TermTake = is_empty w.down

-- a file that may not join, since no tag is left, or its name or its text is too long; or one that may not be marked
abbrev pub is_barred : PlainWorld → Event → Bool
is_barred w (User e) = false
is_barred w (Add name text) = not (may_join w.host name text)
is_barred w (Mark f) = not (may_mark w.host f)
is_barred w Act = false
is_barred w Flush = false
is_barred w HostTake = false
is_barred w TermTake = false

-- a fault of the terminal, and the fault of the step that it stops
abbrev pub IsTermStop : TermFault → StepFault → Type 0
IsTermStop why s = ((why ≡ term.OutOfMemory) × (s ≡ OutOfMemory)) ⊎ ((why ≡ term.CountFull) × (s ≡ CountFull))

-- the same for a fault of the host
abbrev pub IsHostStop : HostFault → StepFault → Type 0
IsHostStop why s = ((why ≡ host.OutOfMemory) × (s ≡ OutOfMemory)) ⊎ ((why ≡ host.CountFull) × (s ≡ CountFull))

-- nothing is there exactly where the event is a take from an empty list, and the event is barred exactly where a file may not join or be
-- marked; CountFull is answered only where the step would take a count past 2^64-1; out of memory may come wherever none of these does
abbrev pub IsFaultOf : PlainWorld → Event → StepFault → Type 0
IsFaultOf w e NothingThere = is_empty_take w e ≡ true
IsFaultOf w e CountFull = passes_count w e ≡ true
IsFaultOf w e Barred = is_barred w e ≡ true
IsFaultOf w e OutOfMemory = (is_barred w e || is_empty_take w e || passes_count w e) ≡ false

-- the events before the place of the stop lead from w to v, and the event there met the fault
pub record IsStoppedAt (w : PlainWorld) (es : List Event) (stop : RunStop) (v : PlainWorld) : Type 0 where
  pub within : stop.at < length es
  pub before : run_of w (take stop.at es) ≡ Some v
  pub fault : IfSome (slice_get es stop.at) (λ e. IsFaultOf v e stop.fault)

-- the first event that applies in w leads to v
pub record Advances (w v : PlainWorld) : Type 0 where
  pub event : Event
  pub next : next_event w ≡ Some event
  pub stepped : step_of w event ≡ Some v

-- an event applies in w, and it met the fault
abbrev pub IsNextFault : PlainWorld → StepFault → Type 0
IsNextFault w why = MatchOption (next_event w) ⊥ (λ e. IsFaultOf w e why)

-- the first events of the rule, fewer than n, lead from w to v, and the next one met the fault
pub record IsDrainedUpTo (n : ℕ) (w v : PlainWorld) (why : StepFault) : Type 0 where
  pub done : ℕ
  pub fewer : done < n
  pub leads : drained done w ≡ Some v
  pub fault : IsNextFault v why

-- these events lead from w to v, and each is the one that the rule of a drain picks where it comes
abbrev pub LeadsByRule : PlainWorld → List Event → PlainWorld → Type 0
LeadsByRule w [] v = v ≡ w
LeadsByRule w (e ∷ es) v = (next : PlainWorld) × (next_event w ≡ Some e) × (step_of w e ≡ Some next) × LeadsByRule next es v

-- n events of the rule, none fewer, lead from w to v
pub record HasMade (n : ℕ) (w v : PlainWorld) : Type 0 where
  pub events : List Event
  pub many : length events ≡ n
  pub leads : LeadsByRule w events v
