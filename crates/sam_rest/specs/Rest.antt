-- Coming to rest: steps that don't come from outside come to an end, and where no step changes anything all is done.
use Rattle.std.specs.Prelude.{◌≡◌, ◌≢◌, ◌≤◌, ℕ, Bool, true, false, List, [], ◌∷◌, length, Some}
use Rattle.sam_term.specs.Term.{window_at}
use Rattle.sam_crossing.specs.World.{PlainWorld, step_of, is_unlocked}
use Rattle.sam_world.specs.Counts.{passes_count}
use Rattle.sam_world.specs.Drain.{next_event}
use Rattle.sam_crossing.specs.World.{WasReached}
use Rattle.sam_crossing.specs.declared.event.Event.{Event}
use Rattle.sam_crossing.specs.declared.event.Event.TheVariants.{User, Add, Mark, Act, Flush, HostTake, TermTake}
use Rattle.sam_local.specs.Worlds.{is_at_rest}

-- the event comes from outside: the user does something, or a file joins or is marked
abbrev pub is_from_outside : Event → Bool
is_from_outside (User e) = true
is_from_outside (Add name text) = true
is_from_outside (Mark f) = true
is_from_outside Act = false
is_from_outside Flush = false
is_from_outside HostTake = false
is_from_outside TermTake = false

-- the event doesn't come from outside, and leads from w to another world
pub record Applies (w : PlainWorld) (e : Event) (next : PlainWorld) : Type 0 where
  pub own : is_from_outside e ≡ false
  pub stepped : step_of w e ≡ Some next
  pub changes : next ≢ w

-- events, each of which applies where it comes, lead from w to v
abbrev pub LeadsOn : PlainWorld → List Event → PlainWorld → Type 0
LeadsOn w [] v = v ≡ w
LeadsOn w (e ∷ es) v = (next : PlainWorld) × Applies w e next × LeadsOn next es v

-- events, each of which is the one that a drain makes happen next, and applies, lead from w to v
abbrev pub LeadsInTurn : PlainWorld → List Event → PlainWorld → Type 0
LeadsInTurn w [] v = v ≡ w
LeadsInTurn w (e ∷ es) v = (next : PlainWorld) × (next_event w ≡ Some e) × Applies w e next × LeadsInTurn next es v

-- such events, however many, lead from w to v
pub record GoesOn (w v : PlainWorld) : Type 0 where
  pub events : List Event
  pub leads : LeadsInTurn w events v

-- no event applies
abbrev pub IsStuck : PlainWorld → Type 0
IsStuck w = (e : Event) (next : PlainWorld) → Applies w e next → ⊥

-- no event would take a count of messages past 2^64-1
abbrev pub HasRoom : PlainWorld → Type 0
HasRoom w = (e : Event) → passes_count w e ≡ false

-- nothing is unsent, under way, held or locked, and no request awaits its data
pub record IsDone (w : PlainWorld) : Type 0 where
  pub rests : is_at_rest w ≡ true
  pub free : is_unlocked w.term ≡ true
  pub answered : (f : ℕ) → (window_at w.term f).awaited ≡ 0

-- ## The laws

-- where nothing applies, all is done
abbrev pub StuckIsDone : Type 0
StuckIsDone = (w : PlainWorld) → WasReached w → HasRoom w → IsStuck w → IsDone w

-- where all is done, nothing applies
abbrev pub DoneIsStuck : Type 0
DoneIsStuck = (w : PlainWorld) → IsDone w → IsStuck w

-- for every world there is a number such that no list of events that apply one after another is longer, whatever their order
abbrev pub StepsEnd : Type 0
StepsEnd = (w : PlainWorld) → WasReached w → (most : ℕ) × ((es : List Event) (v : PlainWorld) → LeadsOn w es v → length es ≤ most)
