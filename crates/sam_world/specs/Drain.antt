-- What a drain makes happen.
use Rattle.std.specs.Prelude.{ℕ, zero, suc, not, if◌then◌else◌, Option, Some, None, is_some, option_and_then}
use Rattle.sam_runes.specs.Texts.{is_empty}
use Rattle.sam_term.specs.Term.{act_of}
pub use Rattle.sam_term.specs.Taking.{acts}
use Rattle.sam_crossing.specs.declared.event.Event.{Event}
use Rattle.sam_crossing.specs.declared.event.Event.TheVariants.{Act, Flush, HostTake, TermTake}
use Rattle.sam_crossing.specs.World.{PlainWorld, step_of}

-- what comes first of: the host's take, the terminal's take, an act, a flush
abbrev pub next_event : PlainWorld → Option Event
next_event w =
    if not (is_empty w.up)
    then Some HostTake
    else if not (is_empty w.down)
    then Some TermTake
    else if acts (act_of w.term)
    then Some Act
    else if is_some w.term.unsent then Some Flush else None

-- the most events that `drain` makes happen
abbrev pub drain_limit : ℕ
drain_limit = 100_000

-- the world after the first n events of the rule, or fewer where none applies any more; none where one of them is no step
abbrev pub drained : ℕ → PlainWorld → Option PlainWorld
drained zero w = Some w
drained (suc n) w = elim (next_event w) [ None ↦ Some w | Some e ↦ option_and_then (drained n) (step_of w e) ]
