-- What a terminal's log says.
use Rattle.std.specs.Prelude.{ℕ, List, replicate}
pub use Rattle.sam_sides.specs.Logs.{logged_users}
use Rattle.sam_crossing.specs.declared.event.Event.{Event}
use Rattle.sam_crossing.specs.declared.event.Event.TheVariants as event

-- so many takes of the host
abbrev pub takes : ℕ → List Event
takes n = replicate n event.HostTake
