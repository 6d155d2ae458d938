-- The worlds that there are: those that a run leads to.
use Rattle.std.specs.Prelude.{All, IsTrue}
use Rattle.sam_mesg.specs.TerminalKinds.{fits_t}
use Rattle.sam_mesg.specs.HostKinds.{fits_h}
use Rattle.sam_crossing.specs.World.{PlainWorld, WasReached}

-- What is kept of every world: a run led to it, and all that is under way is within the limits of messages.
pub record IsSoundWorld (w : PlainWorld) : Type 0 where
  pub reached : WasReached w
  pub up : All (λ m. IsTrue (fits_t 2 m)) w.up
  pub down : All (λ frame. IsTrue (fits_h 2 frame.msg)) w.down
