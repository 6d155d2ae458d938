-- Messages beside their room.
use Rattle.std.specs.Prelude.{ℕ, List}
use Rattle.sam_mesg.specs.declared.tmesg.Tmesg.{Tmesg}

-- messages that were composed, and how many more fit without asking for memory
pub record RoomyMessages : Type 0 where
  pub messages : List Tmesg
  pub room : ℕ
