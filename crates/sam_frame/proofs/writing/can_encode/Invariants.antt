use Rattle.std.proofs.Common.{take}
use Rattle.sam_frame.specs.Stream.{CanEncode}
use Rattle.sam_frame.proofs.writing.can_encode.Given as goal

abbrev pub invariant-loop-message : goal.invariant-loop-message
invariant-loop-message g l = CanEncode g.M.Wire.direction (take l.message-index l.messages)
