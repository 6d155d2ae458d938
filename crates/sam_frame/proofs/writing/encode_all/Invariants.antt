use Rattle.std.proofs.Common.{◌≡◌, ◌++◌, take}
use Rattle.sam_frame.specs.Stream.{stream_of}
use Rattle.sam_frame.proofs.writing.encode_all.Given as goal

abbrev pub invariant-loop-message : goal.invariant-loop-message
invariant-loop-message g l = l.out.items ≡ l.initial.out.items ++ stream_of g.M.Wire.direction (take l.message-index l.messages)
