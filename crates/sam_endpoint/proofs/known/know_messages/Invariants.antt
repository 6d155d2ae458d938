use Rattle.std.proofs.Common.{take}
use Rattle.sam_endpoint.specs.Streams.{FitMessages}
use Rattle.sam_endpoint.proofs.known.know_messages.Given as goal

abbrev pub invariant-loop-message : goal.invariant-loop-message
invariant-loop-message l = FitMessages (take l.message-index l.messages)
