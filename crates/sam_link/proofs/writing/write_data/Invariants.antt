use Rattle.std.proofs.Common.{◌≡◌, ◌++◌}
use Rattle.sam_frame.specs.Stream.{stream_of}
use Rattle.sam_link.specs.Packets.{packets}
use Rattle.sam_link.specs.Putting.{data_packets}
use Rattle.sam_link.proofs.writing.write_data.Given as goal

abbrev pub invariant-loop-number : goal.invariant-loop-number
invariant-loop-number l = l.out.items ≡ l.initial.out.items ++ stream_of packets (data_packets l.number l.bytes)
