use Rattle.std.proofs.Common.{arith, append-nil, drop, ◌*◌}
use Rattle.sam_frame.specs.Stream.{stream_of}
use Rattle.sam_link.specs.Packets.{packets}
use Rattle.sam_link.specs.Putting.{data_packets}
use Rattle.sam_link.proofs.Putting.{all_written, cut_again, data_none, data_written}
use Rattle.sam_link.proofs.writing.write_data.Goals as goal

pub loop-number-init : goal.loop-number-init
loop-number-init c = grind (arith, append-nil, (data_none c.args.bytes.now))

pub returns-then-is_err-clause-unchanged : goal.returns-then-is_err-clause-unchanged
returns-then-is_err-clause-unchanged c =
    grind (arith, (cut_again c.args.out.now.items (stream_of packets (data_packets c.loop-number.number c.args.bytes.now)) c.write_packet.new.out.items c.truncate.new.self.items))

pub loop-number-preserved : goal.loop-number-preserved
loop-number-preserved c = grind (
  arith,
  (data_written c.args.bytes.now c.args.out.now.items c.loop-number.out.items c.write_packet.new.out.items (drop (c.loop-number.number * 4096) c.args.bytes.now) c.loop-number.number),
)

pub returns-clause-written : goal.returns-clause-written
returns-clause-written c = grind (arith, (all_written c.args.bytes.now c.args.out.now.items c.loop-number.out.items c.loop-number.number))
