use Rattle.sam_client.proofs.Packets.{taken_in}
use Rattle.sam_client.proofs.packet.Packet.fetch.Goals as goal

pub returns-clause-bytes : goal.returns-clause-bytes
returns-clause-bytes c =
    (taken_in c.args.line.now c.take_in-self-inside.new.self c.self.inside.buffer c.take_in-self-inside.new.into c.take_in-self-inside.result
    c.self.invariant.0 c.take_in-self-inside.ensures).0

pub returns-clause-line : goal.returns-clause-line
returns-clause-line c =
    (taken_in c.args.line.now c.take_in-self-inside.new.self c.self.inside.buffer c.take_in-self-inside.new.into c.take_in-self-inside.result
    c.self.invariant.0 c.take_in-self-inside.ensures).1
