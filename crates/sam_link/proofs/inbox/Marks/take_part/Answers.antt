use Rattle.std.proofs.Common.{arith}
use Rattle.sam_link.proofs.Inboxes.{part_taken}
use Rattle.sam_link.proofs.inbox.Marks.take_part.Goals as goal

pub returns-clause-rest : goal.returns-clause-rest
returns-clause-rest c =
    part_taken c.args.bytes.now c.args.self.now.gone c.args.self.now.next c.args.self.now.whole c.args.self.now.count c.min-count.result (omega (arith, c.min-count.ensures))
