use Rattle.std.proofs.Common.{arith}
use Rattle.sam_journal.proofs.Readings.{other_number}
use Rattle.sam_journal.proofs.reading.next_record.Goals as goal

pub returns-in_default : goal.returns-in_default
returns-in_default c =
    (omega arith, other_number c.args.random c.args.place c.args.number c.args.bytes.now c.in-Some.found c.in-Some.ensures c.if-found-number.false)
