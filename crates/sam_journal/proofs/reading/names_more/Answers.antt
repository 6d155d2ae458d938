use Rattle.std.proofs.Common.{arith}
use Rattle.sam_journal.proofs.Readings.{named, names_not, names_there, not_below_more, not_named}
use Rattle.sam_journal.proofs.reading.names_more.Goals as goal

pub returns-then-names_more_at : goal.returns-then-names_more_at
returns-then-names_more_at c =
    named c.args.random c.loop-place.place c.args.end c.args.bytes.now
    (names_there c.args.random c.loop-place.place c.args.end c.args.bytes.now c.names_more_at.result c.if-names_more_at.true c.names_more_at.ensures)

pub loop-place-preserved : goal.loop-place-preserved
loop-place-preserved c =
    not_below_more c.args.random c.loop-place.place c.args.end c.args.bytes.now c.loop-place.invariant
    (names_not c.args.random c.loop-place.place c.args.end c.args.bytes.now c.names_more_at.result c.if-names_more_at.false c.names_more_at.ensures)

pub returns : goal.returns
returns c = not_named c.args.random c.loop-place.place c.args.end c.args.bytes.now (omega arith) c.loop-place.invariant
