use Rattle.sam_rasp.proofs.Common.{arith}
use Rattle.sam_rasp.specs.Rows.{members_of}
use Rattle.sam_rasp.proofs.Rows.{length-first}
use Rattle.sam_rasp.proofs.Runs.{from-ends, from-goes-on}
use Rattle.sam_rasp.proofs.row.reading.sort_from.Goals as goal

pub returns-then-at-more-clause-count : goal.returns-then-at-more-clause-count
returns-then-at-more-clause-count g c =
    let f = g.P.Part.members in
    grind (arith, (from-ends c.args.loaded (f c.in-Some.first.now) (members_of f c.in-Some.others.now) c.loop-first.at))

pub loop-first-preserved : goal.loop-first-preserved
loop-first-preserved g c =
    let f = g.P.Part.members in
    let first = c.in-Some.first.now in
    let others = c.in-Some.others.now in
    (grind (arith, (from-goes-on c.args.loaded (f first) (members_of f others) c.loop-first.at)), grind (arith, length-first f first others))
