use Rattle.sam_rasp.proofs.Common.{arith}
use Rattle.sam_rasp.specs.Rows.{members_of}
use Rattle.sam_rasp.proofs.Rows.{length-first}
use Rattle.sam_rasp.proofs.Tallies.{counted, reached-inside, reached-within}
use Rattle.sam_rasp.proofs.row.reading.reached.Goals as goal

pub returns-then-taken-left-clause-count : goal.returns-then-taken-left-clause-count
returns-then-taken-left-clause-count g c =
    let f = g.P.Part.members in
    let first = f c.in-Some.first.now in
    let m = c.args.measure in
    let taken = counted m first c.tally.result (grind arith) in
    grind (arith, taken, (reached-inside m first (members_of f c.in-Some.others.now) c.loop-first.left))

pub loop-first-preserved : goal.loop-first-preserved
loop-first-preserved g c =
    let f = g.P.Part.members in
    let first = f c.in-Some.first.now in
    let others = c.in-Some.others.now in
    let m = c.args.measure in
    let taken = counted m first c.tally.result (grind arith) in (
      grind (arith, taken, (reached-within m first (members_of f others) c.loop-first.left)),
      grind (arith, length-first f c.in-Some.first.now others),
    )
