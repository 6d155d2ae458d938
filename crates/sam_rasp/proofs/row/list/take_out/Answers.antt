use Rattle.sam_rasp.proofs.Common.{arith}
use Rattle.sam_rasp.proofs.Rows.{at-index, part-whole, remove-del}
use Rattle.sam_rasp.proofs.row.list.take_out.Goals as goal

pub returns-then-end-at-clause-members : goal.returns-then-end-at-clause-members
returns-then-end-at-clause-members g c =
    let f = g.P.Part.members in
    let xs = c.args.parts.now.items in
    let x = c.index-part.result.now in
    grind (arith, (at-index f xs c.args.index x), (remove-del f xs c.args.index x c.args.at c.args.end))

pub returns-then-end-at-clause-went : goal.returns-then-end-at-clause-went
returns-then-end-at-clause-went g c =
    let f = g.P.Part.members in
    let xs = c.args.parts.now.items in
    let x = c.index-part.result.now in
    grind (arith, (at-index f xs c.args.index x), (part-whole f xs c.args.index x c.tally-all.result c.args.at c.args.end))
