use Rattle.sam_rasp.proofs.Common.{arith}
use Rattle.sam_rasp.proofs.Changes.{length-del}
use Rattle.sam_rasp.proofs.Rows.{at-index, part-at, set-del, some-set}
use Rattle.sam_rasp.proofs.Tallies.{gone-tally}
use Rattle.sam_rasp.proofs.row.list.cut_in.Goals as goal

pub minus-requires : goal.minus-requires
minus-requires g c =
    let f = g.P.Part.members in
    (gone-tally (f c.index_mut-part.result.now) (f c.cut.new.self) c.tally-before.result c.tally.result c.args.at c.args.end (grind arith) (grind arith) (grind arith)
    (grind arith)).0

pub returns-clause-members : goal.returns-clause-members
returns-clause-members g c =
    let f = g.P.Part.members in
    let xs = c.args.parts.now.items in
    let x = c.index_mut-part.result.now in
    grind (arith, (at-index f xs c.args.index x), (set-del f xs c.args.index x c.cut.new.self c.args.at c.args.end))

pub returns-clause-went : goal.returns-clause-went
returns-clause-went g c =
    let f = g.P.Part.members in
    let xs = c.args.parts.now.items in
    let x = c.index_mut-part.result.now in
    let gone = gone-tally (f x) (f c.cut.new.self) c.tally-before.result c.tally.result c.args.at c.args.end (grind arith) (grind arith) (grind arith) (grind arith) in
    grind (arith, gone, (at-index f xs c.args.index x), (part-at f xs c.args.index x c.args.at c.args.end))

pub returns-clause-some : goal.returns-clause-some
returns-clause-some g c =
    let f = g.P.Part.members in
    let xs = c.args.parts.now.items in
    let x = c.index_mut-part.result.now in
    grind (
      arith,
      (at-index f xs c.args.index x),
      (length-del (f x) c.args.at c.args.end),
      (some-set f xs c.args.index c.cut.new.self),
    )
