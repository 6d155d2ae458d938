use Rattle.sam_rasp.proofs.Common.{arith, cells}
use Rattle.sam_rasp.proofs.Rows.{incoming-some, some-set}
use Rattle.sam_rasp.specs.Rows.{incoming_cells}
use Rattle.sam_rasp.proofs.SectionLists.{at-index, set-whole}
use Rattle.sam_rasp.proofs.section.list.put_apart.Goals as goal

pub returns-then-end-at-clause-ok : goal.returns-then-end-at-clause-ok
returns-then-end-at-clause-ok c =
    let xs = c.args.sections.now.items in
    let x = c.index.result.now in
    let m = incoming_cells c.args.incoming in
    grind (arith, (at-index xs c.args.index x), (set-whole xs c.args.index x c.in_ok-section.section c.args.at c.args.end m))

pub returns-then-end-at-clause-some : goal.returns-then-end-at-clause-some
returns-then-end-at-clause-some c = grind (arith, (incoming-some c.args.incoming), (some-set cells c.args.sections.now.items c.args.index c.in_ok-section.section))
