use Rattle.sam_rasp.proofs.Common.{arith, cells}
use Rattle.sam_rasp.proofs.Changes.{length-del}
use Rattle.sam_rasp.proofs.SectionLaws.{length-cells}
use Rattle.sam_rasp.proofs.SectionLists.{at-index, end-set}
use Rattle.sam_rasp.proofs.Rows.{set-del, some-set}
use Rattle.sam_rasp.proofs.section.list.cut_in.Goals as goal

pub returns-clause-cells : goal.returns-clause-cells
returns-clause-cells c =
    let xs = c.args.sections.now.items in
    let x = c.index_mut.result.now in
    grind (arith, (length-cells x), (at-index xs c.args.index x), (set-del cells xs c.args.index x c.cut.new.self c.args.at c.args.end))

pub returns-clause-some : goal.returns-clause-some
returns-clause-some c =
    let xs = c.args.sections.now.items in
    let x = c.index_mut.result.now in
    grind (
      arith,
      (length-cells x),
      (at-index xs c.args.index x),
      (length-del (cells x) c.args.at c.args.end),
      (some-set cells xs c.args.index c.cut.new.self),
    )

pub returns-clause-end : goal.returns-clause-end
returns-clause-end c =
    let xs = c.args.sections.now.items in
    let x = c.index_mut.result.now in
    let y = c.cut.new.self in
    grind (
      arith,
      (length-cells x),
      (length-cells y),
      (at-index xs c.args.index x),
      (length-del (cells x) c.args.at c.args.end),
      (end-set xs c.args.index y),
    )
