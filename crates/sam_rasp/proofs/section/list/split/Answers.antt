use Rattle.sam_rasp.proofs.Common.{arith, cells, length-take, length-drop}
use Rattle.sam_rasp.proofs.SectionLaws.{length-cells}
use Rattle.sam_rasp.proofs.SectionLists.{at-index, split-cells}
use Rattle.sam_rasp.proofs.Rows.{some-set}
use Rattle.sam_rasp.proofs.section.list.split.Goals as goal

pub insert-requires-clause-some : goal.insert-requires-clause-some
insert-requires-clause-some c =
    let xs = c.args.sections.now.items in
    let x = c.index_mut.result.now in
    let y = c.split.new.self in
    grind (
      arith,
      (at-index xs c.args.index x),
      (length-cells x),
      (length-take c.args.at (cells x)),
      (length-drop c.args.at (cells x)),
      (some-set cells xs c.args.index y),
    )

pub returns-clause-cells : goal.returns-clause-cells
returns-clause-cells c =
    let xs = c.args.sections.now.items in
    let x = c.index_mut.result.now in
    grind (arith, (at-index xs c.args.index x), (split-cells xs c.args.index x c.split.new.self c.in_ok-back.back c.args.at))
