use Rattle.sam_rasp.proofs.Common.{arith, ◌+◌}
use Rattle.sam_rasp.proofs.SectionLists.{at-index, part-at, taken-more}
use Rattle.sam_rasp.proofs.section.list.put.Goals as goal

pub returns-then-branch-clause-ok : goal.returns-then-branch-clause-ok
returns-then-branch-clause-ok c =
    let xs = c.args.sections.now.items in
    let x = c.index-section.result.now in
    grind (
      arith,
      (at-index xs c.args.index x),
      (part-at xs c.args.index x c.args.at c.args.end),
    )

pub take_in-requires-then-index-len-clause-within : goal.take_in-requires-then-index-len-clause-within
take_in-requires-then-index-len-clause-within c = grind (arith, (taken-more c.take_in.new.sections.items (c.args.index + 1)))

pub returns-then-branch-2-clause-ok : goal.returns-then-branch-2-clause-ok
returns-then-branch-2-clause-ok c =
    let xs = c.args.sections.now.items in
    let x = c.index-section.result.now in
    grind (
      arith,
      (at-index xs c.args.index x),
      (part-at xs c.args.index x c.args.at c.args.end),
    )

pub returns-clause-ok : goal.returns-clause-ok
returns-clause-ok c =
    let xs = c.args.sections.now.items in
    let x = c.index-section.result.now in
    grind (
      arith,
      (at-index xs c.args.index x),
      (part-at xs c.args.index x c.args.at c.args.end),
    )
