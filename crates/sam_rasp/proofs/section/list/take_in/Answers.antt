use Rattle.sam_rasp.proofs.Common.{arith, cells, ◌+◌}
use Rattle.sam_rasp.proofs.Rows.{some-at, some-set, taken-short}
use Rattle.sam_rasp.proofs.SectionLaws.{length-cells}
use Rattle.sam_rasp.proofs.SectionLists.{at-index, set-put}
use Rattle.sam_rasp.specs.Rows.{incoming_cells}
use Rattle.sam_rasp.proofs.section.list.take_in.Goals as goal

pub take_in-requires-clause-limit : goal.take_in-requires-clause-limit
take_in-requires-clause-limit c =
    let xs = c.args.sections.now.items in
    grind (arith, (at-index xs c.args.index c.index_mut.result.now), (taken-short cells xs (c.args.index + 1)))

pub returns-clause-done : goal.returns-clause-done
returns-clause-done c q =
    let xs = c.args.sections.now.items in
    let x = c.index_mut.result.now in
    grind (arith, q, (at-index xs c.args.index x), (set-put xs c.args.index x c.take_in.new.self c.args.at c.args.end (incoming_cells c.args.incoming)))

pub take_in-requires-clause-some : goal.take_in-requires-clause-some
take_in-requires-clause-some c =
    let x = c.index_mut.result.now in
    grind (arith, (length-cells x), (some-at cells c.args.sections.now.items c.args.index x))

pub returns-clause-some : goal.returns-clause-some
returns-clause-some c =
    let y = c.take_in.new.self in
    grind (arith, (length-cells y), (some-set cells c.args.sections.now.items c.args.index y))
