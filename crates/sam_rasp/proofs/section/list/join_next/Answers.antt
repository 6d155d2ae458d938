use Rattle.sam_rasp.proofs.Common.{arith, set, ◌++◌}
use Rattle.sam_rasp.proofs.SectionLists.{length-pair, pair-joined, pair-size, written}
use Rattle.sam_rasp.proofs.section.list.join_next.Goals as goal

pub absorb-requires : goal.absorb-requires
absorb-requires c = grind (arith, (pair-size c.args.sections.now.items c.args.index c.index-front-index.result c.index-back-0.result))

pub returns-then-absorb-clause-cells : goal.returns-then-absorb-clause-cells
returns-then-absorb-clause-cells c =
    let xs = c.args.sections.now.items in
    let now = set c.split_at_mut-front.result.0.now c.args.index c.absorb.new.self ++ c.split_at_mut-front.result.1.now in
    grind (
      arith,
      (length-pair xs c.args.index c.absorb.new.self),
      (written xs now c.args.sections.now.len),
      (pair-joined xs c.args.index c.index-front-index.result c.index-back-0.result c.absorb.new.self),
    )

pub returns-then-absorb-clause-some : goal.returns-then-absorb-clause-some
returns-then-absorb-clause-some c =
    let xs = c.args.sections.now.items in
    let now = set c.split_at_mut-front.result.0.now c.args.index c.absorb.new.self ++ c.split_at_mut-front.result.1.now in
    grind (
      arith,
      (length-pair xs c.args.index c.absorb.new.self),
      (written xs now c.args.sections.now.len),
      (pair-joined xs c.args.index c.index-front-index.result c.index-back-0.result c.absorb.new.self),
    )
