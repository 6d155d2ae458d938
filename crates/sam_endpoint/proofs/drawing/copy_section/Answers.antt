use Rattle.sam_endpoint.proofs.Common.{rules, arith, ◌∙◌, refl, length-set, length-cells, cells}
use Rattle.sam_endpoint.proofs.Members.{one-more}
use Rattle.sam_endpoint.proofs.drawing.copy_section.Goals as goal

pub loop-next-preserved : goal.loop-next-preserved
loop-next-preserved c =
    let i = c.loop-next.invariant in
    let size = length-cells c.args.section.now in
    let least = c.min-count.ensures in
    record {
      size = length-set _ _ _ ∙ i.size;
      now =
          one-more (cells c.args.section.now) c.args.place c.args.at c.loop-next.next c.drawn.result c.get.result c.args.into.now c.loop-next.into _
          (search (rules, arith)) (search (rules, arith)) c.get.ensures (search rules) i.now refl;
    }
