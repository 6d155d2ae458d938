use Rattle.sam_endpoint.proofs.Common.{arith, inr}
use Rattle.sam_endpoint.proofs.Members.{shown_more}
use Rattle.sam_rasp.proofs.Readings.{rest_at}
use Rattle.sam_rasp.proofs.SectionLaws.{length-cells}
use Rattle.sam_endpoint.proofs.drawing.read_rasp.Goals as goal

pub loop-count-preserved : goal.loop-count-preserved
loop-count-preserved c =
    let i = c.loop-count.invariant in
    let s = c.in-Some.ensures.section in
    let x = c.in-Some.section.now in
    let got = c.copy_section-copied.ensures in
    let rest = rest_at c.args.rasp.now x c.in-Some.start c.loop-count.at s.0 s.1 s.2 in
    record {
      size = grind arith;
      at_is = omega (arith, i.at_is);
      room = omega (arith, got.count_is, i.size, i.room);
      within = inr (omega (arith, got.count_is, length-cells x, rest.1, s.0, s.1));
      now =
          shown_more c.args.rasp.now x c.in-Some.start c.loop-count.at c.args.place c.loop-count.count c.copy_section-copied.result
          c.args.into.now c.loop-count.into c.copy_section-copied.new.into i.at_is s.0 s.1 s.2 i.room i.size i.now got;
    }
