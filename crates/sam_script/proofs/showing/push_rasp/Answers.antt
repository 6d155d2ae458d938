use Rattle.sam_script.proofs.Common.{arith, string_bytes}
use Rattle.sam_rasp.proofs.Readings.{rest_at}
use Rattle.sam_script.proofs.ShowLaws.{shown_on}
use Rattle.sam_script.proofs.showing.push_rasp.Goals as goal

pub loop-section-preserved : goal.loop-section-preserved
loop-section-preserved c =
    let s = c.in-Some.ensures.section in
    let x = c.in-Some.section.now in
    let r = c.args.rasp.now in
    let rest = rest_at r x c.in-Some.start c.loop-section.at s.0 s.1 s.2 in
    let shown =
    shown_on (string_bytes c.args.out.now) (string_bytes c.loop-section.out) (string_bytes c.push_section.new.out)
    r x c.in-Some.start c.loop-section.at s.0 s.1 s.2 c.loop-section.invariant.0 c.in_ok-push_section.ensures in
    (rw c.len.ensures.len shown, omega (arith, c.len.ensures.len, rest.1))
