use Rattle.std.proofs.Common.{◌+◌, ◌-◌, ◌≡◌, ◌∙◌, ◌++◌, take, drop, ap, arith}
use Rattle.sam_runes.proofs.GapSteps.{gap_over}
use Rattle.sam_runes.proofs.gap_buffer.widen_gap.Goals as goal

pub returns-clause-text : goal.returns-clause-text
returns-clause-text c =
    let m = c.move_gap.new.items in
    let gap = c.args.end - c.args.start in
    let end : c.args.p + gap + c.args.n ≡ c.args.p + c.args.n + gap = omega arith in
    ap (λ k. take c.args.p m ++ drop k m) end
    ∙ gap_over _ m c.args.p (c.args.p + c.args.n) gap (omega arith) (omega (arith, c.requires.place, c.move_gap.ensures.len)) c.move_gap.ensures.text
