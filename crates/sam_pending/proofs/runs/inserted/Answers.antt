use Rattle.std.proofs.Common.{◌≡◌, ap, ◌∙◌, arith}
use Rattle.sam_pending.specs.Runs.{front, above}
use Rattle.sam_pending.specs.declared.run.Side.TheVariants.{Below}
use Rattle.sam_pending.proofs.JoinLaws.{above-split}
use Rattle.sam_pending.proofs.runs.inserted.Goals as goal

pub shown_len-place-requires : goal.shown_len-place-requires
shown_len-place-requires c =
    let f : above c.as_slice.result.now ≡ above (front Below c.args.p c.args.runs.now) = ap above (c.as_slice.ensures.value ∙ c.in_ok-before.ensures.0) in
    omega (arith, f, above-split Below c.args.p c.args.runs.now, c.requires.shown)
