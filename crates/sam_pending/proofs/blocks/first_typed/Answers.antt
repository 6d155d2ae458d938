use Rattle.std.proofs.Common.{◌∙◌, arith}
use Rattle.sam_pending.specs.Blocks.{flat}
use Rattle.sam_pending.proofs.LayerLaws.{above-most}
use Rattle.sam_pending.proofs.MarkLaws.{before, typed_behind}
use Rattle.sam_pending.proofs.blocks.first_typed.Goals as goal

pub first_typed_in-requires : goal.first_typed_in-requires
first_typed_in-requires c =
    omega (arith, (before c.as_slice.result.now c.as_slice.ensures c.pass-start.ensures.passes).shown_fits, above-most (flat c.args.blocks.now), c.requires)

pub returns : goal.returns
returns c = c.first_typed_in.ensures ∙ typed_behind c.as_slice.result.now c.as_slice.ensures c.pass-start.ensures.passes
