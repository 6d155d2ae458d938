use Rattle.std.proofs.Common.{◌∙◌, arith}
use Rattle.sam_pending.proofs.MarkLaws.{before, first_behind}
use Rattle.sam_pending.proofs.blocks.first_due.Goals as goal

pub first_due_in-requires : goal.first_due_in-requires
first_due_in-requires c = omega (arith, (before c.as_slice.result.now c.as_slice.ensures c.pass-start.ensures.passes).rasp_fits, c.requires)

pub returns : goal.returns
returns c = c.first_due_in.ensures ∙ first_behind c.as_slice.result.now c.as_slice.ensures c.pass-start.ensures.passes
