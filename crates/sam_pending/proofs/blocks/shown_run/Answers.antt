use Rattle.std.proofs.Common.{◌∙◌, arith}
use Rattle.sam_pending.specs.Layers.{most_kept}
use Rattle.sam_pending.proofs.MarkLaws.{before, none_past, spot_behind, within_behind}
use Rattle.sam_pending.proofs.blocks.shown_run.Goals as goal

pub overflow_sub-place : goal.overflow_sub-place
overflow_sub-place c = omega (arith, (none_past c.pass-start.ensures.passes).0, (none_past c.pass-start.ensures.passes).2)

pub shown_run_in-requires-clause-within : goal.shown_run_in-requires-clause-within
shown_run_in-requires-clause-within c = within_behind most_kept c.as_slice.result.now c.as_slice.ensures c.pass-start.ensures.passes c.requires.within

pub shown_run_in-requires-clause-held : goal.shown_run_in-requires-clause-held
shown_run_in-requires-clause-held c = omega (arith, (before c.as_slice.result.now c.as_slice.ensures c.pass-start.ensures.passes).rasp_fits, c.requires.fits)

pub returns : goal.returns
returns c = c.shown_run_in.ensures ∙ spot_behind c.as_slice.result.now c.as_slice.ensures c.pass-start.ensures.passes
