use Rattle.sam_text.proofs.Common.{◌≡◌, drop, has_split}
use Rattle.sam_text.proofs.text_lines.has_split_step.Given as goal

abbrev pub invariant-loop-step : goal.invariant-loop-step
invariant-loop-step l = has_split (drop l.step-index l.steps) ≡ has_split l.steps
