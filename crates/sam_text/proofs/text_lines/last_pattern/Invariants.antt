use Rattle.sam_text.proofs.Common.{◌≡◌, drop, option_map, later, steps_pattern}
use Rattle.sam_text.proofs.text_lines.last_pattern.Given as goal

abbrev pub invariant-loop-step : goal.invariant-loop-step
invariant-loop-step l =
    later (option_map (λ p. p.now) l.found) (steps_pattern (drop l.step-index l.steps)) ≡ later (option_map (λ p. p.now) l.initial.found) (steps_pattern l.steps)
