use Rattle.sam_text.proofs.Common.{◌≡◌, length, false, quoted}
use Rattle.sam_text.proofs.LineSteps.{with_front}
use Rattle.sam_text.proofs.reading.push_quoted.Given as goal

abbrev pub invariant-loop-c : goal.invariant-loop-c
invariant-loop-c l = with_front l.runes.items (quoted l.plain false l.rest) ≡ quoted l.plain false l.line

abbrev pub decreases-loop-c : goal.decreases-loop-c
decreases-loop-c l = length l.rest
