use Rattle.std.proofs.Common.{◌≡◌, drop}
use Rattle.sam_front.specs.Runs.{has_newline}
use Rattle.sam_front.proofs.runs.has_newline.Given as goal

abbrev pub invariant-loop-rune : goal.invariant-loop-rune
invariant-loop-rune l = has_newline (drop l.rune-index l.runes) ≡ has_newline l.runes
