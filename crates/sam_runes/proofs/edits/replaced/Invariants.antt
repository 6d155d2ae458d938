use Rattle.sam_runes.proofs.Common.{◌≡◌, ◌++◌, drop, length, AscendFrom, replaced_from, replace}
use Rattle.sam_runes.proofs.edits.replaced.Given as goal

abbrev pub invariant-loop-edit : goal.invariant-loop-edit
invariant-loop-edit l = AscendFrom l.at (length l.runes) (drop l.edit-index l.edits) × (l.new.items ++ replaced_from l.at l.runes (drop l.edit-index l.edits) ≡ replace l.runes l.edits)
