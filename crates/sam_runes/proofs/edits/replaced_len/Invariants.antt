use Rattle.sam_runes.proofs.Common.{◌≡◌, ◌≤◌, ◌+◌, drop, length, AscendFrom, replaced_from, replace}
use Rattle.sam_runes.proofs.edits.replaced_len.Given as goal

abbrev pub invariant-loop-edit : goal.invariant-loop-edit
invariant-loop-edit l =
    AscendFrom l.behind (length l.runes) (drop l.edit-index l.edits) × (l.total ≤ l.limit)
    × (l.total + length (replaced_from l.behind l.runes (drop l.edit-index l.edits)) ≡ length (replace l.runes l.edits))
