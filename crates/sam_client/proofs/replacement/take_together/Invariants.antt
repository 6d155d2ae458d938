use Rattle.std.proofs.Common.{◌≡◌, ◌+◌, length}
use Rattle.sam_client.specs.Batches.{count_in}
use Rattle.sam_client.proofs.replacement.take_together.Given as goal

abbrev pub invariant-left : goal.invariant-left
invariant-left l = count_in l.replacements + l.rest ≡ l.runes + count_in l.left

abbrev pub decreases-left : goal.decreases-left
decreases-left l = length l.left
