use Rattle.sam_modes.proofs.Common.{◌≡◌, ◌+◌, length, Consumes}
use Rattle.sam_modes.specs.Limits.{most_input}
use Rattle.sam_modes.proofs.input.read_all.Given as goal

abbrev pub invariant-loop-left : goal.invariant-loop-left
invariant-loop-left g l =
    Consumes (g.R.Read.remaining l.fn.reader) (g.R.Read.remaining l.reader) l.bytes.items
    × (length l.bytes.items + l.left ≡ most_input)

abbrev pub decreases-loop-left : goal.decreases-loop-left
decreases-loop-left g l = l.left
