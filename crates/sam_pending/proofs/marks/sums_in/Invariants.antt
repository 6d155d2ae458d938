use Rattle.std.proofs.Common.{◌≡◌, take}
use Rattle.sam_pending.specs.Blocks.{flat}
use Rattle.sam_pending.specs.Marks.{sums_of}
use Rattle.sam_pending.proofs.marks.sums_in.Given as goal

abbrev pub invariant-loop-block : goal.invariant-loop-block
invariant-loop-block l = l.sums ≡ sums_of (flat (take l.block-index l.blocks))
