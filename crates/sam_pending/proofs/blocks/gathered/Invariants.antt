use Rattle.std.proofs.Common.{◌≡◌, ◌++◌, drop}
use Rattle.sam_pending.specs.Blocks.{flat}
use Rattle.sam_pending.proofs.blocks.gathered.Given as goal

abbrev pub invariant-loop-block : goal.invariant-loop-block
invariant-loop-block l = l.all.items ++ flat (drop l.block-index l.blocks) ≡ flat l.blocks
