use Rattle.std.proofs.Common.{◌-◌, length}
use Rattle.sam_pending.specs.Blocks.{StandsBehind}
use Rattle.sam_pending.proofs.part.skipped_in.Given as goal

abbrev pub invariant-loop-index : goal.invariant-loop-index
invariant-loop-index l = StandsBehind l.side l.blocks l.place l.index l.left

abbrev pub decreases-loop-index : goal.decreases-loop-index
decreases-loop-index l = length l.blocks - l.index
