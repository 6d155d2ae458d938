use Rattle.std.proofs.Common.{◌≡◌, drop}
use Rattle.sam_pending.specs.Blocks.{older, oldest_inserting}
use Rattle.sam_pending.proofs.block.oldest_inserting.Given as goal

abbrev pub invariant-loop-run : goal.invariant-loop-run
invariant-loop-run l = older l.oldest (oldest_inserting (drop l.run-index l.runs)) ≡ oldest_inserting l.runs
