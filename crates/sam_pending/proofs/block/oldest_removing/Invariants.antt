use Rattle.std.proofs.Common.{◌≡◌, drop}
use Rattle.sam_pending.specs.Blocks.{older, oldest_removing}
use Rattle.sam_pending.proofs.block.oldest_removing.Given as goal

abbrev pub invariant-loop-run : goal.invariant-loop-run
invariant-loop-run l = older l.oldest (oldest_removing (drop l.run-index l.runs)) ≡ oldest_removing l.runs
