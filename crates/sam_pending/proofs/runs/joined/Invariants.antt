use Rattle.std.proofs.Common.{◌++◌, ◌∷◌, drop}
use Rattle.sam_pending.specs.Runs.{IsSame}
use Rattle.sam_pending.proofs.runs.joined.Given as goal

abbrev pub invariant-loop-run : goal.invariant-loop-run
invariant-loop-run l = IsSame (l.after.items ++ l.last ∷ drop l.run-index l.runs) l.runs
