use Rattle.std.proofs.Common.{◌≡◌, ◌++◌, ◌+◌, length, drop}
use Rattle.sam_pending.specs.Runs.{kept_text, kept_runs, waits, Within}
use Rattle.sam_pending.proofs.runs.kept.Given as goal

abbrev pub invariant-loop-run : goal.invariant-loop-run
invariant-loop-run l =
    (l.kept.items ++ kept_text l.text (drop l.run-index l.runs) ≡ kept_text l.text l.runs)
    × (l.after.items ++ kept_runs (length l.kept.items) (drop l.run-index l.runs) ≡ kept_runs 0 l.runs)
    × (length l.kept.items + waits (drop l.run-index l.runs) ≡ waits l.runs)
    × Within (length l.text) (drop l.run-index l.runs)
