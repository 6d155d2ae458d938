use Rattle.std.proofs.Common.{◌≡◌, ◌++◌, drop, map, take}
use Rattle.sam_front.specs.Runs.{run_after}
use Rattle.sam_front.proofs.runs.note_step.Given as goal

abbrev pub invariant-loop-place : goal.invariant-loop-place
invariant-loop-place l =
    l.runs.items ≡ map (run_after l.request l.len l.is_locked) (take l.place l.fn.runs.items) ++ drop l.place l.fn.runs.items
