use Rattle.std.proofs.Common.{◌≡◌, ◌+◌, ◌≤◌, drop}
use Rattle.sam_pending.specs.Runs.{place_in, rooms, waits}
use Rattle.sam_pending.proofs.places.place_in_runs.Given as goal

abbrev pub invariant-loop-run : goal.invariant-loop-run
invariant-loop-run l =
    (l.before + place_in l.group l.left (drop l.run-index l.runs) ≡ place_in l.group l.place l.runs)
    × (l.before + (rooms (drop l.run-index l.runs) + waits (drop l.run-index l.runs)) ≤ rooms l.runs + waits l.runs)
