use Rattle.sam_world.proofs.Common.{◌≡◌, drop, is_bad_log}
use Rattle.sam_world.proofs.schedule.is_bad.Given as goal

abbrev pub invariant-loop-entry : goal.invariant-loop-entry
invariant-loop-entry l = is_bad_log (drop l.entry-index l.log) l.host_taken ≡ is_bad_log l.log l.host_taken
