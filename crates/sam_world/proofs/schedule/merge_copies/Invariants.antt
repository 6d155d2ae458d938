use Rattle.sam_world.proofs.Common.{◌≡◌, ◌≤◌, ◌++◌, drop, length, merged, merged_from, vec_capacity}
use Rattle.sam_world.proofs.schedule.merge_copies.Given as goal

abbrev pub invariant-loop-entry : goal.invariant-loop-entry
invariant-loop-entry l = record {
  events : l.events.items ++ merged_from l.done (drop l.entry-index l.log) l.host_taken ≡ merged l.log l.host_taken;
  room : length (merged l.log l.host_taken) ≤ vec_capacity l.events;
}
