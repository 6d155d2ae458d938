use Rattle.sam_world.proofs.Common.{◌≡◌, ◌≤◌, ◌++◌, length, merged, merged_from, into_iter_items, vec_capacity}
use Rattle.sam_world.proofs.schedule.merge_within.Given as goal

abbrev pub invariant-loop-entry : goal.invariant-loop-entry
invariant-loop-entry l = record {
  events : l.events.items ++ merged_from l.done (into_iter_items l.entry-iterator) l.host_taken ≡ merged l.fn.log.items l.host_taken;
  room : length (merged l.fn.log.items l.host_taken) ≤ vec_capacity l.events;
}
