use Rattle.sam_script.proofs.Common.{◌≡◌, ◌++◌, take, flat_map, string_bytes, event_line}
use Rattle.sam_script.proofs.lines_of_run.push_events.Given as goal

abbrev pub invariant-loop-event : goal.invariant-loop-event
invariant-loop-event l = string_bytes l.out ≡ string_bytes l.fn.out ++ flat_map event_line (take l.event-index l.events)
