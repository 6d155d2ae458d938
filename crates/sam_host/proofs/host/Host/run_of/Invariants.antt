use Rattle.sam_host.proofs.Common.{◌≤◌, ◌<◌, ◌+◌, ◌-◌, length, take}
use Rattle.std.proofs.Common.{◌^◌}
use Rattle.sam_host.specs.Edits.{Tells}
use Rattle.sam_host.proofs.host.Host.run_of.Given as goal

abbrev pub invariant-loop-entry : goal.invariant-loop-entry
invariant-loop-entry l =
    (l.count ≤ length l.messages.items) × (l.self.taken + l.count < 2 ^ 64)
    × Tells l.self.files l.tag l.self.taken (take l.count l.messages.items) l.changes.items l.frames.items

abbrev pub decreases-loop-entry : goal.decreases-loop-entry
decreases-loop-entry l = length l.messages.items - l.count
