use Rattle.std.proofs.Common.{◌≡◌, ◌≤◌, ◌+◌, ◌-◌, take}
use Rattle.sam_host.specs.Edits.{edits_in}
use Rattle.sam_host.proofs.editing.before_edit.Given as goal

abbrev pub invariant-loop-count : goal.invariant-loop-count
invariant-loop-count l = (l.count ≤ l.most) × (l.left + edits_in (take l.count l.messages.items) ≡ l.index)

abbrev pub decreases-loop-count : goal.decreases-loop-count
decreases-loop-count l = l.most - l.count
