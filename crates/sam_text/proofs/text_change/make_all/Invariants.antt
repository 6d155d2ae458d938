use Rattle.std.proofs.Common.{length, ◌-◌, ◌≡◌, ◌≤◌, take}
use Rattle.sam_text.specs.Changes.{after_changes, last_dot, AllowsAll}
use Rattle.sam_text.proofs.text_change.make_all.Given as goal

abbrev pub invariant-loop-count : goal.invariant-loop-count
invariant-loop-count l =
    (l.count ≤ length l.changes) × (AllowsAll (take l.count l.changes) l.initial.text)
    × (l.text ≡ after_changes (take l.count l.changes) l.initial.text) × (l.dot ≡ last_dot (take l.count l.changes) l.initial.dot)
    × (l.dot.0 ≤ l.dot.1) × (l.dot.1 ≤ length l.text)

abbrev pub decreases-loop-count : goal.decreases-loop-count
decreases-loop-count l = length l.changes - l.count
