use Rattle.sam_text.proofs.Common.{◌≡◌, ◌≤◌, length, plain_slots, rooms}
use Rattle.sam_text.proofs.ViewLaws.{announced_behind}
use Rattle.sam_text.proofs.files.announce_in.Given as goal

abbrev pub invariant-loop-i : goal.invariant-loop-i
invariant-loop-i l =
    (plain_slots l.slots.items ≡ announced_behind l.i (plain_slots l.initial.slots.items))
    × (length l.slots.items ≡ length l.initial.slots.items)
    × (l.i ≤ length l.slots.items)
    × (l.first ≤ l.i)
    × (rooms l.slots.items ≡ rooms l.initial.slots.items)

abbrev pub decreases-loop-i : goal.decreases-loop-i
decreases-loop-i l = l.i
