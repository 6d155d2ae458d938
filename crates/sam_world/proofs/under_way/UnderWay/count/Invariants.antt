use Rattle.sam_world.proofs.Common.{◌≡◌, ◌+◌, ◌≤◌, drop, length, map, min, joined}
use Rattle.sam_world.proofs.under_way.UnderWay.count.Given as goal

abbrev pub invariant-loop-at : goal.invariant-loop-at
invariant-loop-at g l =
    (min (l.count + length (joined (map (λ b. b.items) (drop l.at l.self-inside.rest.items)))) 18446744073709551615
    ≡ min (length l.self.messages) 18446744073709551615)
    × (l.count ≤ 18446744073709551615)
