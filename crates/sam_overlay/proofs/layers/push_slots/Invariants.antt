use Rattle.std.proofs.Common.{◌≡◌, ◌+◌, ◌≤◌, ◌++◌, replicate, None, vec_len, vec_capacity}
use Rattle.sam_overlay.proofs.layers.push_slots.Given as goal

abbrev pub invariant-loop : goal.invariant-loop
invariant-loop l =
    record {
      items : l.slots.items ≡ l.fn.slots.items ++ replicate l.counter None;
      room : vec_len l.slots + l.more ≤ vec_capacity l.slots + l.counter;
    }
