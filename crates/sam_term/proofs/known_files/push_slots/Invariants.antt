use Rattle.std.proofs.Common.{◌≡◌, ◌+◌, ◌≤◌, ◌++◌, replicate, None, vec_len, vec_capacity}
use Rattle.sam_term.proofs.known_files.push_slots.Given as goal

abbrev pub invariant-loop : goal.invariant-loop
invariant-loop l =
    record {
      items : l.files.items ≡ l.fn.files.items ++ replicate l.counter None;
      room : vec_len l.files + l.more ≤ vec_capacity l.files + l.counter;
    }
