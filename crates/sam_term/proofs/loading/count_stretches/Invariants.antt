use Rattle.sam_term.proofs.Common.{◌≡◌, ◌+◌, ◌-◌, ◌≤◌, length, most_requests, stretches}
use Rattle.sam_term.proofs.loading.count_stretches.Given as goal

abbrev pub invariant-loop-count : goal.invariant-loop-count
invariant-loop-count l =
    record {
      within : l.place ≤ l.q;
      count : l.count + length (stretches l.rasp l.place l.q (most_requests - l.count)) ≡ length (stretches l.rasp l.p l.q most_requests);
    }
