use Rattle.sam_term.proofs.Common.{◌≡◌, ◌++◌, ◌-◌, ◌≤◌, length, most_requests, requests_for, stretches}
use Rattle.sam_term.proofs.loading.put_stretches.Given as goal

abbrev pub invariant-loop : goal.invariant-loop
invariant-loop l =
    record {
      within : l.place ≤ l.range.1;
      messages : l.out.messages ++ requests_for l.tag (stretches l.rasp l.place l.range.1 (most_requests - l.counter))
          ≡ l.fn.out.messages ++ requests_for l.tag (stretches l.rasp l.range.0 l.range.1 most_requests);
      room : length (stretches l.rasp l.place l.range.1 (most_requests - l.counter)) ≤ l.out.room;
    }
