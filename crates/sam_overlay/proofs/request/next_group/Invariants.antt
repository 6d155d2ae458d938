use Rattle.std.proofs.Common.{◌≡◌, drop}
use Rattle.std.specs.Prelude.{max}
use Rattle.sam_overlay.specs.Requests.{AreAsked, next_group}
use Rattle.sam_overlay.proofs.request.next_group.Given as goal

abbrev pub invariant-loop-request : goal.invariant-loop-request
invariant-loop-request l =
    (max l.group (next_group (drop l.request-index l.requests)) ≡ next_group l.requests) × AreAsked (drop l.request-index l.requests)
