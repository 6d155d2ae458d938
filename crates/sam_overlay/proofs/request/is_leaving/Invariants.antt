use Rattle.std.proofs.Common.{◌≡◌, drop}
use Rattle.sam_overlay.specs.Requests.{is_leaving}
use Rattle.sam_overlay.proofs.request.is_leaving.Given as goal

abbrev pub invariant-loop-request : goal.invariant-loop-request
invariant-loop-request l = is_leaving (drop l.request-index l.requests) ≡ is_leaving l.requests
