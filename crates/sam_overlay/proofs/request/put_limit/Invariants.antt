use Rattle.std.proofs.Common.{◌≡◌, drop}
use Rattle.sam_overlay.specs.Requests.{put_limit}
use Rattle.sam_overlay.proofs.request.put_limit.Given as goal

abbrev pub invariant-loop-request : goal.invariant-loop-request
invariant-loop-request l = put_limit (drop l.request-index l.requests) l.tag ≡ put_limit l.requests l.tag
