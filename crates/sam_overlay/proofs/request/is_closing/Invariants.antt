use Rattle.std.proofs.Common.{◌≡◌, drop}
use Rattle.sam_overlay.specs.Requests.{is_closing}
use Rattle.sam_overlay.proofs.request.is_closing.Given as goal

abbrev pub invariant-loop-request : goal.invariant-loop-request
invariant-loop-request l = is_closing (drop l.request-index l.requests) l.tag ≡ is_closing l.requests l.tag
