use Rattle.std.proofs.Common.{◌≡◌, drop}
use Rattle.sam_overlay.specs.Requests.{shared_write}
use Rattle.sam_overlay.proofs.QueueLaws.{found_in}
use Rattle.sam_overlay.proofs.request.shared_write.Given as goal

abbrev pub invariant-loop-place : goal.invariant-loop-place
invariant-loop-place l = found_in l.shared l.place (drop l.place l.requests) l.tag l.newest ≡ shared_write l.requests l.tag l.newest
