use Rattle.std.proofs.Common.{◌≡◌, ◌++◌, drop, map}
use Rattle.sam_overlay.specs.Marks.{marks_after}
use Rattle.sam_overlay.specs.Overlays.{first_effect}
use Rattle.sam_overlay.proofs.request.marks_after.Given as goal

abbrev pub invariant-loop-request : goal.invariant-loop-request
invariant-loop-request l =
    let after = marks_after l.overlay (first_effect l.overlay.end.waiting) in
    l.marks.items ++ map after (drop l.request-index l.requests) ≡ map after l.requests
