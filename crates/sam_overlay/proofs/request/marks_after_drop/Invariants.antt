use Rattle.std.proofs.Common.{◌≡◌, ◌++◌, drop, map}
use Rattle.sam_overlay.specs.Marks.{marks_after_drop}
use Rattle.sam_overlay.proofs.request.marks_after_drop.Given as goal

abbrev pub invariant-loop-request : goal.invariant-loop-request
invariant-loop-request l =
    let after = marks_after_drop l.up_to l.overlay l.tag in
    l.marks.items ++ map after (drop l.request-index l.requests) ≡ map after l.requests
