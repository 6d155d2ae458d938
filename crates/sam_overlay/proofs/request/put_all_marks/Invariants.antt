use Rattle.std.proofs.Common.{◌≡◌, take}
use Rattle.sam_overlay.specs.Marks.{marked}
use Rattle.sam_overlay.proofs.request.put_all_marks.Given as goal

abbrev pub invariant-loop-index : goal.invariant-loop-index
invariant-loop-index l = l.requests.items ≡ marked (take l.index l.marks) l.fn.requests.items
