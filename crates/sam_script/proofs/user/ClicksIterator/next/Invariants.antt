use Rattle.sam_script.proofs.Common.{◌≡◌, length, mouse_of}
use Rattle.sam_script.proofs.user.ClicksIterator.next.Given as goal

abbrev pub invariant-loop-numbered : goal.invariant-loop-numbered
invariant-loop-numbered l = mouse_of l.self-inside.lines.now ≡ l.fn.self

abbrev pub decreases-loop-numbered : goal.decreases-loop-numbered
decreases-loop-numbered l = length l.self-inside.lines.now
