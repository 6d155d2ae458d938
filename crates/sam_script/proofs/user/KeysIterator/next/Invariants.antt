use Rattle.sam_script.proofs.Common.{◌≡◌, length, keys_of}
use Rattle.sam_script.proofs.user.KeysIterator.next.Given as goal

abbrev pub invariant-loop-numbered : goal.invariant-loop-numbered
invariant-loop-numbered l = keys_of l.self-inside.lines.now ≡ l.fn.self

abbrev pub decreases-loop-numbered : goal.decreases-loop-numbered
decreases-loop-numbered l = length l.self-inside.lines.now
