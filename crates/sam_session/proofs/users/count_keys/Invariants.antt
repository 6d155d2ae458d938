use Rattle.std.proofs.Common.{◌≡◌, ◌≤◌, length, take}
use Rattle.sam_script.specs.Script.{keys_of}
use Rattle.sam_session.proofs.users.count_keys.Given as goal

abbrev pub invariant-loop-numbered : goal.invariant-loop-numbered
invariant-loop-numbered l = (l.count ≡ length (keys_of (take l.numbered-index l.lines))) × (l.count ≤ l.numbered-index)
