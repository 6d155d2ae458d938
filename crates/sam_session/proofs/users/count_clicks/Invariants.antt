use Rattle.std.proofs.Common.{◌≡◌, ◌≤◌, length, take}
use Rattle.sam_script.specs.Script.{mouse_of}
use Rattle.sam_session.proofs.users.count_clicks.Given as goal

abbrev pub invariant-loop-numbered : goal.invariant-loop-numbered
invariant-loop-numbered l = (l.count ≡ length (mouse_of (take l.numbered-index l.lines))) × (l.count ≤ l.numbered-index)
