use Rattle.std.proofs.Common.{◌≡◌, ◌++◌}
use Rattle.sam_script.specs.Script.{keys_of, mouse_of}
use Rattle.sam_session.proofs.users.copied_users.Given as goal

-- what was copied, and then what the script still gives
abbrev pub invariant-loop-key : goal.invariant-loop-key
invariant-loop-key l = l.keys.items ++ l.key-iterator ≡ keys_of l.script.lines

abbrev pub invariant-loop-click : goal.invariant-loop-click
invariant-loop-click l = l.clicks.items ++ l.click-iterator ≡ mouse_of l.script.lines
