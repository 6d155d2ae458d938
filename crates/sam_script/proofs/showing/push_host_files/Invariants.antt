use Rattle.sam_script.proofs.Common.{◌≡◌, ◌++◌, take, string_bytes, slot_lines, host_slot}
use Rattle.sam_script.proofs.showing.push_host_files.Given as goal

abbrev pub invariant-loop-tag : goal.invariant-loop-tag
invariant-loop-tag l = string_bytes l.out ≡ string_bytes l.fn.out ++ slot_lines host_slot 0 (take l.tag l.files.plain.slots)
