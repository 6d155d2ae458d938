use Rattle.std.proofs.Common.{◌≡◌, ◌++◌, take, flat_map, encode_utf8, string_bytes}
use Rattle.sam_script.proofs.lines_of_run.push_plain.Given as goal

abbrev pub invariant-loop-rune : goal.invariant-loop-rune
invariant-loop-rune l = string_bytes l.out ≡ string_bytes l.fn.out ++ flat_map encode_utf8 (take l.rune-index l.runes)
