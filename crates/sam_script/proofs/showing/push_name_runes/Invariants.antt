use Rattle.sam_script.proofs.Common.{◌≡◌, ◌++◌, take, flat_map, string_bytes, name_rune}
use Rattle.sam_script.proofs.showing.push_name_runes.Given as goal

abbrev pub invariant-loop-rune : goal.invariant-loop-rune
invariant-loop-rune l = string_bytes l.out ≡ string_bytes l.fn.out ++ flat_map name_rune (take l.rune-index l.name)
