use Rattle.sam_script.proofs.Common.{◌≡◌, ◌++◌, take, flat_map, string_bytes, text_rune}
use Rattle.sam_script.proofs.showing.push_text.Given as goal

abbrev pub invariant-loop-rune : goal.invariant-loop-rune
invariant-loop-rune l = string_bytes l.out ≡ string_bytes l.fn.out ++ flat_map text_rune (take l.rune-index l.text)
