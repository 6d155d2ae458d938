use Rattle.sam_script.proofs.Common.{◌≡◌, length, drop, [], false, chars, unescaped}
use Rattle.sam_script.proofs.words.unescape.Given as goal

-- what the runes that are left come to
abbrev pub invariant-loop-rune : goal.invariant-loop-rune
invariant-loop-rune l = unescaped l.runes.items l.is_escaped (drop (length l.yielded) (chars l.escaped)) ≡ unescaped [] false (chars l.escaped)
