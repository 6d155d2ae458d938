use Rattle.std.proofs.Common.{◌≡◌, ◌++◌, length, encode_utf8_all}
use Rattle.sam_runes.proofs.codec.read_utf8.Given as goal

abbrev pub invariant-loop-rest : goal.invariant-loop-rest
invariant-loop-rest l = encode_utf8_all l.runes.items ++ l.rest ≡ l.bytes

abbrev pub decreases-loop-rest : goal.decreases-loop-rest
decreases-loop-rest l = length l.rest
