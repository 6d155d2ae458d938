-- Small laws of files: what may be put in, a part of a text, and a snarf buffer that a message holds.
use Rattle.sam_host.proofs.Common.{ℕ, ◌-◌, ◌≤◌, List, [], ◌∷◌, length, drop, arith, length-append, IsTrue, encode_utf8_all, length-take, leb-true, max_runes, part, last_snarf_limit, fits_t, Tsetsnarf}
use Rattle.std.proofs.lemmas.Str.{length-encode}

pub part_length : (t : List ℕ) (a b : ℕ) → length (part t a b) ≤ b - a
part_length t a b = omega (arith, length-take (b - a) (drop a t))

runes_below_bytes : (runes : List ℕ) → length runes ≤ length (encode_utf8_all runes)
runes_below_bytes [] = omega arith
runes_below_bytes (c ∷ runes) = grind (arith, length-append, length-encode, (runes_below_bytes runes))

-- a text that a message holds is no longer than a snarf buffer may be
pub snarf_short : (runes : List ℕ) → IsTrue (fits_t 2 (Tsetsnarf runes)) → length runes ≤ max_runes
snarf_short runes e = omega (arith, runes_below_bytes runes, leb-true (length (encode_utf8_all runes)) last_snarf_limit e)
