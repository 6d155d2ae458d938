-- CRC-32C, a bit after the other.
use Rattle.std.specs.Prelude.{ℕ, zero, suc, ◌*◌, ◌/◌, ◌%◌, List, [], ◌∷◌}
use Rattle.std.specs.Int.Bits.{bit_xor}

-- Castagnoli's polynomial, the lowest bit first
unfoldable pub polynomial : ℕ
polynomial = 0x82f63b78

-- the lowest bit goes, and if it was set the polynomial comes in
unfoldable pub bit_step : ℕ → ℕ
bit_step sum = bit_xor (sum / 2) (sum % 2 * polynomial)

abbrev pub bit_steps : ℕ → ℕ → ℕ
bit_steps zero sum = sum
bit_steps (suc n) sum = bit_steps n (bit_step sum)

-- a byte comes into the lowest bits, which then go
unfoldable pub byte_step : ℕ → ℕ → ℕ
byte_step sum byte = bit_steps 8 (bit_xor sum byte)

abbrev pub bytes_step : ℕ → List ℕ → ℕ
bytes_step sum [] = sum
bytes_step sum (byte ∷ bytes) = bytes_step (byte_step sum byte) bytes

-- the sum begins with all bits set, and all are turned at the end
unfoldable pub crc_32c : List ℕ → ℕ
crc_32c bytes = bit_xor (bytes_step 0xffffffff bytes) 0xffffffff
