-- What stands in a buffer of the caller's.
use Rattle.std.specs.Prelude.{◌≡◌, ℕ, ◌+◌, ◌-◌, ◌^◌, ◌<◌, ◌≤◌, List, ◌++◌, length, min, take, drop, Option, Some, None, encode_utf8}
use Rattle.std.specs.Str.{encode_utf8_all}
use Rattle.sam_handles.specs.declared.utf8.Filled.{Filled}

-- the rune stands in the buffer at a place, and all else is as before; or it has no room there
abbrev pub Puts : ℕ → ℕ → List ℕ → List ℕ → Option ℕ → Type 0
Puts rune at before after None = (length before < at + length (encode_utf8 rune)) × (after ≡ before)
Puts rune at before after (Some end) =
    (end ≡ at + length (encode_utf8 rune)) × (end ≤ length before) × (after ≡ take at before ++ encode_utf8 rune ++ drop end before)

-- the runes of a text that a call counts by 32 bits: all, since no text has more than 1,000,000
abbrev pub countable : List ℕ → List ℕ
countable text = take (2 ^ 32 - 1) text

-- the first runes stand in the buffer in UTF-8, as many as have room whole, and after them what stood there before
pub record Fills (runes before after : List ℕ) (filled : Filled) : Type 0 where
  pub count : filled.runes ≤ length runes
  pub bytes_are : filled.bytes ≡ length (encode_utf8_all (take filled.runes runes))
  pub room : filled.bytes ≤ length before
  pub most : filled.runes < length runes → length before < length (encode_utf8_all (take (filled.runes + 1) runes))
  pub after_is : after ≡ encode_utf8_all (take filled.runes runes) ++ drop filled.bytes before

-- the first bytes went into the buffer, as many as have room
abbrev pub Takes : List ℕ → List ℕ → List ℕ → ℕ → List ℕ → Type 0
Takes pending before after count left =
    (count ≡ min (length pending) (length before)) × (after ≡ take count pending ++ drop count before) × (left ≡ drop count pending)
