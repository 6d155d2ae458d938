-- A partial text as it is drawn: its members as numbers in a buffer.
use Rattle.std.specs.Prelude.{◌≡◌, ℕ, ◌+◌, ◌-◌, ◌^◌, List, ◌++◌, length, take, drop, map, min, Option, Some, None}

-- the number that stands for a gap: no rune has it
abbrev pub gap : ℕ
gap = 2 ^ 32 - 1

abbrev pub drawn : Option ℕ → ℕ
drawn None = gap
drawn (Some rune) = rune

-- the members from a place on stand in the buffer, as many as there are and have room, and after them what stood there before
pub record Shows (cells : List (Option ℕ)) (place : ℕ) (before after : List ℕ) (count : ℕ) : Type 0 where
  pub count_is : count ≡ min (length before) (length cells - place)
  pub after_is : after ≡ map drawn (take count (drop place cells)) ++ drop count before

-- the members from a place on were put into the buffer at a place of it, as many as there are and have room
pub record Copies (cells : List (Option ℕ)) (place at : ℕ) (before after : List ℕ) (count : ℕ) : Type 0 where
  pub count_is : count ≡ min (length before - at) (length cells - place)
  pub after_is : after ≡ take at before ++ map drawn (take count (drop place cells)) ++ drop (at + count) before
