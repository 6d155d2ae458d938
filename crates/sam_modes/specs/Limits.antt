-- The limits of what is read, by the names of the constants in the code.
use Rattle.std.specs.Prelude.{ℕ}

-- the most bytes of a piece that is read at once
abbrev pub piece : ℕ
piece = 4_096

-- the most bytes of an input
abbrev pub most_input : ℕ
most_input = 16_777_216

-- the most bytes of a piece of the stream between threads
abbrev pub most_piece : ℕ
most_piece = 65_536

-- the most places of a line between threads
abbrev pub most_capacity : ℕ
most_capacity = 1_024
