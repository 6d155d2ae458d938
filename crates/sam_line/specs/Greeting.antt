-- What comes on a connection before the host's hello: a login may print words.
use Rattle.std.specs.Prelude.{◌≡◌, ℕ, ◌<◌, ◌≤◌, List, length, take, drop}
use Rattle.sam_link.specs.Hellos.{HasMark}

-- of no byte of the first ones can a hello begin
abbrev pub AreWords : List ℕ → ℕ → Type 0
AreWords bytes words = (at : ℕ) → at < words → HasMark (drop at bytes) → ⊥

-- so many bytes are words, and the next ones, as far as they have come, are the mark of a hello
pub record IsBefore (bytes : List ℕ) (words : ℕ) : Type 0 where
  pub inside : words ≤ length bytes
  pub before : AreWords bytes words
  pub mark : HasMark (drop words bytes)

-- the words are these
abbrev pub IsFront : List ℕ → List ℕ → Type 0
IsFront bytes front = (words : ℕ) × IsBefore bytes words × (front ≡ take words bytes)
