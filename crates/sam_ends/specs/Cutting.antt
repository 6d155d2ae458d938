-- Bytes put into a line piece by piece.
use Rattle.std.specs.Prelude.{◌≡◌, ℕ, ◌<◌, ◌≤◌, List, [], ◌++◌, length, Result, Ok, Err}
use Rattle.std.specs.Global.{Vec}
use Rattle.sam_sides.specs.Sides.{Each}
use Rattle.sam_queue.specs.Views.{PostView}
use Rattle.sam_ends.specs.Inputs.{bytes_of}

-- a piece has a byte at least, and at most so many
abbrev pub IsPiece : ℕ → Vec ℕ → Type 0
IsPiece most piece = (0 < length piece.items) × (length piece.items ≤ most)

-- the post has put pieces more, which with what was not put are the bytes
pub record PutSome (most : ℕ) (before after : PostView (Vec ℕ)) (bytes unput : List ℕ) : Type 0 where
  pub pieces : List (Vec ℕ)
  pub after_is : after ≡ record before { put = before.put ++ pieces }
  pub sizes : Each (IsPiece most) pieces
  pub whole : bytes_of pieces ++ unput ≡ bytes

-- all of the bytes were put, or, when out of memory, perhaps not the last of them
abbrev pub Puts : {E : Type 0} → ℕ → PostView (Vec ℕ) → PostView (Vec ℕ) → List ℕ → Result (Unit {0}) E → Type 0
Puts most before after bytes (Ok done) = PutSome most before after bytes []
Puts most before after bytes (Err why) = (unput : List ℕ) × PutSome most before after bytes unput
