-- The first part of a list.
use Rattle.std.specs.Prelude.{◌≡◌, List, ◌++◌}

-- ys is xs and then a rest
pub record Begins {X : Type 0} (xs ys : List X) : Type 0 where
  pub rest : List X
  pub is : ys ≡ xs ++ rest
