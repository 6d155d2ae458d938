-- What a program does at a host beside the messages that it answers.
use Rattle.std.specs.Prelude.{ℕ, List}

pub data Aside : Type 0 where
  Joins : List ℕ × List ℕ → Aside  -- a file of this name and text joins its files
  Marks : ℕ → Aside  -- this file is marked as dirty
