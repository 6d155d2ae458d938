-- What a gate let a worker do, step by step.
use Rattle.std.proofs.Common.{◌≡◌, ℕ, ◌+◌, ◌≤◌, Option, Some, arith}
use Rattle.sam_ends.specs.Gates.{IsCount, LetOn}

pub let_on_none : (must : Option ℕ → Type 0) (a : ℕ) → LetOn must a a
let_on_none must a = record { none = λ done from below bound stops. omega arith }

-- one step more, or none, where the gate was asked with the count
pub let_on_one : (must : Option ℕ → Type 0) (a b c handled : ℕ) → LetOn must a b → IsCount handled b → (must (Some handled) → ⊥) → c ≤ b + 1 → LetOn must a c
let_on_one must a b c handled so_far counted let_on one = record {
  none = λ done from below bound stops. grind (arith, (so_far.none done from));
}

-- the same where the count is exact
pub let_on_at : (must : Option ℕ → Type 0) (a b c handled : ℕ) → LetOn must a b → handled ≡ b → (must (Some handled) → ⊥) → c ≤ b + 1 → LetOn must a c
let_on_at must a b c handled so_far is let_on one = record {
  none = λ done from below bound stops. grind (arith, (so_far.none done from));
}

pub let_on_more : (must : Option ℕ → Type 0) (a b c : ℕ) → LetOn must a b → LetOn must b c → LetOn must a c
let_on_more must a b c first second = record {
  none = λ done from below bound stops. grind (arith, (first.none done from), (second.none done));
}

-- where nothing more was done
pub let_on_to : (must : Option ℕ → Type 0) (a b c : ℕ) → LetOn must a b → c ≡ b → LetOn must a c
let_on_to must a b c first same = record { none = λ done from below bound stops. first.none done from (omega (arith, same, below)) bound stops }

-- from the beginning
pub let_on_from : (must : Option ℕ → Type 0) (a b : ℕ) → a ≡ 0 → LetOn must a b → LetOn must 0 b
let_on_from must a b none first = record { none = λ done from below bound stops. first.none done (omega (arith, none)) below bound stops }
