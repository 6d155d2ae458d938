-- Bytes that are written one after another.
use Rattle.std.proofs.Common.{◌≡◌, ℕ, ◌+◌, List, ◌++◌, length, take, sym, ap, ◌∙◌, arith, take_all}

-- the front grows by what is written behind it
pub grown : (at len : ℕ) (new bytes taken front value : List ℕ) → taken ≡ front → bytes ≡ value → length value ≡ len
    → take (at + length bytes) new ≡ taken ++ bytes → take (at + len) new ≡ front ++ value
grown at len new bytes taken front value before is long written =
    let n : len ≡ length bytes = sym (ap length is ∙ long) in
    ap (λ (k : ℕ). take (at + k) new) n ∙ written ∙ ap (λ (l : List ℕ). l ++ bytes) before ∙ ap (λ (l : List ℕ). front ++ l) is

pub all_written : (n : ℕ) (new front : List ℕ) → length new ≡ n → take n new ≡ front → new ≡ front
all_written n new front long written = sym (take_all n new (omega (arith, long))) ∙ written
