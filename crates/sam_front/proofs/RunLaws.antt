-- What holds of the list of command lines.
use Rattle.std.proofs.Common.{◌≡◌, refl, sym, ap, subst, ℕ, suc, ◌+◌, ◌-◌, ◌<◌, Bool, List, [], ◌∷◌, ◌++◌, drop, take, map, length, set, get_or, arith}
use Rattle.std.proofs.lemmas.List.Edits.{map_over_more}
use Rattle.sam_front.specs.Runs.{new_run, numbered, run_after}
use Rattle.sam_front.specs.declared.runs.Run.{Run}

pub step_more : (request len : ℕ) (locked : Bool) (xs ys : List Run) (i : ℕ) (x : Run) → i < length xs
    → ys ≡ map (run_after request len locked) (take i xs) ++ drop i xs → x ≡ get_or ys i x
    → set ys i (run_after request len locked x) ≡ map (run_after request len locked) (take (i + 1) xs) ++ drop (i + 1) xs
step_more request len locked xs ys i x few is at = map_over_more (run_after request len locked) xs ys i x few is at

pub numbered_at : (request : ℕ) (rs : List Run) → 0 < length rs → set rs (length rs - 1) (new_run request) ≡ numbered request rs
numbered_at request [] some = absurd (omega (arith, some))
numbered_at request (r ∷ []) some = refl
numbered_at request (r ∷ s ∷ rs) some =
    let next : length (r ∷ s ∷ rs) - 1 ≡ suc (length (s ∷ rs) - 1) = omega arith in
    subst (λ n. set (r ∷ s ∷ rs) n (new_run request) ≡ numbered request (r ∷ s ∷ rs)) (sym next)
    (ap (λ xs. r ∷ xs) (numbered_at request (s ∷ rs) (omega arith)))
