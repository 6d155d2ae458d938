-- The stretches that windows show: each file stands once.
use Rattle.std.proofs.Common.{◌≡◌, ℕ, true, List, ◌∷◌, sym, subst, arith}
use Rattle.std.specs.Prelude.{◌≢◌, ◌==◌, OnErr, OnOk, Result, Ok, Err, not}
use Rattle.std.proofs.lemmas.Bool.Decides.{nat_tests}
use Rattle.std.proofs.lemmas.List.Elements.{filter_passes}
use Rattle.std.proofs.lemmas.List.Kept.{AllPairs-cons, AllPairs-filter}
use Rattle.sam_front.specs.Loader.{AreOnce, without}
use Rattle.sam_front.specs.declared.loader.Seen.{Seen}

other-tag : (f g : ℕ) → not (g == f) ≡ true → f ≢ g
other-tag f g other = grind (arith, other, nat_tests)

pub once_without : (f : ℕ) (seen : List Seen) → AreOnce seen → AreOnce (without f seen)
once_without f seen once = AllPairs-filter (λ s r. s.tag ≢ r.tag) (λ s. not (s.tag == f)) seen once

once-first : (s : Seen) (seen : List Seen) → AreOnce seen → AreOnce (s ∷ without s.tag seen)
once-first s seen once =
    AllPairs-cons (λ x r. x.tag ≢ r.tag) s (without s.tag seen)
    (λ k d within. other-tag s.tag _ (filter_passes (λ x. not (x.tag == s.tag)) seen k d within)) (once_without s.tag seen once)

pub once_put : {T E : Type 0} (result : Result T E) (s : Seen) (old new : List Seen) → OnOk result (new ≡ s ∷ without s.tag old)
    → OnErr result (new ≡ old) → AreOnce old → AreOnce new
once_put (Ok x) s old new put same once = subst AreOnce (sym put) (once-first s old once)
once_put (Err x) s old new put same once = subst AreOnce (sym same) once
