-- Words, and the mark of a hello behind them.
use Rattle.std.proofs.Common.{◌≡◌, ℕ, ◌+◌, ◌<◌, ◌≤◌, ◌⊎◌, inl, inr, List, ◌++◌, length, take, drop, refl, sym, ap, subst, ◌∙◌, arith, length-append}
use Rattle.std.proofs.lemmas.Bool.{cases_lt, cases_order}
use Rattle.std.proofs.lemmas.List.{drop-append-le, take-append-le, take-take, take_all, take_at}
use Rattle.sam_link.specs.Hellos.{HasMark, mark, spelled}
use Rattle.sam_link.specs.declared.hello.Hello.{Hello}
use Rattle.sam_line.specs.Greeting.{AreWords}

-- what a hello begins with
pub hello_has_mark : (hello : Hello) (bytes : List ℕ) → 42 ≤ length bytes → take 42 bytes ≡ spelled hello → HasMark bytes
hello_has_mark hello bytes fits is =
    let front : take 8 (take 42 bytes) ≡ mark = ap (take 8) is in
    sym (take-take 8 42 bytes (omega arith)) ∙ front ∙ sym (take_all (length bytes) mark (omega arith))

-- the front of what has the mark so far has it so far
pub front_has_mark : (front rest : List ℕ) → HasMark (front ++ rest) → HasMark front
front_has_mark front rest marked = by_length (cases_lt (length front) 8)
  where
    by_length : ((length front < 8) ⊎ (8 ≤ length front)) → HasMark front
    by_length (inl short) =
        let all : take (length front) (take 8 (front ++ rest)) ≡ take (length front) (take (length (front ++ rest)) mark) = ap (take (length front)) marked in
        take_all 8 front (omega arith)
        ∙ sym (take_at front rest (length front) refl)
        ∙ sym (take-take (length front) 8 (front ++ rest) (omega arith))
        ∙ all
        ∙ take-take (length front) (length (front ++ rest)) mark (omega (arith, length-append front rest))
    by_length (inr long) =
        sym (take-append-le 8 front rest long)
        ∙ marked
        ∙ take_all (length (front ++ rest)) mark (omega (arith, length-append front rest))
        ∙ sym (take_all (length front) mark (omega arith))

-- words stay words, whatever comes behind
pub still_words : (bytes piece : List ℕ) (words : ℕ) → words ≤ length bytes → AreWords bytes words → AreWords (bytes ++ piece) words
still_words bytes piece words inside before at sooner marked =
    before at sooner (front_has_mark (drop at bytes) piece (subst HasMark (drop-append-le at bytes piece (omega arith)) marked))

-- no hello begins with one byte more
pub one_more : (bytes : List ℕ) (words : ℕ) → AreWords bytes words → (HasMark (drop words bytes) → ⊥) → AreWords bytes (words + 1)
one_more bytes words before word at sooner marked = by_order (cases_order at words)
  where
    by_order : ((at ≡ words) ⊎ ((at < words) ⊎ (words < at))) → ⊥
    by_order (inl same) = word (subst (λ k. HasMark (drop k bytes)) same marked)
    by_order (inr (inl less)) = before at less marked
    by_order (inr (inr more)) = absurd (omega (arith, sooner, more))
