-- What is read as a hello is its bytes.
use Rattle.std.proofs.Common.{◌≡◌, ℕ, ◌≤◌, List, [], ◌∷◌, ◌++◌, length, take, drop, get_or, Some, arith, refl, sym, ap, ◌∙◌}
use Rattle.std.proofs.Math.Seq.{take-add}
use Rattle.std.proofs.lemmas.Grind.{take_at_read}
use Rattle.sam_mesg.specs.Spelling.{eight}
use Rattle.sam_link.specs.Hellos.{mark, what_number, what_of, spelled}
use Rattle.sam_link.specs.declared.hello.Hello.{Hello}
use Rattle.sam_link.specs.declared.hello.What.{What}

pub what_again : (number : ℕ) (what : What) → what_of number ≡ Some what → what_number what ≡ number
what_again number what e = grind arith

-- the first ten bytes
head : (bytes : List ℕ) (a b : ℕ) → 42 ≤ length bytes → take 8 bytes ≡ mark → get_or bytes 8 0 ≡ a → get_or bytes 9 0 ≡ b → take 10 bytes ≡ mark ++ a ∷ b ∷ []
head bytes a b fits marked first second =
    (take_at_read bytes 9 0 (omega (arith, fits))).1
    ∙ ap (λ x. x ++ get_or bytes 9 0 ∷ []) ((take_at_read bytes 8 0 (omega (arith, fits))).1)
    ∙ rw (marked, first, second) refl

pub hello_read : (bytes : List ℕ) (h : Hello) (number : ℕ) → 42 ≤ length bytes → take 8 bytes ≡ mark → get_or bytes 8 0 ≡ 1 → get_or bytes 9 0 ≡ number
    → what_of number ≡ Some h.what → eight h.id.first ≡ take 8 (drop 10 bytes) → eight h.id.last ≡ take 8 (drop 18 bytes)
    → eight h.attempt ≡ take 8 (drop 26 bytes) → eight h.received ≡ take 8 (drop 34 bytes) → take 42 bytes ≡ spelled h
hello_read bytes h number fits marked version what says first last attempt received =
    let begin : take 10 bytes ≡ mark ++ 1 ∷ what_number h.what ∷ [] =
    head bytes 1 (what_number h.what) fits marked version (what ∙ sym (what_again number h.what says)) in
    let one : take 18 bytes ≡ (mark ++ 1 ∷ what_number h.what ∷ []) ++ eight h.id.first =
    take-add 10 8 bytes ∙ ap (λ b. b ++ take 8 (drop 10 bytes)) begin ∙ ap (λ b. (mark ++ 1 ∷ what_number h.what ∷ []) ++ b) (sym first) in
    let two : take 26 bytes ≡ ((mark ++ 1 ∷ what_number h.what ∷ []) ++ eight h.id.first) ++ eight h.id.last =
    take-add 18 8 bytes ∙ ap (λ b. b ++ take 8 (drop 18 bytes)) one ∙ ap (λ b. ((mark ++ 1 ∷ what_number h.what ∷ []) ++ eight h.id.first) ++ b) (sym last) in
    let three : take 34 bytes ≡ (((mark ++ 1 ∷ what_number h.what ∷ []) ++ eight h.id.first) ++ eight h.id.last) ++ eight h.attempt =
    take-add 26 8 bytes ∙ ap (λ b. b ++ take 8 (drop 26 bytes)) two
    ∙ ap (λ b. (((mark ++ 1 ∷ what_number h.what ∷ []) ++ eight h.id.first) ++ eight h.id.last) ++ b) (sym attempt) in
    take-add 34 8 bytes ∙ ap (λ b. b ++ take 8 (drop 34 bytes)) three
    ∙ ap (λ b. ((((mark ++ 1 ∷ what_number h.what ∷ []) ++ eight h.id.first) ++ eight h.id.last) ++ eight h.attempt) ++ b) (sym received)
