-- What came before the welcome is read.
use Rattle.std.proofs.Common.{◌≡◌, ℕ, ◌+◌, ◌<◌, ◌≤◌, inr, nat_lt, MatchBool, Bool, true, false, List, ◌++◌, length, take, drop, Some, Result, Ok, Err, refl, sym, ap, subst, ◌∙◌}
use Rattle.std.proofs.lemmas.Bool.{le-ltb, lt-ltb}
use Rattle.std.proofs.lemmas.List.{take_at}
use Rattle.sam_link.specs.Hellos.{ReadsHello}
use Rattle.sam_link.specs.declared.hello.Hello.{Hello}
use Rattle.sam_line.specs.Greeting.{IsBefore}
use Rattle.sam_line.specs.Line.{failed}
use Rattle.sam_line.specs.Receiving.{Greets, MeetsBy, Reads, held}
use Rattle.sam_line.specs.declared.fault.ReceiveFault.{ReceiveFault}
use Rattle.sam_line.specs.declared.fault.ReceiveFault.TheVariants.{TooManyWords}
use Rattle.sam_line.specs.declared.line.Line.{Line}

pub at_true : (b : Bool) (P Q : Type 0) → b ≡ true → P → MatchBool b P Q
at_true b P Q is p = subst (λ x. MatchBool x P Q) (sym is) p

pub at_false : (b : Bool) (P Q : Type 0) → b ≡ false → Q → MatchBool b P Q
at_false b P Q is q = subst (λ x. MatchBool x P Q) (sym is) q

pub too_many : (l n : Line) (attempt : ℕ) (piece g : List ℕ) (words : ℕ) → g ≡ l.greeting ++ piece → IsBefore g words → 65536 < words
    → n ≡ failed (record l { greeting = g }) → Greets l attempt piece (Err TooManyWords) n
too_many l n attempt piece g words whole is many ends =
    inr (
      words,
      subst (λ b. IsBefore b words) whole is,
      at_true (nat_lt 65536 words) ((Err TooManyWords ≡ Err TooManyWords) × (n ≡ failed (held l piece))) (Reads (held l piece) attempt l.greeting words (Err TooManyWords) n)
          (lt-ltb 65536 words many) (refl, ends ∙ ap (λ b. failed (record l { greeting = b })) whole),
    )

pub meets : (l n : Line) (attempt : ℕ) (piece g : List ℕ) (words : ℕ) (hello : Hello) (answer : Result (Unit {0}) ReceiveFault) → g ≡ l.greeting ++ piece
    → IsBefore g words → words ≤ 65536 → ReadsHello (drop words g) (Ok (Some hello))
    → MeetsBy (record l { greeting = g }) attempt hello (take (length l.greeting) g) (words + 42) answer n → Greets l attempt piece answer n
meets l n attempt piece g words hello answer whole is few read met =
    let front : take (length l.greeting) g ≡ l.greeting = ap (take (length l.greeting)) whole ∙ take_at l.greeting piece (length l.greeting) refl in
    let begun : MeetsBy (record l { greeting = g }) attempt hello l.greeting (words + 42) answer n =
    subst (λ b. MeetsBy (record l { greeting = g }) attempt hello b (words + 42) answer n) front met in
    inr (
      words,
      subst (λ b. IsBefore b words) whole is,
      at_false (nat_lt 65536 words) ((answer ≡ Err TooManyWords) × (n ≡ failed (held l piece))) (Reads (held l piece) attempt l.greeting words answer n)
          (le-ltb 65536 words few) (
            Ok (Some hello),
            subst (λ b. ReadsHello (drop words b) (Ok (Some hello))) whole read,
            subst (λ b. MeetsBy (record l { greeting = b }) attempt hello l.greeting (words + 42) answer n) whole begun,
          ),
    )
