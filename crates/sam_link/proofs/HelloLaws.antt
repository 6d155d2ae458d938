-- A hello is read from its bytes alone.
use Rattle.std.proofs.Common.{◌≡◌, ℕ, ◌+◌, ◌<◌, ◌^◌, List, ◌++◌, get_or, length, take, drop, None, Some, Ok, Err, Result, w64, refl, sym, ap, ◌∙◌, subst, arith, length-append}
use Rattle.std.proofs.lemmas.List.{take-append-drop}
use Rattle.std.proofs.lemmas.Nat.{from_be_bytes-to_be_bytes_8}
use Rattle.std.specs.Int.{from_be_bytes}
use Rattle.std.specs.Prelude.{Option}
use Rattle.sam_mesg.specs.Spelling.{eight}
use Rattle.sam_link.specs.Hellos.{IsHello, ReadsHello, mark, spelled, what_number, what_of}
use Rattle.sam_link.specs.declared.hello.Hello.{Hello}
use Rattle.sam_link.specs.declared.hello.Refusal.{Refusal}
use Rattle.sam_link.specs.declared.hello.Refusal.TheVariants.{NotALink, OtherVersion, BadHello, NoSession, OtherSession, OldAttempt, WrongCount}
use Rattle.sam_link.specs.declared.hello.What.{What}
use Rattle.sam_link.specs.declared.hello.What.TheVariants.{Begin, Resume, TakeOver, Welcome, Refused}
use Rattle.sam_link.proofs.Packing.{take_all}

word_again : (w : What) → what_of (what_number w) ≡ Some w
word_again Begin = refl
word_again Resume = refl
word_again TakeOver = refl
word_again Welcome = refl
word_again (Refused NotALink) = refl
word_again (Refused OtherVersion) = refl
word_again (Refused BadHello) = refl
word_again (Refused NoSession) = refl
word_again (Refused OtherSession) = refl
word_again (Refused OldAttempt) = refl
word_again (Refused WrongCount) = refl

abbrev word_or : Option What → What
word_or (Some w) = w
word_or o = Begin

same_word : (v w : What) → what_number v ≡ what_number w → v ≡ w
same_word v w e = ap word_or (sym (word_again v) ∙ ap what_of e ∙ word_again w)

same_number : (a b : ℕ) → a < 2 ^ 64 → b < 2 ^ 64 → eight a ≡ eight b → a ≡ b
same_number a b fits_a fits_b e = sym (from_be_bytes-to_be_bytes_8 a fits_a) ∙ ap (from_be_bytes w64) e ∙ from_be_bytes-to_be_bytes_8 b fits_b

pub one_hello : (g h : Hello) → IsHello g → IsHello h → spelled g ≡ spelled h → g ≡ h
one_hello g h is fine e =
    let what : g.what ≡ h.what = same_word g.what h.what (ap (λ b. get_or b 9 0) e) in
    let one : g.id.first ≡ h.id.first = same_number g.id.first h.id.first is.0 fine.0 (ap (λ b. take 8 (drop 10 b)) e) in
    let two : g.id.last ≡ h.id.last = same_number g.id.last h.id.last is.1 fine.1 (ap (λ b. take 8 (drop 18 b)) e) in
    let three : g.attempt ≡ h.attempt = same_number g.attempt h.attempt is.2 fine.2 (ap (λ b. take 8 (drop 26 b)) e) in
    let four : g.received ≡ h.received = same_number g.received h.received is.3 fine.3 (ap (λ b. take 8 (drop 34 b)) e) in
    λ i. record { what = what i; id = record { first = one i; last = two i }; attempt = three i; received = four i }

-- ## A hello is read in one way

none_said : (w : What) → what_of (what_number w) ≡ None → ⊥
none_said w e = let both : Some w ≡ None = sym (word_again w) ∙ e in cc

long_enough : (x : Hello) (rest : List ℕ) → length (spelled x ++ rest) ≡ 42 + length rest
long_enough x rest = length-append (spelled x) rest

-- bytes that begin with a hello are read as that one
reads_front : (x : Hello) (rest : List ℕ) (read : Result (Option Hello) Refusal) → IsHello x → ReadsHello (spelled x ++ rest) read → read ≡ Ok (Some x)
reads_front x rest (Ok (Some h)) is d = ap (λ (k : Hello). Ok (Some k)) (one_hello h x d.0 is (sym d.2))
reads_front x rest (Ok None) is d = let long = long_enough x rest in absurd (omega (arith, long, d.0))
reads_front x rest (Err NotALink) is d =
    let long = long_enough x rest in absurd (d (sym (take_all (length (spelled x ++ rest)) mark (omega (arith, long)))))
reads_front x rest (Err OtherVersion) is d = absurd (d.2 refl)
reads_front x rest (Err BadHello) is d = absurd (none_said x.what d.2)
reads_front x rest (Err NoSession) is d = absurd d
reads_front x rest (Err OtherSession) is d = absurd d
reads_front x rest (Err OldAttempt) is d = absurd d
reads_front x rest (Err WrongCount) is d = absurd d

pub reads_as : (x : Hello) (bytes rest : List ℕ) (read : Result (Option Hello) Refusal) → IsHello x → bytes ≡ spelled x ++ rest → ReadsHello bytes read → read ≡ Ok (Some x)
reads_as x bytes rest read is e d = reads_front x rest read is (subst (λ b. ReadsHello b read) e d)

front_of : (x : Hello) (bytes : List ℕ) → take 42 bytes ≡ spelled x → bytes ≡ spelled x ++ drop 42 bytes
front_of x bytes e = sym (take-append-drop 42 bytes) ∙ ap (λ l. l ++ drop 42 bytes) e

pub one_reading : (bytes : List ℕ) (a b : Result (Option Hello) Refusal) → ReadsHello bytes a → ReadsHello bytes b → a ≡ b
one_reading bytes (Ok (Some x)) b c d = sym (reads_as x bytes (drop 42 bytes) b c.0 (front_of x bytes c.2) d)
one_reading bytes a (Ok (Some x)) c d = reads_as x bytes (drop 42 bytes) a d.0 (front_of x bytes d.2) c
one_reading bytes (Ok None) (Ok None) c d = refl
one_reading bytes (Ok None) (Err NotALink) c d = absurd (d c.1.0.0)
one_reading bytes (Ok None) (Err OtherVersion) c d = absurd (d.2 (c.1.0.1 d.1))
one_reading bytes (Ok None) (Err BadHello) c d = absurd (c.1.1 d.1 d.2)
one_reading bytes (Err NotALink) (Ok None) c d = absurd (c d.1.0.0)
one_reading bytes (Err NotALink) (Err NotALink) c d = refl
one_reading bytes (Err NotALink) (Err OtherVersion) c d = absurd (c d.0)
one_reading bytes (Err NotALink) (Err BadHello) c d = absurd (c d.0.0)
one_reading bytes (Err OtherVersion) (Ok None) c d = absurd (c.2 (d.1.0.1 c.1))
one_reading bytes (Err OtherVersion) (Err NotALink) c d = absurd (d c.0)
one_reading bytes (Err OtherVersion) (Err OtherVersion) c d = refl
one_reading bytes (Err OtherVersion) (Err BadHello) c d = absurd (c.2 (d.0.1 c.1))
one_reading bytes (Err BadHello) (Ok None) c d = absurd (d.1.1 c.1 c.2)
one_reading bytes (Err BadHello) (Err NotALink) c d = absurd (d c.0.0)
one_reading bytes (Err BadHello) (Err OtherVersion) c d = absurd (d.2 (c.0.1 d.1))
one_reading bytes (Err BadHello) (Err BadHello) c d = refl
one_reading bytes (Err NoSession) b c d = absurd c
one_reading bytes (Err OtherSession) b c d = absurd c
one_reading bytes (Err OldAttempt) b c d = absurd c
one_reading bytes (Err WrongCount) b c d = absurd c
one_reading bytes a (Err NoSession) c d = absurd d
one_reading bytes a (Err OtherSession) c d = absurd d
one_reading bytes a (Err OldAttempt) c d = absurd d
one_reading bytes a (Err WrongCount) c d = absurd d
