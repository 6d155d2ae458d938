-- What a head says.
use Rattle.std.proofs.Common.{◌≡◌, ℕ, ◌<◌, ◌≤◌, ◌^◌, List, ◌++◌, length, take, drop, Err, refl, sym, ap, ◌∙◌, arith, length-take, take-take}
use Rattle.std.proofs.lemmas.List.{drop-take}
use Rattle.sam_journal.specs.Checksums.{crc_32c}
use Rattle.sam_journal.specs.Files.{IsHead, ReadsHead, head, magic}
use Rattle.sam_journal.specs.Records.{eight, four}
use Rattle.sam_journal.specs.declared.reading.ReadFault.{ReadFault}
use Rattle.sam_journal.specs.declared.reading.ReadFault.TheVariants.{Damaged, DamagedHead, NotAJournal, OtherVersion, Short}
use Rattle.sam_journal.proofs.Records.{same_eight, same_four, take_both}

pub head_length : (random : ℕ) → length (head random) ≡ 24
unfolding head eight four
head_length random = refl

pub head_random : (a b : ℕ) (x y : List ℕ) → a < 2 ^ 64 → b < 2 ^ 64 → head a ++ x ≡ head b ++ y → a ≡ b
unfolding head eight four
head_random a b x y fits_a fits_b e = same_eight a b fits_a fits_b (ap (λ l. take 8 (drop 12 l)) e)

pub long_head : (random : ℕ) (bytes : List ℕ) → IsHead bytes random → 24 ≤ length bytes
long_head random bytes is = omega (arith, ap length is.1, head_length random, length-take 24 bytes)

mark_of : (random : ℕ) (bytes : List ℕ) → IsHead bytes random → take 12 bytes ≡ magic ++ four 2
unfolding head eight four
mark_of random bytes is = sym (take-take 12 24 bytes (omega arith)) ∙ ap (take 12) is.1

summed_of : (random : ℕ) (bytes : List ℕ) → IsHead bytes random → take 20 bytes ≡ (magic ++ four 2) ++ eight random
unfolding head eight four
summed_of random bytes is = sym (take-take 20 24 bytes (omega arith)) ∙ ap (take 20) is.1

pub sum_of_head : (random : ℕ) (bytes : List ℕ) → IsHead bytes random → take 4 (drop 20 bytes) ≡ four (crc_32c (take 20 bytes))
unfolding head eight four
sum_of_head random bytes is =
    sym (drop-take 20 4 bytes) ∙ ap (drop 20) is.1 ∙ ap (λ (l : List ℕ). four (crc_32c l)) (sym (summed_of random bytes is))

pub magic_of : (bytes : List ℕ) → take 12 bytes ≡ magic ++ four 2 → take 8 bytes ≡ magic
magic_of bytes e = sym (take-take 8 12 bytes (omega arith)) ∙ ap (take 8) e

pub version_of : (bytes : List ℕ) → take 12 bytes ≡ magic ++ four 2 → take 4 (drop 8 bytes) ≡ four 2
version_of bytes e = sym (drop-take 8 4 bytes) ∙ ap (drop 8) e

-- what begins with a head is not refused for it
pub no_refusal : (random : ℕ) (bytes : List ℕ) (why : ReadFault) → IsHead bytes random → ReadsHead bytes (Err why) → ⊥
no_refusal random bytes Short is d = omega (arith, d, long_head random bytes is)
no_refusal random bytes NotAJournal is d = d.1 (magic_of bytes (mark_of random bytes is))
no_refusal random bytes OtherVersion is d = d.2 (version_of bytes (mark_of random bytes is))
no_refusal random bytes DamagedHead is d = d.2 random is
no_refusal random bytes (Damaged place) is d = d

-- ## What the code reads

pub wrong_sum : (sum got : ℕ) (bytes : List ℕ) → sum ≡ crc_32c (take 20 bytes) → sum < 2 ^ 32 → four got ≡ take 4 (drop 20 bytes) → got < 2 ^ 32
    → (sum ≡ got → ⊥) → (random : ℕ) → IsHead bytes random → ⊥
wrong_sum sum got bytes right sum_fits read fits other random is =
    other (same_four sum got sum_fits fits (ap four right ∙ sym (sum_of_head random bytes is) ∙ sym read))

pub other_version : (got : ℕ) (bytes : List ℕ) → four got ≡ take 4 (drop 8 bytes) → got < 2 ^ 32 → (got ≡ 2 → ⊥) → take 4 (drop 8 bytes) ≡ four 2 → ⊥
other_version got bytes read fits other is = other (same_four got 2 fits (omega arith) (read ∙ is))

pub both_marks : (bytes : List ℕ) → take 8 bytes ≡ magic → take 4 (drop 8 bytes) ≡ four 2 → take 12 bytes ≡ magic ++ four 2
both_marks bytes m v = take_both 8 4 bytes ∙ ap (λ (l : List ℕ). l ++ take 4 (drop 8 bytes)) m ∙ ap (λ (l : List ℕ). magic ++ l) v

pub head_read : (random sum got : ℕ) (bytes : List ℕ) → take 8 bytes ≡ magic → take 4 (drop 8 bytes) ≡ four 2
    → eight random ≡ take 8 (drop 12 bytes) → sum ≡ crc_32c (take 20 bytes) → four got ≡ take 4 (drop 20 bytes) → sum ≡ got
    → take 24 bytes ≡ head random
unfolding head
head_read random sum got bytes m v r right read same =
    let summed : take 20 bytes ≡ (magic ++ four 2) ++ eight random =
    take_both 12 8 bytes ∙ ap (λ (l : List ℕ). l ++ take 8 (drop 12 bytes)) (both_marks bytes m v) ∙ ap (λ (l : List ℕ). (magic ++ four 2) ++ l) (sym r) in
    take_both 20 4 bytes
    ∙ ap (λ (l : List ℕ). take 20 bytes ++ l) (sym read ∙ ap four (sym same ∙ right))
    ∙ ap (λ (l : List ℕ). l ++ four (crc_32c l)) summed

-- one answer but for the head
pub one_refusal : (bytes : List ℕ) (a b : ReadFault) → ReadsHead bytes (Err a) → ReadsHead bytes (Err b) → a ≡ b
one_refusal bytes Short Short c d = refl
one_refusal bytes Short NotAJournal c d = absurd (omega (arith, c, d.0))
one_refusal bytes Short OtherVersion c d = absurd (omega (arith, c, d.0))
one_refusal bytes Short DamagedHead c d = absurd (omega (arith, c, d.0))
one_refusal bytes NotAJournal Short c d = absurd (omega (arith, d, c.0))
one_refusal bytes NotAJournal NotAJournal c d = refl
one_refusal bytes NotAJournal OtherVersion c d = absurd (c.1 d.1)
one_refusal bytes NotAJournal DamagedHead c d = absurd (c.1 (magic_of bytes d.1))
one_refusal bytes OtherVersion Short c d = absurd (omega (arith, d, c.0))
one_refusal bytes OtherVersion NotAJournal c d = absurd (d.1 c.1)
one_refusal bytes OtherVersion OtherVersion c d = refl
one_refusal bytes OtherVersion DamagedHead c d = absurd (c.2 (version_of bytes d.1))
one_refusal bytes DamagedHead Short c d = absurd (omega (arith, d, c.0))
one_refusal bytes DamagedHead NotAJournal c d = absurd (d.1 (magic_of bytes c.1))
one_refusal bytes DamagedHead OtherVersion c d = absurd (d.2 (version_of bytes c.1))
one_refusal bytes DamagedHead DamagedHead c d = refl
one_refusal bytes (Damaged place) b c d = absurd c
one_refusal bytes a (Damaged place) c d = absurd d
