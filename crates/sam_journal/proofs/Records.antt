-- Bytes begin with a record just if its parts stand at their places, and with one record at most.
use Rattle.std.proofs.Common.{◌≡◌, ℕ, ◌+◌, ◌<◌, ◌^◌, List, ◌++◌, length, take, drop, w32, w64, refl, sym, ap, ◌∙◌, subst, append_assoc, arith, length-append}
use Rattle.std.proofs.Math.Seq.{drop-append_seam, take-append_seam}
use Rattle.std.proofs.lemmas.List.{drop-take, take-append-drop, take-take}
use Rattle.std.proofs.lemmas.Nat.{from_be_bytes-to_be_bytes_4, from_be_bytes-to_be_bytes_8}
use Rattle.std.specs.Int.{from_be_bytes}
use Rattle.sam_journal.specs.Checksums.{crc_32c}
use Rattle.sam_journal.specs.Records.{Entry, IsRecord, Stands, back, eight, four, front, heading, record_bytes, size}

pub same_eight : (a b : ℕ) → a < 2 ^ 64 → b < 2 ^ 64 → eight a ≡ eight b → a ≡ b
unfolding eight
same_eight a b fits_a fits_b e = sym (from_be_bytes-to_be_bytes_8 a fits_a) ∙ ap (from_be_bytes w64) e ∙ from_be_bytes-to_be_bytes_8 b fits_b

pub same_four : (a b : ℕ) → a < 2 ^ 32 → b < 2 ^ 32 → four a ≡ four b → a ≡ b
unfolding four
same_four a b fits_a fits_b e = sym (from_be_bytes-to_be_bytes_4 a fits_a) ∙ ap (from_be_bytes w32) e ∙ from_be_bytes-to_be_bytes_4 b fits_b

-- ## What bytes say that begin with a record

pub record Says (random : ℕ) (bytes : List ℕ) (number : ℕ) (e : Entry) : Type 0 where
  pub number_is : take 8 bytes ≡ eight number
  pub len_is : take 4 (drop 8 bytes) ≡ four (length e.body)
  pub durable_is : take 8 (drop 12 bytes) ≡ eight e.durable
  pub heading_sum : take 4 (drop 20 bytes) ≡ four (crc_32c (eight random ++ take 20 bytes))
  pub body_is : take (length e.body) (drop 24 bytes) ≡ e.body
  pub sum : take 4 (drop (length e.body) (drop 24 bytes)) ≡ four (crc_32c (eight random ++ (take 24 bytes ++ e.body)))

says_front : (random number : ℕ) (e : Entry) (rest : List ℕ) → Says random (record_bytes random number e ++ rest) number e
unfolding record_bytes eight four
says_front random number e rest = record {
  number_is = refl;
  len_is = refl;
  durable_is = refl;
  heading_sum = refl;
  body_is = ap (take (length e.body)) (append_assoc e.body (back random number e) rest) ∙ take-append_seam e.body (back random number e ++ rest);
  sum = ap (take 4) (ap (drop (length e.body)) (append_assoc e.body (back random number e) rest) ∙ drop-append_seam e.body (back random number e ++ rest));
}

pub says : (random number : ℕ) (e : Entry) (bytes rest : List ℕ) → bytes ≡ record_bytes random number e ++ rest → Says random bytes number e
says random number e bytes rest whole = subst (λ b. Says random b number e) (sym whole) (says_front random number e rest)

-- ## Bytes that say so begin with it

pub take_both : (m n : ℕ) (xs : List ℕ) → take (m + n) xs ≡ take m xs ++ take n (drop m xs)
take_both m n xs = sym (take-append-drop m (take (m + n) xs)) ∙ ap (λ (l : List ℕ). l ++ drop m (take (m + n) xs)) (take-take m (m + n) xs (omega arith)) ∙ ap (λ (l : List ℕ). take m xs ++ l) (drop-take m n xs)

heading_is : (random number : ℕ) (e : Entry) (bytes : List ℕ) → Says random bytes number e → take 20 bytes ≡ heading number e
heading_is random number e bytes s =
    take_both 12 8 bytes
    ∙ ap (λ (l : List ℕ). l ++ take 8 (drop 12 bytes)) (take_both 8 4 bytes ∙ ap (λ (l : List ℕ). l ++ take 4 (drop 8 bytes)) s.number_is ∙ ap (λ (l : List ℕ). eight number ++ l) s.len_is)
    ∙ ap (λ (l : List ℕ). (eight number ++ four (length e.body)) ++ l) s.durable_is

front_is : (random number : ℕ) (e : Entry) (bytes : List ℕ) → Says random bytes number e → take 24 bytes ≡ front random number e
front_is random number e bytes s =
    let h = heading_is random number e bytes s in
    take_both 20 4 bytes
    ∙ ap (λ (l : List ℕ). take 20 bytes ++ l) s.heading_sum
    ∙ ap (λ (l : List ℕ). l ++ four (crc_32c (eight random ++ l))) h

abbrev rest_of : Entry → List ℕ → List ℕ
rest_of e bytes = drop 4 (drop (length e.body) (drop 24 bytes))

pub begins : (random number : ℕ) (e : Entry) (bytes : List ℕ) → Says random bytes number e → bytes ≡ record_bytes random number e ++ rest_of e bytes
unfolding record_bytes eight four
begins random number e bytes s =
    let f = front_is random number e bytes s in
    sym (take-append-drop 24 bytes)
    ∙ ap (λ (l : List ℕ). l ++ drop 24 bytes) f
    ∙ ap (λ (l : List ℕ). front random number e ++ l)
    (sym (take-append-drop (length e.body) (drop 24 bytes))
    ∙ ap (λ (l : List ℕ). l ++ drop (length e.body) (drop 24 bytes)) s.body_is
    ∙ ap (λ (l : List ℕ). e.body ++ l)
    (sym (take-append-drop 4 (drop (length e.body) (drop 24 bytes)))
    ∙ ap (λ (l : List ℕ). l ++ rest_of e bytes)
    (s.sum ∙ ap (λ (l : List ℕ). four (crc_32c (eight random ++ (l ++ e.body)))) f)))
    ∙ ap (λ (l : List ℕ). front random number e ++ l) (sym (append_assoc e.body (back random number e) (rest_of e bytes)))

-- ## One record at most

pub same_entry : (a b : Entry) → a.durable ≡ b.durable → a.body ≡ b.body → a ≡ b
same_entry a b d e = λ i. record { durable = d i; body = e i }

-- the sums don't matter here
pub one_says : (random place number count : ℕ) (e f : Entry) (bytes : List ℕ) → IsRecord place number e → IsRecord place count f
    → Says random bytes number e → Says random bytes count f → (number ≡ count) × (e ≡ f)
one_says random place number count e f bytes is fine s t =
    let n : number ≡ count = same_eight number count is.number_fits fine.number_fits (sym s.number_is ∙ t.number_is) in
    let l : length e.body ≡ length f.body = same_four (length e.body) (length f.body) is.body_fits fine.body_fits (sym s.len_is ∙ t.len_is) in
    let d : e.durable ≡ f.durable = same_eight e.durable f.durable is.durable_fits fine.durable_fits (sym s.durable_is ∙ t.durable_is) in
    (n, same_entry e f d (sym s.body_is ∙ ap (λ (k : ℕ). take k (drop 24 bytes)) l ∙ t.body_is))

ends : (a c b : ℕ) → a ≡ 24 → c ≡ 4 → a + b + c ≡ 28 + b
ends a c b long short = omega (arith, long, short)

pub record_length : (random number : ℕ) (e : Entry) → length (record_bytes random number e) ≡ size e
unfolding record_bytes eight four
record_length random number e =
    let long : length (front random number e) ≡ 24 = refl in
    let short : length (back random number e) ≡ 4 = refl in
    length-append (front random number e ++ e.body) (back random number e)
    ∙ ap (λ (n : ℕ). n + length (back random number e)) (length-append (front random number e) e.body)
    ∙ ends (length (front random number e)) (length (back random number e)) (length e.body) long short

pub one_stands : (random place number count : ℕ) (e f : Entry) (bytes : List ℕ) → Stands random bytes place number e → Stands random bytes place count f
    → (number ≡ count) × (e ≡ f)
one_stands random place number count e f bytes s t =
    one_says random place number count e f (drop place bytes) s.is t.is (says random number e (drop place bytes) s.rest s.whole)
    (says random count f (drop place bytes) t.rest t.whole)
