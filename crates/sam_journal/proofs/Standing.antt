-- Why no record stands at a place, or one does.
use Rattle.std.proofs.Common.{◌≡◌, ℕ, ◌+◌, ◌<◌, ◌≤◌, ◌^◌, List, ◌++◌, length, take, drop, sym, ap, ◌∙◌, subst, arith, length-append, length-drop, length-take}
use Rattle.std.proofs.lemmas.List.{drop-drop}
use Rattle.sam_journal.specs.Checksums.{crc_32c}
use Rattle.sam_journal.specs.Records.{Entry, IsFound, IsRecord, Stands, eight, four, record_bytes, size}
use Rattle.sam_journal.specs.declared.finding.Record.{Record}
use Rattle.sam_journal.proofs.Records.{Says, begins, record_length, same_eight, same_four, says}

-- ## What a record that stands there says

says_there : (random place number : ℕ) (e : Entry) (bytes : List ℕ) → Stands random bytes place number e → Says random (drop place bytes) number e
says_there random place number e bytes s = says random number e (drop place bytes) s.rest s.whole

says_piece : (random place number : ℕ) (e : Entry) (bytes piece : List ℕ) → piece ≡ drop place bytes → Stands random bytes place number e
    → Says random piece number e
says_piece random place number e bytes piece is s = subst (λ p. Says random p number e) (sym is) (says_there random place number e bytes s)

pub reaches : (random place number : ℕ) (e : Entry) (bytes : List ℕ) → Stands random bytes place number e → size e ≤ length (drop place bytes)
reaches random place number e bytes s =
    omega (arith, ap length s.whole, length-append (record_bytes random number e) s.rest, record_length random number e)

pub ends_inside : (random place number : ℕ) (e : Entry) (bytes : List ℕ) → Stands random bytes place number e → place + size e ≤ length bytes
ends_inside random place number e bytes s = omega (arith, reaches random place number e bytes s, length-drop place bytes)

-- its length is the one that is read
len_read : (random place number len : ℕ) (e : Entry) (bytes piece : List ℕ) → piece ≡ drop place bytes → four len ≡ take 4 (drop 8 piece)
    → len < 2 ^ 32 → Stands random bytes place number e → length e.body ≡ len
len_read random place number len e bytes piece is read fits s =
    let t = says_piece random place number e bytes piece is s in
    same_four (length e.body) len s.is.body_fits fits (sym t.len_is ∙ sym read)

-- ## Why none stands there

pub no_room : (random place : ℕ) (bytes : List ℕ) → length bytes < place + 28 → (number : ℕ) (e : Entry) → Stands random bytes place number e → ⊥
no_room random place bytes less number e s = omega (arith, ends_inside random place number e bytes s, less)

pub no_body : (random place len : ℕ) (bytes piece : List ℕ) → piece ≡ drop place bytes → four len ≡ take 4 (drop 8 piece) → len < 2 ^ 32
    → length piece < 28 + len → (number : ℕ) (e : Entry) → Stands random bytes place number e → ⊥
no_body random place len bytes piece is read fits less number e s =
    omega (arith, reaches random place number e bytes s, ap length is, len_read random place number len e bytes piece is read fits s, less)

pub no_durable : (random place durable : ℕ) (bytes piece : List ℕ) → piece ≡ drop place bytes → eight durable ≡ take 8 (drop 12 piece)
    → durable < 2 ^ 64 → place < durable → (number : ℕ) (e : Entry) → Stands random bytes place number e → ⊥
no_durable random place durable bytes piece is read fits more number e s =
    let t = says_piece random place number e bytes piece is s in
    let same : e.durable ≡ durable = same_eight e.durable durable s.is.durable_fits fits (sym t.durable_is ∙ sym read) in
    omega (arith, same, s.is.durable_before, more)

pub no_heading : (random place sum got : ℕ) (bytes piece heading : List ℕ) → piece ≡ drop place bytes → heading ≡ take 20 piece
    → sum ≡ crc_32c (eight random ++ heading) → sum < 2 ^ 32 → four got ≡ take 4 (drop 20 piece) → got < 2 ^ 32 → (sum ≡ got → ⊥)
    → (number : ℕ) (e : Entry) → Stands random bytes place number e → ⊥
no_heading random place sum got bytes piece heading is front right sum_fits read fits other number e s =
    let t = says_piece random place number e bytes piece is s in
    other (same_four sum got sum_fits fits
    (ap four (right ∙ ap (λ (l : List ℕ). crc_32c (eight random ++ l)) front) ∙ sym t.heading_sum ∙ sym read))

pub no_sum : (random place len sum got : ℕ) (bytes piece front rest body : List ℕ) → piece ≡ drop place bytes → four len ≡ take 4 (drop 8 piece)
    → len < 2 ^ 32 → front ≡ take 24 piece → rest ≡ drop 24 piece → body ≡ take len rest → sum ≡ crc_32c (eight random ++ (front ++ body))
    → sum < 2 ^ 32 → four got ≡ take 4 (drop len rest) → got < 2 ^ 32 → (sum ≡ got → ⊥)
    → (number : ℕ) (e : Entry) → Stands random bytes place number e → ⊥
no_sum random place len sum got bytes piece front rest body is len_is len_fits front_is rest_is body_is right sum_fits read fits other number e s =
    let t = says_piece random place number e bytes piece is s in
    let same : length e.body ≡ len = len_read random place number len e bytes piece is len_is len_fits s in
    let b : body ≡ e.body = body_is ∙ ap (take len) rest_is ∙ ap (λ (n : ℕ). take n (drop 24 piece)) (sym same) ∙ t.body_is in
    other (same_four sum got sum_fits fits
    (ap four (right ∙ ap (λ (l : List ℕ). crc_32c (eight random ++ (l ++ body))) front_is ∙ ap (λ (l : List ℕ). crc_32c (eight random ++ (take 24 piece ++ l))) b)
    ∙ sym t.sum ∙ ap (λ (n : ℕ). take 4 (drop n (drop 24 piece))) same ∙ ap (λ (l : List ℕ). take 4 (drop len l)) (sym rest_is) ∙ sym read))

-- ## Why this one does

-- what was read of the bytes from there on
pub record Read (random place : ℕ) (found : Record) (piece : List ℕ) : Type 0 where
  pub number_is : eight found.number ≡ take 8 piece
  pub len_is : four found.len ≡ take 4 (drop 8 piece)
  pub durable_is : eight found.durable ≡ take 8 (drop 12 piece)
  pub heading_sum : take 4 (drop 20 piece) ≡ four (crc_32c (eight random ++ take 20 piece))
  pub sum : take 4 (drop found.len (drop 24 piece)) ≡ four (crc_32c (eight random ++ (take 24 piece ++ take found.len (drop 24 piece))))
  pub inside : 28 + found.len ≤ length piece
  pub number_fits : found.number < 2 ^ 64
  pub len_fits : found.len < 2 ^ 32
  pub durable_fits : found.durable < 2 ^ 64
  pub durable_before : found.durable ≤ place

body_length : (piece : List ℕ) (found : Record) → 28 + found.len ≤ length piece → length (take found.len (drop 24 piece)) ≡ found.len
body_length piece found inside = omega (arith, length-take found.len (drop 24 piece), length-drop 24 piece, inside)

says_read : (random place : ℕ) (found : Record) (piece : List ℕ) → Read random place found piece
    → Says random piece found.number (record { durable = found.durable; body = take found.len (drop 24 piece) })
says_read random place found piece r =
    let long : length (take found.len (drop 24 piece)) ≡ found.len = body_length piece found r.inside in
    record {
      number_is = sym r.number_is;
      len_is = sym r.len_is ∙ ap four (sym long);
      durable_is = sym r.durable_is;
      heading_sum = r.heading_sum;
      body_is = ap (λ (n : ℕ). take n (drop 24 piece)) long;
      sum = ap (λ (n : ℕ). take 4 (drop n (drop 24 piece))) long ∙ r.sum;
    }

is_read : (random place : ℕ) (found : Record) (piece : List ℕ) → Read random place found piece
    → IsRecord place found.number (record { durable = found.durable; body = take found.len (drop 24 piece) })
is_read random place found piece r = record {
  number_fits = r.number_fits;
  body_fits = subst (λ n. n < 2 ^ 32) (sym (body_length piece found r.inside)) r.len_fits;
  durable_fits = r.durable_fits;
  durable_before = r.durable_before;
}

stands_read : (random place : ℕ) (found : Record) (bytes : List ℕ) → Read random place found (drop place bytes)
    → Stands random bytes place found.number (record { durable = found.durable; body = take found.len (drop 24 (drop place bytes)) })
stands_read random place found bytes r =
    let e : Entry = record { durable = found.durable; body = take found.len (drop 24 (drop place bytes)) } in
    record {
      is = is_read random place found (drop place bytes) r;
      rest = drop 4 (drop (length e.body) (drop 24 (drop place bytes)));
      whole = begins random found.number e (drop place bytes) (says_read random place found (drop place bytes) r);
    }

pub is_found : (random place : ℕ) (found : Record) (bytes piece : List ℕ) → place ≤ length bytes → found.place ≡ place → piece ≡ drop place bytes
    → Read random place found piece → IsFound random bytes place found
is_found random place found bytes piece within at is r =
    let there : Read random place found (drop place bytes) = subst (λ p. Read random place found p) is r in
    record {
      place_is = at;
      stands = subst (λ b. Stands random bytes place found.number (record { durable = found.durable; body = take found.len b }))
          (drop-drop 24 place bytes ∙ ap (λ (n : ℕ). drop (n + 24) bytes) (sym at)) (stands_read random place found bytes there);
      inside = omega (arith, there.inside, length-drop place bytes, within);
    }

-- ## What the code reads

pub sums_right : (random sum got : ℕ) (piece heading : List ℕ) → heading ≡ take 20 piece → sum ≡ crc_32c (eight random ++ heading)
    → four got ≡ take 4 (drop 20 piece) → sum ≡ got → take 4 (drop 20 piece) ≡ four (crc_32c (eight random ++ take 20 piece))
sums_right random sum got piece heading is right read same =
    sym read ∙ ap four (sym same ∙ right ∙ ap (λ (l : List ℕ). crc_32c (eight random ++ l)) is)

pub both_right : (random len sum got : ℕ) (piece front rest body : List ℕ) → front ≡ take 24 piece → rest ≡ drop 24 piece → body ≡ take len rest
    → sum ≡ crc_32c (eight random ++ (front ++ body)) → four got ≡ take 4 (drop len rest) → sum ≡ got
    → take 4 (drop len (drop 24 piece)) ≡ four (crc_32c (eight random ++ (take 24 piece ++ take len (drop 24 piece))))
both_right random len sum got piece front rest body front_is rest_is body_is right read same =
    ap (λ (l : List ℕ). take 4 (drop len l)) (sym rest_is) ∙ sym read
    ∙ ap four (sym same ∙ right ∙ ap (λ (l : List ℕ). crc_32c (eight random ++ (l ++ body))) front_is
    ∙ ap (λ (l : List ℕ). crc_32c (eight random ++ (take 24 piece ++ l))) (body_is ∙ ap (take len) rest_is))
