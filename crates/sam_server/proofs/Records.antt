-- Bytes spell one record, and which by their first byte.
use Rattle.std.proofs.Common.{◌≡◌, ℕ, ◌<◌, ◌^◌, List, [], ◌∷◌, ◌++◌, length, take, drop, get_or, Some, Ok, Err, Result, IfOk, w16, w64, refl, sym, ap, ◌∙◌, arith, take_at, drop_at, take_all, append-nil, append_assoc}
use Rattle.std.proofs.lemmas.Nat.{from_be_bytes-to_be_bytes_2, from_be_bytes-to_be_bytes_8}
use Rattle.std.specs.Int.{from_be_bytes}
use Rattle.sam_mesg.specs.Spelling.{eight, two}
use Rattle.sam_link.specs.Hellos.{IsHello, ReadsHello, spelled}
use Rattle.sam_link.specs.declared.hello.Hello.{Hello}
use Rattle.sam_link.proofs.HelloLaws.{one_hello}
use Rattle.sam_server.specs.Laws.{OneRecord}
use Rattle.sam_server.specs.Records.{Acknowledged, Asked, Called, Came, Done, Joined, Marked, PlainRecord, Said, Spells, record_bytes}

-- ## Which record it is

as_joined : (r : PlainRecord) (bytes : List ℕ) → Spells r (1 ∷ bytes)
    → (name : List ℕ) × (text : List ℕ) × (length name < 2 ^ 64) × ((eight (length name) ++ name) ++ text ≡ bytes) × (r ≡ Joined name text)
as_joined (Joined name text) bytes x = (name, text, x.fits, ap (λ l. drop 1 l) x.bytes_are, refl)
as_joined r bytes x = absurd (omega (arith, ap (λ l. get_or l 0 0) x.bytes_are))

as_called : (r : PlainRecord) (bytes : List ℕ) → Spells r (2 ∷ bytes)
    → (hello : Hello) × IsHello hello × (spelled hello ≡ bytes) × (r ≡ Called hello)
as_called (Called hello) bytes x = (hello, x.fits, ap (λ l. drop 1 l) x.bytes_are, refl)
as_called r bytes x = absurd (omega (arith, ap (λ l. get_or l 0 0) x.bytes_are))

as_came : (r : PlainRecord) (bytes : List ℕ) → Spells r (3 ∷ bytes)
    → (attempt : ℕ) × (piece : List ℕ) × (attempt < 2 ^ 64) × (eight attempt ++ piece ≡ bytes) × (r ≡ Came attempt piece)
as_came (Came attempt piece) bytes x = (attempt, piece, x.fits, ap (λ l. drop 1 l) x.bytes_are, refl)
as_came r bytes x = absurd (omega (arith, ap (λ l. get_or l 0 0) x.bytes_are))

as_said : (r : PlainRecord) (bytes : List ℕ) → Spells r (4 ∷ bytes) → r ≡ Said bytes
as_said (Said said) bytes x = ap (λ l. Said (drop 1 l)) x.bytes_are
as_said r bytes x = absurd (omega (arith, ap (λ l. get_or l 0 0) x.bytes_are))

as_acknowledged : (r : PlainRecord) (bytes : List ℕ) → Spells r (5 ∷ bytes) → (r ≡ Acknowledged) × ([] ≡ bytes)
as_acknowledged Acknowledged bytes x = (refl, ap (λ l. drop 1 l) x.bytes_are)
as_acknowledged r bytes x = absurd (omega (arith, ap (λ l. get_or l 0 0) x.bytes_are))

as_asked : (r : PlainRecord) (bytes : List ℕ) → Spells r (6 ∷ bytes) → (r ≡ Asked) × ([] ≡ bytes)
as_asked Asked bytes x = (refl, ap (λ l. drop 1 l) x.bytes_are)
as_asked r bytes x = absurd (omega (arith, ap (λ l. get_or l 0 0) x.bytes_are))

as_done : (r : PlainRecord) (bytes : List ℕ) → Spells r (7 ∷ bytes)
    → (ending : ℕ) × (ending < 2 ^ 64) × (eight ending ≡ bytes) × (r ≡ Done ending)
as_done (Done ending) bytes x = (ending, x.fits, ap (λ l. drop 1 l) x.bytes_are, refl)
as_done r bytes x = absurd (omega (arith, ap (λ l. get_or l 0 0) x.bytes_are))

as_marked : (r : PlainRecord) (bytes : List ℕ) → Spells r (8 ∷ bytes) → (tag : ℕ) × (tag < 2 ^ 16) × (two tag ≡ bytes) × (r ≡ Marked tag)
as_marked (Marked tag) bytes x = (tag, x.fits, ap (λ l. drop 1 l) x.bytes_are, refl)
as_marked r bytes x = absurd (omega (arith, ap (λ l. get_or l 0 0) x.bytes_are))

-- ## There is one

first_numbers : (m n : ℕ) (a b : List ℕ) → m < 2 ^ 64 → n < 2 ^ 64 → eight m ++ a ≡ eight n ++ b → (m ≡ n) × (a ≡ b)
first_numbers m n a b fits_m fits_n e = (
  sym (from_be_bytes-to_be_bytes_8 m fits_m) ∙ ap (λ l. from_be_bytes w64 (take 8 l)) e ∙ from_be_bytes-to_be_bytes_8 n fits_n,
  ap (λ l. drop 8 l) e,
)

one_joined : (n t m u : List ℕ) → length n < 2 ^ 64 → length m < 2 ^ 64 → (eight (length n) ++ n) ++ t ≡ (eight (length m) ++ m) ++ u
    → Joined n t ≡ Joined m u
one_joined n t m u fits_n fits_m e =
    let both = first_numbers (length n) (length m) (n ++ t) (m ++ u) fits_n fits_m e in
    let name : n ≡ m = sym (take_at n t (length n) refl) ∙ ap (λ l. take (length n) l) both.1 ∙ take_at m u (length n) (sym both.0) in
    let text : t ≡ u = sym (drop_at n t (length n) refl) ∙ ap (λ l. drop (length n) l) both.1 ∙ drop_at m u (length n) (sym both.0) in
    λ i. Joined (name i) (text i)

same_bytes : (r : PlainRecord) (bytes others : List ℕ) → Spells r bytes → others ≡ bytes → Spells r others
same_bytes r bytes others x same = record { fits = x.fits; bytes_are = x.bytes_are ∙ sym same }

pub one_record : OneRecord
one_record (Joined n t) b bytes x y =
    let (m, u, fits, e, is) = as_joined b ((eight (length n) ++ n) ++ t) (same_bytes b bytes (record_bytes (Joined n t)) y x.bytes_are) in
    one_joined n t m u x.fits fits (sym e) ∙ sym is
one_record (Called hello) b bytes x y =
    let (other, fits, e, is) = as_called b (spelled hello) (same_bytes b bytes (record_bytes (Called hello)) y x.bytes_are) in
    ap Called (one_hello hello other x.fits fits (sym e)) ∙ sym is
one_record (Came attempt piece) b bytes x y =
    let (other, more, fits, e, is) =
    as_came b (eight attempt ++ piece) (same_bytes b bytes (record_bytes (Came attempt piece)) y x.bytes_are) in
    let both = first_numbers attempt other piece more x.fits fits (sym e) in
    ap (λ n. Came n piece) both.0 ∙ ap (λ l. Came other l) both.1 ∙ sym is
one_record (Marked tag) b bytes x y =
    let (other, fits, e, is) = as_marked b (two tag) (same_bytes b bytes (record_bytes (Marked tag)) y x.bytes_are) in
    let same : tag ≡ other =
    sym (from_be_bytes-to_be_bytes_2 tag x.fits) ∙ ap (from_be_bytes w16) (sym e) ∙ from_be_bytes-to_be_bytes_2 other fits in
    ap Marked same ∙ sym is
one_record (Said said) b bytes x y = sym (as_said b said (same_bytes b bytes (record_bytes (Said said)) y x.bytes_are))
one_record Acknowledged b bytes x y = sym (as_acknowledged b [] (same_bytes b bytes (record_bytes Acknowledged) y x.bytes_are)).0
one_record Asked b bytes x y = sym (as_asked b [] (same_bytes b bytes (record_bytes Asked) y x.bytes_are)).0
one_record (Done ending) b bytes x y =
    let (other, fits, e, is) = as_done b (eight ending) (same_bytes b bytes (record_bytes (Done ending)) y x.bytes_are) in
    let both = first_numbers ending other [] [] x.fits fits
    (append-nil (eight ending) ∙ sym e ∙ sym (append-nil (eight other))) in
    ap Done both.0 ∙ sym is

-- ## A hello in a record

pub some_called : (bytes : List ℕ) (hello : Hello) → length bytes ≡ 42 → ReadsHello bytes (Ok (Some hello))
    → Spells (Called hello) (2 ∷ bytes)
some_called bytes hello long reads = record {
  fits = reads.0;
  bytes_are = ap (λ l. 2 ∷ l) (sym reads.2 ∙ take_all 42 bytes (omega (arith, long)));
}

pub called_written : {E : Type 0} (r : Result (Unit {0}) E) (old new bytes : List ℕ) (hello : Hello) → bytes ≡ spelled hello
    → IfOk r (λ done. new ≡ ((old ++ 2 ∷ []) ++ bytes) ++ []) → IfOk r (λ done. new ≡ old ++ record_bytes (Called hello))
called_written (Ok done) old new bytes hello is x =
    x ∙ append-nil ((old ++ 2 ∷ []) ++ bytes) ∙ append_assoc old (2 ∷ []) bytes ∙ ap (λ l. old ++ 2 ∷ l) is
called_written (Err why) old new bytes hello is x = x
