-- What is read from bytes was spelled so, and what was spelled so is read.
use Rattle.std.proofs.Common.{◌≡◌, ℕ, ◌+◌, ◌<◌, ◌≤◌, ◌^◌, Bool, true, false, List, [], ◌∷◌, ◌++◌, length, take, drop, Option, Some, refl, sym, ap, subst, ◌∙◌, arith, option_and_then, option_map, w8, w16, w64, le-ltb, take-append-drop, append_assoc, take_at, drop_at, length-take, length-append, length-drop, get_or-drop, suc, lit<}
use Rattle.std.specs.Int.{from_be_bytes}
use Rattle.std.proofs.lemmas.List.{drop-drop}
use Rattle.sam_mesg.specs.Spelling.{two, four, eight}
unfoldable pub use Rattle.sam_mesg.specs.Reading.{number_at}
use Rattle.sam_mesg.proofs.Exact.{IsBytes, IsFront, bind_some, front16, front32, front64, map_some, some_is}
use Rattle.sam_note.specs.declared.kind.Fields.{Fields}
use Rattle.sam_note.specs.Messages.{piece}
use Rattle.sam_note.specs.Reading.{numbers_at, piece_at, pieces_at, then_at}
use Rattle.sam_note.specs.Writing.{part}
unfoldable pub use Rattle.sam_note.specs.Reading.{counted_at, if_there}

number_some : (bytes : List ℕ) (n : ℕ) → 8 ≤ length bytes → from_be_bytes w64 (take 8 bytes) ≡ n → number_at w64 bytes ≡ Some (n, drop 8 bytes)
unfolding number_at
number_some bytes n le e = rw (le-ltb _ _ le) (ap (λ k. Some (k, drop 8 bytes)) e)

-- a number of eight bytes that is there
pub wide_there : (there : Bool) (at : ℕ) (bytes : List ℕ) (n : ℕ) → there ≡ true → at + 8 ≤ length bytes → from_be_bytes w64 (take 8 (drop at bytes)) ≡ n
    → if_there there 0 (number_at w64) (drop at bytes) ≡ Some (n, drop (at + 8) bytes)
unfolding if_there
wide_there there at bytes n is le e =
    rw is (number_some (drop at bytes) n (grind (arith, length-drop)) e ∙ ap (λ (rest : List ℕ). Some (n, rest)) (drop-drop 8 at bytes))

-- a byte
number_byte : (b : ℕ) (bytes : List ℕ) → number_at w8 (b ∷ bytes) ≡ Some (b, bytes)
unfolding number_at
number_byte b bytes = grind (arith, le-ltb)

byte_takes : (bytes : List ℕ) (x : ℕ × List ℕ) → IsBytes bytes → number_at w8 bytes ≡ Some x → (bytes ≡ x.0 ∷ [] ++ x.1) × (x.0 < 2 ^ 8) × IsBytes x.1
unfolding number_at
byte_takes [] x fits e = absurd cc
byte_takes (b ∷ bytes) x fits e =
    let same : (b, bytes) ≡ x = some_is (b, bytes) x (sym (number_byte b bytes) ∙ e) in
    let is : IsBytes bytes = λ i. fits (suc i) in
    let good : b < 256 = fits 0 in
    subst (λ y. (b ∷ bytes ≡ y.0 ∷ [] ++ y.1) × (y.0 < 2 ^ 8) × IsBytes y.1) same (refl, good, is)

byte_again : (n : ℕ) (rest : List ℕ) → n < 2 ^ 8 → number_at w8 (n ∷ [] ++ rest) ≡ Some (n, rest)
byte_again n rest lt = number_byte n rest

pub front8 : IsFront (λ n. n ∷ []) (λ n. n < 2 ^ 8) (number_at w8)
front8 = record { takes = byte_takes; again = byte_again }

-- a piece
counted_takes : (a : ℕ × List ℕ) (x : List ℕ × List ℕ) → counted_at a ≡ Some x → (a.0 ≡ length x.0) × (a.1 ≡ x.0 ++ x.1) × (x.1 ≡ drop a.0 a.1)
unfolding counted_at
counted_takes a x e = grind (arith, some_is, (length-take a.0 a.1), (take-append-drop a.0 a.1))

counted_again : (bytes rest : List ℕ) → counted_at (length bytes, bytes ++ rest) ≡ Some (bytes, rest)
unfolding counted_at
counted_again bytes rest = grind (arith, le-ltb, (length-append bytes rest), (take_at bytes rest (length bytes) refl), (drop_at bytes rest (length bytes) refl))

IsBytes-drop : (n : ℕ) (bytes : List ℕ) → IsBytes bytes → IsBytes (drop n bytes)
IsBytes-drop n bytes h i = rw get_or-drop (h (n + i))

piece_takes : (bytes : List ℕ) (x : List ℕ × List ℕ) → IsBytes bytes → piece_at bytes ≡ Some x → (bytes ≡ piece x.0 ++ x.1) × (length x.0 < 2 ^ 16) × IsBytes x.1
piece_takes bytes x fits e =
    let a = bind_some (number_at w16 bytes) counted_at x e in
    let t = front16.takes bytes a.0 fits a.1 in
    let u = counted_takes a.0 x a.2 in (
      t.0 ∙ ap (λ n. two n ++ a.0.1) u.0 ∙ ap (λ l. two (length x.0) ++ l) u.1 ∙ sym (append_assoc (two (length x.0)) x.0 x.1),
      subst (λ n. n < 2 ^ 16) u.0 t.1,
      subst IsBytes (sym u.2) (IsBytes-drop a.0.0 a.0.1 t.2),
    )

piece_again : (n rest : List ℕ) → length n < 2 ^ 16 → piece_at (piece n ++ rest) ≡ Some (n, rest)
piece_again n rest lt =
    ap piece_at (append_assoc (two (length n)) n rest) ∙ ap (option_and_then counted_at) (front16.again (length n) (n ++ rest) lt) ∙ counted_again n rest

pub piece_front : IsFront piece (λ n. length n < 2 ^ 16) piece_at
piece_front = record { takes = piece_takes; again = piece_again }

-- what is there, or not
abbrev pub GoodIf : {A : Type 0} → Bool → A → (A → Type 0) → A → Type 0
GoodIf there none good x = good x × (there ≡ false → x ≡ none)

pub if_front : {A : Type 0} {digits : A → List ℕ} {good : A → Type 0} {read : List ℕ → Option (A × List ℕ)} (there : Bool) (none : A) → good none → IsFront digits good read
    → IsFront (λ x. part there (digits x)) (GoodIf there none good) (if_there there none read)
unfolding if_there
if_front true none is_good front = record {
  takes = λ bytes x fits e. let t = front.takes bytes x fits e in (t.0, (t.1, λ (absent : true ≡ false). absurd cc), t.2);
  again = λ x rest good. front.again x rest good.0;
}
if_front {A} {digits} {good} {read} false none is_good front = record {
  takes = λ bytes x fits e.
      let same : (none, bytes) ≡ x = some_is (none, bytes) x e in
      subst (λ (y : A × List ℕ). (bytes ≡ y.1) × GoodIf false none good y.0 × IsBytes y.1) same (refl, (is_good, λ absent. refl), fits);
  again = λ x rest good. ap (λ (y : A). Some (y, rest)) (sym (good.1 refl));
}

-- one after the other
pub then_front : {A B : Type 0} {digits : A → List ℕ} {good : A → Type 0} {first : List ℕ → Option (A × List ℕ)} {spell : B → List ℕ} {right : B → Type 0} {second : List ℕ → Option (B × List ℕ)}
    → IsFront digits good first → IsFront spell right second → IsFront {A = A × B} (λ x. digits x.0 ++ spell x.1) (λ x. good x.0 × right x.1) (then_at first second)
then_front {A} {B} {digits} {good} {first} {spell} {right} {second} one other = record {
  takes = λ bytes x fits e.
      let a = bind_some (first bytes) (λ p. option_map (λ (b : B × List ℕ). ((p.0, b.0), b.1)) (second p.1)) x e in
      let b = map_some (λ (b : B × List ℕ). ((a.0.0, b.0), b.1)) (second a.0.1) x a.2 in
      let t = one.takes bytes a.0 fits a.1 in
      let u = other.takes a.0.1 b.0 t.2 b.1 in
      subst (λ (y : (A × B) × List ℕ). (bytes ≡ (digits y.0.0 ++ spell y.0.1) ++ y.1) × (good y.0.0 × right y.0.1) × IsBytes y.1) b.2
      (t.0 ∙ ap (λ r. digits a.0.0 ++ r) u.0 ∙ sym (append_assoc (digits a.0.0) (spell b.0.0) b.0.1), (t.1, u.1), u.2);
  again = λ x rest is.
      ap (then_at first second) (append_assoc (digits x.0) (spell x.1) rest)
      ∙ ap (option_and_then (λ (a : A × List ℕ). option_map (λ (b : B × List ℕ). ((a.0, b.0), b.1)) (second a.1))) (one.again x.0 (spell x.1 ++ rest) is.0)
      ∙ ap (option_map (λ (b : B × List ℕ). ((x.0, b.0), b.1))) (other.again x.1 rest is.1);
}

-- the bytes of numbers and of pieces, and what they may be
abbrev pub number_bytes : Fields → ℕ × (ℕ × (ℕ × ℕ)) → List ℕ
number_bytes f x = part f.request (four x.0) ++ (part f.tag (two x.1.0) ++ (part f.code (x.1.1.0 ∷ []) ++ part f.number (eight x.1.1.1)))

abbrev pub GoodNumbers : Fields → ℕ × (ℕ × (ℕ × ℕ)) → Type 0
GoodNumbers f x =
    GoodIf f.request 0 (λ n. n < 2 ^ 32) x.0
    × (GoodIf f.tag 0 (λ n. n < 2 ^ 16) x.1.0 × (GoodIf f.code 0 (λ n. n < 2 ^ 8) x.1.1.0 × GoodIf f.number 0 (λ n. n < 2 ^ 64) x.1.1.1))

pub numbers_front : (f : Fields) → IsFront (number_bytes f) (GoodNumbers f) (numbers_at f)
numbers_front f =
    then_front (if_front f.request 0 (lit< tt) front32)
    (then_front (if_front f.tag 0 (lit< tt) front16) (then_front (if_front f.code 0 (lit< tt) front8) (if_front f.number 0 (lit< tt) front64)))

abbrev pub piece_bytes : Fields → List ℕ × (List ℕ × List ℕ) → List ℕ
piece_bytes f x = part f.path (piece x.0) ++ (part f.copy (piece x.1.0) ++ part f.text (piece x.1.1))

abbrev pub IsShort : List ℕ → Type 0
IsShort bytes = length bytes < 2 ^ 16

abbrev pub GoodPieces : Fields → List ℕ × (List ℕ × List ℕ) → Type 0
GoodPieces f x = GoodIf f.path [] IsShort x.0 × (GoodIf f.copy [] IsShort x.1.0 × GoodIf f.text [] IsShort x.1.1)

pub pieces_front : (f : Fields) → IsFront (piece_bytes f) (GoodPieces f) (pieces_at f)
pieces_front f =
    then_front (if_front f.path [] (lit< tt) piece_front)
    (then_front (if_front f.copy [] (lit< tt) piece_front) (if_front f.text [] (lit< tt) piece_front))

pub fields_front : (f : Fields) → IsFront {A = (ℕ × (ℕ × (ℕ × ℕ))) × (List ℕ × (List ℕ × List ℕ))} (λ x. number_bytes f x.0 ++ piece_bytes f x.1) (λ x. GoodNumbers f x.0 × GoodPieces f x.1)
    (then_at (numbers_at f) (pieces_at f))
fields_front f = then_front (numbers_front f) (pieces_front f)
