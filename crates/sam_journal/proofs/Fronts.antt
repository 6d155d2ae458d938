-- The records from the front on, one after another.
use Rattle.std.proofs.Common.{◌≡◌, ◌⊎◌, inl, inr, ℕ, zero, suc, ◌+◌, ◌-◌, ◌<◌, ◌≤◌, List, [], ◌∷◌, ◌++◌, length, take, drop, refl, sym, ap, ◌∙◌, subst, append_assoc, append-nil, arith, length-append, length-drop, length-take, take-append-drop}
use Rattle.std.proofs.Math.Seq.{drop-append_seam, take-append-add}
use Rattle.std.proofs.lemmas.Bool.{cases_lt}
use Rattle.std.proofs.lemmas.List.{drop-drop, nil_from_length}
use Rattle.sam_journal.specs.Files.{AreRecords, Front, IsHead, Wholes, file_bytes, head, journal_bytes}
use Rattle.sam_journal.specs.Records.{Entry, IsFound, IsRecord, NoneStands, Stands, entry_of, record_bytes, size}
use Rattle.sam_journal.specs.declared.finding.Record.{Record}
use Rattle.sam_journal.proofs.HeadLaws.{head_length, long_head}
use Rattle.sam_journal.proofs.Records.{one_says, one_stands, record_length, says}
use Rattle.sam_journal.proofs.Standing.{reaches}

-- ## Lengths

abbrev pub total : List Entry → ℕ
total [] = 0
total (e ∷ es) = size e + total es

pub journal_length : (random number : ℕ) (es : List Entry) → length (journal_bytes random number es) ≡ total es
journal_length random number [] = refl
journal_length random number (e ∷ es) =
    omega (
      arith,
      length-append (record_bytes random number e) (journal_bytes random (suc number) es),
      record_length random number e,
      journal_length random (suc number) es,
    )

pub file_length : (random : ℕ) (es : List Entry) → length (file_bytes random es) ≡ 24 + total es
file_length random es = omega (arith, length-append (head random) (journal_bytes random 0 es), head_length random, journal_length random 0 es)

pub few : (es : List Entry) → length es ≤ total es
few [] = omega arith
few (e ∷ es) = omega (arith, few es)

-- ## One more

pub one_more : (random number : ℕ) (es : List Entry) (e : Entry)
    → journal_bytes random number (es ++ e ∷ []) ≡ journal_bytes random number es ++ record_bytes random (number + length es) e
one_more random number [] e =
    let same : number ≡ number + 0 = omega arith in
    append-nil (record_bytes random number e) ∙ ap (λ (n : ℕ). record_bytes random n e) same
one_more random number (x ∷ es) e =
    let same : suc number + length es ≡ number + suc (length es) = omega arith in
    ap (λ (l : List ℕ). record_bytes random number x ++ l)
    (one_more random (suc number) es e ∙ ap (λ (n : ℕ). journal_bytes random (suc number) es ++ record_bytes random n e) same)
    ∙ sym (append_assoc (record_bytes random number x) (journal_bytes random (suc number) es) (record_bytes random (number + suc (length es)) e))

is_moved : (p q m n : ℕ) (e : Entry) → p ≡ q → m ≡ n → IsRecord p m e → IsRecord q n e
is_moved p q m n e a b is = subst (λ k. IsRecord q k e) b (subst (λ k. IsRecord k m e) a is)

are_more : (place number : ℕ) (es : List Entry) (e : Entry) → AreRecords place number es → IsRecord (place + total es) (number + length es) e
    → AreRecords place number (es ++ e ∷ [])
are_more place number [] e are is = (is_moved (place + 0) place (number + 0) number e (omega arith) (omega arith) is, tt)
are_more place number (x ∷ es) e are is = (
  are.0,
  are_more (place + size x) (suc number) es e are.1
      (is_moved (place + (size x + total es)) (place + size x + total es) (number + suc (length es)) (suc number + length es) e (omega arith) (omega arith) is),
)

total_more : (es : List Entry) (e : Entry) → total (es ++ e ∷ []) ≡ total es + size e
total_more [] e = omega arith
total_more (x ∷ es) e = omega (arith, total_more es e)

-- what stands behind a record that stands there
pub behind : (random place number : ℕ) (e : Entry) (bytes : List ℕ) (s : Stands random bytes place number e) → drop (place + size e) bytes ≡ s.rest
behind random place number e bytes s =
    sym (drop-drop (size e) place bytes) ∙ ap (drop (size e)) s.whole
    ∙ ap (λ (n : ℕ). drop n (record_bytes random number e ++ s.rest)) (sym (record_length random number e))
    ∙ drop-append_seam (record_bytes random number e) s.rest

pub no_records : (random : ℕ) (bytes : List ℕ) → IsHead bytes random → Front random [] bytes 24
no_records random bytes is = record {
  is = (is.0, tt);
  whole = sym (take-append-drop 24 bytes) ∙ ap (λ (l : List ℕ). l ++ drop 24 bytes) (is.1 ∙ sym (append-nil (head random)));
  end_is = sym (file_length random []);
}

pub end_of : (random : ℕ) (es : List Entry) (bytes : List ℕ) (end : ℕ) → Front random es bytes end → end ≡ 24 + total es
end_of random es bytes end f = f.end_is ∙ file_length random es

pub front_more : (random end : ℕ) (es : List Entry) (bytes : List ℕ) (e : Entry) → Front random es bytes end → Stands random bytes end (length es) e
    → Front random (es ++ e ∷ []) bytes (end + size e)
front_more random end es bytes e f s =
    let rest = drop (end + size e) bytes in
    let after : drop end bytes ≡ record_bytes random (length es) e ++ rest =
    s.whole ∙ ap (λ (l : List ℕ). record_bytes random (length es) e ++ l) (sym (behind random end (length es) e bytes s)) in
    let joined : file_bytes random (es ++ e ∷ []) ≡ file_bytes random es ++ record_bytes random (length es) e =
    ap (λ (l : List ℕ). head random ++ l) (one_more random 0 es e ∙ ap (λ (n : ℕ). journal_bytes random 0 es ++ record_bytes random n e) (omega arith))
    ∙ sym (append_assoc (head random) (journal_bytes random 0 es) (record_bytes random (length es) e)) in
    record {
      is = (f.is.0, are_more 24 0 es e f.is.1 (is_moved end (24 + total es) (length es) (0 + length es) e (end_of random es bytes end f) (omega arith) s.is));
      whole = f.whole ∙ ap (λ (l : List ℕ). file_bytes random es ++ l) after
          ∙ sym (append_assoc (file_bytes random es) (record_bytes random (length es) e) rest) ∙ ap (λ (l : List ℕ). l ++ rest) (sym joined);
      end_is = omega (arith, end_of random es bytes end f, total_more es e, file_length random (es ++ e ∷ []));
    }

-- ## From a place on

-- from this place on stand these records, and then this rest
pub record From (random : ℕ) (bytes : List ℕ) (place number : ℕ) (es : List Entry) (rest : List ℕ) : Type 0 where
  pub are : AreRecords place number es
  pub whole : drop place bytes ≡ journal_bytes random number es ++ rest

pub from_head : (random : ℕ) (es : List Entry) (bytes : List ℕ) (end : ℕ) → Front random es bytes end
    → From random bytes 24 0 es (drop end bytes)
from_head random es bytes end f = record {
  are = f.is.1;
  whole =
      ap (drop 24) (f.whole ∙ append_assoc (head random) (journal_bytes random 0 es) (drop end bytes))
      ∙ ap (λ (n : ℕ). drop n (head random ++ (journal_bytes random 0 es ++ drop end bytes))) (sym (head_length random))
      ∙ drop-append_seam (head random) (journal_bytes random 0 es ++ drop end bytes);
}

pub first_stands : (random place number : ℕ) (e : Entry) (es : List Entry) (bytes rest : List ℕ) → From random bytes place number (e ∷ es) rest
    → Stands random bytes place number e
first_stands random place number e es bytes rest f = record {
  is = f.are.0;
  rest = journal_bytes random (suc number) es ++ rest;
  whole = f.whole ∙ append_assoc (record_bytes random number e) (journal_bytes random (suc number) es) rest;
}

pub from_next : (random place number : ℕ) (e : Entry) (es : List Entry) (bytes rest : List ℕ) → From random bytes place number (e ∷ es) rest
    → From random bytes (place + size e) (suc number) es rest
unfolding first_stands
from_next random place number e es bytes rest f = record {
  are = f.are.1;
  whole = behind random place number e bytes (first_stands random place number e es bytes rest f);
}

none_moved : (random p q m n : ℕ) (bytes : List ℕ) → p ≡ q → m ≡ n → NoneStands random bytes p m → NoneStands random bytes q n
none_moved random p q m n bytes a b none = subst (λ k. NoneStands random bytes q k) b (subst (λ k. NoneStands random bytes k m) a none)

from_same : (random place number : ℕ) (e f : Entry) (es : List Entry) (bytes rest : List ℕ) → f ≡ e → From random bytes place number (f ∷ es) rest
    → From random bytes place number (e ∷ es) rest
from_same random place number e f es bytes rest same x = subst (λ k. From random bytes place number (k ∷ es) rest) same x

-- where no more stand behind them, these go on from those
pub goes_on : (random place number : ℕ) (es fs : List Entry) (bytes x y : List ℕ) → From random bytes place number es x → From random bytes place number fs y
    → NoneStands random bytes (place + total fs) (number + length fs) → (more : List Entry) × (fs ≡ es ++ more)
goes_on random place number [] fs bytes x y a b none = (fs, refl)
goes_on random place number (e ∷ es) [] bytes x y a b none =
    absurd (none_moved random (place + 0) place (number + 0) number bytes (omega arith) (omega arith) none e (first_stands random place number e es bytes x a))
goes_on random place number (e ∷ es) (f ∷ fs) bytes x y a b none =
    let same : f ≡ e = (one_stands random place number number f e bytes (first_stands random place number f fs bytes y b)
    (first_stands random place number e es bytes x a)).1 in
    let longs : size f ≡ size e = ap size same in
    let rest = goes_on random (place + size e) (suc number) es fs bytes x y (from_next random place number e es bytes x a)
    (from_next random place number e fs bytes y (from_same random place number e f fs bytes y same b))
    (none_moved random (place + (size f + total fs)) (place + size e + total fs) (number + suc (length fs)) (suc number + length fs) bytes
    (omega (arith, longs)) (omega arith) none) in
    (rest.0, ap (λ (k : Entry). k ∷ fs) same ∙ ap (λ (l : List Entry). e ∷ l) rest.1)

pub none_at_end : (random end : ℕ) (es : List Entry) (bytes : List ℕ) → Wholes random es bytes end → NoneStands random bytes (24 + total es) (0 + length es)
none_at_end random end es bytes w =
    none_moved random end (24 + total es) (length es) (0 + length es) bytes (end_of random es bytes end w.front) (omega arith) w.no_more

pub whole_goes_on : (random end last : ℕ) (es fs : List Entry) (bytes : List ℕ) → Front random es bytes end → Wholes random fs bytes last
    → (more : List Entry) × (fs ≡ es ++ more)
whole_goes_on random end last es fs bytes f w =
    goes_on random 24 0 es fs bytes (drop end bytes) (drop last bytes) (from_head random es bytes end f) (from_head random fs bytes last w.front)
    (none_at_end random last fs bytes w)

both_go_on : (es fs more less : List Entry) → fs ≡ es ++ more → es ≡ fs ++ less → es ≡ fs
both_go_on es fs more less a b =
    let none : length more ≡ 0 = omega (arith, ap length a, ap length b, length-append es more, length-append fs less) in
    sym (a ∙ ap (λ (l : List Entry). es ++ l) (nil_from_length more none) ∙ append-nil es)

pub one_list : (random : ℕ) (bytes : List ℕ) (end last : ℕ) (es fs : List Entry) → Wholes random es bytes end → Wholes random fs bytes last
    → (es ≡ fs) × (end ≡ last)
one_list random bytes end last es fs w v =
    let a = whole_goes_on random end last es fs bytes w.front v in
    let b = whole_goes_on random last end fs es bytes v.front w in
    let same : es ≡ fs = both_go_on es fs a.0 b.0 a.1 b.1 in
    (same, w.front.end_is ∙ ap (λ (l : List Entry). length (file_bytes random l)) same ∙ sym v.front.end_is)

-- ## A front that was cut

pub record Cut (es fs : List Entry) (m : ℕ) : Type 0 where
  pub count : ℕ
  pub taken : fs ≡ take count es
  pub all_there : (all : ℕ) → all ≤ length es → total (take all es) ≤ m → all ≤ count

taken_most : (n : ℕ) (xs : List ℕ) → length (take n xs) ≤ n
taken_most n xs = omega (arith, length-take n xs)

take_past : (n : ℕ) (xs ys : List ℕ) → length xs ≤ n → take n (xs ++ ys) ≡ xs ++ take (n - length xs) ys
take_past n xs ys most =
    let sum : n ≡ length xs + (n - length xs) = omega (arith, most) in
    ap (λ (k : ℕ). take k (xs ++ ys)) sum ∙ take-append-add xs ys (n - length xs)

-- where a record is whole in the front
whole_there : (random place number m : ℕ) (e : Entry) (es : List Entry) (bytes : List ℕ) → IsRecord place number e
    → drop place bytes ≡ take m (journal_bytes random number (e ∷ es)) → size e ≤ m → Stands random bytes place number e
whole_there random place number m e es bytes is cut enough = record {
  is = is;
  rest = take (m - length (record_bytes random number e)) (journal_bytes random (suc number) es);
  whole = cut ∙ take_past m (record_bytes random number e) (journal_bytes random (suc number) es) (omega (arith, enough, record_length random number e));
}

next_cut : (random place number m : ℕ) (e : Entry) (es : List Entry) (bytes : List ℕ) → IsRecord place number e
    → drop place bytes ≡ take m (journal_bytes random number (e ∷ es)) → size e ≤ m
    → drop (place + size e) bytes ≡ take (m - size e) (journal_bytes random (suc number) es)
unfolding whole_there
next_cut random place number m e es bytes is cut enough =
    behind random place number e bytes (whole_there random place number m e es bytes is cut enough)
    ∙ ap (λ (n : ℕ). take (m - n) (journal_bytes random (suc number) es)) (record_length random number e)

-- the record that stands in the front is the one that was there
same_there : (random place number m : ℕ) (e f : Entry) (es : List Entry) (bytes : List ℕ) → IsRecord place number e
    → drop place bytes ≡ take m (journal_bytes random number (e ∷ es)) → Stands random bytes place number f → f ≡ e
same_there random place number m e f es bytes is cut s =
    let all = journal_bytes random number (e ∷ es) in
    let more : all ≡ record_bytes random number f ++ (s.rest ++ drop m all) =
    sym (take-append-drop m all) ∙ ap (λ (l : List ℕ). l ++ drop m all) (sym cut ∙ s.whole)
    ∙ append_assoc (record_bytes random number f) s.rest (drop m all) in
    (one_says random place number number f e all s.is is (says random number f all (s.rest ++ drop m all) more)
    (says random number e all (journal_bytes random (suc number) es) refl)).1

none_more : (e : Entry) (es : List Entry) (m : ℕ) → m < size e → (all : ℕ) → total (take all (e ∷ es)) ≤ m → all ≤ 0
none_more e es m short zero inside = omega arith
none_more e es m short (suc all) inside = absurd (omega (arith, short, inside))

one_more_there : (e : Entry) (es : List Entry) (m count : ℕ) → size e ≤ m
    → ((all : ℕ) → all ≤ length es → total (take all es) ≤ m - size e → all ≤ count)
    → (all : ℕ) → all ≤ length (e ∷ es) → total (take all (e ∷ es)) ≤ m → all ≤ suc count
one_more_there e es m count enough so zero few inside = omega arith
one_more_there e es m count enough so (suc all) few inside =
    let rest = so all (omega (arith, few)) (omega (arith, enough, inside)) in omega (arith, rest)

none_taken : (random place number m : ℕ) (e : Entry) (es : List Entry) (bytes : List ℕ) → IsRecord place number e
    → drop place bytes ≡ take m (journal_bytes random number (e ∷ es)) → NoneStands random bytes place number → (m < size e) ⊎ (size e ≤ m)
    → Cut (e ∷ es) [] m
none_taken random place number m e es bytes is cut none (inl short) = record {
  count = 0;
  taken = refl;
  all_there = λ all few inside. none_more e es m short all inside;
}
none_taken random place number m e es bytes is cut none (inr enough) =
    absurd (none e (whole_there random place number m e es bytes is cut enough))

pub is_cut : (random place number m : ℕ) (es fs : List Entry) (bytes rest : List ℕ) → AreRecords place number es
    → drop place bytes ≡ take m (journal_bytes random number es) → From random bytes place number fs rest
    → NoneStands random bytes (place + total fs) (number + length fs) → Cut es fs m
is_cut random place number m [] [] bytes rest are cut f none = record { count = 0; taken = refl; all_there = λ all few inside. few }
is_cut random place number m [] (f ∷ fs) bytes rest are cut x none =
    absurd (omega (arith, reaches random place number f bytes (first_stands random place number f fs bytes rest x), ap length cut, length-take {A = ℕ} m []))
is_cut random place number m (e ∷ es) [] bytes rest are cut x none =
    none_taken random place number m e es bytes are.0 cut
    (none_moved random (place + 0) place (number + 0) number bytes (omega arith) (omega arith) none) (cases_lt m (size e))
is_cut random place number m (e ∷ es) (f ∷ fs) bytes rest are cut x none =
    let s = first_stands random place number f fs bytes rest x in
    let same : f ≡ e = same_there random place number m e f es bytes are.0 cut s in
    let longs : size f ≡ size e = ap size same in
    let enough : size e ≤ m = omega (arith, longs, reaches random place number f bytes s, ap length cut, taken_most m (journal_bytes random number (e ∷ es))) in
    let c = is_cut random (place + size e) (suc number) (m - size e) es fs bytes rest are.1
    (next_cut random place number m e es bytes are.0 cut enough)
    (from_next random place number e fs bytes rest (from_same random place number e f fs bytes rest same x))
    (none_moved random (place + (size f + total fs)) (place + size e + total fs) (number + suc (length fs)) (suc number + length fs) bytes
    (omega (arith, longs)) (omega arith) none) in
    record {
      count = suc c.count;
      taken = ap (λ (k : Entry). k ∷ fs) same ∙ ap (λ (l : List Entry). e ∷ l) c.taken;
      all_there = one_more_there e es m c.count enough c.all_there;
    }

-- ## What the code keeps

entry_size : (bytes : List ℕ) (found : Record) (place : ℕ) → found.place ≡ place → place + 28 + found.len ≤ length bytes
    → size (entry_of bytes found) ≡ 28 + found.len
entry_size bytes found place at inside =
    omega (arith, length-take found.len (drop (found.place + 24) bytes), length-drop (found.place + 24) bytes, at, inside)

pub record FrontOf (random : ℕ) (bytes : List ℕ) (count end : ℕ) : Type 0 where
  pub es : List Entry
  pub front : Front random es bytes end
  pub count_is : count ≡ length es
  pub inside : end ≤ length bytes

pub front_found : (random count end : ℕ) (bytes : List ℕ) (found : Record) → FrontOf random bytes count end → IsFound random bytes end found
    → found.number ≡ count → FrontOf random bytes (count + 1) (end + (28 + found.len))
front_found random count end bytes found f is same =
    let e = entry_of bytes found in
    let there : Stands random bytes end (length f.es) e = subst (λ n. Stands random bytes end n e) (same ∙ f.count_is) is.stands in
    let grown : end + size e ≡ end + (28 + found.len) = ap (λ (n : ℕ). end + n) (entry_size bytes found end is.place_is is.inside) in
    record {
      es = f.es ++ e ∷ [];
      front = subst (λ n. Front random (f.es ++ e ∷ []) bytes n) grown (front_more random end f.es bytes e f.front there);
      count_is = omega (arith, f.count_is, length-append f.es (e ∷ []));
      inside = omega (arith, is.inside);
    }

pub begun : (random : ℕ) (bytes : List ℕ) → IsHead bytes random → FrontOf random bytes 0 24
begun random bytes is = record { es = []; front = no_records random bytes is; count_is = refl; inside = long_head random bytes is }

pub counted : (random count end : ℕ) (bytes : List ℕ) → FrontOf random bytes count end → count ≤ end
counted random count end bytes f = omega (arith, f.count_is, few f.es, end_of random f.es bytes end f.front)

pub wholes_found : (random count end : ℕ) (bytes : List ℕ) → FrontOf random bytes count end → NoneStands random bytes end count
    → (es : List Entry) × Wholes random es bytes end × (count ≡ length es)
wholes_found random count end bytes f none =
    (f.es, record { front = f.front; no_more = subst (λ n. NoneStands random bytes end n) f.count_is none }, f.count_is)
