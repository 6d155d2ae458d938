-- The laws of files.
use Rattle.std.proofs.Common.{◌≡◌, ◌⊎◌, inl, inr, ℕ, zero, suc, ◌+◌, ◌-◌, ◌<◌, ◌≤◌, ◌^◌, List, [], ◌∷◌, ◌++◌, length, take, drop, Result, Ok, Err, refl, sym, ap, ◌∙◌, subst, append_assoc, append-nil, arith, take-take, take_all}
use Rattle.std.proofs.Math.Seq.{drop-append_seam, take-append_seam}
use Rattle.std.proofs.lemmas.Bool.{cases_lt}
use Rattle.std.proofs.lemmas.List.{drop-take, take-append-le}
use Rattle.sam_journal.specs.Files.{AreRecords, Front, IsHead, IsJournal, NamesMore, NamesNoMore, Reads, Wholes, file_bytes, head, journal_bytes}
use Rattle.sam_journal.specs.Laws.{DamageIsTold, DurableIsKept, FrontsAreRead, Keeps, OneReading, RecordsAreRead}
use Rattle.sam_journal.specs.Records.{Entry, Stands}
use Rattle.sam_journal.specs.declared.reading.Journal.{Journal}
use Rattle.sam_journal.specs.declared.reading.ReadFault.{ReadFault}
use Rattle.sam_journal.specs.declared.reading.ReadFault.TheVariants.{Damaged, DamagedHead, NotAJournal, OtherVersion, Short}
use Rattle.sam_journal.proofs.Fronts.{Cut, end_of, file_length, from_head, is_cut, none_at_end, one_list, total, whole_goes_on}
use Rattle.sam_journal.proofs.HeadLaws.{head_length, head_random, no_refusal, one_refusal}
use Rattle.sam_journal.proofs.Standing.{ends_inside}

-- ## One random number

pub front_head : (random end : ℕ) (es : List Entry) (bytes : List ℕ) → Front random es bytes end → IsHead bytes random
front_head random end es bytes f = (
  f.is.0,
  ap (take 24) (f.whole ∙ append_assoc (head random) (journal_bytes random 0 es) (drop end bytes))
      ∙ ap (λ (n : ℕ). take n (head random ++ (journal_bytes random 0 es ++ drop end bytes))) (sym (head_length random))
      ∙ take-append_seam (head random) (journal_bytes random 0 es ++ drop end bytes),
)

same_head : (a b : ℕ) (bytes : List ℕ) → IsHead bytes a → IsHead bytes b → a ≡ b
same_head a b bytes x y =
    head_random a b [] [] x.0 y.0 (append-nil (head a) ∙ sym x.1 ∙ y.1 ∙ sym (append-nil (head b)))

wholes_at : (a b end : ℕ) (es : List Entry) (bytes : List ℕ) → b ≡ a → Wholes b es bytes end → Wholes a es bytes end
wholes_at a b end es bytes same w = subst (λ r. Wholes r es bytes end) same w

-- ## One reading

abbrev journal_of : ℕ → ℕ → ℕ → Journal
journal_of random count end = record { random = random; count = count; end = end }

same_journal : (a b : Journal) → a.random ≡ b.random → a.count ≡ b.count → a.end ≡ b.end → a ≡ b
same_journal a b r c e = λ i. record { random = r i; count = c i; end = e i }

both_read : (bytes : List ℕ) (a b : Journal) → Reads bytes (Ok a) → Reads bytes (Ok b) → a ≡ b
both_read bytes a b x y =
    let same : b.random ≡ a.random =
    same_head b.random a.random bytes (front_head b.random b.end y.0 bytes y.1.front) (front_head a.random a.end x.0 bytes x.1.front) in
    let one = one_list a.random bytes a.end b.end x.0 y.0 x.1 (wholes_at a.random b.random b.end y.0 bytes same y.1) in
    same_journal a b (sym same) (x.2 ∙ ap (λ (l : List Entry). length l) one.0 ∙ sym y.2) one.1

names_both : (random end last : ℕ) (bytes : List ℕ) → end ≡ last → NamesNoMore random bytes end → NamesMore random bytes last → ⊥
names_both random end last bytes same none more =
    omega (arith, none more.0 more.1.0 more.1.1 more.1.2, more.1.3, same)

read_and_damaged : (bytes : List ℕ) (a b : Journal) → Reads bytes (Ok a) → Reads bytes (Err (Damaged b)) → ⊥
read_and_damaged bytes a b x y =
    let same : b.random ≡ a.random =
    same_head b.random a.random bytes (front_head b.random b.end y.0 bytes y.1.front) (front_head a.random a.end x.0 bytes x.1.front) in
    let one = one_list a.random bytes a.end b.end x.0 y.0 x.1 (wholes_at a.random b.random b.end y.0 bytes same y.1) in
    names_both a.random a.end b.end bytes one.1 x.3 (subst (λ r. NamesMore r bytes b.end) same y.3)

both_damaged : (bytes : List ℕ) (a b : Journal) → Reads bytes (Err (Damaged a)) → Reads bytes (Err (Damaged b)) → a ≡ b
both_damaged bytes a b x y =
    let same : b.random ≡ a.random =
    same_head b.random a.random bytes (front_head b.random b.end y.0 bytes y.1.front) (front_head a.random a.end x.0 bytes x.1.front) in
    let one = one_list a.random bytes a.end b.end x.0 y.0 x.1 (wholes_at a.random b.random b.end y.0 bytes same y.1) in
    same_journal a b (sym same) (x.2 ∙ ap (λ (l : List Entry). length l) one.0 ∙ sym y.2) one.1

-- a fault of the head, or what has a head
abbrev pub IsOfHead : ReadFault → Type 0
IsOfHead Short = Unit {0}
IsOfHead NotAJournal = Unit {0}
IsOfHead OtherVersion = Unit {0}
IsOfHead DamagedHead = Unit {0}
IsOfHead (Damaged j) = ⊥

pub not_refused : (random : ℕ) (bytes : List ℕ) (why : ReadFault) → IsHead bytes random → IsOfHead why → Reads bytes (Err why) → ⊥
not_refused random bytes Short is of r = no_refusal random bytes Short is r
not_refused random bytes NotAJournal is of r = no_refusal random bytes NotAJournal is r
not_refused random bytes OtherVersion is of r = no_refusal random bytes OtherVersion is r
not_refused random bytes DamagedHead is of r = no_refusal random bytes DamagedHead is r
not_refused random bytes (Damaged j) is of r = of

read_and_refused : (bytes : List ℕ) (a : Journal) (why : ReadFault) → Reads bytes (Ok a) → Reads bytes (Err why) → ⊥
read_and_refused bytes a Short x y = not_refused a.random bytes Short (front_head a.random a.end x.0 bytes x.1.front) tt y
read_and_refused bytes a NotAJournal x y = not_refused a.random bytes NotAJournal (front_head a.random a.end x.0 bytes x.1.front) tt y
read_and_refused bytes a OtherVersion x y = not_refused a.random bytes OtherVersion (front_head a.random a.end x.0 bytes x.1.front) tt y
read_and_refused bytes a DamagedHead x y = not_refused a.random bytes DamagedHead (front_head a.random a.end x.0 bytes x.1.front) tt y
read_and_refused bytes a (Damaged j) x y = read_and_damaged bytes a j x y

damaged_and_of_head : (bytes : List ℕ) (j : Journal) (why : ReadFault) → IsOfHead why → Reads bytes (Err (Damaged j)) → Reads bytes (Err why) → ⊥
damaged_and_of_head bytes j why of x y = not_refused j.random bytes why (front_head j.random j.end x.0 bytes x.1.front) of y

both_refused : (bytes : List ℕ) (a b : ReadFault) → Reads bytes (Err a) → Reads bytes (Err b) → a ≡ b
both_refused bytes (Damaged j) (Damaged last) x y = ap (λ n. Damaged n) (both_damaged bytes j last x y)
both_refused bytes (Damaged j) Short x y = absurd (damaged_and_of_head bytes j Short tt x y)
both_refused bytes (Damaged j) NotAJournal x y = absurd (damaged_and_of_head bytes j NotAJournal tt x y)
both_refused bytes (Damaged j) OtherVersion x y = absurd (damaged_and_of_head bytes j OtherVersion tt x y)
both_refused bytes (Damaged j) DamagedHead x y = absurd (damaged_and_of_head bytes j DamagedHead tt x y)
both_refused bytes Short (Damaged j) x y = absurd (damaged_and_of_head bytes j Short tt y x)
both_refused bytes NotAJournal (Damaged j) x y = absurd (damaged_and_of_head bytes j NotAJournal tt y x)
both_refused bytes OtherVersion (Damaged j) x y = absurd (damaged_and_of_head bytes j OtherVersion tt y x)
both_refused bytes DamagedHead (Damaged j) x y = absurd (damaged_and_of_head bytes j DamagedHead tt y x)
both_refused bytes Short Short x y = refl
both_refused bytes Short NotAJournal x y = one_refusal bytes Short NotAJournal x y
both_refused bytes Short OtherVersion x y = one_refusal bytes Short OtherVersion x y
both_refused bytes Short DamagedHead x y = one_refusal bytes Short DamagedHead x y
both_refused bytes NotAJournal Short x y = one_refusal bytes NotAJournal Short x y
both_refused bytes NotAJournal NotAJournal x y = refl
both_refused bytes NotAJournal OtherVersion x y = one_refusal bytes NotAJournal OtherVersion x y
both_refused bytes NotAJournal DamagedHead x y = one_refusal bytes NotAJournal DamagedHead x y
both_refused bytes OtherVersion Short x y = one_refusal bytes OtherVersion Short x y
both_refused bytes OtherVersion NotAJournal x y = one_refusal bytes OtherVersion NotAJournal x y
both_refused bytes OtherVersion OtherVersion x y = refl
both_refused bytes OtherVersion DamagedHead x y = one_refusal bytes OtherVersion DamagedHead x y
both_refused bytes DamagedHead Short x y = one_refusal bytes DamagedHead Short x y
both_refused bytes DamagedHead NotAJournal x y = one_refusal bytes DamagedHead NotAJournal x y
both_refused bytes DamagedHead OtherVersion x y = one_refusal bytes DamagedHead OtherVersion x y
both_refused bytes DamagedHead DamagedHead x y = refl

pub one_reading : OneReading
one_reading bytes (Ok a) (Ok b) x y = ap (λ (j : Journal). Ok j) (both_read bytes a b x y)
one_reading bytes (Ok a) (Err why) x y = absurd (read_and_refused bytes a why x y)
one_reading bytes (Err why) (Ok b) x y = absurd (read_and_refused bytes b why y x)
one_reading bytes (Err a) (Err b) x y = ap (λ (w : ReadFault). Err w) (both_refused bytes a b x y)

-- ## What was durable is kept

-- these records stand at the front, with this rest behind them
pub front_of : (random : ℕ) (es : List Entry) (rest : List ℕ) → IsJournal random es
    → Front random es (file_bytes random es ++ rest) (length (file_bytes random es))
front_of random es rest is = record {
  is = is;
  whole = ap (λ (l : List ℕ). file_bytes random es ++ l) (sym (drop-append_seam (file_bytes random es) rest));
  end_is = refl;
}

keeps_read : (random durable : ℕ) (es : List Entry) (bytes : List ℕ) (j : Journal) → Front random es bytes durable → Reads bytes (Ok j)
    → Keeps random es bytes (Ok j)
keeps_read random durable es bytes j f x =
    let same : j.random ≡ random =
    same_head j.random random bytes (front_head j.random j.end x.0 bytes x.1.front) (front_head random durable es bytes f) in
    let w : Wholes random x.0 bytes j.end = wholes_at random j.random j.end x.0 bytes same x.1 in
    let on = whole_goes_on random durable j.end es x.0 bytes f w in (
      on.0,
      j.end,
      ap (λ (k : Journal). Ok k) (same_journal j (journal_of random (length (es ++ on.0)) j.end) same (x.2 ∙ ap (λ (l : List Entry). length l) on.1) refl),
      subst (λ l. Wholes random l bytes j.end) on.1 w,
    )

total_on : (es more : List Entry) → total es ≤ total (es ++ more)
total_on [] more = omega arith
total_on (e ∷ es) more = omega (arith, total_on es more)

longer : (random durable last : ℕ) (es fs : List Entry) (bytes : List ℕ) → Front random es bytes durable → Wholes random fs bytes last → durable ≤ last
longer random durable last es fs bytes f w =
    let on = whole_goes_on random durable last es fs bytes f w in
    omega (arith, end_of random es bytes durable f, end_of random fs bytes last w.front, total_on es on.0, ap total on.1)

not_damaged : (random durable : ℕ) (j : Journal) (es : List Entry) (bytes : List ℕ) → Front random es bytes durable → NamesNoMore random bytes durable
    → Reads bytes (Err (Damaged j)) → ⊥
not_damaged random durable j es bytes f none y =
    let same : j.random ≡ random = same_head j.random random bytes (front_head j.random j.end y.0 bytes y.1.front) (front_head random durable es bytes f) in
    let more : NamesMore random bytes j.end = subst (λ r. NamesMore r bytes j.end) same y.3 in
    omega (
      arith,
      none more.0 more.1.0 more.1.1 more.1.2,
      more.1.3,
      longer random durable j.end es y.0 bytes f (wholes_at random j.random j.end y.0 bytes same y.1),
    )

durable_kept : (random durable : ℕ) (es : List Entry) (bytes : List ℕ) (answer : Result Journal ReadFault) → Front random es bytes durable
    → NamesNoMore random bytes durable → Reads bytes answer → Keeps random es bytes answer
durable_kept random durable es bytes (Ok j) f none x = keeps_read random durable es bytes j f x
durable_kept random durable es bytes (Err (Damaged j)) f none x = absurd (not_damaged random durable j es bytes f none x)
durable_kept random durable es bytes (Err Short) f none x = absurd (not_refused random bytes Short (front_head random durable es bytes f) tt x)
durable_kept random durable es bytes (Err NotAJournal) f none x = absurd (not_refused random bytes NotAJournal (front_head random durable es bytes f) tt x)
durable_kept random durable es bytes (Err OtherVersion) f none x = absurd (not_refused random bytes OtherVersion (front_head random durable es bytes f) tt x)
durable_kept random durable es bytes (Err DamagedHead) f none x = absurd (not_refused random bytes DamagedHead (front_head random durable es bytes f) tt x)

pub durable_is_kept : DurableIsKept
durable_is_kept random es rest answer is none x =
    durable_kept random (length (file_bytes random es)) es (file_bytes random es ++ rest) answer (front_of random es rest is) none x

-- ## Fronts

head_front : (random n : ℕ) (es : List Entry) → random < 2 ^ 64 → 24 ≤ n → IsHead (take n (file_bytes random es)) random
head_front random n es fits long = (
  fits,
  take-take 24 n (file_bytes random es) long
      ∙ ap (λ (k : ℕ). take k (head random ++ journal_bytes random 0 es)) (sym (head_length random))
      ∙ take-append_seam (head random) (journal_bytes random 0 es),
)

behind_head : (random : ℕ) (es : List Entry) → drop 24 (file_bytes random es) ≡ journal_bytes random 0 es
behind_head random es =
    ap (λ (k : ℕ). drop k (head random ++ journal_bytes random 0 es)) (sym (head_length random))
    ∙ drop-append_seam (head random) (journal_bytes random 0 es)

cut_front : (random n : ℕ) (es : List Entry) → 24 ≤ n → drop 24 (take n (file_bytes random es)) ≡ take (n - 24) (journal_bytes random 0 es)
cut_front random n es long =
    let sum : n ≡ 24 + (n - 24) = omega (arith, long) in
    ap (λ (k : ℕ). drop 24 (take k (file_bytes random es))) sum ∙ drop-take 24 (n - 24) (file_bytes random es)
    ∙ ap (take (n - 24)) (behind_head random es)

cut_of : (random n end : ℕ) (es fs : List Entry) → IsJournal random es → 24 ≤ n → Wholes random fs (take n (file_bytes random es)) end
    → Cut es fs (n - 24)
cut_of random n end es fs is long w =
    is_cut random 24 0 (n - 24) es fs (take n (file_bytes random es)) (drop end (take n (file_bytes random es))) is.1 (cut_front random n es long)
    (from_head random fs (take n (file_bytes random es)) end w.front) (none_at_end random end fs (take n (file_bytes random es)) w)

-- what a front is read as
abbrev IsOfFront : ℕ → List Entry → ℕ → Result Journal ReadFault → Type 0
IsOfFront random es n answer =
    (count : ℕ) × (answer ≡ Ok (record { random = random; count = length (take count es); end = length (file_bytes random (take count es)) }))
    × ((all : ℕ) → all ≤ length es → length (file_bytes random (take all es)) ≤ n → all ≤ count)

front_read : (random n : ℕ) (es : List Entry) (j : Journal) → IsJournal random es → 24 ≤ n → Reads (take n (file_bytes random es)) (Ok j)
    → IsOfFront random es n (Ok j)
front_read random n es j is long x =
    let bytes = take n (file_bytes random es) in
    let same : j.random ≡ random =
    same_head j.random random bytes (front_head j.random j.end x.0 bytes x.1.front) (head_front random n es is.0 long) in
    let w : Wholes random x.0 bytes j.end = wholes_at random j.random j.end x.0 bytes same x.1 in
    let c = cut_of random n j.end es x.0 is long w in (
      c.count,
      ap (λ (k : Journal). Ok k)
          (same_journal j (journal_of random (length (take c.count es)) (length (file_bytes random (take c.count es)))) same
          (x.2 ∙ ap (λ (l : List Entry). length l) c.taken) (w.front.end_is ∙ ap (λ (l : List Entry). length (file_bytes random l)) c.taken)),
      λ all fits inside. c.all_there all fits (omega (arith, inside, file_length random (take all es))),
    )

total_taken : (a b : ℕ) (es : List Entry) → a ≤ b → total (take a es) ≤ total (take b es)
total_taken zero b es most = omega arith
total_taken (suc a) zero es most = absurd (omega (arith, most))
total_taken (suc a) (suc b) [] most = omega arith
total_taken (suc a) (suc b) (e ∷ es) most = omega (arith, total_taken a b es (omega (arith, most)))

total_whole : (n : ℕ) (es : List Entry) → length es ≤ n → total (take n es) ≡ total es
total_whole n es most = ap total (take_all n es most)

-- all that were durable are there, however many there are
enough_there : (durable m : ℕ) (es fs : List Entry) → Cut es fs m → total (take durable es) ≤ m → (durable < length es) ⊎ (length es ≤ durable)
    → total (take durable es) ≤ total fs
enough_there durable m es fs c inside (inl less) =
    omega (arith, ap total c.taken, total_taken durable c.count es (c.all_there durable (omega (arith, less)) inside))
enough_there durable m es fs c inside (inr most) =
    let whole = total_whole (length es) es (omega arith) in
    let same = total_whole durable es most in
    omega (arith, ap total c.taken, same, whole, total_taken (length es) c.count es (c.all_there (length es) (omega arith) (omega (arith, inside, same, whole))))

front_damaged : (random durable n : ℕ) (j : Journal) (es : List Entry) → IsJournal random es → length (file_bytes random (take durable es)) ≤ n
    → NamesNoMore random (take n (file_bytes random es)) (length (file_bytes random (take durable es)))
    → Reads (take n (file_bytes random es)) (Err (Damaged j)) → ⊥
front_damaged random durable n j es is enough none y =
    let bytes = take n (file_bytes random es) in
    let inside = file_length random (take durable es) in
    let same : j.random ≡ random =
    same_head j.random random bytes (front_head j.random j.end y.0 bytes y.1.front) (head_front random n es is.0 (omega (arith, inside, enough))) in
    let w : Wholes random y.0 bytes j.end = wholes_at random j.random j.end y.0 bytes same y.1 in
    let more : NamesMore random bytes j.end = subst (λ r. NamesMore r bytes j.end) same y.3 in
    let there = enough_there durable (n - 24) es y.0 (cut_of random n j.end es y.0 is (omega (arith, inside, enough)) w) (omega (arith, inside, enough))
    (cases_lt durable (length es)) in
    omega (arith, none more.0 more.1.0 more.1.1 more.1.2, more.1.3, there, inside, end_of random y.0 bytes j.end w.front)

front_by : (random durable n : ℕ) (es : List Entry) (answer : Result Journal ReadFault) → IsJournal random es
    → length (file_bytes random (take durable es)) ≤ n
    → NamesNoMore random (take n (file_bytes random es)) (length (file_bytes random (take durable es)))
    → 24 ≤ n → Reads (take n (file_bytes random es)) answer → IsOfFront random es n answer
front_by random durable n es (Ok j) is enough none long x = front_read random n es j is long x
front_by random durable n es (Err (Damaged j)) is enough none long x = absurd (front_damaged random durable n j es is enough none x)
front_by random durable n es (Err Short) is enough none long x =
    absurd (not_refused random (take n (file_bytes random es)) Short (head_front random n es is.0 long) tt x)
front_by random durable n es (Err NotAJournal) is enough none long x =
    absurd (not_refused random (take n (file_bytes random es)) NotAJournal (head_front random n es is.0 long) tt x)
front_by random durable n es (Err OtherVersion) is enough none long x =
    absurd (not_refused random (take n (file_bytes random es)) OtherVersion (head_front random n es is.0 long) tt x)
front_by random durable n es (Err DamagedHead) is enough none long x =
    absurd (not_refused random (take n (file_bytes random es)) DamagedHead (head_front random n es is.0 long) tt x)

pub fronts_are_read : FrontsAreRead
fronts_are_read random es durable n answer is enough inside none x =
    front_by random durable n es answer is enough none (omega (arith, enough, file_length random (take durable es))) x

-- ## The whole file

names_inside : (random : ℕ) (bytes : List ℕ) → NamesNoMore random bytes (length bytes)
names_inside random bytes place number e s = omega (arith, s.is.durable_before, ends_inside random place number e bytes s)

whole_by : (random : ℕ) (es : List Entry) (answer : Result Journal ReadFault) → IsOfFront random es (length (file_bytes random es)) answer
    → answer ≡ Ok (record { random = random; count = length es; end = length (file_bytes random es) })
whole_by random es answer is =
    let all : take (length es) es ≡ es = take_all (length es) es (omega arith) in
    let most : length es ≤ is.0 = is.2 (length es) (omega arith) (omega (arith, ap (λ (l : List Entry). length (file_bytes random l)) all)) in
    let taken : take is.0 es ≡ es = take_all is.0 es most in
    is.1 ∙ ap (λ (l : List Entry). Ok (journal_of random (length l) (length (file_bytes random l)))) taken

pub records_are_read : RecordsAreRead
records_are_read random es answer is x =
    let bytes = file_bytes random es in
    let whole : take (length bytes) bytes ≡ bytes = take_all (length bytes) bytes (omega arith) in
    let all : take (length es) es ≡ es = take_all (length es) es (omega arith) in
    let same : length (file_bytes random (take (length es) es)) ≡ length bytes = ap (λ (l : List Entry). length (file_bytes random l)) all in
    whole_by random es answer
    (fronts_are_read random es (length es) (length bytes) answer is (omega (arith, same)) (omega arith)
    (subst (λ b. NamesNoMore random b (length (file_bytes random (take (length es) es)))) (sym whole)
    (subst (λ n. NamesNoMore random bytes n) (sym same) (names_inside random bytes)))
    (subst (λ b. Reads b answer) (sym whole) x))

-- ## Damage

read_is_front : (random place number : ℕ) (e : Entry) (bytes : List ℕ) (j : Journal) → IsHead bytes random → Stands random bytes place number e
    → Reads bytes (Ok j) → (es : List Entry) × AreRecords 24 0 es × (take e.durable bytes ≡ take e.durable (file_bytes random es))
read_is_front random place number e bytes j is s x =
    let same : j.random ≡ random = same_head j.random random bytes (front_head j.random j.end x.0 bytes x.1.front) is in
    let f : Front random x.0 bytes j.end = (wholes_at random j.random j.end x.0 bytes same x.1).front in
    let none : NamesNoMore random bytes j.end = subst (λ r. NamesNoMore r bytes j.end) same x.3 in (
      x.0,
      f.is.1,
      ap (take e.durable) f.whole
          ∙ take-append-le e.durable (file_bytes random x.0) (drop j.end bytes) (omega (arith, none place number e s, f.end_is)),
    )

pub damage_is_told : DamageIsTold
damage_is_told random bytes place number e (Ok j) is s other x =
    let f = read_is_front random place number e bytes j is s x in absurd (other f.0 f.1 f.2)
damage_is_told random bytes place number e (Err (Damaged end)) is s other x = (end, refl)
damage_is_told random bytes place number e (Err Short) is s other x = absurd (not_refused random bytes Short is tt x)
damage_is_told random bytes place number e (Err NotAJournal) is s other x = absurd (not_refused random bytes NotAJournal is tt x)
damage_is_told random bytes place number e (Err OtherVersion) is s other x = absurd (not_refused random bytes OtherVersion is tt x)
damage_is_told random bytes place number e (Err DamagedHead) is s other x = absurd (not_refused random bytes DamagedHead is tt x)
