-- Tallies of lists of members, and how far a count reaches in them.
use Rattle.sam_rasp.proofs.Common.{◌≡◌, refl, sym, ap, ◌∙◌, subst, ℕ, zero, suc, ◌+◌, ◌-◌, ◌≤◌, ◌<◌, List, [], ◌∷◌, ◌++◌, map, replicate, take, drop, length, Option, Some, None, arith, get_or, take-append-drop, drop-drop, length-append, length-take, length-drop, append_assoc, take-append-le, drop-append-le, map-append, drop-map, take-map, take-replicate, drop-replicate, PartialText, gaps_of, most_in_message, most_kept, del, ins, take-take, drop_all, part, inl, inr, ◌⊎◌}
use Rattle.std.specs.Prelude.{◌*◌}
use Rattle.std.proofs.lemmas.Str.{len_utf8_ascii, len_utf8_bounds, length-encode}
use Rattle.std.proofs.lemmas.Bool.{cases_lt}
use Rattle.std.proofs.lemmas.List.{take_all, take_more}
use Rattle.sam_rasp.specs.Rasp.{put_cells}
use Rattle.sam_rasp.specs.Tallies.{measure, runes_in, taken, tally_of}
use Rattle.sam_rasp.specs.Counting.{Fits, IsWithin, count_of, minus, plus, reached}
use Rattle.sam_rasp.specs.declared.tally.Measure.{Measure}
use Rattle.sam_rasp.specs.declared.tally.Measure.TheVariants.{Bytes, Units, Newlines}
use Rattle.sam_rasp.specs.declared.tally.Tally.{Tally}
use Rattle.sam_rasp.proofs.SectionLaws.{cut_loaded, gaps-append, gaps-most, gaps_loaded, gaps_hole, length-cells, length_replaced, replaced_loaded}
use Rattle.sam_rasp.proofs.Changes.{drop-past, length-some, take-past}

-- ## Runes and what they take

pub runes-append : (r t : PartialText) → runes_in (r ++ t) ≡ runes_in r ++ runes_in t
runes-append [] t = refl
runes-append (None ∷ r) t = runes-append r t
runes-append (Some c ∷ r) t = ap (λ z. c ∷ z) (runes-append r t)

pub runes-loaded : (s : List ℕ) → runes_in (map Some s) ≡ s
runes-loaded [] = refl
runes-loaded (c ∷ s) = ap (λ z. c ∷ z) (runes-loaded s)

pub runes-gaps : (n : ℕ) → runes_in (replicate n None) ≡ []
runes-gaps zero = refl
runes-gaps (suc n) = runes-gaps n

pub runes-most : (r : PartialText) → length (runes_in r) ≤ length r
runes-most [] = omega arith
runes-most (None ∷ r) = omega (arith, runes-most r)
runes-most (Some c ∷ r) = omega (arith, runes-most r)

pub measure-append : (m : Measure) (s t : List ℕ) → measure m (s ++ t) ≡ measure m s + measure m t
measure-append m [] t = omega arith
measure-append m (c ∷ s) t = omega (arith, measure-append m s t)

pub taken-most : (m : Measure) (c : ℕ) → taken m c ≤ 4
taken-most Bytes c = omega (arith, length-encode c, (len_utf8_bounds c).1)
taken-most Units c = grind arith
taken-most Newlines c = grind arith

pub measure-most : (m : Measure) (s : List ℕ) → measure m s ≤ 4 * length s
measure-most m [] = omega arith
measure-most m (c ∷ s) = omega (arith, measure-most m s, taken-most m c)

-- what the runes of two stretches take
count-append : (m : Measure) (r t : PartialText) → measure m (runes_in (r ++ t)) ≡ measure m (runes_in r) + measure m (runes_in t)
count-append m r t = ap (measure m) (runes-append r t) ∙ measure-append m (runes_in r) (runes_in t)

count-most : (m : Measure) (r : PartialText) → measure m (runes_in r) ≤ 4 * length r
count-most m r = omega (arith, measure-most m (runes_in r), runes-most r)

-- ## Sums of tallies

abbrev tally : ℕ → ℕ → ℕ → ℕ → Tally
tally g b u n = record { gaps = g; bytes = b; units = u; newlines = n }

tally-is : (g b u n g' b' u' n' : ℕ) → g ≡ g' → b ≡ b' → u ≡ u' → n ≡ n' → tally g b u n ≡ tally g' b' u' n'
tally-is g b u n g' b' u' n' e f h k =
    ap (λ x. tally x b u n) e ∙ (ap (λ x. tally g' x u n) f ∙ (ap (λ x. tally g' b' x n) h ∙ ap (λ x. tally g' b' u' x) k))

pub tally-append : (r t : PartialText) → tally_of (r ++ t) ≡ plus (tally_of r) (tally_of t)
tally-append r t =
    let w = r ++ t in
    tally-is (gaps_of w) (measure Bytes (runes_in w)) (measure Units (runes_in w)) (measure Newlines (runes_in w))
    (gaps_of r + gaps_of t) (measure Bytes (runes_in r) + measure Bytes (runes_in t)) (measure Units (runes_in r) + measure Units (runes_in t))
    (measure Newlines (runes_in r) + measure Newlines (runes_in t))
    (gaps-append r t) (count-append Bytes r t) (count-append Units r t) (count-append Newlines r t)

plus-swap : (a b c : Tally) → plus a (plus b c) ≡ plus (plus a c) b
plus-swap a b c =
    tally-is (a.gaps + (b.gaps + c.gaps)) (a.bytes + (b.bytes + c.bytes)) (a.units + (b.units + c.units)) (a.newlines + (b.newlines + c.newlines))
    (a.gaps + c.gaps + b.gaps) (a.bytes + c.bytes + b.bytes) (a.units + c.units + b.units) (a.newlines + c.newlines + b.newlines)
    (omega arith) (omega arith) (omega arith) (omega arith)

plus-flip : (a b c : Tally) → plus (plus a b) c ≡ plus (plus a c) b
plus-flip a b c =
    tally-is (a.gaps + b.gaps + c.gaps) (a.bytes + b.bytes + c.bytes) (a.units + b.units + c.units) (a.newlines + b.newlines + c.newlines)
    (a.gaps + c.gaps + b.gaps) (a.bytes + c.bytes + b.bytes) (a.units + c.units + b.units) (a.newlines + c.newlines + b.newlines)
    (omega arith) (omega arith) (omega arith) (omega arith)

plus-both : (a b : Tally) → plus a b ≡ plus b a
plus-both a b =
    tally-is (a.gaps + b.gaps) (a.bytes + b.bytes) (a.units + b.units) (a.newlines + b.newlines)
    (b.gaps + a.gaps) (b.bytes + a.bytes) (b.units + a.units) (b.newlines + a.newlines)
    (omega arith) (omega arith) (omega arith) (omega arith)

minus-plus : (a b : Tally) → minus (plus a b) b ≡ a
minus-plus a b =
    tally-is (a.gaps + b.gaps - b.gaps) (a.bytes + b.bytes - b.bytes) (a.units + b.units - b.units) (a.newlines + b.newlines - b.newlines)
    a.gaps a.bytes a.units a.newlines (omega arith) (omega arith) (omega arith) (omega arith)

within-plus : (a b : Tally) → IsWithin b (plus a b)
within-plus a b = (omega arith, omega arith, omega arith, omega arith)

pub tally-fits : (r : PartialText) → length r ≤ most_kept → Fits (tally_of r)
tally-fits r l = (
  omega (arith, gaps-most r, l),
  omega (arith, count-most Bytes r, l),
  omega (arith, count-most Units r, l),
  omega (arith, count-most Newlines r, l),
)

-- ## Tallies of what is parted, put together, cut and put in

pub sum-tally : (w a b : PartialText) (t u : Tally) → a ++ b ≡ w → t ≡ tally_of a → u ≡ tally_of b → length w ≤ most_kept
    → Fits (plus t u) × (plus t u ≡ tally_of w)
sum-tally w a b t u e f g l =
    let sum : plus t u ≡ tally_of w = ap (λ z. plus z u) f ∙ (ap (plus (tally_of a)) g ∙ (sym (tally-append a b) ∙ ap tally_of e)) in
    (subst Fits (sym sum) (tally-fits w l), sum)

pub half-tally : (w a b : PartialText) (t u : Tally) → a ++ b ≡ w → t ≡ tally_of w → u ≡ tally_of b → IsWithin u t × (minus t u ≡ tally_of a)
half-tally w a b t u e f g =
    let sum : t ≡ plus (tally_of a) u = f ∙ (ap tally_of (sym e) ∙ (tally-append a b ∙ ap (plus (tally_of a)) (sym g))) in (
      subst (IsWithin u) (sym sum) (within-plus (tally_of a) u),
      ap (λ z. minus z u) sum ∙ minus-plus (tally_of a) u,
    )

-- the second of two stretches
pub front-tally : (a b : PartialText) (t u : Tally) → u ≡ tally_of a → t ≡ tally_of (a ++ b) → IsWithin u t × (minus t u ≡ tally_of b)
front-tally a b t u e f =
    let sum : t ≡ plus (tally_of b) u = f ∙ (tally-append a b ∙ (plus-both (tally_of a) (tally_of b) ∙ ap (plus (tally_of b)) (sym e))) in (
      subst (IsWithin u) (sym sum) (within-plus (tally_of b) u),
      ap (λ z. minus z u) sum ∙ minus-plus (tally_of b) u,
    )

pub parted : (r : PartialText) (p q : ℕ) → p ≤ q → take p r ++ (part r p q ++ drop q r) ≡ r
parted r p q o =
    let there : p + (q - p) ≡ q = omega (arith, o) in
    ap (λ z. take p r ++ (part r p q ++ z)) (sym (drop-drop (q - p) p r ∙ ap (λ k. drop k r) there))
    ∙ (ap (λ z. take p r ++ z) (take-append-drop (q - p) (drop p r)) ∙ take-append-drop p r)

cut-sum : (r : PartialText) (p q : ℕ) → p ≤ q → tally_of r ≡ plus (tally_of (del r p q)) (tally_of (part r p q))
cut-sum r p q o =
    ap tally_of (sym (parted r p q o))
    ∙ (tally-append (take p r) (part r p q ++ drop q r)
    ∙ (ap (plus (tally_of (take p r))) (tally-append (part r p q) (drop q r))
    ∙ (plus-swap (tally_of (take p r)) (tally_of (part r p q)) (tally_of (drop q r))
    ∙ ap (λ z. plus z (tally_of (part r p q))) (sym (tally-append (take p r) (drop q r))))))

pub cut-tally : (r d : PartialText) (t went : Tally) (p q : ℕ) → t ≡ tally_of r → went ≡ tally_of (part r p q) → d ≡ del r p q → p ≤ q
    → IsWithin went t × (minus t went ≡ tally_of d)
cut-tally r d t went p q e f g o =
    let sum : t ≡ plus (tally_of d) went = e ∙ (cut-sum r p q o ∙ (ap (λ z. plus (tally_of z) (tally_of (part r p q))) (sym g) ∙ ap (plus (tally_of d)) (sym f))) in (
      subst (IsWithin went) (sym sum) (within-plus (tally_of d) went),
      ap (λ z. minus z went) sum ∙ minus-plus (tally_of d) went,
    )

-- what went is what is lacking afterwards
pub gone-tally : (r d : PartialText) (t u : Tally) (p q : ℕ) → t ≡ tally_of r → u ≡ tally_of d → d ≡ del r p q → p ≤ q
    → IsWithin u t × (minus t u ≡ tally_of (part r p q))
gone-tally r d t u p q e f g o =
    let sum : t ≡ plus (tally_of (part r p q)) u =
    e ∙ (cut-sum r p q o ∙ (plus-both (tally_of (del r p q)) (tally_of (part r p q)) ∙ ap (plus (tally_of (part r p q))) (ap tally_of (sym g) ∙ sym f))) in (
      subst (IsWithin u) (sym sum) (within-plus (tally_of (part r p q)) u),
      ap (λ z. minus z u) sum ∙ minus-plus (tally_of (part r p q)) u,
    )

pub put-tally : (r d m : PartialText) (t went came : Tally) (p q : ℕ) → t ≡ tally_of r → went ≡ tally_of (part r p q) → came ≡ tally_of m
    → d ≡ put_cells r p q m → p ≤ q → length d ≤ most_kept
    → IsWithin went t × Fits (plus (minus t went) came) × (plus (minus t went) came ≡ tally_of d)
put-tally r d m t went came p q e f g h o l =
    let cut = cut-tally r (del r p q) t went p q e f refl o in
    let sum : plus (minus t went) came ≡ tally_of d =
    ap (λ z. plus z came) cut.1
    ∙ (ap (plus (tally_of (del r p q))) g
    ∙ (ap (λ z. plus z (tally_of m)) (tally-append (take p r) (drop q r))
    ∙ (plus-flip (tally_of (take p r)) (tally_of (drop q r)) (tally_of m)
    ∙ (ap (λ z. plus z (tally_of (drop q r))) (sym (tally-append (take p r) m))
    ∙ (sym (tally-append (take p r ++ m) (drop q r)) ∙ ap tally_of (sym h)))))) in
    (cut.0, subst Fits (sym sum) (tally-fits d l), sum)

-- the same, where what is left after the cut is known
pub put-fits : (r d m : PartialText) (t went left came : Tally) (p q : ℕ) → t ≡ tally_of r → went ≡ tally_of (part r p q) → left ≡ minus t went → came ≡ tally_of m
    → d ≡ put_cells r p q m → p ≤ q → length d ≤ most_kept → Fits (plus left came) × (plus left came ≡ tally_of d)
put-fits r d m t went left came p q e f k g h o l =
    let put = put-tally r d m t went came p q e f g h o l in
    let same = ap (λ z. plus z came) k in
    (subst Fits (sym same) put.1, same ∙ put.2)

-- what stands in the middle of three stretches
pub part-middle : (a b c : PartialText) (i j : ℕ) → i ≤ j → j ≤ length b → part (a ++ (b ++ c)) (length a + i) (length a + j) ≡ part b i j
part-middle a b c i j o l =
    let count : (length a + j) - (length a + i) ≡ j - i = omega (arith, o) in
    let inside : j - i ≤ length (drop i b) = omega (arith, length-drop i b, l) in
    ap (λ k. take k (drop (length a + i) (a ++ (b ++ c)))) count
    ∙ (ap (take (j - i)) (drop-past a (b ++ c) i (length a + i) refl ∙ drop-append-le i b c (omega (arith, o, l)))
    ∙ take-append-le (j - i) (drop i b) c inside)

-- ## Tallies of one sort

pub loaded-tally : (s : List ℕ) → tally_of (map Some s) ≡ tally 0 (measure Bytes s) (measure Units s) (measure Newlines s)
loaded-tally s =
    let r = map {B = Option ℕ} Some s in
    tally-is (gaps_of r) (measure Bytes (runes_in r)) (measure Units (runes_in r)) (measure Newlines (runes_in r)) 0 (measure Bytes s) (measure Units s) (measure Newlines s)
    (gaps_loaded s) (ap (measure Bytes) (runes-loaded s)) (ap (measure Units) (runes-loaded s)) (ap (measure Newlines) (runes-loaded s))

-- these counts are those of the runes
pub loaded-is : (s : List ℕ) (b u n : ℕ) → b ≡ measure Bytes s → u ≡ measure Units s → n ≡ measure Newlines s → tally 0 b u n ≡ tally_of (map Some s)
loaded-is s b u n e f h = tally-is 0 b u n 0 (measure Bytes s) (measure Units s) (measure Newlines s) refl e f h ∙ sym (loaded-tally s)

-- a walk over the runes ends with all of them
pub all-taken : (s : List ℕ) (i : ℕ) → length s ≤ i → take i s ≡ s
all-taken s i l = take_all i s (omega (arith, l))

-- a rune of ASCII
pub narrow : (c : ℕ) → c < 128 → (taken Bytes c ≡ 1) × (taken Units c ≡ 1)
narrow c l = (omega (arith, length-encode c, len_utf8_ascii c l), grind (arith, l))

pub measure-next : (m : Measure) (s : List ℕ) (i c : ℕ) → i < length s → c ≡ get_or s i c → measure m (take (i + 1) s) ≡ measure m (take i s) + taken m c
measure-next m s i c l e =
    ap (measure m) (take_more s i c l ∙ ap (λ z. take i s ++ z ∷ []) (sym e)) ∙ (measure-append m (take i s) (c ∷ []) ∙ omega arith)

pub measure-taken : (m : Measure) (s : List ℕ) (i : ℕ) → measure m (take i s) ≤ 4 * length s
measure-taken m s i = omega (arith, measure-most m (take i s), length-take i s)

pub gaps-tally : (n : ℕ) → tally_of (replicate n None) ≡ tally n 0 0 0
gaps-tally n =
    let r = replicate {A = Option ℕ} n None in
    tally-is (gaps_of r) (measure Bytes (runes_in r)) (measure Units (runes_in r)) (measure Newlines (runes_in r)) n 0 0 0
    (gaps_hole n) (ap (measure Bytes) (runes-gaps n)) (ap (measure Units) (runes-gaps n)) (ap (measure Newlines) (runes-gaps n))

pub part-loaded : (s : List ℕ) (p q : ℕ) → map Some (part s p q) ≡ part (map Some s) p q
part-loaded s p q = sym (take-map Some (q - p) (drop p s)) ∙ ap (take (q - p)) (sym (drop-map Some p s))

pub part-hole : (n p q : ℕ) → p ≤ q → q ≤ n → replicate {A = Option ℕ} (q - p) None ≡ part (replicate n None) p q
part-hole n p q o l = sym (take-replicate (q - p) (n - p) None (omega (arith, o, l))) ∙ ap (take (q - p)) (sym (drop-replicate p n None))

pub part-short : {X : Type 0} (s : List X) (p q : ℕ) → length (part s p q) ≤ length s
part-short s p q = omega (arith, length-take (q - p) (drop p s), length-drop p s)

pub part-all : (s : List ℕ) (p q : ℕ) → q - p ≡ length s → q ≤ length s → part s p q ≡ s
part-all [] p q e l = grind (arith, (part-short {X = ℕ} [] p q))
part-all (c ∷ s) p q e l =
    let first : p ≡ 0 = omega (arith, e, l) in
    let last : q ≡ length (c ∷ s) = omega (arith, e, l, first) in
    grind (arith, first, last, (take_all (length (c ∷ s)) (c ∷ s)))

-- ## Tallies of texts

text-short : (s : List ℕ) → length s ≤ most_in_message → length (map {B = Option ℕ} Some s) ≤ most_kept
text-short s l = omega (arith, length-some s, l)

pub text-sum : (s more : List ℕ) (t u : Tally) → t ≡ tally_of (map Some s) → u ≡ tally_of (map Some more) → length s + length more ≤ most_in_message
    → Fits (plus t u) × (plus t u ≡ tally_of (map Some (s ++ more)))
text-sum s more t u e f l =
    sum-tally (map Some (s ++ more)) (map Some s) (map Some more) t u (sym (map-append Some s more)) e f (text-short (s ++ more) (omega (arith, length-append s more, l)))

-- runes that come in before others go
pub text-after : (s r : List ℕ) (p q : ℕ) → p ≤ q → q ≤ length s → del (ins s q r) p q ≡ take p s ++ r ++ drop q s
text-after s r p q o l =
    let whole : length (take q s) + 0 ≡ q = omega (arith, length-take q s, l) in
    let place : p ≤ length (take q s) = omega (arith, length-take q s, o, l) in
    grind (
      arith,
      (append_assoc (take q s) r (drop q s)),
      (take-append-le p (take q s) (r ++ drop q s) place),
      (take-take p q s o),
      (drop-past (take q s) (r ++ drop q s) 0 q whole),
      (append_assoc (take p s) r (drop q s)),
    )

pub text-cut : (s : List ℕ) (t u : Tally) (p q : ℕ) → t ≡ tally_of (map Some s) → u ≡ tally_of (map Some (part s p q)) → p ≤ q
    → IsWithin u t × (minus t u ≡ tally_of (map Some (del s p q)))
text-cut s t u p q e f o = cut-tally (map Some s) (map Some (del s p q)) t u p q e (f ∙ ap tally_of (part-loaded s p q)) (cut_loaded s p q) o

pub text-put : (s more : List ℕ) (t gone left came : Tally) (p q : ℕ) → t ≡ tally_of (map Some s) → gone ≡ tally_of (map Some (part s p q)) → left ≡ minus t gone
    → came ≡ tally_of (map Some more) → p ≤ q → q ≤ length s → length s + length more ≤ most_in_message + (q - p)
    → Fits (plus left came) × (plus left came ≡ tally_of (map Some (take p s ++ more ++ drop q s)))
text-put s more t gone left came p q e f k g o w l =
    let r = take p s ++ more ++ drop q s in
    put-fits (map Some s) (map Some r) (map Some more) t gone left came p q e (f ∙ ap tally_of (part-loaded s p q)) k g (replaced_loaded s more p q) o
    (text-short r (omega (arith, length_replaced s more p q o w, l)))

-- ## A walk over parts

plus-on : (t a b : Tally) → plus (plus t a) b ≡ plus t (plus a b)
plus-on t a b =
    tally-is (t.gaps + a.gaps + b.gaps) (t.bytes + a.bytes + b.bytes) (t.units + a.units + b.units) (t.newlines + a.newlines + b.newlines)
    (t.gaps + (a.gaps + b.gaps)) (t.bytes + (a.bytes + b.bytes)) (t.units + (a.units + b.units)) (t.newlines + (a.newlines + b.newlines))
    (omega arith) (omega arith) (omega arith) (omega arith)

pub before-all : (a o : PartialText) (t s : Tally) → s ≡ tally_of a → plus (plus t s) (tally_of o) ≡ plus t (tally_of (a ++ o))
before-all a o t s e = ap (λ z. plus (plus t z) (tally_of o)) e ∙ (plus-on t (tally_of a) (tally_of o) ∙ ap (plus t) (sym (tally-append a o)))

pub before-on : (a o : PartialText) (t s : Tally) (n k : ℕ) → s ≡ tally_of a → length a + k ≡ n → plus (plus t s) (tally_of (take k o)) ≡ plus t (tally_of (take n (a ++ o)))
before-on a o t s n k e l = before-all a (take k o) t s e ∙ ap (λ z. plus t (tally_of z)) (sym (take-past a o k n l))

pub front-fits : (a o w : PartialText) (t s : Tally) → s ≡ tally_of a → plus t (tally_of (a ++ o)) ≡ tally_of w → length w ≤ most_kept → Fits (plus t s)
front-fits a o w t s e f l =
    let sum : plus (plus t s) (tally_of o) ≡ tally_of w = before-all a o t s e ∙ f in
    let fits = tally-fits w l in (
      omega (arith, ap (λ z. z.gaps) sum, fits.0),
      omega (arith, ap (λ z. z.bytes) sum, fits.1),
      omega (arith, ap (λ z. z.units) sum, fits.2),
      omega (arith, ap (λ z. z.newlines) sum, fits.3),
    )

pub before-here : (a o w : PartialText) (t s : Tally) (n p : ℕ) → s ≡ tally_of (take n a) → n ≤ length a → plus t (tally_of (take n (a ++ o))) ≡ tally_of (take p w)
    → length w ≤ most_kept → Fits (plus t s) × (plus t s ≡ tally_of (take p w))
before-here a o w t s n p e l f k =
    let sum : plus t s ≡ tally_of (take p w) = ap (plus t) (e ∙ ap tally_of (sym (take-append-le n a o l))) ∙ f in
    (subst Fits (sym sum) (tally-fits (take p w) (omega (arith, length-take p w, k))), sum)

-- ## How far a count reaches

-- one of the counts of a tally
pub counted : (m : Measure) (r : PartialText) (t : Tally) → t ≡ tally_of r → count_of m t ≡ measure m (runes_in r)
counted Bytes r t e = ap (λ z. z.bytes) e
counted Units r t e = ap (λ z. z.units) e
counted Newlines r t e = ap (λ z. z.newlines) e

pub reached-end : (m : Measure) (s : List ℕ) (i n : ℕ) → length s ≤ i → reached m (map Some (drop i s)) n ≡ 0
reached-end m s i n l = ap (λ z. reached m (map Some z) n) (drop_all i s l)

pub reached-within : (m : Measure) (a b : PartialText) (n : ℕ) → measure m (runes_in a) ≤ n
    → reached m (a ++ b) n ≡ length a + reached m b (n - measure m (runes_in a))
reached-within m [] b n l = grind arith
reached-within m (None ∷ a) b n l = omega (arith, reached-within m a b n l)
reached-within m (Some c ∷ a) b n l =
    let left : n - taken m c - measure m (runes_in a) ≡ n - (taken m c + measure m (runes_in a)) = omega arith in
    grind (arith, l, left, (reached-within m a b (n - taken m c) (omega (arith, l))))

pub reached-inside : (m : Measure) (a b : PartialText) (n : ℕ) → n < measure m (runes_in a) → reached m (a ++ b) n ≡ reached m a n
reached-inside m [] b n l = absurd (omega (arith, l))
reached-inside m (None ∷ a) b n l = omega (arith, reached-inside m a b n l)
reached-inside m (Some c ∷ a) b n l = go (cases_lt n (taken m c)) (λ k u. reached-inside m a b k u)
  where
    go : ((n < taken m c) ⊎ (taken m c ≤ n)) → ((k : ℕ) → k < measure m (runes_in a) → reached m (a ++ b) k ≡ reached m a k) → reached m (Some c ∷ (a ++ b)) n ≡ reached m (Some c ∷ a) n
    go (inl u) more = grind (arith, u)
    go (inr u) more = grind (arith, u, l, (more (n - taken m c) (omega (arith, l, u))))

pub reached-most : (m : Measure) (r : PartialText) (n : ℕ) → reached m r n ≤ length r
reached-most m [] n = omega arith
reached-most m (None ∷ r) n = omega (arith, reached-most m r n)
reached-most m (Some c ∷ r) n = grind (arith, (reached-most m r (n - taken m c)))

-- all of it takes no more
pub reached-all : (m : Measure) (r : PartialText) (n : ℕ) → measure m (runes_in r) ≤ n → reached m r n ≡ length r
reached-all m [] n l = refl
reached-all m (None ∷ r) n l = omega (arith, reached-all m r n l)
reached-all m (Some c ∷ r) n l = grind (arith, l, (reached-all m r (n - taken m c) (omega (arith, l))))

pub reached-hole : (m : Measure) (k n : ℕ) → reached m (replicate k None) n ≡ k
reached-hole m zero n = refl
reached-hole m (suc k) n = omega (arith, reached-hole m k n)

-- what a tally of runes rests on
pub ruleset of_facts = (measure-taken)

-- what a tally of gaps rests on
pub ruleset gaps_facts = (gaps-tally)

-- what the tally within a section rests on
pub ruleset within_facts = (part-loaded, part-hole, part-short, part-all)

-- what the tally before a place rests on
pub ruleset before_facts = (take_all, length-cells)

-- what `reached` rests on
pub ruleset reached_facts = (reached-most, reached-hole, reached-end, length-cells, length-some)
