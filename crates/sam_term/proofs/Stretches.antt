-- The stretches that a Load asks for are of gaps, and have all of them.
use Rattle.sam_term.proofs.Common.{◌≡◌, refl, sym, ap, ◌∙◌, ℕ, suc, zero, ◌+◌, ◌-◌, ◌<◌, ◌≤◌, List, [], ◌∷◌, length, min, take, drop, replicate, Option, Some, None, option_map, arith, length-take, length-drop, most_in_message, PartialText, front_of, stretches}
use Rattle.std.proofs.lemmas.List.{drop-drop, drop-take, take-take}
use Rattle.sam_rasp.specs.Rasp.{first_gaps, gaps_in_front, range_from}
use Rattle.sam_runes.specs.Texts.{part}
use Rattle.sam_term.specs.Loading.{AreOfGaps, gaps, members, LoadLaw, LoadsAll}
use Rattle.sam_term.proofs.Loads.{InFront, first-in}

-- a part that is all gaps, in front
front-gaps : (r : PartialText) (k : ℕ) → k ≤ gaps_in_front r → (gaps r ≡ k + gaps (drop k r)) × (take k r ≡ replicate k None)
front-gaps r zero l = (omega arith, refl)
front-gaps [] (suc k) l = grind arith
front-gaps (None ∷ r) (suc k) l = let rest = front-gaps r k (omega (arith, l)) in (omega (arith, rest.0), ap (λ x. None ∷ x) rest.1)
front-gaps (Some c ∷ r) (suc k) l = grind arith

-- what the first stretch of gaps says: k of it are gaps, and those in front of it are none
abbrev FirstOf : PartialText → Option (ℕ × ℕ) → Type 0
FirstOf r None = gaps r ≡ 0
FirstOf r (Some h) = (k : ℕ) → k ≤ h.1 → (gaps r ≡ k + gaps (drop (h.0 + k) r)) × (take k (drop h.0 r) ≡ replicate k None)

later : (c : ℕ) (r : PartialText) (o : Option (ℕ × ℕ)) → FirstOf r o → FirstOf (Some c ∷ r) (option_map (λ h. (1 + h.0, h.1)) o)
later c r None e = e
later c r (Some h) e = λ k l.
    let place : 1 + h.0 + k ≡ suc (h.0 + k) = omega arith in
    grind (arith, (e k l), place)

first-of : (r : PartialText) → FirstOf r (first_gaps r)
first-of [] = refl
first-of (None ∷ r) = λ k l. let same : 0 + k ≡ k = omega arith in rw same (front-gaps (None ∷ r) k l)
first-of (Some c ∷ r) = later c r (first_gaps r) (first-of r)

part-later : (r : PartialText) (p q a : ℕ) → a ≤ q - p → part r (p + a) q ≡ drop a (part r p q)
part-later r p q a l =
    let rest : a + (q - (p + a)) ≡ q - p = omega (arith, l) in
    sym (ap (λ n. drop a (take n (drop p r))) (sym rest) ∙ drop-take a (q - (p + a)) (drop p r) ∙ ap (λ x. take (q - (p + a)) x) (drop-drop a p r))

part-front : (r : PartialText) (p q a k : ℕ) → a + k ≤ q - p → part r (p + a) (p + a + k) ≡ take k (drop a (part r p q))
part-front r p q a k l =
    let same : p + a + k - (p + a) ≡ k = omega arith in
    ap (λ n. take n (drop (p + a) r)) same
    ∙ (sym (take-take k (q - (p + a)) (drop (p + a) r) (omega (arith, l))) ∙ ap (λ x. take k x) (part-later r p q a (omega (arith, l))))

part-size : (r : PartialText) (p q : ℕ) → length (part r p q) ≤ q - p
part-size r p q = grind (arith, length-take, length-drop)

-- one stretch and then the others
abbrev next_to : PartialText → ℕ → ℕ → Option (ℕ × ℕ) → List (ℕ × ℕ)
next_to r q n o =
    elim (option_map front_of o) [ None ↦ [] | Some s ↦ s ∷ stretches r (s.0 + s.1) q n ]

pub load_law : LoadLaw
unfolding stretches
load_law r p q zero o l = tt
load_law r p q (suc n) o l = go (first_gaps (part r p q)) (first-of (part r p q)) (first-in (part r p q)) (λ place within. load_law r place q n within l)
  where
    go : (x : Option (ℕ × ℕ)) → FirstOf (part r p q) x → InFront (length (part r p q)) x → ((place : ℕ) → place ≤ q → AreOfGaps r place q (stretches r place q n))
        → AreOfGaps r p q (next_to r q n (option_map (range_from p) x))
    go None f i behind = tt
    go (Some h) f i behind =
        let k = min (p + h.0 + h.1 - (p + h.0)) most_in_message in
        let few : k ≤ h.1 = omega arith in
        let fits : h.0 + k ≤ q - p = omega (arith, few, i.1, part-size r p q) in
        (omega arith, omega (arith, i.0), omega arith, omega (arith, fits, o), part-front r p q h.0 k fits ∙ (f k few).1, behind (p + h.0 + k) (omega (arith, fits, o)))

pub loads_all : LoadsAll
unfolding stretches
loads_all r p q zero l = elim l [ ]
loads_all r p q (suc n) l = go (first_gaps (part r p q)) (first-of (part r p q)) (first-in (part r p q)) (λ place few. loads_all r place q n few) l
  where
    go : (x : Option (ℕ × ℕ)) → FirstOf (part r p q) x → InFront (length (part r p q)) x
        → ((place : ℕ) → length (stretches r place q n) < n → members (stretches r place q n) ≡ gaps (part r place q))
        → length (next_to r q n (option_map (range_from p) x)) < suc n → members (next_to r q n (option_map (range_from p) x)) ≡ gaps (part r p q)
    go None f i behind l = sym f
    go (Some h) f i behind l =
        let k = min (p + h.0 + h.1 - (p + h.0)) most_in_message in
        let few : k ≤ h.1 = omega arith in
        let fits : h.0 + k ≤ q - p = omega (arith, few, i.1, part-size r p q) in
        let place : p + h.0 + k ≡ p + (h.0 + k) = omega arith in
        ap (λ m. k + m) (behind (p + h.0 + k) (omega (arith, l)) ∙ (ap (λ a. gaps (part r a q)) place ∙ ap gaps (part-later r p q (h.0 + k) fits))) ∙ sym (f k few).0
