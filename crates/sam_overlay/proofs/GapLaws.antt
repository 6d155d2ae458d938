-- The first place of the shown text that is not loaded.
use Rattle.std.proofs.Common.{Option, ◌≡◌, refl, sym, ap, ◌∙◌, ℕ, ◌+◌, ◌-◌, ◌≤◌, ◌<◌, List, [], ◌∷◌, ◌++◌, length, map, take, drop, Some, None, arith, option_map, length-take, length-take-le, length-drop, take-append-drop, drop-drop}
use Rattle.sam_rasp.specs.Rasp.{first_gaps, hole_within, range_from}
use Rattle.sam_pending.specs.Cells.{PartialText, resting, shown_of}
use Rattle.sam_pending.proofs.CellLaws.{shown_resting}
use Rattle.sam_overlay.specs.Calls.{gap_from, gap_in}
use Rattle.sam_overlay.proofs.CallLaws.{open-rasp}

next-gap : (c : ℕ) (r : PartialText) → gap_in (Some c ∷ r) ≡ option_map (λ n. 1 + n) (gap_in r)
next-gap c r = go (first_gaps r)
  where
    go : (o : Option (ℕ × ℕ)) → option_map (λ (h : ℕ × ℕ). h.0) (option_map (λ (h : ℕ × ℕ). (1 + h.0, h.1)) o) ≡ option_map (λ n. 1 + n) (option_map (λ (h : ℕ × ℕ). h.0) o)
    go None = refl
    go (Some h) = refl

-- a gap of the front is the first of the whole
gap-front : (a b : PartialText) (k : ℕ) → gap_in a ≡ Some k → gap_in (a ++ b) ≡ Some k
gap-front [] b k is = absurd cc
gap-front (None ∷ a) b k is = is
gap-front (Some c ∷ a) b k is = go (gap_in a) refl (λ n some. gap-front a b n some)
  where
    go : (o : Option ℕ) → gap_in a ≡ o → ((n : ℕ) → gap_in a ≡ Some n → gap_in (a ++ b) ≡ Some n) → gap_in (Some c ∷ a ++ b) ≡ Some k
    go None none next =
        let wrong : None ≡ Some k = sym (next-gap c a ∙ ap (option_map (λ n. 1 + n)) none) ∙ is in
        absurd cc
    go (Some n) some next =
        next-gap c (a ++ b) ∙ (ap (option_map (λ n. 1 + n)) (next n some) ∙ (sym (next-gap c a ∙ ap (option_map (λ n. 1 + n)) some) ∙ is))

-- where the front has none it is that of the rest
gap-rest : (a b : PartialText) → gap_in a ≡ None → gap_in (a ++ b) ≡ option_map (λ n. length a + n) (gap_in b)
gap-rest [] b is = same (gap_in b)
  where
    same : (o : Option ℕ) → o ≡ option_map (λ n. 0 + n) o
    same None = refl
    same (Some n) = ap Some (omega arith)
gap-rest (None ∷ a) b is = absurd cc
gap-rest (Some c ∷ a) b is =
    next-gap c (a ++ b) ∙ (ap (option_map (λ n. 1 + n)) (gap-rest a b none) ∙ further (gap_in b))
  where
    none : gap_in a ≡ None
    none = go (gap_in a) refl
      where
        go : (o : Option ℕ) → gap_in a ≡ o → o ≡ None
        go None e = refl
        go (Some n) e =
            let wrong : Some (1 + n) ≡ None = sym (next-gap c a ∙ ap (option_map (λ n. 1 + n)) e) ∙ is in
            absurd cc

    further : (o : Option ℕ) → option_map (λ n. 1 + n) (option_map (λ n. length a + n) o) ≡ option_map (λ n. length (Some c ∷ a) + n) o
    further None = refl
    further (Some n) = ap Some (omega arith)

parted-at : (at : ℕ) (text m : PartialText) → take (length m) (drop at text) ≡ m → drop at text ≡ m ++ drop (at + length m) text
parted-at at text m is =
    sym (take-append-drop (length m) (drop at text))
    ∙ (ap (λ x. x ++ drop (length m) (drop at text)) is ∙ ap (λ x. m ++ x) (drop-drop (length m) at text ∙ ap (λ n. drop n text) (omega arith)))

pub gap_here : (at k : ℕ) (text m : PartialText) → take (length m) (drop at text) ≡ m → gap_in m ≡ Some k → gap_from at text ≡ Some (at + k)
gap_here at k text m is some =
    ap (option_map (λ n. at + n)) (ap gap_in (parted-at at text m is) ∙ gap-front m (drop (at + length m) text) k some)

pub gap_past : (at : ℕ) (text m : PartialText) → take (length m) (drop at text) ≡ m → gap_in m ≡ None → gap_from (at + length m) text ≡ gap_from at text
gap_past at text m is none =
    sym (ap (option_map (λ n. at + n)) (ap gap_in (parted-at at text m is) ∙ gap-rest m (drop (at + length m) text) none) ∙ further (gap_in (drop (at + length m) text)))
  where
    further : (o : Option ℕ) → option_map (λ n. at + n) (option_map (λ n. length m + n) o) ≡ option_map (λ n. at + length m + n) o
    further None = refl
    further (Some n) = ap Some (omega arith)

pub gap_less : (k : ℕ) (m : PartialText) → gap_in m ≡ Some k → k < length m
gap_less k [] is = absurd cc
gap_less k (None ∷ m) is = let zero : 0 ≡ k = cc in omega (arith, zero)
gap_less k (Some c ∷ m) is = go (gap_in m) refl (λ n some. gap_less n m some)
  where
    go : (o : Option ℕ) → gap_in m ≡ o → ((n : ℕ) → gap_in m ≡ Some n → n < length m) → k < length (Some c ∷ m)
    go None none next =
        let wrong : None ≡ Some k = sym (next-gap c m ∙ ap (option_map (λ n. 1 + n)) none) ∙ is in
        absurd cc
    go (Some n) some next =
        let less : n < length m = next n some in
        let same : Some (1 + n) ≡ Some k = sym (next-gap c m ∙ ap (option_map (λ n. 1 + n)) some) ∙ is in
        let one : 1 + n ≡ k = cc in
        omega (arith, less, one)

-- the gap stands in the text
pub gap_within_text : (at k n : ℕ) (text m : PartialText) → length text ≡ n → at < n → take (length m) (drop at text) ≡ m → gap_in m ≡ Some k → at + k < n
gap_within_text at k n text m size before is some =
    let less = gap_less k m some in
    omega (arith, less, size, before, ap length is, length-take (length m) (drop at text), length-drop at text)

pub gap_end : (at : ℕ) (text : PartialText) → length text ≤ at → gap_from at text ≡ None
gap_end at text past = ap (option_map (λ n. at + n)) (ap gap_in (none (drop at text) (omega (arith, length-drop at text, past))))
  where
    none : (r : PartialText) → length r ≡ 0 → r ≡ []
    none [] e = refl
    none (m ∷ r) e = absurd (omega (arith, e))

pub gap_typed : (s : List ℕ) → gap_in (map Some s) ≡ None
gap_typed [] = refl
gap_typed (c ∷ s) = next-gap c (map Some s) ∙ ap (option_map (λ n. 1 + n)) (gap_typed s)

-- a hole as the code finds it
pub hole_gap : (r : PartialText) (p q : ℕ) → option_map (λ (h : ℕ × ℕ). h.0) (hole_within r p q) ≡ option_map (λ n. p + n) (gap_in (take (q - p) (drop p r)))
hole_gap r p q = go (first_gaps (take (q - p) (drop p r)))
  where
    go : (o : Option (ℕ × ℕ)) → option_map (λ (h : ℕ × ℕ). h.0) (option_map (range_from p) o) ≡ option_map (λ n. p + n) (option_map (λ (h : ℕ × ℕ). h.0) o)
    go None = refl
    go (Some h) = refl

pub shown_resting_gap : (place : ℕ) (r : PartialText) → gap_from place (shown_of (resting r)) ≡ gap_from place r
shown_resting_gap place r = ap (gap_from place) (shown_resting r)

pub ruleset gap_facts = (open-rasp, shown_resting_gap)

pub ruleset rasp_gap_facts = (hole_gap, gap_end, length-drop, length-take-le)

pub ruleset pending_gap_facts = (gap_here, gap_past, gap_less, gap_end)

pub ruleset piece_facts = (gap_typed, hole_gap, length-take, length-drop)
