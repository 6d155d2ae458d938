-- The head of a frame, whose length is written once the body stands after it.
use Rattle.sam_mesg.proofs.Common.{◌≡◌, ℕ, ◌+◌, ◌-◌, ◌<◌, List, [], ◌∷◌, ◌++◌, length, take, drop, set, sym, ap, ◌∙◌, append_assoc, arith, length-append, length-set, drop-set-lt, take_at, drop_at, suc, w16, set_split, take_more_set, to_be_bytes, frame}

-- two neighbours, written one after the other
pub set_both : (xs : List ℕ) (i j k a b : ℕ) → j ≡ i + 1 → k ≡ i + 2 → i + 1 < length xs → set (set xs i a) j b ≡ take i xs ++ (a ∷ b ∷ []) ++ drop k xs
set_both xs i j k a b next after lt =
    let ys = set xs i a in
    let long : j < length ys = omega (arith, length-set xs i a) in
    let front : take j ys ≡ take i xs ++ a ∷ [] = ap (λ n. take n ys) next ∙ take_more_set xs i a (omega arith) in
    let past : suc j ≡ k = omega arith in
    let behind : drop (suc j) ys ≡ drop k xs = drop-set-lt (suc j) xs i a (omega arith) ∙ ap (λ n. drop n xs) past in
    set_split ys j b long ∙ ap (λ p. p ++ b ∷ drop (suc j) ys) front ∙ ap (λ r. (take i xs ++ a ∷ []) ++ b ∷ r) behind
    ∙ append_assoc (take i xs) (a ∷ []) (b ∷ drop k xs) ∙ sym (append_assoc (take i xs) (a ∷ b ∷ []) (drop k xs))

-- a frame whose length bytes were left free
pub framed : (old now new body : List ℕ) (kind n : ℕ) → now ≡ old ++ kind ∷ 0 ∷ 0 ∷ body → n ≡ length old
    → new ≡ take (n + 1) now ++ to_be_bytes w16 (length now - (n + 3)) ++ drop (n + 3) now → new ≡ old ++ frame kind body
framed old now new body kind n is at e = grind (
  arith,
  (append_assoc old (kind ∷ 0 ∷ 0 ∷ []) body),
  (append_assoc old (kind ∷ []) (0 ∷ 0 ∷ body)),
  (take_at (old ++ kind ∷ []) (0 ∷ 0 ∷ body) (n + 1)),
  (length-append old (kind ∷ [])),
  (drop_at (old ++ kind ∷ 0 ∷ 0 ∷ []) body (n + 3)),
  (length-append old (kind ∷ 0 ∷ 0 ∷ [])),
  (length-append old (kind ∷ 0 ∷ 0 ∷ body)),
  (append_assoc (old ++ kind ∷ []) (to_be_bytes w16 (length body)) body),
  (append_assoc old (kind ∷ []) (to_be_bytes w16 (length body) ++ body)),
)
