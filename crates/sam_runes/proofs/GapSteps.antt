-- A gap in a list moves, is filled, and grows; the text is what stands before it and after it.
use Rattle.sam_runes.proofs.Common.{◌≡◌, ℕ, ◌+◌, ◌-◌, ◌≤◌, List, ◌++◌, length, take, drop, take-append-drop, refl, sym, ap, ◌∙◌, arith, append_assoc, drop-drop, take-take, take-append-le, length-take-le, slice_range, between_is, del, ins}
use Rattle.sam_runes.proofs.EditSteps.{copied, take_shorter}
use Rattle.sam_runes.proofs.EditLaws.{split_take}
use Rattle.std.proofs.Math.Seq.{drop-append-add, drop-append_seam, take-append_seam}

-- what stands from b on is what stands from b to c, and what stands from there on
split_drop : (t : List ℕ) (b c : ℕ) → b ≤ c → drop b t ≡ slice_range t b c ++ drop c t
split_drop t b c h = grind (arith, (take-append-drop (c - b) (drop b t)), (drop-drop (c - b) b t))

-- the gap moves down to p: t before it, x after it
pub gap_down : (t x : List ℕ) (start end p : ℕ) → start ≤ end → p ≤ start
    → take (p + (end - start)) x ≡ take (p + (end - start)) t → drop (p + (end - start)) x ≡ slice_range t p start ++ drop (start + (end - start)) t
    → take p x ++ drop (p + (end - start)) x ≡ take start t ++ drop end t
gap_down t x start end p h l kept done = grind (
  arith,
  (take_shorter p (p + (end - start)) x t),
  (split_take p start t),
  (append_assoc (take p t) (slice_range t p start) (drop end t)),
)

-- the gap moves up to p: of t the front u up to k has the gap, and y is that front once the runes after the gap have moved down
pub gap_up : (t y : List ℕ) (start end p k : ℕ) → start ≤ end → end ≤ length t → start ≤ p → k ≡ end + (p - start) → k ≤ length t → length y ≡ k
    → take (k - (end - start)) y ≡ take start (take k t) ++ drop end (take k t)
    → take p (y ++ drop k t) ++ drop (p + (end - start)) (y ++ drop k t) ≡ take start t ++ drop end t
gap_up t y start end p k h within l is most len done =
    let up : p + (end - start) ≡ k = omega (arith, is) in
    let at : k - (end - start) ≡ p = omega (arith, is) in
    let front : take p (y ++ drop k t) ≡ take start t ++ slice_range t end k =
    grind (arith, (take-append-le p y (drop k t)), (take-take start k t), (between_is t end k)) in
    let back : drop (p + (end - start)) (y ++ drop k t) ≡ drop k t = ap (λ n. drop n (y ++ drop k t)) (up ∙ sym len) ∙ drop-append_seam y (drop k t) in
    grind (arith, front, back, (append_assoc (take start t) (slice_range t end k) (drop k t)), (split_drop t end k))

-- what stands round a gap at p, as one text v: what is before p, and what is from a later place q on
round_gap : (v m : List ℕ) (p q gap : ℕ) → p ≤ q → p ≤ length m → take p m ++ drop (p + gap) m ≡ v → (take p v ≡ take p m) × (drop q v ≡ drop (q + gap) m)
round_gap v m p q gap l h is =
    let len : length (take p m) ≡ p = length-take-le p m h in
    let at : q ≡ length (take p m) + (q - p) = omega (arith, len) in
    let past : p + gap + (q - p) ≡ q + gap = omega arith in (
      ap (take p) (sym is) ∙ ap (λ n. take n (take p m ++ drop (p + gap) m)) (sym len) ∙ take-append_seam (take p m) (drop (p + gap) m),
      ap (drop q) (sym is) ∙ ap (λ n. drop n (take p m ++ drop (p + gap) m)) at ∙ drop-append-add (take p m) (drop (p + gap) m) (q - p)
          ∙ drop-drop (q - p) (p + gap) m ∙ ap (λ n. drop n m) past,
    )

-- the gap at p grows by what stands after it up to the place q
pub gap_over : (v m : List ℕ) (p q gap : ℕ) → p ≤ q → p ≤ length m → take p m ++ drop (p + gap) m ≡ v → take p m ++ drop (q + gap) m ≡ del v p q
gap_over v m p q gap l h is = grind (arith, (round_gap v m p q gap l h is))

-- runes s stand where the gap at p began, and it begins after them
pub gap_filled : (v m z s : List ℕ) (p gap : ℕ) → p ≤ length m → length s ≤ gap → take p m ++ drop (p + gap) m ≡ v
    → take p z ≡ take p m → drop p z ≡ s ++ drop (p + length s) m → take (p + length s) z ++ drop (p + gap) z ≡ ins v p s
gap_filled v m z s p gap h fits is kept done =
    let c = copied m z s p (length s) refl kept done in
    let past : p + length s + (gap - length s) ≡ p + gap = omega (arith, fits) in
    let behind : (u : List ℕ) → drop (p + gap) u ≡ drop (gap - length s) (drop (p + length s) u) =
    λ u. ap (λ n. drop n u) (sym past) ∙ sym (drop-drop (gap - length s) (p + length s) u) in
    grind (arith, (round_gap v m p p gap (omega arith) h is), c, (behind z), (behind m))
