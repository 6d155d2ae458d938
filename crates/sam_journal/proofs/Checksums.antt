-- Eight steps of the sum at once, by a table.
use Rattle.std.proofs.Common.{◌≡◌, ℕ, map, zero, suc, ◌+◌, ◌*◌, ◌/◌, ◌%◌, ◌<◌, ◌^◌, ◌⊎◌, inl, inr, List, [], ◌∷◌, ◌++◌, get_or, refl, sym, ap, ◌∙◌, arith}
use Rattle.std.specs.Int.Bits.{bit_xor, xor_self, xor_zero_l, xor_zero_r, xor_assoc, xor_shifted}
use Rattle.std.proofs.lemmas.Nat.{xor_comm, xor_shr, xor_mod}
use Rattle.std.proofs.lemmas.List.FromFn.{get_or-map-range_with_len}
use Rattle.std.specs.List.{range_with_len}
use Rattle.sam_journal.specs.declared.checksum.TheConstants.{TABLE}
use Rattle.sam_journal.specs.Checksums.{polynomial, bit_step, bit_steps, byte_step, bytes_step}

-- ## Steps are linear

product_by : (u v p : ℕ) → (u ≡ 0) ⊎ (u ≡ 1) → (v ≡ 0) ⊎ (v ≡ 1) → bit_xor u v * p ≡ bit_xor (u * p) (v * p)
product_by u v p (inl a) (inl b) = grind (arith, a, b, xor_zero_l)
product_by u v p (inl a) (inr b) = grind (arith, a, b, xor_zero_l)
product_by u v p (inr a) (inl b) = grind (arith, a, b, xor_zero_r)
product_by u v p (inr a) (inr b) = grind (arith, a, b, xor_self)

digit_by : (d : ℕ) → d < 2 → (d ≡ 0) ⊎ (d ≡ 1)
digit_by zero h = inl refl
digit_by (suc d) h = inr (omega arith)

digit : (x : ℕ) → (x % 2 ≡ 0) ⊎ (x % 2 ≡ 1)
digit x = digit_by (x % 2) (omega arith)

four_xors : (a b c d : ℕ) → bit_xor (bit_xor a b) (bit_xor c d) ≡ bit_xor (bit_xor a c) (bit_xor b d)
four_xors a b c d =
    xor_assoc a b (bit_xor c d)
    ∙ ap (bit_xor a) (sym (xor_assoc b c d) ∙ ap (λ (x : ℕ). bit_xor x d) (xor_comm b c) ∙ xor_assoc c b d)
    ∙ sym (xor_assoc a c (bit_xor b d))

step_linear : (a b : ℕ) → bit_step (bit_xor a b) ≡ bit_xor (bit_step a) (bit_step b)
unfolding bit_step
step_linear a b =
    ap (λ (x : ℕ). bit_xor x (bit_xor a b % 2 * polynomial)) (xor_shr a b 1)
    ∙ ap (bit_xor (bit_xor (a / 2) (b / 2))) (ap (λ (x : ℕ). x * polynomial) (xor_mod a b 1) ∙ product_by (a % 2) (b % 2) polynomial (digit a) (digit b))
    ∙ four_xors (a / 2) (b / 2) (a % 2 * polynomial) (b % 2 * polynomial)

steps_linear : (n a b : ℕ) → bit_steps n (bit_xor a b) ≡ bit_xor (bit_steps n a) (bit_steps n b)
steps_linear zero a b = refl
steps_linear (suc n) a b = ap (bit_steps n) (step_linear a b) ∙ steps_linear n (bit_step a) (bit_step b)

-- ## Zeros go

step_even : (y : ℕ) → bit_step (y * 2) ≡ y
unfolding bit_step polynomial
step_even y =
    let half : y * 2 / 2 ≡ y = omega arith in
    let none : y * 2 % 2 ≡ 0 = omega arith in
    ap (λ (x : ℕ). bit_xor (y * 2 / 2) (x * polynomial)) none ∙ xor_zero_r (y * 2 / 2) ∙ half

eight_zeros : (y : ℕ) → bit_steps 8 (y * 2 ^ 8) ≡ y
eight_zeros y =
    let e : y * 2 ^ 8 ≡ y * 2 * 2 * 2 * 2 * 2 * 2 * 2 * 2 = omega arith in
    ap (bit_steps 8) e
    ∙ ap (bit_steps 7) (step_even (y * 2 * 2 * 2 * 2 * 2 * 2 * 2))
    ∙ ap (bit_steps 6) (step_even (y * 2 * 2 * 2 * 2 * 2 * 2))
    ∙ ap (bit_steps 5) (step_even (y * 2 * 2 * 2 * 2 * 2))
    ∙ ap (bit_steps 4) (step_even (y * 2 * 2 * 2 * 2))
    ∙ ap (bit_steps 3) (step_even (y * 2 * 2 * 2))
    ∙ ap (bit_steps 2) (step_even (y * 2 * 2))
    ∙ ap (bit_steps 1) (step_even (y * 2))
    ∙ step_even y

-- ## Eight at once

pub eight_at_once : (x : ℕ) → bit_steps 8 x ≡ bit_xor (bit_steps 8 (x % 256)) (x / 256)
eight_at_once x =
    let less : x % 256 < 2 ^ 8 = omega arith in
    let whole : x ≡ x / 256 * 2 ^ 8 + x % 256 = omega arith in
    ap (bit_steps 8) (whole ∙ sym (xor_shifted (x / 256) 8 (x % 256) less))
    ∙ steps_linear 8 (x / 256 * 2 ^ 8) (x % 256)
    ∙ ap (λ (y : ℕ). bit_xor y (bit_steps 8 (x % 256))) (eight_zeros (x / 256))
    ∙ xor_comm (x / 256) (bit_steps 8 (x % 256))

-- ## The table

table_is : TABLE ≡ map (bit_steps 8) (range_with_len 0 256)
unfolding bit_step polynomial
table_is = refl

in_table : (x : ℕ) → x < 256 → get_or TABLE x 0 ≡ bit_steps 8 x
in_table x less = ap (λ t. get_or t x 0) table_is ∙ get_or-map-range_with_len (bit_steps 8) 0 256 x x 0 less (omega arith)

pub by_table : (sum byte : ℕ) → bit_xor (get_or TABLE (bit_xor sum byte % 256) 0) (bit_xor sum byte / 256) ≡ byte_step sum byte
unfolding byte_step
by_table sum byte =
    ap (λ (x : ℕ). bit_xor x (bit_xor sum byte / 256)) (in_table (bit_xor sum byte % 256) (omega arith))
    ∙ sym (eight_at_once (bit_xor sum byte))

-- ## Bytes behind others

pub bytes_step-append : (sum : ℕ) (xs ys : List ℕ) → bytes_step sum (xs ++ ys) ≡ bytes_step (bytes_step sum xs) ys
bytes_step-append sum [] ys = refl
bytes_step-append sum (x ∷ xs) ys = bytes_step-append (byte_step sum x) xs ys

pub ruleset sum_facts = (bytes_step-append)
