-- Which bytes begin with a rune.
use Rattle.sam_runes.proofs.Common.{◌≡◌, ℕ, ◌+◌, ◌-◌, ◌*◌, ◌/◌, ◌%◌, ◌<◌, ◌≤◌, List, [], ◌∷◌, ◌++◌, length, take, get_or, Option, Some, None, refl, sym, ap, subst, ◌∙◌, arith, le-ltb, lt-ltb, MatchOption, SomeIff, cases_lt, encode_ascii, IsScalar, StartsWithNoChar}
use Rattle.std.specs.Char.{encode_utf8}

abbrev Follows : ℕ → Type 0
Follows b = (128 ≤ b) × (b < 192)

-- ---- the bytes of a rune

two : (c : ℕ) → 128 ≤ c → c < 2048 → encode_utf8 c ≡ (192 + c / 64) ∷ (128 + c % 64) ∷ []
unfolding encode_utf8
two c low high = rw (le-ltb c 128 (omega arith), lt-ltb c 2048 (omega arith)) refl

three : (c : ℕ) → 2048 ≤ c → c < 65536 → encode_utf8 c ≡ (224 + c / 4096) ∷ (128 + (c / 64) % 64) ∷ (128 + c % 64) ∷ []
unfolding encode_utf8
three c low high = rw (le-ltb c 128 (omega arith), le-ltb c 2048 (omega arith), lt-ltb c 65536 (omega arith)) refl

four : (c : ℕ) → 65536 ≤ c → encode_utf8 c ≡ (240 + c / 262144) ∷ (128 + (c / 4096) % 64) ∷ (128 + (c / 64) % 64) ∷ (128 + c % 64) ∷ []
unfolding encode_utf8
four c low = rw (le-ltb c 128 (omega arith), le-ltb c 2048 (omega arith), le-ltb c 65536 (omega arith)) refl

-- what n bytes that begin x, y, z, w are, where they begin with the rune c
pub record Begun (c n x y z w : ℕ) : Type 0 where
  pub some : 0 < n
  pub second : 128 ≤ x → (192 ≤ x) × (2 ≤ n) × Follows y
  pub third : 224 ≤ x → (3 ≤ n) × Follows z
  pub fourth : 240 ≤ x → (4 ≤ n) × Follows w
  pub of_two : 128 ≤ x → x < 224 → (c ≡ (x - 192) * 64 + (y - 128)) × (128 ≤ c)
  pub of_three : 224 ≤ x → x < 240 → (c ≡ ((x - 224) * 64 + (y - 128)) * 64 + (z - 128)) × (2048 ≤ c)
  pub of_four : 240 ≤ x → (c ≡ (((x - 240) * 64 + (y - 128)) * 64 + (z - 128)) * 64 + (w - 128)) × (65536 ≤ c)

abbrev pub BegunAt : ℕ → List ℕ → Type 0
BegunAt c bs = Begun c (length bs) (get_or bs 0 0) (get_or bs 1 0) (get_or bs 2 0) (get_or bs 3 0)

begun : (c : ℕ) (rest : List ℕ) → IsScalar c → BegunAt c (encode_utf8 c ++ rest)
begun c rest is = grind (arith, encode_ascii, two, three, four, cases_lt)

-- no rune begins bytes that are not so
pub none_begins : (bs : List ℕ) → ((c : ℕ) → IsScalar c → BegunAt c bs → ⊥) → StartsWithNoChar bs
none_begins bs refuted c rest is e = refuted c is (subst (BegunAt c) (sym e) (begun c rest is))

pub none_left : {X : Type 0} (r : Option X) (A : Type 0) (P : X → Type 0) → r ≡ None → A → MatchOption r A P
none_left r A P is h = subst (λ r. MatchOption r A P) (sym is) h

-- what a code is that only a rune of these bytes can have
pub decoded : (bs : List ℕ) (n code : ℕ) (r : Option ℕ) → SomeIff r (IsScalar code) code → n ≤ length bs → take n bs ≡ encode_utf8 code → ((c : ℕ) → BegunAt c bs → c ≡ code)
    → MatchOption r (StartsWithNoChar bs) (λ c. (n ≤ length bs) × (take n bs ≡ encode_utf8 c))
decoded bs n code None out within front only = none_begins bs (λ c is b. out (subst IsScalar (only c b) is))
decoded bs n code (Some x) out within front only = (within, front ∙ ap encode_utf8 (sym out.1))

abbrev IsTail : ℕ → ℕ → Type 0
IsTail bits byte = (bits < 64) × (128 + bits ≡ byte)

pub spelled_2 : (bs : List ℕ) (s code : ℕ) → 2 ≤ length bs
    → 192 ≤ get_or bs 0 0 → get_or bs 0 0 < 224 → IsTail s (get_or bs 1 0) → code ≡ (get_or bs 0 0 - 192) * 64 + s → 128 ≤ code → take 2 bs ≡ encode_utf8 code
spelled_2 bs s code within least most second is low = grind (arith, get_or, two)

pub spelled_3 : (bs : List ℕ) (s t code : ℕ) → 3 ≤ length bs → 224 ≤ get_or bs 0 0 → get_or bs 0 0 < 240 → IsTail s (get_or bs 1 0) → IsTail t (get_or bs 2 0)
    → code ≡ ((get_or bs 0 0 - 224) * 64 + s) * 64 + t → 2048 ≤ code → take 3 bs ≡ encode_utf8 code
spelled_3 bs s t code within least most second third is low = grind (arith, get_or, three)

pub spelled_4 : (bs : List ℕ) (s t u code : ℕ) → 4 ≤ length bs → 240 ≤ get_or bs 0 0 → IsTail s (get_or bs 1 0) → IsTail t (get_or bs 2 0) → IsTail u (get_or bs 3 0)
    → code ≡ (((get_or bs 0 0 - 240) * 64 + s) * 64 + t) * 64 + u → 65536 ≤ code → take 4 bs ≡ encode_utf8 code
spelled_4 bs s t u code within least second third fourth is low = grind (arith, get_or, four)
