-- The words and numbers of a line, as functions on lists.
use Rattle.sam_script.proofs.Common.{◌≡◌, ◌≢◌, ◌<◌, ◌≤◌, ◌∙◌, ◌+◌, refl, sym, ℕ, suc, List, [], ◌∷◌, ◌++◌, length, get_or, take, drop, Bool, true, false, Some, None, Result, MatchResult, arith, ◌⊎◌, ne_eqb, all_ascii_digits, parse_plain, numerals_by_value, tells_all_ascii_digits, nat_tests, word_of, behind_word, word_at, number_of, unescaped, meant, text_at, ended, at_drop_more, at_drop_all}
use Rattle.std.specs.Str.Parse.{ParsesUnsigned}

-- the first space is at k
pub cut_to : (bytes : List ℕ) (k : ℕ) → k < length bytes → get_or bytes k 0 ≡ 32 → ((i : ℕ) → i < k → get_or bytes i 0 ≢ 32)
    → (word_of bytes ≡ take k bytes) × (behind_word bytes ≡ drop k bytes)
cut_to (b ∷ bytes) (suc k) within space before =
    grind (arith, (ne_eqb b 32 (before 0 (omega arith))), (cut_to bytes k (omega arith) space (λ i h. before (suc i) (omega arith))))
cut_to bytes k e u w = grind arith

-- there is no space
pub cut_none : (bytes : List ℕ) → ((i : ℕ) → i < length bytes → get_or bytes i 0 ≢ 32) → (word_of bytes ≡ bytes) × (behind_word bytes ≡ [])
cut_none [] none = (refl, refl)
cut_none (b ∷ bytes) none = grind (arith, (ne_eqb b 32 (none 0 (omega arith))), (cut_none bytes (λ i h. none (suc i) (omega arith))))

pub no_word : (bytes : List ℕ) → ((rest : List ℕ) → bytes ≢ 32 ∷ rest) → word_at bytes ≡ None
no_word bytes e = grind (arith, nat_tests)

pub no_text : (bytes : List ℕ) → ((rest : List ℕ) → bytes ≢ 32 ∷ rest) → text_at bytes ≡ ended [] bytes
no_text bytes e = grind (arith, ne_eqb)

pub parsed : {E : Type 0} (bits : ℕ) (word : List ℕ) (r : Result ℕ E) → ParsesUnsigned bits 10 word r → get_or word 0 0 ≢ 43
    → MatchResult r (λ n. number_of bits word ≡ Some n) (λ e. number_of bits word ≡ None)
parsed {E} bits word r h plain =
    let is = parse_plain (numerals_by_value (λ ds. all_ascii_digits ds ≡ true) tells_all_ascii_digits) {E = E} bits word r h plain in grind (arith, is)

-- one rune more of a text
pub one_more : (front : List ℕ) (is_escaped : Bool) (cs : List ℕ) (n c : ℕ) → (n < length cs) × (c ≡ get_or cs n c)
    → unescaped front is_escaped (drop n cs) ≡ unescaped front is_escaped (c ∷ drop (n + 1) cs)
one_more front is_escaped cs n c h = grind (arith, (at_drop_more (unescaped front is_escaped) cs n c h.0))

pub turn_escape : (front cs whole : List ℕ) (n c : ℕ) → unescaped front false (drop n cs) ≡ unescaped [] false whole → (n < length cs) × (c ≡ get_or cs n c) → c ≡ 92
    → unescaped front true (drop (n + 1) cs) ≡ unescaped [] false whole
turn_escape front cs whole n c before at is = grind (arith, (one_more front false cs n c at))

pub turn_rune : (front cs whole : List ℕ) (is_escaped : Bool) (n c rune : ℕ) → unescaped front is_escaped (drop n cs) ≡ unescaped [] false whole
    → (n < length cs) × (c ≡ get_or cs n c) → ((c ≡ 92) × (is_escaped ≡ true)) ⊎ (c ≢ 92) → meant is_escaped c ≡ Some rune
    → unescaped (front ++ rune ∷ []) false (drop (n + 1) cs) ≡ unescaped [] false whole
turn_rune front cs whole is_escaped n c rune before at plain is = grind (arith, (one_more front is_escaped cs n c at))

pub turn_fails : (front cs whole : List ℕ) (is_escaped : Bool) (n c : ℕ) → unescaped front is_escaped (drop n cs) ≡ unescaped [] false whole
    → (n < length cs) × (c ≡ get_or cs n c) → ((c ≡ 92) × (is_escaped ≡ true)) ⊎ (c ≢ 92) → meant is_escaped c ≡ None
    → unescaped [] false whole ≡ None
turn_fails front cs whole is_escaped n c before at plain is = grind (arith, (one_more front is_escaped cs n c at))

pub turns_end : (front cs whole : List ℕ) (is_escaped : Bool) (n : ℕ) → unescaped front is_escaped (drop n cs) ≡ unescaped [] false whole → length cs ≤ n
    → unescaped [] false whole ≡ unescaped front is_escaped []
turns_end front cs whole is_escaped n before all = sym before ∙ at_drop_all (unescaped front is_escaped) cs n all
