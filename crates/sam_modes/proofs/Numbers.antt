-- What a parsed number says of its digits.
use Rattle.sam_modes.proofs.Common.{◌≡◌, refl, sym, subst, ℕ, List, Bool, cond, ne_eqb, slice_index, drop, Result, Ok, first_value-rows}
use Rattle.std.specs.Str.Parse.{IsNumeral, ParsesUnsigned, digits_value, without_leading_plus}

-- no plus sign stands in front
pub plain : (bs : List ℕ) → (slice_index bs 0 ≡ 43 → ⊥) → without_leading_plus bs ≡ bs
plain bs other = subst (λ (b : Bool). drop (cond b 1 0) bs ≡ bs) (sym (ne_eqb (slice_index bs 0) 43 other)) refl

pub parsed : {E : Type 0} (bs : List ℕ) (n : ℕ) (r : Result ℕ E) → without_leading_plus bs ≡ bs → r ≡ Ok n → ParsesUnsigned 64 10 bs r → IsNumeral 10 bs × (n ≡ digits_value 10 bs)
parsed {E = E} bs n r e is p =
    let q = subst (λ (x : Result ℕ E). ParsesUnsigned 64 10 bs x) is p in
    (subst (λ (ds : List ℕ). IsNumeral 10 ds) e q.0.0, subst (λ (ds : List ℕ). n ≡ digits_value 10 ds) e q.1)

-- what `number_in` rests on
pub ruleset number_in_facts = (first_value-rows)
