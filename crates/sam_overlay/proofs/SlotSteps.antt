-- Slots as the code reads and writes them.
use Rattle.std.proofs.Common.{◌≡◌, ◌⊎◌, inl, inr, refl, sym, subst, ap, ℕ, suc, ◌+◌, ◌<◌, ◌≤◌, ◌≢◌, Bool, true, false, nat_eq, nat_le, min, [], ◌∷◌, ◌++◌, set, length, replicate, Option, Some, None, arith}
use Rattle.std.specs.Prelude.{is_some}
use Rattle.std.proofs.lemmas.Bool.{leb-true}
use Rattle.std.proofs.lemmas.Bool.Decides.{eqb_tells, leb_tells}
use Rattle.sam_runes.specs.Slots.{Slots, slot}
use Rattle.sam_pending.specs.Layers.{Layer}
use Rattle.sam_overlay.specs.Outcomes.{NoneKept, NoneWaits, has_edit}
use Rattle.sam_runes.proofs.SlotLaws.{slot-read, slot_given, slot_past}

pub slot-more : {X : Type 0} (ss : Slots X) (n f : ℕ) → slot (ss ++ replicate n None) f ≡ slot ss f
slot-more [] (suc n) (suc f) = slot-more [] n f
slot-more (s ∷ ss) n (suc f) = slot-more ss n f
slot-more ss n f = grind arith

pub slot-set_same : {X : Type 0} (ss : Slots X) (f : ℕ) (o : Option X) → f < length ss → slot (set ss f o) f ≡ o
slot-set_same (s ∷ ss) (suc f) o l = slot-set_same ss f o (omega arith)
slot-set_same ss f o l = grind arith

pub slot-set_other : {X : Type 0} (ss : Slots X) (f g : ℕ) (o : Option X) → g ≢ f → slot (set ss f o) g ≡ slot ss g
slot-set_other (s ∷ ss) (suc f) (suc g) o n = slot-set_other ss f g o (λ e. n (ap suc e))
slot-set_other ss f g o n = grind arith

pub none_more : (ls : Slots Layer) (from n : ℕ) → NoneWaits ls from n → has_edit (slot ls n) ≡ false → NoneWaits ls from (n + 1)
none_more ls from n none here f a b = go (eqb_tells f n)
  where
    go : ((nat_eq f n ≡ true) × (f ≡ n)) ⊎ ((nat_eq f n ≡ false) × (f ≢ n)) → has_edit (slot ls f) ≡ false
    go (inl (t, is)) = subst (λ g. has_edit (slot ls g) ≡ false) (sym is) here
    go (inr (t, other)) = none f a (omega (arith, b, other))

pub none_past : (ls : Slots Layer) (from n most : ℕ) → NoneWaits ls from n → min (length ls) most ≤ n → NoneWaits ls from most
none_past ls from n most none past f a b = go (nat_le (length ls) f) refl
  where
    go : (t : Bool) → nat_le (length ls) f ≡ t → has_edit (slot ls f) ≡ false
    go true is = ap has_edit (slot_past ls f (leb-true (length ls) f is))
    go false is =
        let within : f < length ls = grind (arith, is, leb_tells) in
        none f a (omega (arith, within, b, past))

pub ruleset waiting_facts = (none_more, none_past)

none_there : {X : Type 0} (o : Option X) → is_some o ≡ false → o ≡ None
none_there None none = refl
none_there (Some x) none = absurd (cc)

pub kept_more : (ls : Slots Layer) (from n : ℕ) → NoneKept ls from n → is_some (slot ls n) ≡ false → NoneKept ls from (n + 1)
kept_more ls from n none here f a b = go (eqb_tells f n)
  where
    go : ((nat_eq f n ≡ true) × (f ≡ n)) ⊎ ((nat_eq f n ≡ false) × (f ≢ n)) → slot ls f ≡ None
    go (inl (t, is)) = subst (λ g. slot ls g ≡ None) (sym is) (none_there (slot ls n) here)
    go (inr (t, other)) = none f a (omega (arith, b, other))

pub kept_past : (ls : Slots Layer) (from n most : ℕ) → NoneKept ls from n → min (length ls) most ≤ n → NoneKept ls from most
kept_past ls from n most none past f a b = go (nat_le (length ls) f) refl
  where
    go : (t : Bool) → nat_le (length ls) f ≡ t → slot ls f ≡ None
    go true is = slot_past ls f (leb-true (length ls) f is)
    go false is =
        let within : f < length ls = grind (arith, is, leb_tells) in
        none f a (omega (arith, within, b, past))

pub ruleset kept_facts = (kept_more, kept_past)

pub ruleset slot_facts = (slot-read, slot_given, slot_past)

pub ruleset room_facts = (slot-more)

pub ruleset set_facts = (slot-set_same, slot-set_other, slot-read, slot_past)

pub ruleset free_facts = (slot-set_same, slot-set_other, slot_past)
