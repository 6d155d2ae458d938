-- How one slot of many changes.
use Rattle.std.specs.Prelude.{◌≡◌, ◌≢◌, ℕ, Option}
use Rattle.sam_runes.specs.Slots.{Slots, slot}

-- the tag f holds this now; no other tag changes
abbrev pub Sets : {X : Type 0} → Slots X → ℕ → Option X → Slots X → Type 0
Sets ss f o new = (slot new f ≡ o) × ((g : ℕ) → g ≢ f → slot new g ≡ slot ss g)
