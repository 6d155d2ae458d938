-- Agreement, stretch by stretch.
use Rattle.sam_rasp.proofs.Common.{◌≡◌, ℕ, ◌+◌, List, ◌∷◌, ◌++◌, map, take, drop, length, Some, None, arith, ◌↔◌, drop-drop, PartialText, Agrees}

-- a front and the rest, against a text
pub agrees_parted : (c r : PartialText) (t : List ℕ) → Agrees (c ++ r) t → Agrees c (take (length c) t) × Agrees r (drop (length c) t)
agrees_parted (None ∷ c) r (x ∷ t) a = agrees_parted c r t a
agrees_parted (Some d ∷ c) r (x ∷ t) a = grind (arith, (agrees_parted c r t a.1))
agrees_parted c r t e = grind arith

pub agrees_joined : (c r : PartialText) (t : List ℕ) → Agrees c (take (length c) t) → Agrees r (drop (length c) t) → Agrees (c ++ r) t
agrees_joined (None ∷ c) r (x ∷ t) a b = agrees_joined c r t a b
agrees_joined (Some d ∷ c) r (x ∷ t) a b = (a.0, agrees_joined c r t a.1 b)
agrees_joined c r t e u = grind arith

pub runes_same : (s t : List ℕ) → Agrees (map Some s) t → s ≡ t
runes_same (c ∷ s) (x ∷ t) a = λ i. a.0 i ∷ runes_same s t a.1 i
runes_same s t e = grind arith

-- a stretch of the text from the place at on, and what is after it
pub stretch : (c r whole : PartialText) (t part : List ℕ) (at len : ℕ)
    → whole ≡ c ++ r → length c ≡ len → part ≡ take len (drop at t) → Agrees whole (drop at t) ↔ (Agrees c part × Agrees r (drop (at + len) t))
stretch c r whole t part at len e l p = grind (arith, drop-drop, agrees_parted, agrees_joined)
