-- The names that are told, a tag further.
use Rattle.sam_host.proofs.Common.{◌≡◌, refl, zero, [], Option, Some, None, IfSome, true, when, AreAnnounced, append_assoc, append-nil, ℕ, suc, ◌+◌, ◌<◌, ◌≤◌, List, ◌∷◌, ◌++◌, length, drop, arith, drop_of_length-le, Slots, slot, PlainFile, HFrame, stamped, told_at, told_names}
use Rattle.sam_host.proofs.FrameLaws.{stamped_append}

names_at : (g f : ℕ) (ss : Slots PlainFile) → f < length ss → told_names g (drop f ss) ≡ told_at g (slot ss f) ++ told_names (1 + g) (drop (suc f) ss)
unfolding told_names
names_at g (suc f) (s ∷ ss) l = names_at g f ss (omega arith)
names_at g f ss e = grind arith

-- the name of an announced file isn't told
untold : (f : ℕ) (s : Option PlainFile) → IfSome s (λ file. file.announced ≡ true) → told_at f s ≡ []
unfolding when
untold f None is = refl
untold f (Some file) is = grind (arith, is)

names_passed : (d f : ℕ) (ss : Slots PlainFile) → 0 < f → f + d ≤ length ss → ((g : ℕ) → 0 < g → g < f + d → IfSome (slot ss g) (λ file. file.announced ≡ true))
    → told_names f (drop f ss) ≡ told_names (f + d) (drop (f + d) ss)
names_passed zero f ss p l all = grind arith
names_passed (suc d) f ss p l all =
    let here : told_at f (slot ss f) ≡ [] = untold f (slot ss f) (all f p (omega arith)) in
    let rest : told_names (suc f) (drop (suc f) ss) ≡ told_names (suc f + d) (drop (suc f + d) ss) =
    names_passed d (suc f) ss (omega arith) (omega (arith, l)) (λ g q m. all g q (omega (arith, m))) in
    grind (arith, here, rest, (names_at f f ss))

-- the names told from a tag on below which all are announced
pub names_new : (n : ℕ) (ss : Slots PlainFile) → 1 ≤ n → n ≤ length ss → AreAnnounced n ss → told_names n (drop n ss) ≡ told_names 1 (drop 1 ss)
unfolding AreAnnounced
names_new (suc n) ss p l all =
    let passed : told_names 1 (drop 1 ss) ≡ told_names (1 + n) (drop (1 + n) ss) = names_passed n 1 ss (omega arith) (omega (arith, l)) (λ g q m. all g q (omega (arith, m))) in
    grind (arith, passed)
names_new zero ss p l all = absurd (omega (arith, p))

-- a name that is told
pub name_told : (seen f : ℕ) (ss : Slots PlainFile) (before : List HFrame) → f < length ss
    → (before ++ stamped seen (told_at f (slot ss f))) ++ stamped seen (told_names (f + 1) (drop (f + 1) ss)) ≡ before ++ stamped seen (told_names f (drop f ss))
name_told seen f ss before l = grind (arith, names_at, append_assoc, stamped_append)

-- all names were told
pub names_done : (seen f : ℕ) (ss : Slots PlainFile) (before : List HFrame) → length ss ≤ f → before ++ stamped seen (told_names f (drop f ss)) ≡ before
unfolding told_names
names_done seen f ss before l = rw (drop_of_length-le ss l) (append-nil before)
