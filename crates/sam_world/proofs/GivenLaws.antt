-- The files that a world is made with.
use Rattle.sam_world.proofs.Common.{◌≡◌, refl, ap, ℕ, suc, ◌+◌, ◌≤◌, ◌<◌, List, [], ◌∷◌, ◌++◌, length, take, All, arith, slice_index_or, All-head, All-tail, RoomyText, most_in_name, AreNames, given_of, AreGiven, AreShort, IsFile}

pub given_fits : (files : List (List ℕ × RoomyText)) → AreNames files → AreShort files → AreGiven (given_of files)
given_fits [] names short = tt
given_fits (file ∷ files) names short = (names.0, short.0, given_fits files names.1 short.1)

-- ---- files that are copied

pub given_more : (gs : List (List ℕ × RoomyText)) (g : List ℕ × RoomyText) → given_of (gs ++ g ∷ []) ≡ given_of gs ++ (g.0, g.1.runes) ∷ []
given_more [] g = refl
given_more (h ∷ gs) g = ap (λ xs. (h.0, h.1.runes) ∷ xs) (given_more gs g)

pub given_many : (gs : List (List ℕ × RoomyText)) → length gs ≡ length (given_of gs)
given_many [] = refl
given_many (g ∷ gs) = ap suc (given_many gs)

pub names_more : (gs : List (List ℕ × RoomyText)) (g : List ℕ × RoomyText) → AreNames gs → length g.0 ≤ most_in_name → AreNames (gs ++ g ∷ [])
names_more [] g names short = (short, tt)
names_more (h ∷ gs) g names short = (names.0, names_more gs g names.1 short)

pub file_there : (fs : List (List ℕ × List ℕ)) (i : ℕ) (d : List ℕ × List ℕ) → i < length fs → All IsFile fs → IsFile (slice_index_or fs i d)
file_there (f ∷ fs) (suc i) d within all = file_there fs i d (omega (arith, within)) (All-tail IsFile f fs all)
file_there fs i d e u = grind (arith, All-head)

pub take_more : {X : Type 0} (xs : List X) (i : ℕ) (d : X) → i < length xs → take (i + 1) xs ≡ take i xs ++ slice_index_or xs i d ∷ []
take_more (x ∷ xs) (suc i) d within = grind (arith, (take_more xs i d))
take_more xs i d e = grind arith
