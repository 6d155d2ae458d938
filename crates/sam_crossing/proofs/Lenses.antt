-- Words of the proof about lenses and actions.
use Rattle.sam_crossing.proofs.Common.{◌≡◌, ℕ, suc, min, Bool, true, false, not, ◌&&◌, ◌||◌, List, [], ◌∷◌, length, take, drop, most_in_message, Unknown, Known, Open, Lens, lens, Action, Skip, Fill, Change, Free_file, Free_command, Exit, is_crossing, frees, HFile, Opened, Gone}

-- the user may act on the file: no lock is held that keeps him out
abbrev pub IsFree : Lens → Type 0
IsFree (lens true e n s) = ⊥
IsFree (lens false e n (Open r (suc k))) = ⊥
IsFree _ = Unit

abbrev pub IsOpen : Lens → Type 0
IsOpen (lens c e n (Open r k)) = Unit
IsOpen _ = ⊥

-- one lock more of the file
abbrev pub locked_more : Lens → Lens
locked_more (lens c e n (Open r k)) = lens c e n (Open r (suc k))
locked_more v = v

abbrev pub exited_of : Lens → Bool
exited_of (lens c e n s) = e

abbrev pub version_of : Lens → ℕ
version_of (lens c e n s) = n

abbrev pub command_of : Lens → Bool
command_of (lens c e n s) = c

-- the two show the file in the list or not, open or not, alike, whatever its rasp and the locks are
abbrev pub IsAlike : Lens → Lens → Type 0
IsAlike (lens c e n Unknown) (lens c2 e2 n2 Unknown) = Unit
IsAlike (lens c e n Known) (lens c2 e2 n2 Known) = Unit
IsAlike (lens c e n (Open r k)) (lens c2 e2 n2 (Open r2 k2)) = Unit
IsAlike _ _ = ⊥

abbrev pub is_exit : Action → Bool
is_exit Exit = true
is_exit _ = false

abbrev pub exits : List Action → Bool
exits [] = false
exits (a ∷ rest) = is_exit a || exits rest

-- a Trequest for the file is no refusal
abbrev pub CanRequest : Bool → HFile → Type 0
CanRequest true file = Unit
CanRequest false (Opened t) = Unit
CanRequest false Gone = Unit
CanRequest false file = ⊥

-- what its answer does at the file
abbrev pub request_actions : Bool → HFile → ℕ → ℕ → List Action
request_actions false (Opened t) p m = Fill (min p (length t)) (take (min m most_in_message) (drop p t)) ∷ Free_file ∷ []
request_actions _ _ _ _ = []

-- frames of other files
abbrev pub AreSkips : List Action → Type 0
AreSkips [] = Unit
AreSkips (a ∷ rest) = (a ≡ Skip) × AreSkips rest

-- the same as IsGuarded, to compute
abbrev pub guard_holds : List Action → Bool
guard_holds [] = true
guard_holds (a ∷ rest) = (not (is_crossing a) || frees rest) && guard_holds rest

abbrev pub is_change : Action → Bool
is_change (Change v) = true
is_change _ = false

abbrev pub changes : List Action → Bool
changes [] = false
changes (a ∷ rest) = is_change a || changes rest

abbrev pub is_free_command : Action → Bool
is_free_command Free_command = true
is_free_command _ = false

abbrev pub frees_command : List Action → Bool
frees_command [] = false
frees_command (a ∷ rest) = is_free_command a || frees_command rest
