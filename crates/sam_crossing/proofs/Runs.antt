-- Runs of actions at one file.
use Rattle.sam_crossing.proofs.Common.{◌≡◌, if◌then◌else◌, Bool, true, false, ◌||◌, List, [], ◌∷◌, ◌++◌, Some, None, ◌⊎◌, refl, arith, same_Some, Lens, Action, move, run, is_crossing, frees, IsGuarded, closes}
use Rattle.sam_crossing.proofs.Lenses.{IsFree, IsOpen, IsAlike, locked_more, exited_of, command_of, version_of, changes, frees_command, exits}

pub run-append_some : (s u : List Action) (v w : Lens) → run s v ≡ Some w → run (s ++ u) v ≡ run u w
run-append_some [] u v w e = grind arith
run-append_some (a ∷ s) u v w e = grind (arith, (run-append_some s u))

-- a step that the run takes
pub record Stepped (a : Action) (rest : List Action) (v w : Lens) : Type 0 where
  pub mid : Lens
  pub moves : move a v ≡ Some mid
  pub on : run rest mid ≡ Some w

pub stepped : (a : Action) (rest : List Action) (v w : Lens) → run (a ∷ rest) v ≡ Some w → Stepped a rest v w
stepped a rest v w r = grind arith

-- what runs from a free lens frees nothing
pub frees_nothing : (s : List Action) (v w : Lens) → IsFree v → run s v ≡ Some w → frees s ≡ false
frees_nothing [] v w f r = refl
frees_nothing (a ∷ s) v w f r = grind (arith, (frees_nothing s))

-- what is under way moves no free lens, and would move none that is alike
pub still : (s : List Action) (v w x : Lens) → IsFree v → IsGuarded s → IsAlike v x → run s v ≡ Some w → (w ≡ v) × (run s x ≡ Some x)
still [] v w x f g l r = (cc, refl)
still (a ∷ s) v w x f g l r = grind (arith, (frees_nothing s), (still s v w x f g.1 l))

-- a test that holds
pub if_true : (b : Bool) (x : Lens) → b ≡ true → (if b then Some x else None) ≡ Some x
if_true b x e = grind arith

-- a run with one lock more: the lock stays, or the run ends it
abbrev pub RunsMore : List Action → Lens → Lens → Type 0
RunsMore s v w = (((closes s || exits s) ≡ true) × (run s (locked_more v) ≡ Some w)) ⊎ (IsOpen w × (run s (locked_more v) ≡ Some (locked_more w)) × ((closes s || exits s) ≡ false))

-- the same run with one lock more ends with one lock more, or the lock was ended on the way
pub runs_more : (s : List Action) (v w : Lens) → IsOpen v → run s v ≡ Some w → RunsMore s v w
runs_more [] v w o r = grind arith
runs_more (a ∷ s) v w o r = let t = stepped a s v w r in grind (arith, (runs_more s t.mid w))

pub exited_after : (s : List Action) (v w : Lens) → run s v ≡ Some w → exited_of w ≡ (exits s || exited_of v)
exited_after [] v w r = grind (arith, same_Some)
exited_after (a ∷ s) v w r = let t = stepped a s v w r in grind (arith, (exited_after s t.mid w t.on))

pub no_exit : (s : List Action) (v w : Lens) → run s v ≡ Some w → command_of v ≡ false → exits s ≡ false
no_exit [] v w r x = refl
no_exit (a ∷ s) v w r x = grind (arith, (no_exit s))

pub no_unlock : (s : List Action) (v w : Lens) → run s v ≡ Some w → command_of v ≡ false → frees_command s ≡ false
no_unlock [] v w r x = refl
no_unlock (a ∷ s) v w r x = grind (arith, (no_unlock s))

pub same_version : (s : List Action) (v w : Lens) → run s v ≡ Some w → changes s ≡ false → version_of w ≡ version_of v
same_version [] v w r x = grind (arith, same_Some)
same_version (a ∷ s) v w r x = let t = stepped a s v w r in grind (arith, (same_version s t.mid w t.on))

-- no action of a free file's first frame needs the user kept out
pub first_is_quiet : (a : Action) (s : List Action) (v w : Lens) → IsFree v → IsGuarded (a ∷ s) → run (a ∷ s) v ≡ Some w → is_crossing a ≡ false
first_is_quiet a s v w f g r = grind (arith, frees_nothing)
