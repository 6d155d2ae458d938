-- Aids to show that actions keep the invariant at one file: what guards a list of actions, and what leaves a lens as it is.
use Rattle.sam_crossing.proofs.Common.{◌≡◌, ℕ, Bool, true, false, List, [], ◌∷◌, ◌++◌, Some, ◌∙◌, arith, map-append, Hmesg, Lens, Action, run, frees, closes, IsGuarded, HFile, IsSynced, ComesToSync, action, at_file}
use Rattle.sam_crossing.proofs.Lenses.{guard_holds, AreSkips}
use Rattle.sam_crossing.proofs.Runs.{run-append_some}

pub guarded_by : (s : List Action) → guard_holds s ≡ true → IsGuarded s
guarded_by [] e = tt
guarded_by (a ∷ s) e = grind (arith, (guarded_by s))

frees_behind : (u rest : List Action) → frees rest ≡ true → frees (u ++ rest) ≡ true
frees_behind [] rest e = e
frees_behind (a ∷ u) rest e = grind (arith, (frees_behind u rest))

-- whatever stands before something that is guarded and frees a lock is guarded
pub guarded_before : (u rest : List Action) → frees rest ≡ true → IsGuarded rest → IsGuarded (u ++ rest)
guarded_before [] rest e g = g
guarded_before (a ∷ u) rest e g = (λ c. frees_behind u rest e, guarded_before u rest e g)

pub no_close_behind : (u rest : List Action) → closes u ≡ false → closes rest ≡ false → closes (u ++ rest) ≡ false
no_close_behind [] rest e f = f
no_close_behind (a ∷ u) rest e f = grind (arith, (no_close_behind u rest))

-- what frees a lock stands after actions that close nothing
pub kept_then : (u rest : List Action) (v mid final : Lens) (d : Bool) (n : ℕ) (file : HFile) → run u v ≡ Some mid → closes u ≡ false → run rest mid ≡ Some final → IsSynced final d n file
    → frees rest ≡ true → guard_holds rest ≡ true → closes rest ≡ false → ComesToSync (u ++ rest) v d n file
kept_then u rest v mid final d n file r c r2 s f g c2 =
    let open_still = no_close_behind u rest c c2 in
    record { final = final; runs = run-append_some u rest v mid r ∙ r2; synced = s; guarded = guarded_before u rest f (guarded_by rest g); closed = grind arith }

pub at_file-append : (g : ℕ) (a b : List Hmesg) → at_file g (a ++ b) ≡ at_file g a ++ at_file g b
at_file-append g a b = map-append (action g) a b

pub skips-append : (u w : List Action) → AreSkips u → AreSkips w → AreSkips (u ++ w)
skips-append [] w p q = q
skips-append (a ∷ u) w p q = (p.0, skips-append u w p.1 q)
