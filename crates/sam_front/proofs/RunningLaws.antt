-- A command line that is typed piece by piece.
use Rattle.std.proofs.Common.{◌≡◌, refl, subst, ℕ, zero, suc, ◌-◌, ◌<◌, List, [], ◌∷◌, ◌++◌, drop, take, length, true, false, Result, Ok, Err, is_err, arith}
use Rattle.std.specs.Prelude.{OnOk, Option, None}
use Rattle.sam_overlay.specs.declared.fault.AskFault.{AskFault}
use Rattle.sam_front.specs.Fronts.{with_runs}
use Rattle.sam_front.specs.Running.{AsksLine, RunsFound, RunsLine, RunsUnless, TypesIn, TypesOne, run_fault, to_empty}
use Rattle.sam_front.specs.Runs.{new_run, piece_of, typed_line}
use Rattle.sam_front.specs.declared.fault.RunFault.{RunFault}
use Rattle.sam_front.specs.declared.front.Front.{Front}
use Rattle.sam_front.specs.declared.runs.Run.{Run}

-- so many pieces are left behind the next one; what comes of them comes of all
pub record Stands (k : ℕ) (all : List ℕ) (f : Front) (left : ℕ) (rest : List ℕ) (m : Front) : Type 0 where
  pub go : (answer : Result ℕ AskFault) (n : Front) → TypesIn left m rest answer n → TypesIn k f all answer n

pub begun : (k : ℕ) (all : List ℕ) (f : Front) → Stands k all f k all f
begun k all f = record { go = λ answer n types. types }

piece-typed : (k left count : ℕ) (all rest after : List ℕ) (f m n : Front) (request : ℕ)
    → Stands k all f (suc left) rest m → count ≡ piece_of (length rest) (suc left) → after ≡ drop count rest → TypesOne m (take count rest) (Ok request) n
    → Stands k all f left after n
piece-typed k left count all rest after f m n request s is others one = record {
  go = λ answer g types.
      s.go answer g (
        Ok request,
        n,
        subst (λ (i : ℕ). TypesOne m (take i rest) (Ok request) n) is one,
        subst (λ (r : List ℕ). TypesIn left n r answer g) (subst (λ (i : ℕ). after ≡ drop i rest) is others) types,
      );
}

-- one more piece is typed
pub one_more : (k left count : ℕ) (all rest after : List ℕ) (f m n : Front) (came : Result ℕ AskFault)
    → Stands k all f left rest m → 0 < left → count ≡ piece_of (length rest) left → after ≡ drop count rest → is_err came ≡ false
    → TypesOne m (take count rest) came n → Stands k all f (left - 1) after n
one_more k zero count all rest after f m n came s some is others well one = grind (arith, some)
one_more k (suc left) count all rest after f m n (Ok request) s some is others well one =
    subst (λ (i : ℕ). Stands k all f i after n) (omega arith) (piece-typed k left count all rest after f m n request s is others one)
one_more k (suc left) count all rest after f m n (Err why) s some is others well one = grind (arith, well)

piece-refused : (k left count : ℕ) (all rest : List ℕ) (f m n : Front) (why : AskFault)
    → Stands k all f (suc left) rest m → count ≡ piece_of (length rest) (suc left) → TypesOne m (take count rest) (Err why) n → TypesIn k f all (Err why) n
piece-refused k left count all rest f m n why s is one =
    s.go (Err why) n (Err why, n, subst (λ (i : ℕ). TypesOne m (take i rest) (Err why) n) is one, (refl, refl))

-- a piece is not taken
pub refused : (k left count : ℕ) (all rest : List ℕ) (f m n : Front) (came : Result ℕ AskFault)
    → Stands k all f left rest m → 0 < left → count ≡ piece_of (length rest) left → is_err came ≡ true → TypesOne m (take count rest) came n
    → TypesIn k f all came n
refused k zero count all rest f m n came s some is bad one = grind (arith, some)
refused k (suc left) count all rest f m n (Ok request) s some is bad one = grind (arith, bad)
refused k (suc left) count all rest f m n (Err why) s some is bad one = piece-refused k left count all rest f m n why s is one

-- the last one is typed
pub last : (k left : ℕ) (all rest : List ℕ) (f m n : Front) (answer : Result ℕ AskFault)
    → Stands k all f left rest m → left ≡ 0 → TypesOne m rest answer n → TypesIn k f all answer n
last k zero all rest f m n answer s none one = s.go answer n one
last k (suc left) all rest f m n answer s none one = grind (arith, none)

-- ## A line

-- what holds of a call that went well
on-ok : {T E P : Type 0} (came : Result T E) → is_err came ≡ false → OnOk came P → P
on-ok (Ok x) well then = then
on-ok (Err x) well then = grind (arith, well)

-- the line is asked for behind one more that is open
pub asked_line : {E : Type 0} (f m : Front) (tag : ℕ) (typed : List ℕ) (runs : List Run) (emptied : Option ℕ) (began : Result (Unit {0}) E)
    (asked : Result ℕ AskFault) → is_err began ≡ false → OnOk began (runs ≡ f.runs ++ new_run 0 ∷ []) → emptied ≡ to_empty f
    → AsksLine (with_runs f runs) tag emptied typed asked m → AsksLine (with_runs f (f.runs ++ new_run 0 ∷ [])) tag (to_empty f) typed asked m
asked_line f m tag typed runs emptied began asked well begins empties asks =
    subst (λ (rs : List Run). AsksLine (with_runs f rs) tag (to_empty f) typed asked m) (on-ok began well begins)
    (subst (λ (e : Option ℕ). AsksLine (with_runs f runs) tag e typed asked m) empties asks)

-- nothing stands against the line
pub found_line : (f n : Front) (tag : ℕ) (line typed : List ℕ) (answer : Result ℕ RunFault) → None ≡ run_fault f tag line → typed ≡ typed_line line
    → RunsFound f tag typed answer n → RunsLine f tag line answer n
found_line f n tag line typed answer none is found =
    subst (λ (why : Option RunFault). RunsUnless why f tag line answer n) none (subst (λ (s : List ℕ). RunsFound f tag s answer n) is found)
