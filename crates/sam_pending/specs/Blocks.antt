-- Words of this crate's private calls alone: runs in blocks, each with its sums, so that a walk passes over whole blocks.
use Rattle.std.specs.Prelude.{◌≡◌, ◌⊎◌, ℕ, ◌<◌, ◌≤◌, ◌+◌, ◌-◌, min, nat_lt, Bool, false, if◌then◌else◌, List, [], ◌∷◌, ◌++◌, length, take, drop, Option, Some, None}
use Rattle.sam_pending.specs.Runs.{above, has_due, is_up_to, made_first, rooms, taken_first}
use Rattle.sam_pending.specs.declared.run.Deed.{Deed}
use Rattle.sam_pending.specs.declared.run.Deed.TheVariants.{Inserts}
use Rattle.sam_pending.specs.declared.run.Run.{Run}
use Rattle.sam_pending.specs.declared.run.Run.TheVariants.{Held, Typed}
use Rattle.sam_pending.specs.declared.run.Side.{Side}
use Rattle.sam_pending.specs.declared.run.Side.TheVariants.{Below, Above}

-- the runs of blocks, one block after another
abbrev pub flat : List (List Run) → List Run
flat [] = []
flat (b ∷ bs) = b ++ flat bs

-- the group that removes members of the rasp in the run, and the group whose runes wait in it
abbrev pub removing_run : Run → Option ℕ
removing_run (Held n d) = if nat_lt 0 n then d else None
removing_run (Typed s b d) = None

abbrev pub inserting_run : Run → Option ℕ
inserting_run (Held n d) = None
inserting_run (Typed s b d) = if nat_lt 0 s.count then Some b else None

-- the older of two groups, where there are two
abbrev pub older : Option ℕ → Option ℕ → Option ℕ
older None y = y
older (Some a) None = Some a
older (Some a) (Some b) = Some (min a b)

abbrev pub oldest_removing : List Run → Option ℕ
oldest_removing [] = None
oldest_removing (x ∷ xs) = older (removing_run x) (oldest_removing xs)

abbrev pub oldest_inserting : List Run → Option ℕ
oldest_inserting [] = None
oldest_inserting (x ∷ xs) = older (inserting_run x) (oldest_inserting xs)

-- there is such a group, and it is within the limit
abbrev pub reaches : Option ℕ → Option ℕ → Bool
reaches m None = false
reaches m (Some g) = is_up_to m g

-- the blocks with others in place of the first in which the edit is due
abbrev pub first_in : (List Run → List Run) → Deed → List (List Run) → List (List Run)
first_in made w [] = []
first_in made w (b ∷ bs) = if has_due w b then made b ∷ bs else b ∷ first_in made w bs

-- the blocks once the edit at the first run is made at which it is due
abbrev pub made_in : Deed → List (List Run) → List (List Run)
made_in w bs = first_in (made_first w) w bs

-- the blocks with an empty run in place of the first run whose runes are due
abbrev pub taken_in : Option ℕ → List (List Run) → List (List Run)
taken_in m bs = first_in (taken_first m) (Inserts m) bs

-- ## Places

-- how many cells of runs count in the rasp, or in what is shown
abbrev pub measure : Side → List Run → ℕ
measure Below xs = rooms xs
measure Above xs = above xs

-- place p of that side stands in the blocks behind the first i ones, at place k of these
pub record StandsBehind (v : Side) (bs : List (List Run)) (p i k : ℕ) : Type 0 where
  pub index : i ≤ length bs
  pub place : measure v (flat (take i bs)) + k ≡ p
  pub behind : (0 < k) ⊎ (i ≡ 0)

-- xs are the runs of the n blocks behind the first i ones: place p of that side is place k of theirs, and place q stands in them, too
pub record IsPart (v : Side) (bs : List (List Run)) (p q i n k : ℕ) (xs : List Run) : Type 0 where
  pub there : i + n ≤ length bs
  pub place : StandsBehind v bs p i k
  pub reaches : k + (q - p) ≤ measure v xs
  pub runs : flat bs ≡ flat (take i bs) ++ (xs ++ flat (drop (i + n) bs))

-- ## A change of blocks

-- others in place of so many blocks behind the first ones, and for how many blocks a list has room that will have all of them
pub record BlockChange : Type 0 where
  pub first : ℕ
  pub count : ℕ
  pub made : List (List Run)
  pub room : ℕ

abbrev pub changed : BlockChange → List (List Run) → List (List Run)
changed c bs = take c.first bs ++ c.made ++ drop (c.first + c.count) bs

-- the change is one of these blocks, and the list has room
pub record IsChange (c : BlockChange) (bs : List (List Run)) : Type 0 where
  pub there : c.first + c.count ≤ length bs
  pub room : length bs + length c.made ≤ c.room
