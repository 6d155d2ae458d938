-- Stretches of cells of one sort, as the code keeps them. The rasp below keeps its members, and the runes that wait stand in one text.
use Rattle.std.specs.Prelude.{◌≡◌, ℕ, zero, suc, ◌+◌, ◌-◌, ◌≤◌, max, min, not, Bool, true, false, nat_lt, nat_le, ◌==◌, ◌&&◌, ◌||◌, if◌then◌else◌, List, [], ◌∷◌, ◌++◌, map, take, drop, Option, Some, None, is_none}
use Rattle.sam_pending.specs.Cells.{Member, PartialText, Cell, Change, by, in_rasp, is_shown}
use Rattle.sam_runes.specs.declared.edit.Edit.{Edit}
use Rattle.sam_pending.specs.declared.run.Stretch.{Stretch}
use Rattle.sam_pending.specs.declared.run.Run.{Run}
use Rattle.sam_pending.specs.declared.run.Run.TheVariants.{Held, Typed}
use Rattle.sam_pending.specs.declared.run.Deed.{Deed}
use Rattle.sam_pending.specs.declared.run.Deed.TheVariants.{Removes, Inserts}
use Rattle.sam_pending.specs.declared.run.Side.{Side}
use Rattle.sam_pending.specs.declared.run.Side.TheVariants.{Below, Above}
use Rattle.sam_pending.specs.declared.told.Removal.{Removal}
use Rattle.sam_pending.specs.declared.told.Filling.{Filling}

-- the cells that count in the rasp, or in what is shown
abbrev pub counts : Side → Cell → Bool
counts Below c = in_rasp c
counts Above c = is_shown c

-- a member of the rasp, and a rune that a group put in; and the group that removes them, if one does
abbrev pub held : Option ℕ → Member → Cell
held d m = record { member = m; born = None; died = d }

abbrev pub typed_by : ℕ → Option ℕ → ℕ → Cell
typed_by g d c = record { member = Some c; born = Some g; died = d }

-- the runes of a stretch of the text t of those that wait
abbrev pub runes_of : List ℕ → Stretch → List ℕ
runes_of t s = take s.count (drop s.start t)

-- how many members of the rasp a run holds
abbrev pub room : Run → ℕ
room (Held n d) = n
room (Typed s g d) = 0

abbrev pub rooms : List Run → ℕ
rooms [] = 0
rooms (x ∷ xs) = room x + rooms xs

-- how many runes of a run wait
abbrev pub wait : Run → ℕ
wait (Held n d) = 0
wait (Typed s g d) = s.count

abbrev pub waits : List Run → ℕ
waits [] = 0
waits (x ∷ xs) = wait x + waits xs

-- the cells of a run, where the rasp has these members from there on
abbrev pub cells : List ℕ → PartialText → Run → List Cell
cells t r (Held n d) = map (held d) (take n r)
cells t r (Typed s g d) = map (typed_by g d) (runes_of t s)

abbrev pub cells_of : List ℕ → PartialText → List Run → List Cell
cells_of t r [] = []
cells_of t r (x ∷ xs) = cells t r x ++ cells_of t (drop (room x) r) xs

-- where what a run takes of the text ends
abbrev pub reach : Run → ℕ
reach (Held n d) = 0
reach (Typed s g d) = s.start + s.count

-- no run takes more of the text than its first n runes
abbrev pub Within : ℕ → List Run → Type 0
Within n [] = Unit {0}
Within n (x ∷ xs) = (reach x ≤ n) × Within n xs

-- ## Runs up to a place and behind it

abbrev pub run_counts : Side → Run → Bool
run_counts Below (Held n d) = true
run_counts Below (Typed s g d) = false
run_counts Above (Held n d) = is_none d
run_counts Above (Typed s g d) = is_none d

abbrev pub size : Run → ℕ
size (Held n d) = n
size (Typed s g d) = s.count

abbrev pub head_of : ℕ → Run → Run
head_of k (Held n d) = Held k d
head_of k (Typed s g d) = Typed (record { start = s.start; count = k }) g d

abbrev pub tail_of : ℕ → Run → Run
tail_of k (Held n d) = Held (n - k) d
tail_of k (Typed s g d) = Typed (record { start = s.start + k; count = s.count - k }) g d

abbrev pub front : Side → ℕ → List Run → List Run
front v zero xs = []
front v (suc p) [] = []
front v (suc p) (x ∷ xs) =
    if run_counts v x
    then (if nat_le (size x) (suc p) then x ∷ front v (suc p - size x) xs else head_of (suc p) x ∷ [])
    else x ∷ front v (suc p) xs

abbrev pub back : Side → ℕ → List Run → List Run
back v zero xs = xs
back v (suc p) [] = []
back v (suc p) (x ∷ xs) =
    if run_counts v x
    then (if nat_le (size x) (suc p) then back v (suc p - size x) xs else tail_of (suc p) x ∷ xs)
    else back v (suc p) xs

-- ## Runs of a range

-- those that wait
abbrev pub waiting_run : Run → List Run
waiting_run (Held n d) = []
waiting_run (Typed s g d) = Typed s g d ∷ []

abbrev pub waiting_runs : List Run → List Run
waiting_runs [] = []
waiting_runs (x ∷ xs) = waiting_run x ++ waiting_runs xs

-- the run as group g removes what is shown of it; none is left of what it put in itself
abbrev pub dying_run : ℕ → Run → List Run
dying_run g (Held n None) = Held n (Some g) ∷ []
dying_run g (Held n (Some h)) = Held n (Some h) ∷ []
dying_run g (Typed s b None) = if g == b then [] else Typed s b (Some g) ∷ []
dying_run g (Typed s b (Some h)) = Typed s b (Some h) ∷ []

abbrev pub dying_runs : ℕ → List Run → List Run
dying_runs g [] = []
dying_runs g (x ∷ xs) = dying_run g x ++ dying_runs g xs

-- ## What is shown of runs

-- how many cells are shown
abbrev pub above : List Run → ℕ
above [] = 0
above (x ∷ xs) = if run_counts Above x then size x + above xs else above xs

-- what is shown of the members that leave the rasp, as removals, where n shown cells stand before this run, and before these runs
abbrev pub gone_run : ℕ → Run → List Removal
gone_run n (Held k None) = record { p = n; q = n + k } ∷ []
gone_run n (Held k (Some h)) = []
gone_run n (Typed s b d) = []

abbrev pub gone_runs : ℕ → List Run → List Removal
gone_runs n [] = []
gone_runs n (x ∷ xs) = gone_run n x ++ gone_runs (n + above (x ∷ [])) xs

-- where the members that are loaded are shown, where n shown cells and k loaded members stand before this run, and before these runs
abbrev pub filled_run : ℕ → ℕ → Run → List Filling
filled_run n k (Held m None) = record { place = n; from = k; count = m } ∷ []
filled_run n k (Held m (Some h)) = []
filled_run n k (Typed s b d) = []

abbrev pub filled_runs : ℕ → ℕ → List Run → List Filling
filled_runs n k [] = []
filled_runs n k (x ∷ xs) = filled_run n k x ++ filled_runs (n + above (x ∷ [])) (k + room x) xs

-- ## Runs that stand for the same

-- the runs xs are those of ys, cut elsewhere
pub record IsSame (xs ys : List Run) : Type 0 where
  pub cells : (text : List ℕ) (r : PartialText) → cells_of text r xs ≡ cells_of text r ys
  pub rooms : rooms xs ≡ rooms ys
  pub waits : waits xs ≡ waits ys
  pub above : above xs ≡ above ys
  pub within : (n : ℕ) → Within n ys → Within n xs

-- ## The text anew, without runes that wait no more

abbrev pub kept_text : List ℕ → List Run → List ℕ
kept_text t [] = []
kept_text t (Held n d ∷ xs) = kept_text t xs
kept_text t (Typed s g d ∷ xs) = runes_of t s ++ kept_text t xs

-- a run whose runes stand from place n of that text on
abbrev pub kept_run : ℕ → Run → Run
kept_run n (Held k d) = Held k d
kept_run n (Typed s g d) = Typed (record { start = n; count = s.count }) g d

abbrev pub kept_runs : ℕ → List Run → List Run
kept_runs n [] = []
kept_runs n (x ∷ xs) = kept_run n x ∷ kept_runs (n + wait x) xs

-- ## What stands at a place of what is shown

-- the rest of the run there, and where in the rasp it begins, if it holds members of the rasp; n members stand before these runs
abbrev pub spot : ℕ → ℕ → List Run → Option (Run × ℕ)
spot p n [] = None
spot p n (x ∷ xs) =
    if run_counts Above x
    then (if nat_le (size x) p then spot (p - size x) (n + room x) xs else Some (tail_of p x, n + room (head_of p x)))
    else spot p (n + room x) xs

-- ## Groups

-- the newest group of a run that is not empty
abbrev pub group_or : Option ℕ → ℕ
group_or None = 0
group_or (Some g) = g

abbrev pub newest_run : Run → ℕ
newest_run (Held n d) = group_or d
newest_run (Typed s b d) = max b (group_or d)

-- the newest group of the runs; 0 where none waits
abbrev pub newest_of : List Run → ℕ
newest_of [] = 0
newest_of (x ∷ xs) = if size x == 0 then newest_of xs else max (newest_run x) (newest_of xs)

-- whether nothing of the run waits
abbrev pub run_rests : Run → Bool
run_rests (Held n None) = true
run_rests (Held n (Some g)) = n == 0
run_rests (Typed s b d) = s.count == 0

abbrev pub rests : List Run → Bool
rests [] = true
rests (x ∷ xs) = run_rests x && rests xs

-- ## The next edit by which what waits comes to the rasp

-- the group is not newer than the last one that is to come to the rasp, if there is a last one
abbrev pub is_up_to : Option ℕ → ℕ → Bool
is_up_to None h = true
is_up_to (Some g) h = nat_le h g

-- the edit is due at the run: there are members of the rasp in it that such a group removes, or runes that wait
abbrev pub is_due : Deed → Run → Bool
is_due (Removes m) (Held n None) = false
is_due (Removes m) (Held n (Some g)) = nat_lt 0 n && is_up_to m g
is_due (Removes m) (Typed s b d) = false
is_due (Inserts m) (Held n d) = false
is_due (Inserts m) (Typed s b d) = nat_lt 0 s.count && is_up_to m b

-- the first run at which it is due, and how many members of the rasp stand before it, where n stand before these runs
abbrev pub first_due : Deed → ℕ → List Run → Option (Run × ℕ)
first_due w n [] = None
first_due w n (x ∷ xs) = if is_due w x then Some (x, n) else first_due w (n + room x) xs

-- an edit at a run, before which n members of the rasp stand
abbrev pub edit_at : List ℕ → ℕ → Run → Edit
edit_at t n (Held k d) = record { p = n; q = n + k; text = [] }
edit_at t n (Typed s b d) = record { p = n; q = n; text = runes_of t s }

-- the run once the edit is made
abbrev pub made_run : Run → Run
made_run (Held k d) = Held 0 None
made_run (Typed s b d) = Held s.count d

-- the runs once the edit at the first run is made at which it is due
abbrev pub made_first : Deed → List Run → List Run
made_first w [] = []
made_first w (x ∷ xs) = if is_due w x then made_run x ∷ xs else x ∷ made_first w xs

abbrev pub has_due : Deed → List Run → Bool
has_due w [] = false
has_due w (x ∷ xs) = is_due w x || has_due w xs

-- the first run whose runes are due, and how many shown cells stand before it, where n stand before these runs
abbrev pub first_typed : Option ℕ → ℕ → List Run → Option (Run × ℕ)
first_typed m n [] = None
first_typed m n (x ∷ xs) = if is_due (Inserts m) x then Some (x, n) else first_typed m (n + above (x ∷ [])) xs

-- the runs with an empty one in its place
abbrev pub taken_first : Option ℕ → List Run → List Run
taken_first m [] = []
taken_first m (x ∷ xs) = if is_due (Inserts m) x then Held 0 None ∷ xs else x ∷ taken_first m xs

-- all removals come before the first insertion
abbrev pub next_deed : Option ℕ → List Run → Deed
next_deed m xs = if has_due (Removes m) xs then Removes m else Inserts m

-- some edit is due
abbrev pub has_next : Option ℕ → List Run → Bool
has_next m xs = has_due (Removes m) xs || has_due (Inserts m) xs

-- ## Places of the text that a request of group g comes to

-- the cells of the run stand in it
abbrev pub run_stands : ℕ → Run → Bool
run_stands g (Held n d) = not (by g d)
run_stands g (Typed s b d) = nat_le b g && not (by g d)

-- how many of n cells of the run are members of the rasp
abbrev pub held_of : ℕ → Run → ℕ
held_of n (Held k d) = n
held_of n (Typed s b d) = 0

-- how many cells of the run stand in it before a place of the rasp which is n members further on than the run begins
abbrev pub before_place : ℕ → ℕ → Run → ℕ
before_place g n (Held k d) = if run_stands g (Held k d) then min k n else 0
before_place g n (Typed s b d) = if run_stands g (Typed s b d) && nat_lt 0 n then s.count else 0

abbrev pub place_in : ℕ → ℕ → List Run → ℕ
place_in g n [] = 0
place_in g n (x ∷ xs) = before_place g n x + place_in g (n - room x) xs

-- how many cells of the run stand in it before its place y, counted from the run on
abbrev pub passed : ℕ → ℕ → Run → ℕ
passed g y x = if run_stands g x then min (size x) y else 0

-- of k members of the rasp, behind the n next ones, how many stand in it before its place y
abbrev pub gone_in : ℕ → ℕ → ℕ → ℕ → List Run → ℕ
gone_in g n k y [] = 0
gone_in g n k y (x ∷ xs) =
    min k (held_of (passed g y x) x - n) + gone_in g (n - room x) (k - (room x - n)) (y - passed g y x) xs

-- of its first y cells, those that stand in it, how many go as the first run is taken back whose runes are due
abbrev pub lost_in : Option ℕ → ℕ → ℕ → List Run → ℕ
lost_in m g y [] = 0
lost_in m g y (x ∷ xs) = if is_due (Inserts m) x then passed g y x else lost_in m g (y - passed g y x) xs

-- ## What the code says of changes

abbrev pub edit_change : Edit → Change
edit_change e = record { p = e.p; q = e.q; new = map Some e.text }

abbrev pub removal_change : Removal → Change
removal_change e = record { p = e.p; q = e.q; new = [] }

abbrev pub removal_changes : List Removal → List Change
removal_changes es = map removal_change es

-- a stretch of what is shown, where these runes were loaded
abbrev pub filling_change : List ℕ → Filling → Change
filling_change s e = record { p = e.place; q = e.place + e.count; new = map Some (take e.count (drop e.from s)) }

abbrev pub filling_changes : List ℕ → List Filling → List Change
filling_changes s es = map (filling_change s) es
