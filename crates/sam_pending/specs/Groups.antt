-- Edits of a group and of those before it come to the rasp one by one, before a request of that group acts.
use Rattle.std.specs.Prelude.{◌≡◌, ◌⊎◌, ◌<◌, ◌≤◌, ◌-◌, ℕ, Bool, false, if◌then◌else◌, List, ◌++◌, length, take, drop, IsTrue}
use Rattle.std.specs.List.{All, filter}
use Rattle.sam_pending.specs.Cells.{Cell, Change, IsBrought, IsTaken, IsTakenBack, PartialText, by, in_rasp, part_by, place_at, rasp_of, removed, stands_at, take_by, text_at, waiting_of}

-- group g, or one before it, takes the cell out of the rasp, or puts it in
abbrev pub is_due_by : ℕ → Cell → Bool
is_due_by g c = if in_rasp c then by g c.died else by g c.born

-- nothing is left to put of these groups
abbrev pub IsPutUpTo : ℕ → List Cell → Type 0
IsPutUpTo g cs = All (λ c. is_due_by g c ≡ false) cs

-- by that change of the rasp the cells cs became ds: a stretch of them went or came that these groups have to put
pub record IsMadeBy (g : ℕ) (cs : List Cell) (e : Change) (ds : List Cell) : Type 0 where
  pub before : List Cell
  pub stretch : List Cell
  pub behind : List Cell
  pub old : cs ≡ before ++ stretch ++ behind
  pub some : 0 < length stretch
  pub due : All (λ c. IsTrue (is_due_by g c)) stretch
  pub made : IsTaken before stretch behind e ds ⊎ IsBrought before stretch behind e ds

-- ## Places of the text that a request of group g comes to

-- the members of the rasp from place p to place q that stand in it before place x
abbrev pub gone_before : ℕ → ℕ → ℕ → ℕ → List Cell → PartialText
gone_before g p q x cs = text_at g (filter in_rasp (part_by in_rasp p q (take_by (stands_at g) x cs)))

-- where place x of it goes as the host removes them
abbrev pub place_after_removal : ℕ → ℕ → ℕ → ℕ → List Cell → ℕ
place_after_removal g p q x cs = x - length (gone_before g p q x cs)

-- as a stretch goes before which these cells stand, the members of it that stand in it before place x
abbrev pub lost_before : ℕ → ℕ → List Cell → List Cell → PartialText
lost_before g x before stretch = text_at g (take_by (stands_at g) (x - length (text_at g before)) stretch)

-- as runes are taken back, place x of it goes to place y: as many to the front as go before it
pub record TakesPlace (g x y : ℕ) (cs : List Cell) (p n : ℕ) (s : List ℕ) (ds : List Cell) : Type 0 where
  pub taken : IsTakenBack cs p n s ds
  pub place : y ≡ x - length (lost_before g x taken.before taken.stretch)

-- a text without what such a stretch has in it
abbrev pub without : ℕ → List Cell → List Cell → PartialText → PartialText
without g before stretch t = take (length (text_at g before)) t ++ drop (length (text_at g (before ++ stretch))) t

-- ## The laws

-- while they come to the rasp, the text that a request of group g comes to stays
abbrev pub EditsKeepText : Type 0
EditsKeepText = (g : ℕ) (cs ds : List Cell) (e : Change) → IsMadeBy g cs e ds → text_at g ds ≡ text_at g cs

-- once nothing is left of them the rasp is that text: the request finds what was shown as it was asked for, with the host's changes since
abbrev pub PutIsText : Type 0
PutIsText = (g : ℕ) (cs : List Cell) → IsPutUpTo g cs → rasp_of cs ≡ text_at g cs

-- a removal of the host goes out of it too, but for what stood between
abbrev pub RemovalsGoOutOfText : Type 0
RemovalsGoOutOfText =
    (g p q : ℕ) (cs : List Cell) → p ≤ q
    → text_at g (removed p q cs)
    ≡ take (place_at g p cs) (text_at g cs) ++ text_at g (waiting_of (part_by in_rasp p q cs)) ++ drop (place_at g q cs) (text_at g cs)

-- what it leaves of the text before a place is the text before that place afterwards
abbrev pub RemovalsMovePlaces : Type 0
RemovalsMovePlaces =
    (g p q x : ℕ) (cs : List Cell) → p ≤ q → x ≤ length (text_at g cs)
    → take (place_after_removal g p q x cs) (text_at g (removed p q cs)) ≡ text_at g (removed p q (take_by (stands_at g) x cs))

-- as runes are taken back they go out of the text that a request comes to, and what is left of the text before a place is the text before
-- that place afterwards
abbrev pub DropsMovePlaces : Type 0
DropsMovePlaces =
    (g x y p n : ℕ) (s : List ℕ) (cs ds : List Cell) (t : TakesPlace g x y cs p n s ds)
    → (text_at g ds ≡ without g t.taken.before t.taken.stretch (text_at g cs))
    × (take y (text_at g ds) ≡ without g t.taken.before t.taken.stretch (take x (text_at g cs)))
