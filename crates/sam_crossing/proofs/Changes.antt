-- What the terminal changes on its own side as it composes a message, and what it has tested before.
use Rattle.sam_crossing.proofs.Common.{◌≡◌, ℕ, ◌+◌, ◌<◌, ◌≤◌, true, false, if◌then◌else◌, ◌==◌, List, length, map, Option, Some, max_runes, ins_cells, del_cells, Tmesg, Tversion, Tcheck, Trequest, Torigin, Tstartfile, Tworkfile, Ttype, Tcut, Tpaste, Tsnarf, Twrite, Tclose, Tlook, Tsearch, Tsend, Tdclick, Lock as TakenLock, NoLock, CommandLock, FileLock, lock_of, Unknown, Open, Lens, lens, OpenAt, Anything}
use Rattle.sam_crossing.proofs.Lenses.{IsFree, locked_more}

-- what the terminal does to its own side when it composes a message
pub data Change : Type 0 where
  Same : Change
  Lock : (tag : ℕ) → Change
  Command : Change
  Types : (tag at : ℕ) → (runes : List ℕ) → Change
  Cuts : (tag p q : ℕ) → Change
  Line : (at : ℕ) → (runes : List ℕ) → Change

abbrev pub commanded : Lens → Lens
commanded (lens c e n s) = lens true e n s

abbrev pub typed_in : ℕ → List ℕ → Lens → Lens
typed_in p s (lens c e n (Open r k)) = lens c e n (Open (ins_cells r p (map Some s)) k)
typed_in p s v = v

abbrev pub cut_out : ℕ → ℕ → Lens → Lens
cut_out p q (lens c e n (Open r k)) = lens c e n (Open (del_cells r p q) k)
cut_out p q v = v

abbrev pub changed : Change → ℕ → Lens → Lens
changed Same g v = v
changed (Lock f) g v = if g == f then locked_more v else v
changed Command g v = commanded v
changed (Types f p s) g v = if g == f then typed_in p s v else v
changed (Cuts f p q) g v = if g == f then cut_out p q v else v
changed (Line p s) g v = commanded (if g == 0 then typed_in p s v else v)

-- what taking a lock changes
abbrev pub change_of_lock : TakenLock → Change
change_of_lock NoLock = Same
change_of_lock CommandLock = Command
change_of_lock (FileLock f) = Lock f

-- what typing changes, by the lock that it takes
abbrev pub type_change : TakenLock → ℕ → ℕ → List ℕ → Change
type_change CommandLock f p s = Line p s
type_change _ f p s = Types f p s

-- what composing the message changes: typing and cutting change the file, all else only takes its lock
abbrev pub change_by : Tmesg → Change
change_by (Ttype f p s) = type_change (lock_of (Ttype f p s)) f p s
change_by (Tcut f p q) = Cuts f p q
change_by m = change_of_lock (lock_of m)

abbrev pub KnownAt : Lens → Type 0
KnownAt (lens c e n Unknown) = ⊥
KnownAt v = Unit

abbrev pub Within : ℕ → ℕ → List (Option ℕ) → Type 0
Within p q r = (p ≤ q) × (q ≤ length r)

-- who must be free before the terminal acts
abbrev pub IsAllowed : Change → (ℕ → Lens) → Type 0
IsAllowed Same views = Unit
IsAllowed (Lock f) views = IsFree (views f)
IsAllowed Command views = (g : ℕ) → IsFree (views g)
IsAllowed (Types f p s) views = IsFree (views f)
IsAllowed (Cuts f p q) views = IsFree (views f)
IsAllowed (Line p s) views = (g : ℕ) → IsFree (views g)

-- what a message rests on at its file: the terminal has tested it, and the host may rest on it
pub data Need : Type 0 where
  Nothing : Need
  Positive : (n : ℕ) → Need
  InOpen : (tag : ℕ) → Need
  AtPlace : (tag p : ℕ) → Need
  InRange : (tag p q : ℕ) → Need
  HasRoom : (tag p : ℕ) → (runes : List ℕ) → Need
  Startable : (tag : ℕ) → Need
  NamedOpen : (tag : ℕ) → Need
  NamedRange : (tag p q : ℕ) → Need

abbrev pub need_of : Tmesg → Need
need_of (Tversion v) = Positive v
need_of (Tcheck f) = InOpen f
need_of (Trequest f p n) = InOpen f
need_of (Torigin f p n) = AtPlace f p
need_of (Tstartfile f) = Startable f
need_of (Tworkfile f p q) = NamedRange f p q
need_of (Ttype f p s) = HasRoom f p s
need_of (Tcut f p q) = InRange f p q
need_of (Tpaste f p) = AtPlace f p
need_of (Tsnarf f p q) = InRange f p q
need_of (Twrite f) = NamedOpen f
need_of (Tclose f) = NamedOpen f
need_of (Tlook f p q) = InRange f p q
need_of (Tsearch f p q) = InRange f p q
need_of (Tsend f p q) = InRange f p q
need_of (Tdclick f p) = AtPlace f p
need_of _ = Nothing

abbrev pub CanMeet : Need → (ℕ → Lens) → Type 0
CanMeet Nothing views = Unit
CanMeet (Positive n) views = 0 < n
CanMeet (InOpen f) views = OpenAt Anything (views f)
CanMeet (AtPlace f p) views = OpenAt (Within p p) (views f)
CanMeet (InRange f p q) views = OpenAt (Within p q) (views f)
CanMeet (HasRoom f p s) views = OpenAt (λ r. (p ≤ length r) × (length r + length s ≤ max_runes)) (views f)
CanMeet (Startable f) views = KnownAt (views f) × ((f == 0) ≡ false)
CanMeet (NamedOpen f) views = OpenAt Anything (views f) × ((f == 0) ≡ false)
CanMeet (NamedRange f p q) views = OpenAt (Within p q) (views f) × ((f == 0) ≡ false)

-- what the terminal has tested before it composes the message
abbrev pub CanCompose : Tmesg → (ℕ → Lens) → Type 0
CanCompose m views = CanMeet (need_of m) views
