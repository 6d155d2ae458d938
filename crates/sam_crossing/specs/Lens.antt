-- What of the terminal concerns one file, and what the host's frames do to it. Frames are folded without composing anything.
use Rattle.std.specs.Prelude.{◌≡◌, ℕ, zero, suc, ◌+◌, Bool, true, false, ◌&&◌, ◌||◌, List, [], ◌∷◌, length, map, replicate, Option, Some, None, nat_le, if◌then◌else◌}
use Rattle.sam_rasp.specs.Rasp.{PartialText, Agrees, ins_cells, del_cells, load_cells}
use Rattle.sam_runes.specs.Texts.{max_runes}

-- a file at the terminal: not in its list, in its list, or open, with its partial text and its number of locks
pub data Slot : Type 0 where
  Unknown : Slot
  Known : Slot
  Open : (rasp : List (Option ℕ)) → (locks : ℕ) → Slot

-- the command lock, whether the terminal has exited, the version, and the file
pub data Lens : Type 0 where
  lens : (command : Bool) → (exited : Bool) → (version : ℕ) → (slot : Slot) → Lens

-- what a frame does at one file
pub data Action : Type 0 where
  Skip : Action  -- a frame of another file, and those that are merely kept
  Needs_known : Action  -- Hmovname, Hcurrent, Hclean, Hdirty
  Needs_open : Action  -- Hcheck
  Join : Action  -- Hnewname
  Bind : Action  -- Hbindname
  Close : Action  -- Hclose
  Leave : Action  -- Hdelname
  Grow : (at n : ℕ) → Action  -- Hgrow
  Fill : (at : ℕ) → (runes : List ℕ) → Action  -- Hdata
  Insert : (at : ℕ) → (runes : List ℕ) → Action  -- Hgrowdata
  Cut : (at n : ℕ) → Action  -- Hcut
  Place : (first last : ℕ) → Action  -- Hsetdot; Horigin and Hmoveto, with one place twice
  Change : (version : ℕ) → Action  -- Hversion
  Free_file : Action  -- Hunlockfile
  Free_command : Action  -- Hunlock
  Exit : Action  -- Hexit

-- the place is in the partial text, which has room for m more
abbrev pub can_grow : ℕ → ℕ → PartialText → Bool
can_grow p m r = nat_le p (length r) && nat_le (length r + m) max_runes

-- the lens after the action, or None where the terminal refuses the frame. An Hexit without the command lock is refused too, which the
-- terminal doesn't do
abbrev pub move : Action → Lens → Option Lens
move Skip v = Some v
move Needs_known (lens c e n Unknown) = None
move Needs_known (lens c e n Known) = Some (lens c e n Known)
move Needs_known (lens c e n (Open r k)) = Some (lens c e n (Open r k))
move Needs_open (lens c e n Unknown) = None
move Needs_open (lens c e n Known) = None
move Needs_open (lens c e n (Open r k)) = Some (lens c e n (Open r k))
move Join (lens c e n Unknown) = Some (lens c e n Known)
move Join (lens c e n Known) = None
move Join (lens c e n (Open r k)) = None
move Bind (lens c e n Unknown) = None
move Bind (lens c e n Known) = Some (lens c e n (Open [] 0))
move Bind (lens c e n (Open r k)) = None
move Close (lens c e n Unknown) = None
move Close (lens c e n Known) = None
move Close (lens c e n (Open r k)) = Some (lens c e n Known)
move Leave (lens c e n Unknown) = None
move Leave (lens c e n Known) = Some (lens c e n Unknown)
move Leave (lens c e n (Open r k)) = None
move (Grow p m) (lens c e n Unknown) = None
move (Grow p m) (lens c e n Known) = None
move (Grow p m) (lens c e n (Open r k)) = if can_grow p m r then Some (lens c e n (Open (ins_cells r p (replicate m None)) k)) else None
move (Fill p s) (lens c e n Unknown) = None
move (Fill p s) (lens c e n Known) = None
move (Fill p s) (lens c e n (Open r k)) = if nat_le (p + length s) (length r) then Some (lens c e n (Open (load_cells r p s) k)) else None
move (Insert p s) (lens c e n Unknown) = None
move (Insert p s) (lens c e n Known) = None
move (Insert p s) (lens c e n (Open r k)) =
    if can_grow p (length s) r then Some (lens c e n (Open (ins_cells r p (map Some s)) k)) else None
move (Cut p m) (lens c e n Unknown) = None
move (Cut p m) (lens c e n Known) = None
move (Cut p m) (lens c e n (Open r k)) = if nat_le (p + m) (length r) then Some (lens c e n (Open (del_cells r p (p + m)) k)) else None
move (Place p q) (lens c e n Unknown) = None
move (Place p q) (lens c e n Known) = None
move (Place p q) (lens c e n (Open r k)) = if nat_le p q && nat_le q (length r) then Some (lens c e n (Open r k)) else None
move (Change m) (lens c e n s) = Some (lens c e m s)
move Free_file (lens c e n Unknown) = None
move Free_file (lens c e n Known) = None
move Free_file (lens c e n (Open r zero)) = None
move Free_file (lens c e n (Open r (suc k))) = Some (lens c e n (Open r k))
move Free_command (lens false e n s) = None
move Free_command (lens true e n s) = Some (lens false e n s)
move Exit (lens false e n s) = None
move Exit (lens true e n Unknown) = Some (lens false true n Unknown)
move Exit (lens true e n Known) = Some (lens false true n Known)
move Exit (lens true e n (Open r k)) = Some (lens false true n (Open r 0))

abbrev pub moved_then : Option Lens → (Lens → Option Lens) → Option Lens
moved_then None f = None
moved_then (Some v) f = f v

-- the fold of a list of actions
abbrev pub run : List Action → Lens → Option Lens
run [] v = Some v
run (a ∷ rest) v = moved_then (move a v) (run rest)

-- an action that needs the user kept out, until a lock is freed after it
abbrev pub is_crossing : Action → Bool
is_crossing Skip = false
is_crossing Needs_known = false
is_crossing Needs_open = false
is_crossing Join = true
is_crossing Bind = true
is_crossing Close = true
is_crossing Leave = true
is_crossing (Grow p m) = true
is_crossing (Fill p s) = true
is_crossing (Insert p s) = true
is_crossing (Cut p m) = true
is_crossing (Place p q) = true
is_crossing (Change m) = true
is_crossing Free_file = false
is_crossing Free_command = false
is_crossing Exit = false

abbrev pub is_freeing : Action → Bool
is_freeing Skip = false
is_freeing Needs_known = false
is_freeing Needs_open = false
is_freeing Join = false
is_freeing Bind = false
is_freeing Close = false
is_freeing Leave = false
is_freeing (Grow p m) = false
is_freeing (Fill p s) = false
is_freeing (Insert p s) = false
is_freeing (Cut p m) = false
is_freeing (Place p q) = false
is_freeing (Change m) = false
is_freeing Free_file = true
is_freeing Free_command = true
is_freeing Exit = true

abbrev pub frees : List Action → Bool
frees [] = false
frees (a ∷ rest) = is_freeing a || frees rest

-- after each action that needs the user kept out stands one that frees a lock
abbrev pub IsGuarded : List Action → Type 0
IsGuarded [] = Unit
IsGuarded (a ∷ rest) = (is_crossing a ≡ true → frees rest ≡ true) × IsGuarded rest

abbrev pub is_close : Action → Bool
is_close Skip = false
is_close Needs_known = false
is_close Needs_open = false
is_close Join = false
is_close Bind = false
is_close Close = true
is_close Leave = false
is_close (Grow p m) = false
is_close (Fill p s) = false
is_close (Insert p s) = false
is_close (Cut p m) = false
is_close (Place p q) = false
is_close (Change m) = false
is_close Free_file = false
is_close Free_command = false
is_close Exit = false

abbrev pub closes : List Action → Bool
closes [] = false
closes (a ∷ rest) = is_close a || closes rest

-- a file at the host: not given yet, given and not announced, announced and not open, open, closed for good
pub data HFile : Type 0 where
  Absent : HFile
  Hidden : (text : List ℕ) → HFile
  Named : (text : List ℕ) → HFile
  Opened : (text : List ℕ) → HFile
  Gone : HFile

abbrev pub Fits_slot : Slot → HFile → Type 0
Fits_slot Unknown Absent = Unit
Fits_slot Unknown (Hidden t) = Unit
Fits_slot Unknown (Named t) = ⊥
Fits_slot Unknown (Opened t) = ⊥
Fits_slot Unknown Gone = Unit
Fits_slot Known Absent = ⊥
Fits_slot Known (Hidden t) = ⊥
Fits_slot Known (Named t) = Unit
Fits_slot Known (Opened t) = ⊥
Fits_slot Known Gone = ⊥
Fits_slot (Open r k) Absent = ⊥
Fits_slot (Open r k) (Hidden t) = ⊥
Fits_slot (Open r k) (Named t) = ⊥
Fits_slot (Open r k) (Opened t) = (k ≡ 0) × Agrees r t
Fits_slot (Open r k) Gone = ⊥

-- no lock is held, and the terminal shows the file as the host has it
abbrev pub IsSynced : Lens → Bool → ℕ → HFile → Type 0
IsSynced (lens c e n s) done version file = (c ≡ false) × (e ≡ done) × (n ≡ version) × Fits_slot s file

-- the invariant at one file: what is under way takes the lens to a synced one
pub record ComesToSync (actions : List Action) (v : Lens) (done : Bool) (version : ℕ) (file : HFile) : Type 0 where
  pub final : Lens
  pub runs : run actions v ≡ Some final
  pub synced : IsSynced final done version file
  pub guarded : IsGuarded actions
  pub closed : closes actions ≡ true → file ≡ Gone

-- ## Files of the host

abbrev pub IsOpened : HFile → Type 0
IsOpened Absent = ⊥
IsOpened (Hidden t) = ⊥
IsOpened (Named t) = ⊥
IsOpened (Opened t) = Unit
IsOpened Gone = ⊥

-- as the command file is: there, and open or not announced
abbrev pub IsCommandFile : HFile → Type 0
IsCommandFile Absent = ⊥
IsCommandFile (Hidden t) = Unit
IsCommandFile (Named t) = ⊥
IsCommandFile (Opened t) = Unit
IsCommandFile Gone = ⊥

-- the file is open, with nothing that keeps the user out, and the rasp is so
abbrev pub OpenAt : (List (Option ℕ) → Type 0) → Lens → Type 0
OpenAt P (lens c e n Unknown) = ⊥
OpenAt P (lens c e n Known) = ⊥
OpenAt P (lens c e n (Open r k)) = (c ≡ false) × (k ≡ 0) × P r

abbrev pub Anything : List (Option ℕ) → Type 0
Anything r = Unit
