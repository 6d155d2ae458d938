-- One file, whose text the host leaves alone meanwhile, beside one machine, on which each edit is made and each request acts at once.
use Rattle.std.specs.Prelude.{◌≡◌, ◌<◌, ◌≤◌, ℕ, List, [], ◌∷◌, ◌++◌, map, Some, All}
use Rattle.sam_pending.specs.Cells.{Cell, Change, IsMade, IsNewest, PartialText, put, rasp_of, replaced, resting, text_at}
use Rattle.sam_pending.specs.Groups.{IsMadeBy, IsPutUpTo}

-- the cells of the file, and the groups of its requests that wait, the oldest first
pub record File : Type 0 where
  pub cells : List Cell
  pub waiting : List ℕ

-- no request waits
abbrev pub unasked : List Cell → File
unasked cs = record { cells = cs; waiting = [] }

-- what happens: the user has s in place of what is shown from p to q, by an edit of group g, or asks for a request of group g; an edit that
-- waits comes to the rasp, by that change; the oldest request acts, and finds that text
pub data Act : Type 0 where
  Edits : (g p q : ℕ) (s : List ℕ) → Act
  Asks : (g : ℕ) → Act
  Comes : (e : Change) → Act
  Finds : (t : PartialText) → Act

-- ## Acts here

-- group g stands behind all requests that wait
abbrev pub IsBehind : ℕ → List ℕ → Type 0
IsBehind g waiting = All (λ k. k < g) waiting

-- an edit comes to the rasp; while requests wait, only one that stands before the oldest of them
abbrev pub IsNextMade : List ℕ → List Cell → Change → List Cell → Type 0
IsNextMade [] cs e ds = IsMade cs e ds
IsNextMade (g ∷ gs) cs e ds = IsMadeBy g cs e ds

-- by the act the file a becomes b. An edit is shown at once; a request acts once no edit before it is left to put
abbrev pub Goes : File → Act → File → Type 0
Goes a (Edits g p q s) b = IsBehind g a.waiting × (p ≤ q) × (b ≡ record { cells = replaced g p q s a.cells; waiting = a.waiting })
Goes a (Asks g) b = IsBehind g a.waiting × All (IsNewest g) a.cells × (b ≡ record { cells = a.cells; waiting = a.waiting ++ g ∷ [] })
Goes a (Comes e) b = IsNextMade a.waiting a.cells e b.cells × (b.waiting ≡ a.waiting)
Goes a (Finds t) b = (g : ℕ) × (a.waiting ≡ g ∷ b.waiting) × IsPutUpTo g a.cells × (t ≡ rasp_of a.cells) × (b.cells ≡ a.cells)

-- one act after another
abbrev pub Leads : File → List Act → File → Type 0
Leads a [] b = b ≡ a
Leads a (x ∷ acts) b = (m : File) × Goes a x m × Leads m acts b

-- what the requests found that acted, and what those come to that wait
abbrev pub found : List Act → List PartialText
found [] = []
found (Edits g p q s ∷ acts) = found acts
found (Asks g ∷ acts) = found acts
found (Comes e ∷ acts) = found acts
found (Finds t ∷ acts) = t ∷ found acts

abbrev pub to_find : File → List PartialText
to_find a = map (λ g. text_at g a.cells) a.waiting

-- ## The same edits and requests on one machine, which begins with the text t: how its text ends, and what each request finds

abbrev pub local_text : PartialText → List Act → PartialText
local_text t [] = t
local_text t (Edits g p q s ∷ acts) = local_text (put t (record { p = p; q = q; new = map Some s })) acts
local_text t (Asks g ∷ acts) = local_text t acts
local_text t (Comes e ∷ acts) = local_text t acts
local_text t (Finds u ∷ acts) = local_text t acts

abbrev pub local_found : PartialText → List Act → List PartialText
local_found t [] = []
local_found t (Edits g p q s ∷ acts) = local_found (put t (record { p = p; q = q; new = map Some s })) acts
local_found t (Asks g ∷ acts) = t ∷ local_found t acts
local_found t (Comes e ∷ acts) = local_found t acts
local_found t (Finds u ∷ acts) = local_found t acts

-- ## A way to the end

-- the act takes nothing more of the user
abbrev pub IsOwn : Act → Type 0
IsOwn (Edits g p q s) = ⊥
IsOwn (Asks g) = ⊥
IsOwn (Comes e) = Unit {0}
IsOwn (Finds t) = Unit {0}

-- edits that come and requests that act lead to where nothing waits
pub record Ends (a : File) : Type 0 where
  pub acts : List Act
  pub own : All IsOwn acts
  pub rasp : PartialText
  pub leads : Leads a acts (unasked (resting rasp))
