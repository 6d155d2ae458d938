-- What a frame of the host does to the text of one file: to the members of its rasp, and to the cells that are shown over it.
use Rattle.std.specs.Prelude.{◌≡◌, ℕ, ◌+◌, ◌≤◌, if◌then◌else◌, ◌==◌, List, [], ◌++◌, map, take, drop, length, replicate, Some, None}
use Rattle.sam_runes.specs.Texts.{max_runes}
use Rattle.sam_mesg.specs.declared.hmesg.Hmesg.{Hmesg}
use Rattle.sam_mesg.specs.declared.hmesg.Hmesg.TheVariants.{Hversion, Hbindname, Hcurrent, Hnewname, Hmovname, Hgrow, Hcheck, Hunlock, Hdata, Horigin, Hunlockfile, Hsetdot, Hgrowdata, Hmoveto, Hclean, Hdirty, Hcut, Hsetpat, Hdelname, Hclose, Hsetsnarf, Hsnarflen, Hack, Hexit}
use Rattle.sam_pending.specs.Cells.{PartialText, Cell, inserted, filled, removed, rasp_of, waiting_of}
use Rattle.sam_overlay.specs.declared.frame_plan.Plan.{Plan}
use Rattle.sam_overlay.specs.declared.frame_plan.Plan.TheVariants as plan
use Rattle.sam_overlay.specs.declared.frame_plan.FilePlan.{FilePlan}

-- members come in at a place, runes are stored from a place on, so many members from a place on go, or the text begins anew or ends
pub data Effect : Type 0 where
  Stays : Effect
  Inserts : ℕ → PartialText → Effect
  Fills : ℕ → List ℕ → Effect
  Removes : ℕ → ℕ → Effect
  Empties : Effect

-- at the file f, what is done to the file g
abbrev pub at_file : ℕ → ℕ → Effect → Effect
at_file f g x = if g == f then x else Stays

-- what a frame does to the text of file f
abbrev pub effect : ℕ → Hmesg → Effect
effect f (Hgrow g p n) = at_file f g (Inserts p (replicate n None))
effect f (Hgrowdata g p s) = at_file f g (Inserts p (map Some s))
effect f (Hdata g p s) = at_file f g (Fills p s)
effect f (Hcut g p n) = at_file f g (Removes p n)
effect f (Hbindname g) = at_file f g Empties
effect f (Hnewname g) = at_file f g Empties
effect f (Hdelname g) = at_file f g Empties
effect f (Hclose g) = at_file f g Empties
effect f (Hversion v) = Stays
effect f (Hcurrent g) = Stays
effect f (Hmovname g s) = Stays
effect f (Hcheck g) = Stays
effect f Hunlock = Stays
effect f (Horigin g p) = Stays
effect f (Hunlockfile g) = Stays
effect f (Hsetdot g p q) = Stays
effect f (Hmoveto g p) = Stays
effect f (Hclean g) = Stays
effect f (Hdirty g) = Stays
effect f (Hsetpat s) = Stays
effect f (Hsetsnarf s) = Stays
effect f (Hsnarflen n) = Stays
effect f Hack = Stays
effect f Hexit = Stays

-- the members of the rasp after it
abbrev pub members_after : Effect → PartialText → PartialText
members_after Stays r = r
members_after (Inserts p new) r = take p r ++ new ++ drop p r
members_after (Fills p s) r = take p r ++ map Some s ++ drop (p + length s) r
members_after (Removes p n) r = take p r ++ drop (p + n) r
members_after Empties r = []

-- the cells after it: what waits stays where it stands, and goes only with the whole text
abbrev pub cells_after : Effect → List Cell → List Cell
cells_after Stays cs = cs
cells_after (Inserts p new) cs = inserted p new cs
cells_after (Fills p s) cs = filled p s cs
cells_after (Removes p n) cs = removed p (p + n) cs
cells_after Empties cs = []

-- a rasp of n members has the places that it names, and room for what comes in
abbrev pub FitsIn : ℕ → Effect → Type 0
FitsIn n Stays = Unit {0}
FitsIn n (Inserts p new) = (p ≤ n) × (n + length new ≤ max_runes)
FitsIn n (Fills p s) = p + length s ≤ n
FitsIn n (Removes p k) = p + k ≤ n
FitsIn n Empties = Unit {0}

-- ## What the code reads off a frame

-- the same without the members
abbrev pub plan_of : Effect → Plan
plan_of Stays = plan.Stays
plan_of (Inserts p new) = plan.Inserts p (length new)
plan_of (Fills p s) = plan.Fills p (length s)
plan_of (Removes p n) = plan.Removes p n
plan_of Empties = plan.Empties

-- what it says of file f
abbrev pub plan_at : ℕ → FilePlan → Plan
plan_at f x = if x.tag == f then x.plan else plan.Stays

-- ## The laws

-- the cells over a rasp go with it
abbrev pub CellsFollow : Type 0
CellsFollow =
    (x : Effect) (cs : List Cell) → FitsIn (length (rasp_of cs)) x → rasp_of (cells_after x cs) ≡ members_after x (rasp_of cs)

-- what waits is the same after it, unless the text ends
abbrev pub WaitingStays : Type 0
WaitingStays = (x : Effect) (cs : List Cell) → (x ≡ Empties → ⊥) → waiting_of (cells_after x cs) ≡ waiting_of cs
