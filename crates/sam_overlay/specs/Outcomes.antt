-- What a change of the host's does to what waits over one rasp, and to what is shown.
use Rattle.std.specs.Prelude.{◌≡◌, ◌↔◌, ◌≤◌, ◌<◌, ◌^◌, ◌+◌, ◌==◌, ◌&&◌, if◌then◌else◌, ℕ, Bool, true, false, max, not, List, [], ◌∷◌, ◌++◌, map, take, drop, length, reverse, Option, Some, None, option_map, is_some, Result, Ok, Err, All}
use Rattle.sam_runes.specs.Slots.{Slots, slot}
use Rattle.sam_runes.specs.Texts.{max_runes}
use Rattle.sam_runes.specs.declared.edit.Edit.{Edit}
use Rattle.sam_pending.specs.Blocks.{BlockChange}
use Rattle.sam_pending.specs.Cells.{PartialText, Cell, IsMade, IsNewest, all_put, put, rasp_of, replaced, resting, shown_of}
use Rattle.sam_pending.specs.Groups.{IsMadeBy, IsPutUpTo}
use Rattle.sam_pending.specs.Layers.{Layer, DropsNext, IsOver, IsPrepared, cells_over, first_dropped, newest_group, next_edit, next_made, rasp_length, runs_of, with_change}
use Rattle.sam_pending.specs.Runs.{edit_change, filling_changes, removal_changes, rests}
use Rattle.sam_pending.specs.declared.fault.PendingFault.{PendingFault}
use Rattle.sam_pending.specs.declared.fault.PendingFault.TheVariants as failed
use Rattle.sam_pending.specs.declared.told.Dropped.{Dropped}
use Rattle.sam_endpoint.specs.declared.changes.Change.{Change}
use Rattle.sam_endpoint.specs.declared.step.TermStep.{TermStep}
use Rattle.sam_endpoint.specs.declared.step.TermStep.TheVariants as did
use Rattle.sam_overlay.specs.Effects.{Effect, FitsIn, cells_after, members_after, plan_of}
use Rattle.sam_overlay.specs.declared.frame_plan.Plan.{Plan}
use Rattle.sam_overlay.specs.declared.outcome.LayerChange.{LayerChange}
use Rattle.sam_overlay.specs.declared.outcome.LayerChange.TheVariants as change
use Rattle.sam_overlay.specs.declared.outcome.Outcome.{Outcome}
use Rattle.sam_overlay.specs.declared.layers.Place.{Place}
use Rattle.sam_overlay.specs.declared.shown_change.Told.{Told}
use Rattle.sam_overlay.specs.declared.shown_change.Told.TheVariants as told

-- the cells over a rasp: those of the layer, or, where nothing waits, the rasp's own
abbrev pub cells_in : PartialText → Option Layer → List Cell
cells_in r None = resting r
cells_in r (Some l) = cells_over r l

-- the layer, if there is one, is over that rasp
abbrev pub IsOverRasp : PartialText → Option Layer → Type 0
IsOverRasp r None = Unit {0}
IsOverRasp r (Some l) = IsOver r l

-- what waits after a change
abbrev pub layer_after : LayerChange → Option Layer → Option Layer
layer_after change.Stays o = o
layer_after (change.Runs made) o = option_map (λ l. with_change l made) o
layer_after change.Ends o = None

-- what is told leads from the old shown text to the new one: some members came in at a place; some went, the last removal first; runes
-- were stored, and nothing moved; some gave way to others; or the text is empty
abbrev pub Leads : Told → PartialText → PartialText → Type 0
Leads told.Nothing old new = new ≡ old
Leads (told.Came p n) old new = (cells : PartialText) × (length cells ≡ n) × (new ≡ take p old ++ cells ++ drop p old)
Leads (told.Went removals) old new = new ≡ all_put old (reverse (removal_changes removals.items))
Leads (told.Filled fillings) old new = (s : List ℕ) × (new ≡ all_put old (reverse (filling_changes s fillings.items)))
Leads (told.Changed p gone came) old new =
    (cells : PartialText) × (length cells ≡ came) × (new ≡ take p old ++ cells ++ drop (p + gone) old)
Leads told.Emptied old new = length new ≡ 0

-- what is told of a change to the command file: so many members gave way to so many others
abbrev pub change_told : Change → Told
change_told c = if c.gone == 0 && c.came == 0 then told.Nothing else told.Changed c.start c.gone c.came

-- what is told of a step that received no frame: an event may have changed the command file
abbrev pub event_told : TermStep → Told
event_told (did.Acted number tag change) = change_told change
event_told did.Idle = told.Nothing
event_told did.Locked = told.Nothing
event_told did.Wrote = told.Nothing
event_told (did.Received kind tag change) = told.Nothing
event_told (did.Refused number why) = told.Nothing

-- the change by that plan fits a rasp that the layer is over
pub record Meets (o : Option Layer) (plan : Plan) (r : PartialText) (e : Effect) : Type 0 where
  pub plan_is : plan_of e ≡ plan
  pub size : length r ≤ max_runes
  pub over : IsOverRasp r o
  pub fit : FitsIn (length r) e

-- whatever rasp the layer is over, and whatever members come: the layer after the change is over the rasp after it, its cells are those
-- after the change, and what is told leads to what is shown then
pub record Follows (o : Option Layer) (plan : Plan) (x : Outcome) : Type 0 where
  pub kept : (l : Layer) (made : BlockChange) → o ≡ Some l → x.change ≡ change.Runs made → IsPrepared l made
  pub over : (r : PartialText) (e : Effect) → Meets o plan r e → IsOverRasp (members_after e r) (layer_after x.change o)
  pub cells : (r : PartialText) (e : Effect) → Meets o plan r e
      → cells_in (members_after e r) (layer_after x.change o) ≡ cells_after e (cells_in r o)
  pub told : (r : PartialText) (e : Effect) → Meets o plan r e
      → Leads x.told (shown_of (cells_in r o)) (shown_of (cells_after e (cells_in r o)))

-- the same where nothing waits: what is told of the change leads from the old members of the rasp to the new ones
abbrev pub TellsRasp : Plan → Told → Type 0
TellsRasp plan x = (r : PartialText) (e : Effect) → Meets None plan r e → Leads x r (members_after e r)

-- over whatever rasp, the next edit of the layer, of the groups up to a limit, leads from its cells to those of the layer that it leaves
abbrev pub IsNextMade : Option ℕ → Layer → Type 0
IsNextMade m l =
    (r : PartialText) (e : Edit) → IsOver r l → next_edit m l ≡ Some e
    → IsMade (cells_over r l) (edit_change e) (cells_over (put r (edit_change e)) (next_made m l))
    × IsOver (put r (edit_change e)) (next_made m l)

-- the same of the groups up to the limit: the edit is one of these
abbrev pub IsNextMadeBy : Option ℕ → Layer → Type 0
IsNextMadeBy m l =
    (g : ℕ) (r : PartialText) (e : Edit) → m ≡ Some g → IsOver r l → next_edit m l ≡ Some e
    → IsMadeBy g (cells_over r l) (edit_change e) (cells_over (put r (edit_change e)) (next_made m l))

-- ## What waits

-- an edit waits: some cell is not in the rasp yet, or is to go
abbrev pub has_edit : Option Layer → Bool
has_edit None = false
has_edit (Some l) = not (rests (runs_of l))

-- none waits over the files from one tag on up to another
abbrev pub NoneWaits : Slots Layer → ℕ → ℕ → Type 0
NoneWaits ls from to = (f : ℕ) → from ≤ f → f < to → has_edit (slot ls f) ≡ false

-- the first file from that tag on over which one waits, or none does
abbrev pub IsNextWaiting : Slots Layer → ℕ → Option ℕ → Type 0
IsNextWaiting ls from None = NoneWaits ls from (2 ^ 16)
IsNextWaiting ls from (Some f) = (from ≤ f) × (has_edit (slot ls f) ≡ true) × NoneWaits ls from f

-- no list of edits is kept for the files from one tag on up to another
abbrev pub NoneKept : Slots Layer → ℕ → ℕ → Type 0
NoneKept ls from to = (f : ℕ) → from ≤ f → f < to → slot ls f ≡ None

-- the first file from that tag on for which one is kept, with edits that wait or with none left, or there is none
abbrev pub IsNextKept : Slots Layer → ℕ → Option ℕ → Type 0
IsNextKept ls from None = NoneKept ls from (2 ^ 16)
IsNextKept ls from (Some f) = (from ≤ f) × (is_some (slot ls f) ≡ true) × NoneKept ls from f

-- over whatever rasp, none of these is left to put exactly if that is so of each cell
abbrev pub SaysLeft : ℕ → Option Layer → Bool → Type 0
SaysLeft g o is_left = (r : PartialText) → IsOverRasp r o → (is_left ≡ false) ↔ IsPutUpTo g (cells_in r o)

-- the newest group that waits over any file; 0 where none does
abbrev pub newest_in : Option Layer → ℕ
newest_in None = 0
newest_in (Some l) = newest_group l

abbrev pub newest_over : Slots Layer → ℕ
newest_over [] = 0
newest_over (o ∷ ls) = max (newest_in o) (newest_over ls)

-- the rasp has no room for the next edit of the groups up to a limit
abbrev pub LacksRoom : Option ℕ → Option Layer → Type 0
LacksRoom m None = ⊥
LacksRoom m (Some l) = max_runes < rasp_length (next_made m l)

-- where it has none the runes of that edit are taken back; else all stays
abbrev pub LayerDrops : Option ℕ → Option Layer → Result (Option Dropped) PendingFault → Option Layer → Type 0
LayerDrops m o (Ok None) k = (k ≡ o) × (LacksRoom m o → ⊥)
LayerDrops m o (Ok (Some d)) k = LacksRoom m o × ((l : Layer) × (o ≡ Some l) × DropsNext m l d × (k ≡ Some (first_dropped m l)))
LayerDrops m o (Err why) k = (k ≡ o) × (why ≡ failed.OutOfMemory)

-- ## What the user does

-- these runes are in the place of what was shown from p to q, put in by a group that is not older than any that waits
pub record Replaces (cs : List Cell) (p q : ℕ) (s : List ℕ) (ds : List Cell) : Type 0 where
  pub group : ℕ
  pub newest : All (IsNewest group) cs
  pub cells : ds ≡ replaced group p q s cs

-- the same, by a group that is not older than that one either
pub record ReplacesFrom (least : ℕ) (cs : List Cell) (p q : ℕ) (s : List ℕ) (ds : List Cell) : Type 0 where
  pub group : ℕ
  pub from : least ≤ group
  pub newest : All (IsNewest group) cs
  pub cells : ds ≡ replaced group p q s cs

-- over whatever rasp of n members
abbrev pub LayerReplaces : ℕ → Option Layer → Place → List ℕ → Option Layer → Type 0
LayerReplaces n o at s k =
    (r : PartialText) → length r ≡ n → IsOverRasp r o
    → IsOverRasp r k × ReplacesFrom at.group (cells_in r o) at.p at.q s (cells_in r k)

-- what is typed is shown, and the rasp stays
abbrev pub TypedShows : Type 0
TypedShows =
    (cs ds : List Cell) (p q : ℕ) (s : List ℕ) → p ≤ q → Replaces cs p q s ds
    → (shown_of ds ≡ take p (shown_of cs) ++ map Some s ++ drop q (shown_of cs)) × (rasp_of ds ≡ rasp_of cs)
