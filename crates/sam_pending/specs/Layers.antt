-- What waits over a rasp: runs, and the text of the runes in them. The rasp itself stands elsewhere.
use Rattle.std.specs.Prelude.{◌≡◌, ◌≤◌, ◌↔◌, ◌-◌, ℕ, Bool, false, List, length, take, drop, map, Option, Some, option_map}
use Rattle.sam_runes.specs.Texts.{max_runes}
use Rattle.sam_runes.specs.declared.edit.Edit.{Edit}
use Rattle.sam_pending.specs.Cells.{PartialText, Cell, IsTakenBack}
use Rattle.sam_pending.specs.Groups.{IsPutUpTo, TakesPlace}
use Rattle.sam_pending.specs.Blocks.{flat, made_in, taken_in, BlockChange, IsChange, changed}
use Rattle.sam_pending.specs.Runs.{runes_of, cells_of, rooms, waits, above, newest_of, lost_in, Within, first_due, edit_at, next_deed}
use Rattle.sam_pending.specs.declared.run.Run.{Run}
use Rattle.sam_pending.specs.declared.run.Run.TheVariants.{Held, Typed}
use Rattle.sam_pending.specs.declared.told.Dropped.{Dropped}
use Rattle.sam_pending.specs.declared.told.Shown.{Shown}
use Rattle.sam_pending.specs.declared.told.Shown.TheVariants.{Rasp, Waiting}

-- the text, and the runs in blocks
pub record Layer : Type 0 where
  pub text : List ℕ
  pub blocks : List (List Run)

abbrev pub runs_of : Layer → List Run
runs_of l = flat l.blocks

-- the cells over a rasp with these members
abbrev pub cells_over : PartialText → Layer → List Cell
cells_over r l = cells_of l.text r (runs_of l)

-- how many members its rasp has
abbrev pub rasp_length : Layer → ℕ
rasp_length l = rooms (runs_of l)

-- how many runes wait, those that a later group removes among them
abbrev pub waiting_length : Layer → ℕ
waiting_length l = waits (runs_of l)

-- how many members are shown
abbrev pub shown_length : Layer → ℕ
shown_length l = above (runs_of l)

-- the newest group that waits; 0 where none does
abbrev pub newest_group : Layer → ℕ
newest_group l = newest_of (runs_of l)

-- the layer is one over that rasp
abbrev pub IsOver : PartialText → Layer → Type 0
IsOver r l = rasp_length l ≡ length r

-- the most runes that the text keeps, those that wait no more among them
abbrev pub most_kept : ℕ
most_kept = 4_000_000

-- what is true of each layer
pub record IsLayer (l : Layer) : Type 0 where
  pub text : length l.text ≤ most_kept
  pub within : Within (length l.text) (runs_of l)
  pub rasp : rasp_length l ≤ max_runes
  pub waiting : waiting_length l ≤ max_runes

-- the layer stands for the same cells
pub record IsTidied (l k : Layer) : Type 0 where
  pub cells : (r : PartialText) → IsOver r l → cells_over r k ≡ cells_over r l
  pub rasp : rasp_length k ≡ rasp_length l
  pub waiting : waiting_length k ≡ waiting_length l
  pub shown : shown_length k ≡ shown_length l

-- the next edit by which what waits comes to the rasp, of the groups up to that limit, if there is one; none where none of them waits
abbrev pub next_edit : Option ℕ → Layer → Option Edit
next_edit m l = option_map (λ x. edit_at l.text x.1 x.0) (first_due (next_deed m (runs_of l)) 0 (runs_of l))

-- the layer once that edit is made
abbrev pub next_made : Option ℕ → Layer → Layer
next_made m l = record l { blocks = made_in (next_deed m (runs_of l)) l.blocks }

-- the layer once the first runes of these groups that wait are taken back
abbrev pub first_dropped : Option ℕ → Layer → Layer
first_dropped m l = record l { blocks = taken_in m l.blocks }

-- over whatever rasp, so the runes of the layer's next edit are taken back, and so the places go of the texts that requests come to
pub record DropsNext (m : Option ℕ) (l : Layer) (d : Dropped) : Type 0 where
  pub next : option_map (λ (e : Edit). e.text) (next_edit m l) ≡ Some d.text
  pub cells : (r : PartialText) → IsOver r l → IsTakenBack (cells_over r l) d.place d.count d.text (cells_over r (first_dropped m l))
  pub over : (r : PartialText) → IsOver r l → IsOver r (first_dropped m l)
  pub places : (r : PartialText) (g x : ℕ) → IsOver r l
      → TakesPlace g x (x - lost_in m g x (runs_of l)) (cells_over r l) d.place d.count d.text (cells_over r (first_dropped m l))

-- over whatever rasp, an edit of these groups is left to put exactly if that is so of some cell
abbrev pub SaysLeft : ℕ → Layer → Bool → Type 0
SaysLeft g l is_left = (r : PartialText) → IsOver r l → (is_left ≡ false) ↔ IsPutUpTo g (cells_over r l)

-- the layer once a change of its blocks is made
abbrev pub with_change : Layer → BlockChange → Layer
with_change l c = record l { blocks = changed c l.blocks }

-- the change was prepared of that layer: it can be made without memory, and leads to a layer
pub record IsPrepared (l : Layer) (c : BlockChange) : Type 0 where
  pub change : IsChange c l.blocks
  pub layer : IsLayer (with_change l c)

-- what stands at a place of the shown text, over that rasp
abbrev pub shown_members : PartialText → Shown → PartialText
shown_members r (Rasp p n) = take n (drop p r)
shown_members r (Waiting s) = map Some s.now

-- the same of a run whose members stand in the rasp from that place on
abbrev pub part_members : List ℕ → PartialText → Run → ℕ → PartialText
part_members t r (Held n d) at = take n (drop at r)
part_members t r (Typed s g d) at = map Some (runes_of t s)
