-- Words of this crate's private calls alone: the sums of runs, and the marks by which a walk passes over many blocks at once.
use Rattle.std.specs.Prelude.{◌≡◌, ◌⊎◌, ℕ, ◌+◌, ◌-◌, ◌^◌, ◌≤◌, ◌<◌, max, Bool, true, not, ◌&&◌, nat_le, nat_lt, List, [], ◌∷◌, length, take, drop, ⊤}
use Rattle.sam_pending.specs.Blocks.{flat, older, oldest_inserting, oldest_removing, reaches}
use Rattle.sam_pending.specs.Runs.{above, newest_of, rooms, waits}
use Rattle.sam_pending.specs.declared.marks.Mark.{Mark}
use Rattle.sam_pending.specs.declared.marks.Stop.{Stop}
use Rattle.sam_pending.specs.declared.marks.Stop.TheVariants.{AtEnd, Due, Place, Lost, Kept, Gone}
use Rattle.sam_pending.specs.declared.run.Deed.{Deed}
use Rattle.sam_pending.specs.declared.run.Deed.TheVariants.{Inserts, Removes}
use Rattle.sam_pending.specs.declared.run.Run.{Run}
use Rattle.sam_pending.specs.declared.run.Side.{Side}
use Rattle.sam_pending.specs.declared.run.Side.TheVariants.{Below, Above}
use Rattle.sam_pending.specs.declared.sums.Sums.{Sums}

abbrev pub sums_of : List Run → Sums
sums_of xs = record {
  rasp_len = rooms xs;
  waiting_len = waits xs;
  shown_len = above xs;
  newest = newest_of xs;
  removing = oldest_removing xs;
  inserting = oldest_inserting xs;
}

-- of runs, and of others behind them
abbrev pub plus : Sums → Sums → Sums
plus a b = record {
  rasp_len = a.rasp_len + b.rasp_len;
  waiting_len = a.waiting_len + b.waiting_len;
  shown_len = a.shown_len + b.shown_len;
  newest = max a.newest b.newest;
  removing = older a.removing b.removing;
  inserting = older a.inserting b.inserting;
}

abbrev pub side_len : Side → Sums → ℕ
side_len Below s = s.rasp_len
side_len Above s = s.shown_len

abbrev pub sums_due : Deed → Sums → Bool
sums_due (Removes m) s = reaches m s.removing
sums_due (Inserts m) s = reaches m s.inserting

-- a walk that stops there may pass over runs with these sums
abbrev pub allows : Stop → Sums → Bool
allows AtEnd s = true
allows (Due w) s = not (sums_due w s)
allows (Place v p) s = nat_lt (side_len v s) p
allows (Kept g p) s = nat_le s.newest g && nat_lt s.rasp_len p
allows (Gone g x p) s = nat_le s.newest g && (nat_le s.rasp_len p && nat_le s.shown_len x)
allows (Lost m g x) s = not (reaches m s.inserting) && (nat_le s.newest g && nat_le s.shown_len x)

-- each mark has the sums of so many blocks behind those of the marks before it
abbrev pub IsMarked : List Mark → List (List Run) → Type 0
IsMarked [] bs = ⊤
IsMarked (m ∷ ms) bs = (m.count ≤ length bs) × (m.sums ≡ sums_of (flat (take m.count bs))) × IsMarked ms (drop m.count bs)

-- how many blocks the marks stand for
abbrev pub spans : List Mark → ℕ
spans [] = 0
spans (m ∷ ms) = m.count + spans ms

-- the first of the marks begins with block x, and the others have the sums of blocks, in which what stood from block b on stands from block c on now
abbrev pub IsBehind : List Mark → ℕ → ℕ → ℕ → List (List Run) → Type 0
IsBehind [] x b c bs = ⊤
IsBehind (m ∷ ms) x b c bs = (x + m.count < 2 ^ 64)
    × (b ≤ x + m.count → (c + (x + m.count - b) ≤ length bs) × IsMarked ms (drop (c + (x + m.count - b)) bs))

-- the first i blocks have these sums, and a walk that stops there may pass over them, if they are any
pub record Passes (stop : Stop) (bs : List (List Run)) (i : ℕ) (s : Sums) : Type 0 where
  pub sums : s ≡ sums_of (flat (take i bs))
  pub allowed : (i ≡ 0) ⊎ (allows stop s ≡ true)
