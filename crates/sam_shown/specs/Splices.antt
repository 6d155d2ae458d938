-- What is told of the shown text of a file, splice by splice.
use Rattle.std.specs.Prelude.{ℕ, ◌-◌, List, [], ◌∷◌, map, reverse}
use Rattle.sam_pending.specs.declared.told.Filling.{Filling}
use Rattle.sam_pending.specs.declared.told.Removal.{Removal}
use Rattle.sam_overlay.specs.declared.shown_change.Told.{Told}
use Rattle.sam_overlay.specs.declared.shown_change.Told.TheVariants as told
use Rattle.sam_shown.specs.declared.splices.Splice.{Splice}
use Rattle.sam_shown.specs.declared.splices.SpliceKind.TheVariants as kind

abbrev pub went : ℕ → Removal → Splice
went tag r = record { kind = kind.Went; tag = tag; place = r.p; count = r.q - r.p }

abbrev pub filled : ℕ → Filling → Splice
filled tag f = record { kind = kind.Filled; tag = tag; place = f.place; count = f.count }

-- in the order in which they are made: of several the last place first, so none moves the place of another
abbrev pub splices_of : ℕ → Told → List Splice
splices_of tag told.Nothing = []
splices_of tag (told.Came p n) = record { kind = kind.Came; tag = tag; place = p; count = n } ∷ []
splices_of tag (told.Went removals) = reverse (map (went tag) removals.items)
splices_of tag (told.Filled fillings) = reverse (map (filled tag) fillings.items)
splices_of tag (told.Changed p gone came) =
    record { kind = kind.Went; tag = tag; place = p; count = gone } ∷ record { kind = kind.Came; tag = tag; place = p; count = came } ∷ []
splices_of tag told.Emptied = record { kind = kind.Emptied; tag = tag; place = 0; count = 0 } ∷ []
