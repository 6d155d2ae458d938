use Rattle.sam_pending.specs.Blocks.{flat}
use Rattle.sam_pending.proofs.LayerLaws.{newest_cells}
use Rattle.sam_pending.proofs.pending.Pending.newest.Goals as goal

pub returns-clause-cells : goal.returns-clause-cells
returns-clause-cells c = λ r.
    rw (c.newest.ensures, ← c.self.view_is) (newest_cells (flat c.self.inside.runs) c.self.inside.text.items r)
