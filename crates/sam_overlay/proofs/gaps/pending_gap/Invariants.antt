use Rattle.std.proofs.Common.{◌≡◌, ◌-◌}
use Rattle.sam_pending.specs.Cells.{shown_of}
use Rattle.sam_pending.specs.Layers.{cells_over}
use Rattle.sam_overlay.specs.Calls.{gap_from}
use Rattle.sam_overlay.proofs.gaps.pending_gap.Given as goal

abbrev pub invariant-loop-at : goal.invariant-loop-at
invariant-loop-at l =
    gap_from l.at (shown_of (cells_over l.rasp l.pending)) ≡ gap_from l.place (shown_of (cells_over l.rasp l.pending))

abbrev pub decreases-loop-at : goal.decreases-loop-at
decreases-loop-at l = l.len - l.at
