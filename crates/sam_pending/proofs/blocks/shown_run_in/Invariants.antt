use Rattle.std.proofs.Common.{◌≡◌, ◌+◌, drop}
use Rattle.sam_pending.specs.Blocks.{flat}
use Rattle.sam_pending.specs.Layers.{most_kept}
use Rattle.sam_pending.specs.Runs.{spot, rooms, Within}
use Rattle.sam_pending.proofs.blocks.shown_run_in.Given as goal

abbrev pub invariant-loop-block : goal.invariant-loop-block
invariant-loop-block l =
    (spot l.left l.at (flat (drop l.block-index l.blocks)) ≡ spot l.place l.start (flat l.blocks))
    × (l.at + rooms (flat (drop l.block-index l.blocks)) ≡ l.start + rooms (flat l.blocks))
    × Within most_kept (flat (drop l.block-index l.blocks))
