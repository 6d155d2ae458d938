use Rattle.std.proofs.Common.{◌≡◌, ◌≤◌, ◌+◌, ◌++◌, drop}
use Rattle.sam_pending.specs.Blocks.{flat}
use Rattle.sam_pending.specs.Runs.{lost_in}
use Rattle.sam_pending.proofs.places.behind_drop.Given as goal

abbrev pub invariant-loop-block : goal.invariant-loop-block
invariant-loop-block l =
    (lost_in l.up_to l.group l.left (flat (drop l.block-index l.blocks)) ≡ lost_in l.up_to l.group l.place (flat l.blocks)) × (l.left ≤ l.place)

abbrev pub invariant-loop-run : goal.invariant-loop-run
invariant-loop-run l =
    (lost_in l.up_to l.group l.left (drop l.run-index l.runs ++ flat (drop (l.block-index + 1) l.blocks))
    ≡ lost_in l.up_to l.group l.place (flat l.blocks)) × (l.left ≤ l.place)
