use Rattle.std.proofs.Common.{◌≡◌, ◌+◌, drop}
use Rattle.sam_pending.specs.Blocks.{flat}
use Rattle.sam_pending.specs.Runs.{first_due, rooms}
use Rattle.sam_pending.proofs.blocks.first_due_in.Given as goal

abbrev pub invariant-loop-block : goal.invariant-loop-block
invariant-loop-block l =
    (first_due l.deed l.at (flat (drop l.block-index l.blocks)) ≡ first_due l.deed l.start (flat l.blocks))
    × (l.at + rooms (flat (drop l.block-index l.blocks)) ≡ l.start + rooms (flat l.blocks))
