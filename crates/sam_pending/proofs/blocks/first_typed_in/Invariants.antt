use Rattle.std.proofs.Common.{◌≡◌, ◌+◌, drop}
use Rattle.sam_pending.specs.Blocks.{flat}
use Rattle.sam_pending.specs.Runs.{first_typed, above}
use Rattle.sam_pending.proofs.blocks.first_typed_in.Given as goal

abbrev pub invariant-loop-block : goal.invariant-loop-block
invariant-loop-block l =
    (first_typed l.up_to l.at (flat (drop l.block-index l.blocks)) ≡ first_typed l.up_to l.start (flat l.blocks))
    × (l.at + above (flat (drop l.block-index l.blocks)) ≡ l.start + above (flat l.blocks))
