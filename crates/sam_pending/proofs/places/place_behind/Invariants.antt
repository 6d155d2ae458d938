use Rattle.std.proofs.Common.{◌≡◌, ◌+◌, ◌≤◌, drop}
use Rattle.sam_pending.specs.Blocks.{flat}
use Rattle.sam_pending.specs.Runs.{place_in, rooms, waits}
use Rattle.sam_pending.proofs.places.place_behind.Given as goal

abbrev pub invariant-loop-block : goal.invariant-loop-block
invariant-loop-block l =
    (l.before + place_in l.group l.left (flat (drop l.block-index l.blocks)) ≡ place_in l.group l.place (flat l.blocks))
    × (l.before + (rooms (flat (drop l.block-index l.blocks)) + waits (flat (drop l.block-index l.blocks))) ≤ rooms (flat l.blocks) + waits (flat l.blocks))
