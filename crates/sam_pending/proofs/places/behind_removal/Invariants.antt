use Rattle.std.proofs.Common.{◌≡◌, ◌-◌, ◌+◌, ◌++◌, drop}
use Rattle.sam_pending.specs.Blocks.{flat}
use Rattle.sam_pending.specs.Runs.{gone_in}
use Rattle.sam_pending.proofs.places.behind_removal.Given as goal

abbrev pub invariant-loop-block : goal.invariant-loop-block
invariant-loop-block l =
    l.after - gone_in l.group l.skipped l.range l.left (flat (drop l.block-index l.blocks)) ≡ l.place - gone_in l.group l.p l.count l.place (flat l.blocks)

abbrev pub invariant-loop-run : goal.invariant-loop-run
invariant-loop-run l =
    l.after - gone_in l.group l.skipped l.range l.left (drop l.run-index l.runs ++ flat (drop (l.block-index + 1) l.blocks))
    ≡ l.place - gone_in l.group l.p l.count l.place (flat l.blocks)
