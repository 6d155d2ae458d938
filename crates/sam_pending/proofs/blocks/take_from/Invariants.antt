use Rattle.std.proofs.Common.{◌≡◌, take}
use Rattle.std.specs.Prelude.{false}
use Rattle.sam_pending.specs.Blocks.{flat}
use Rattle.sam_pending.specs.Runs.{has_due}
use Rattle.sam_pending.specs.declared.run.Deed.TheVariants.{Inserts}
use Rattle.sam_pending.proofs.blocks.take_from.Given as goal

abbrev pub invariant-loop-at : goal.invariant-loop-at
invariant-loop-at l = (l.blocks.items ≡ l.fn.blocks.items) × (has_due (Inserts l.up_to) (flat (take l.at l.blocks.items)) ≡ false)
