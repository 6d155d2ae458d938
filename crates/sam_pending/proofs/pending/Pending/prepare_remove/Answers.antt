use Rattle.sam_pending.proofs.LayerLaws.{within-kept}
use Rattle.sam_pending.proofs.pending.Pending.prepare_remove.Goals as goal

pub removed-requires-clause-within : goal.removed-requires-clause-within
removed-requires-clause-within c = within-kept c.self.inside.text.items c.self.inside.runs c.self.invariant
