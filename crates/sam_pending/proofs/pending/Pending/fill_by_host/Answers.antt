use Rattle.sam_pending.proofs.LayerLaws.{within-kept}
use Rattle.sam_pending.proofs.pending.Pending.fill_by_host.Goals as goal

pub loaded-requires-clause-within : goal.loaded-requires-clause-within
loaded-requires-clause-within c = within-kept c.self.inside.text.items c.self.inside.runs c.self.invariant
