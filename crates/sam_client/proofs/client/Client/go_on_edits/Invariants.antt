use Rattle.std.proofs.Common.{◌-◌}
use Rattle.sam_client.proofs.GoingLaws.{EditsSoFar}
use Rattle.sam_client.proofs.client.Client.go_on_edits.Given as goal

abbrev pub invariant-tags : goal.invariant-tags
invariant-tags l = EditsSoFar l.fn.self l.self l.tag

abbrev pub decreases-tags : goal.decreases-tags
decreases-tags l = 65536 - l.tag
