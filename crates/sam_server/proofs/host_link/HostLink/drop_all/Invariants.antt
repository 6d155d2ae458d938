use Rattle.std.proofs.Common.{◌≡◌, ◌<◌, length}
use Rattle.sam_link.specs.Meeting.{to_go}
use Rattle.sam_link.specs.declared.phase.Phase.TheVariants.{Open}
use Rattle.sam_server.specs.Servers.{all_given}
use Rattle.sam_server.proofs.host_link.HostLink.drop_all.Given as goal

abbrev pub invariant-loop-scrap : goal.invariant-loop-scrap
invariant-loop-scrap l = (l.self.phase ≡ Open) × (all_given l.self ≡ all_given l.fn.self) × (0 < length l.scrap)

abbrev pub decreases-loop-scrap : goal.decreases-loop-scrap
decreases-loop-scrap l = to_go l.self
