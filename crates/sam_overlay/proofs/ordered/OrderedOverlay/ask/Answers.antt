use Rattle.std.proofs.Common.{arith}
use Rattle.sam_overlay.proofs.OrderLaws.{asked_shares}
use Rattle.sam_overlay.proofs.ordered.OrderedOverlay.ask.Goals as goal

pub returns-in-Some-clause-asked : goal.returns-in-Some-clause-asked
returns-in-Some-clause-asked c =
    asked_shares c.args.self.now c.args.event c.in-Some.place (grind (arith, c.shared_with.ensures, c.in-Some.is))
