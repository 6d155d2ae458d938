use Rattle.std.proofs.Common.{arith, refl, subst}
use Rattle.sam_link.specs.Feeding.{Feeds}
use Rattle.sam_link.proofs.link.Link.feed_alone.Goals as goal

pub returns-in-Ok : goal.returns-in-Ok
returns-in-Ok c =
    let fed = subst (λ r. Feeds c.args.self.now c.args.attempt c.args.piece.now r c.feed.new.self) c.in-Ok.is c.feed.ensures in
    (c.feed.new.self, fed, omega arith, refl, refl, refl, ((λ none. absurd (c.requires none)), (λ some. refl)))
