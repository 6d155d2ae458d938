use Rattle.std.proofs.Common.{Ok, subst, sym}
use Rattle.sam_link.specs.Feeding.{Feeds}
use Rattle.sam_link.proofs.FeedLaws.{then_taken}
use Rattle.sam_link.proofs.link.Link.feed_then_take.Goals as goal

pub returns-in-Ok : goal.returns-in-Ok
returns-in-Ok c =
    let fed = subst (λ r. Feeds c.args.self.now c.args.attempt c.args.piece.now r c.feed.new.self) c.in-Ok.is c.feed.ensures in
    then_taken c.args.self.now _ c.args.attempt c.args.piece.now c.args.into.now c.take_all.new.into c.take_all.result c.take_all.new.self.held c.take_all.new.self.waiting
    (subst (λ m. Feeds c.args.self.now c.args.attempt c.args.piece.now (Ok tt) m) (sym c.self.view_is) fed) c.take_all.ensures.taken c.take_all.ensures.held
