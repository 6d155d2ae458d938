use Rattle.sam_link.proofs.Feeds.{one_feed}
use Rattle.sam_link.proofs.laws.one_feed.Goals as goal

pub returns : goal.returns
returns c = one_feed
