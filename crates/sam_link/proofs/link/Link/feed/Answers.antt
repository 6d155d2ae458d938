use Rattle.std.proofs.Common.{◌+◌, length, arith}
use Rattle.sam_link.proofs.FeedLaws.{feed_done, feed_failed}
use Rattle.sam_link.proofs.link.Link.feed.Goals as goal

pub returns-in-Ok : goal.returns-in-Ok
returns-in-Ok c = grind (
  arith,
  (feed_done c.args.self.now c.take_split.new.self c.args.attempt c.args.piece.now c.split_packets-split.result),
)

pub returns-in-Err : goal.returns-in-Err
returns-in-Err c = grind (
  arith,
  (feed_failed c.args.self.now c.take_split.new.self c.end_for.new.self c.args.attempt c.args.piece.now c.split_packets-split.result (c.args.self.now.received + length c.args.piece.now) c.in-Err.fault),
)
