use Rattle.std.proofs.Common.{◌∙◌}
use Rattle.sam_link.proofs.FeedLaws.{passed_on}
use Rattle.sam_link.proofs.link.Link.pass_on.Goals as goal

pub returns : goal.returns
returns c =
    passed_on c.args.self.now _ c.args.attempt c.args.piece.now c.split_packets-split.result c.args.into.now c.take_all-count.new.into c.take_all-count.result
    c.of_row-marks.result c.take_all-count.new.self c.of_rest.result c.requires.may c.requires.empty c.split_packets-split.ensures c.in_default.ensures
    (c.self.view_is ∙ c.in-Ok.ensures.taken) c.of_row-marks.ensures c.take_all-count.ensures.taken c.take_all-count.ensures.held c.of_rest.ensures
