use Rattle.std.proofs.Common.{◌∙◌}
use Rattle.sam_link.proofs.FeedLaws.{placed_on}
use Rattle.sam_link.proofs.link.Link.show_places.Goals as goal

pub returns : goal.returns
returns c =
    placed_on c.args.self.now _ c.args.attempt c.args.piece.now c.split_packets-split.result c.args.places.now c.take_places-count.new.places
    c.take_places-count.result c.of_row-marks.result c.take_places-count.new.self c.of_rest.result c.requires.may c.requires.empty c.split_packets-split.ensures
    c.in_default.ensures (c.self.view_is ∙ c.in-Ok.ensures.taken) c.of_row-marks.ensures c.take_places-count.ensures.inside c.take_places-count.ensures.rest
    c.take_places-count.ensures.taken c.take_places-count.ensures.held c.take_places-count.ensures.end c.of_rest.ensures
