use Rattle.std.proofs.Common.{◌≡◌, length, arith}
use Rattle.sam_handles.proofs.LinkIds.{id_again}
use Rattle.sam_handles.proofs.link_id.SamLinkId.to_id.Goals as goal

pub returns-clause-bytes : goal.returns-clause-bytes
returns-clause-bytes c =
    let whole : length c.args.self.now.bytes ≡ 16 = grind arith in
    id_again c.args.self.now.bytes c.number_of.result c.number_of-2.result whole c.number_of.ensures c.number_of-2.ensures
