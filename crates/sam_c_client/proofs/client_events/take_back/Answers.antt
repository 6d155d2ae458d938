use Rattle.sam_handles.proofs.DropLaws.{back_whole}
use Rattle.sam_c_client.proofs.client_events.take_back.Goals as goal

pub hand_back-requires : goal.hand_back-requires
hand_back-requires c = back_whole _ _ _ _ _ _ c.drop_next-came.ensures.0.0 c.requires
