use Rattle.sam_overlay.proofs.CallLaws.{typed_shows}
use Rattle.sam_waiting.proofs.overlays.typed_shows.Goals as goal

pub returns : goal.returns
returns c = typed_shows
