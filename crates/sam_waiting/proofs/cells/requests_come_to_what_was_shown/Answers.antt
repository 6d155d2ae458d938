use Rattle.sam_pending.proofs.GroupLaws.{text_shown, text_replaced, text_inserted}
use Rattle.sam_waiting.proofs.cells.requests_come_to_what_was_shown.Goals as goal

pub returns : goal.returns
returns c = record { asked = λ cs g a. text_shown g cs a; later = text_replaced; inserted = text_inserted }
