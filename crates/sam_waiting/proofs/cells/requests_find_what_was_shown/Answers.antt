use Rattle.sam_pending.proofs.UpToLaws.{edits_keep_text, put_is_text, removals_go_out_of_text}
use Rattle.sam_waiting.proofs.cells.requests_find_what_was_shown.Goals as goal

pub returns : goal.returns
returns c = record { keep = edits_keep_text; put = put_is_text; removed = removals_go_out_of_text }
