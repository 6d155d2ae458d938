use Rattle.sam_overlay.proofs.MarkLaws.{length_of_text}
use Rattle.sam_overlay.proofs.marks.text_len.Goals as goal

pub returns : goal.returns
returns c r over =
    length_of_text c.args.pending.now c.args.group c.rasp_len.result c.place_at.result c.rasp_len.ensures.len c.place_at.ensures r over
