use Rattle.sam_script.proofs.Common.{append_assoc, IfOk-equal}
use Rattle.sam_script.proofs.showing.push_term_line.Goals as goal

pub returns : goal.returns
returns c = IfOk-equal c.push.result _ _ _ c.push.ensures (rw (c.in_ok-push_rasp.ensures, c.in_ok-write.ensures.bytes) (simp append_assoc))
