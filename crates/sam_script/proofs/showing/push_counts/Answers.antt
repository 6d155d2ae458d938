use Rattle.sam_script.proofs.Common.{append_assoc, IfOk-equal}
use Rattle.sam_script.proofs.showing.push_counts.Goals as goal

pub returns : goal.returns
returns c = IfOk-equal c.push-2.result _ _ _ c.push-2.ensures (rw (c.in_ok-write.ensures.bytes, c.in_ok-push_lock.ensures, c.in_ok-push.ensures) (simp append_assoc))
