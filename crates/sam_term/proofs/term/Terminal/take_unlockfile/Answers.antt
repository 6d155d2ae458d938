use Rattle.sam_term.proofs.Common.{arith, countable, took_unlockfile}
use Rattle.sam_term.proofs.Composes.{sends-sent}
use Rattle.sam_term.proofs.Requests.{wanted-unlocked, requested_some, sent-unlocked, unsent-unlocked}
use Rattle.sam_term.proofs.term.Terminal.take_unlockfile.Goals as goal

pub returns-in_err-out : goal.returns-in_err-out
unfolding countable
returns-in_err-out c =
    let t = c.args.self.now in
    let u = took_unlockfile t c.args.tag in
    let m = c.in-Some.message in
    grind (arith, (requested_some u c.args.tag m), (sends-sent u m), (wanted-unlocked t c.args.tag c.requires.opened), (sent-unlocked t c.args.tag), (unsent-unlocked t c.args.tag))
