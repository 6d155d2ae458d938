use Rattle.std.proofs.Common.{◌≡◌, ◌∙◌, ap, arith, length, Err, sym, subst}
use Rattle.sam_client.specs.Going.{GoesOn}
use Rattle.sam_client.specs.declared.fault.GoOnFault.{GoOnFault}
use Rattle.sam_client.proofs.GoingLaws.{out_fails, out_goes}
use Rattle.sam_client.proofs.client.Client.go_on_out.Goals as goal

pub returns-in-Ok-clause-goes : goal.returns-in-Ok-clause-goes
returns-in-Ok-clause-goes c =
    let count : c.pending.result ≡ length c.args.self.now.ordered.overlay.end.pending_bytes = grind arith in
    out_goes c.args.now c.args.self.now c.send.new.self c.args.self.now.ordered.overlay.end.pending_bytes
    (λ none. c.if-pending-eq0.false (count ∙ ap length none)) c.in-Ok.ensures

pub returns-in-Err-clause-goes : goal.returns-in-Err-clause-goes
returns-in-Err-clause-goes c =
    subst (λ (why : GoOnFault). GoesOn c.args.now 1 c.args.self.now (Err why) c.send.new.self) (sym c.of_send.ensures)
    (out_fails c.args.now c.args.self.now c.send.new.self c.args.self.now.ordered.overlay.end.pending_bytes c.in-Err.why c.in-Err.ensures)
