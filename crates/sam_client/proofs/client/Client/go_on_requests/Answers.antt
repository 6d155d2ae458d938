use Rattle.std.proofs.Common.{Err, Ok, refl, sym, subst}
use Rattle.sam_overlay.specs.declared.shown_change.Turn.{Turn}
use Rattle.sam_overlay.specs.declared.shown_change.Turn.TheVariants as turn
use Rattle.sam_client.specs.Clients.{Does}
use Rattle.sam_client.specs.Clients.Act.{ActNext}
use Rattle.sam_client.specs.Going.{GoesOn}
use Rattle.sam_client.specs.declared.fault.GoOnFault.{GoOnFault}
use Rattle.sam_client.proofs.GoingLaws.{request_fails, request_goes, request_rests, requests_none, requests_wait}
use Rattle.sam_client.proofs.client.Client.go_on_requests.Goals as goal

pub returns-in-Ok-Request-clause-goes : goal.returns-in-Ok-Request-clause-goes
returns-in-Ok-Request-clause-goes c = λ now.
    request_goes now c.args.self.now c.act_next.new.self
    (subst (λ (x : Turn). Does c.args.self.now (ActNext (Ok x)) c.act_next.new.self) c.in-Ok-Request.field-0-is c.in-Ok-Request.ensures)

pub returns-in-Ok-Nothing-clause-goes : goal.returns-in-Ok-Nothing-clause-goes
returns-in-Ok-Nothing-clause-goes c = λ now.
    request_rests now c.args.self.now c.act_next.new.self turn.Nothing refl
    (subst (λ (x : Turn). Does c.args.self.now (ActNext (Ok x)) c.act_next.new.self) c.in-Ok-Nothing.field-0-is c.in-Ok-Nothing.ensures)

pub returns-in-Ok-Nothing-clause-idle : goal.returns-in-Ok-Nothing-clause-idle
returns-in-Ok-Nothing-clause-idle c =
    requests_none c.args.self.now c.act_next.new.self
    (subst (λ (x : Turn). Does c.args.self.now (ActNext (Ok x)) c.act_next.new.self) c.in-Ok-Nothing.field-0-is c.in-Ok-Nothing.ensures)

pub returns-in-Ok-NotYet-clause-goes : goal.returns-in-Ok-NotYet-clause-goes
returns-in-Ok-NotYet-clause-goes c = λ now.
    request_rests now c.args.self.now c.act_next.new.self turn.NotYet refl
    (subst (λ (x : Turn). Does c.args.self.now (ActNext (Ok x)) c.act_next.new.self) c.in-Ok-NotYet.field-0-is c.in-Ok-NotYet.ensures)

pub returns-in-Ok-NotYet-clause-idle : goal.returns-in-Ok-NotYet-clause-idle
returns-in-Ok-NotYet-clause-idle c =
    requests_wait c.args.self.now c.act_next.new.self
    (subst (λ (x : Turn). Does c.args.self.now (ActNext (Ok x)) c.act_next.new.self) c.in-Ok-NotYet.field-0-is c.in-Ok-NotYet.ensures)

pub returns-in-Err-clause-goes : goal.returns-in-Err-clause-goes
returns-in-Err-clause-goes c = λ now.
    subst (λ (why : GoOnFault). GoesOn now 1 c.args.self.now (Err why) c.act_next.new.self) (sym c.of_act.ensures)
    (request_fails now c.args.self.now c.act_next.new.self c.in-Err.why c.in-Err.ensures)
