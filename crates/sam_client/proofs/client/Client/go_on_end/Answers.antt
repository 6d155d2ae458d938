use Rattle.std.proofs.Common.{Err, Ok, sym, subst}
use Rattle.sam_client.specs.Going.{GoesOn}
use Rattle.sam_client.specs.declared.event.Event.{Event}
use Rattle.sam_client.specs.declared.fault.GoOnFault.{GoOnFault}
use Rattle.sam_client.proofs.GoingLaws.{end_fails, end_goes, end_refused}
use Rattle.sam_client.proofs.client.Client.go_on_end.Goals as goal

pub returns-in-Some-clause-goes : goal.returns-in-Some-clause-goes
returns-in-Some-clause-goes c = λ now.
    end_refused now c.args.self.now c.tell_refusal.new.self c.in-Some.number c.in-Some.why c.in-Some.ensures

pub returns-in-Ok-clause-goes : goal.returns-in-Ok-clause-goes
returns-in-Ok-clause-goes c = λ now.
    subst (λ (event : Event). GoesOn now 1 c.args.self.now (Ok event) c.step.new.self) (sym c.told_of_step.ensures)
    (end_goes now c.args.self.now c.tell_refusal.new.self c.step.new.self c.in-Ok.step c.in_default.ensures c.in-Ok.ensures)

pub returns-in-Err-clause-goes : goal.returns-in-Err-clause-goes
returns-in-Err-clause-goes c = λ now.
    subst (λ (why : GoOnFault). GoesOn now 1 c.args.self.now (Err why) c.step.new.self) (sym c.of_step.ensures)
    (end_fails now c.args.self.now c.tell_refusal.new.self c.step.new.self c.in-Err.why c.in_default.ensures c.in-Err.ensures)
