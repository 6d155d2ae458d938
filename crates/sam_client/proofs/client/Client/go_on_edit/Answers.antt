use Rattle.std.proofs.Common.{Ok, refl, sym, subst}
use Rattle.sam_overlay.specs.declared.shown_change.Put.{Put}
use Rattle.sam_overlay.specs.declared.shown_change.Put.TheVariants as put
use Rattle.sam_client.specs.Clients.{Does}
use Rattle.sam_client.specs.Clients.Act.{PutEdit}
use Rattle.sam_client.proofs.GoingLaws.{edit_fails, edit_goes, edit_not_free, edit_nothing, edit_rests}
use Rattle.sam_client.proofs.client.Client.go_on_edit.Goals as goal

pub returns-in-Ok-Edit-clause-goes : goal.returns-in-Ok-Edit-clause-goes
returns-in-Ok-Edit-clause-goes c = λ now.
    edit_goes now c.args.self.now c.put_edit.new.self c.args.tag
    (subst (λ (x : Put). Does c.args.self.now (PutEdit c.args.tag (Ok x)) c.put_edit.new.self) c.in-Ok-Edit.field-0-is c.in-Ok-Edit.ensures)

pub returns-in-Ok-Nothing-clause-goes : goal.returns-in-Ok-Nothing-clause-goes
returns-in-Ok-Nothing-clause-goes c = λ now.
    edit_rests now c.args.self.now c.put_edit.new.self c.args.tag (Ok put.Nothing) refl refl
    (subst (λ (x : Put). Does c.args.self.now (PutEdit c.args.tag (Ok x)) c.put_edit.new.self) c.in-Ok-Nothing.field-0-is c.in-Ok-Nothing.ensures)

pub returns-in-Ok-Nothing-clause-idle : goal.returns-in-Ok-Nothing-clause-idle
returns-in-Ok-Nothing-clause-idle c =
    edit_nothing c.args.self.now c.put_edit.new.self c.args.tag
    (subst (λ (x : Put). Does c.args.self.now (PutEdit c.args.tag (Ok x)) c.put_edit.new.self) c.in-Ok-Nothing.field-0-is c.in-Ok-Nothing.ensures)

pub returns-in-Some-clause-goes : goal.returns-in-Some-clause-goes
returns-in-Some-clause-goes c = λ now.
    edit_fails now c.args.self.now c.put_edit.new.self c.args.tag c.in-Err.why c.in-Some.fault (sym c.in-Some.ensures) c.in-Err.ensures

pub returns-in-Ok-NotFree-clause-goes : goal.returns-in-Ok-NotFree-clause-goes
returns-in-Ok-NotFree-clause-goes c = λ now.
    edit_rests now c.args.self.now c.put_edit.new.self c.args.tag (Ok put.NotFree) refl refl
    (subst (λ (x : Put). Does c.args.self.now (PutEdit c.args.tag (Ok x)) c.put_edit.new.self) c.in-Ok-NotFree.field-0-is c.in-Ok-NotFree.ensures)

pub returns-in-Ok-NotFree-clause-idle : goal.returns-in-Ok-NotFree-clause-idle
returns-in-Ok-NotFree-clause-idle c =
    edit_not_free c.args.self.now c.put_edit.new.self c.args.tag
    (subst (λ (x : Put). Does c.args.self.now (PutEdit c.args.tag (Ok x)) c.put_edit.new.self) c.in-Ok-NotFree.field-0-is c.in-Ok-NotFree.ensures)
