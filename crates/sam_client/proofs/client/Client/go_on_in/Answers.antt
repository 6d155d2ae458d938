use Rattle.std.proofs.Common.{Err, sym, subst}
use Rattle.sam_client.specs.Going.{GoesOn}
use Rattle.sam_client.specs.declared.fault.GoOnFault.{GoOnFault}
use Rattle.sam_client.proofs.GoingLaws.{ask_fails, ask_goes, bring_fails, bring_goes, fetch_goes, note_goes}
use Rattle.sam_client.proofs.client.Client.go_on_in.Goals as goal

pub returns-in-Ok-clause-goes : goal.returns-in-Ok-clause-goes
returns-in-Ok-clause-goes c = bring_goes c.args.now c.args.self.now c.bring.new.self c.args.self.now.held (c.is_empty.ensures.some c.if-not-is_empty.true)
    c.in-Ok.ensures

pub returns-in-Err-clause-goes : goal.returns-in-Err-clause-goes
returns-in-Err-clause-goes c =
    subst (λ (why : GoOnFault). GoesOn c.args.now 1 c.args.self.now (Err why) c.bring.new.self) (sym c.of_bring.ensures)
    (bring_fails c.args.now c.args.self.now c.bring.new.self c.args.self.now.held c.in-Err.why c.in-Err.ensures)

pub returns-then-not-is_empty-2-clause-goes : goal.returns-then-not-is_empty-2-clause-goes
returns-then-not-is_empty-2-clause-goes c =
    fetch_goes c.args.now c.args.self.now c.fetch.new.self c.fetch.new.self.held (c.is_empty-2.ensures.some c.if-not-is_empty-2.true)
    c.fetch.ensures

pub returns-then-fetch_note-clause-goes : goal.returns-then-fetch_note-clause-goes
returns-then-fetch_note-clause-goes c =
    note_goes c.args.now c.args.self.now c.fetch.new.self c.fetch_note.new.self c.fetch.new.self.held c.fetch_note.new.self.note
    (c.is_empty-2.ensures.none c.if-not-is_empty-2.false) c.fetch.ensures c.if-fetch_note.ensures

pub returns-in-Ok-ask_host-clause-goes : goal.returns-in-Ok-ask_host-clause-goes
returns-in-Ok-ask_host-clause-goes c =
    ask_goes c.args.now c.args.self.now c.fetch.new.self c.fetch_note.new.self c.ask_host.new.self c.fetch.new.self.held
    (c.is_empty-2.ensures.none c.if-not-is_empty-2.false) c.fetch.ensures c.if-fetch_note.ensures c.in-Ok-ask_host.ensures

pub returns-in-Err-ask_host-clause-goes : goal.returns-in-Err-ask_host-clause-goes
returns-in-Err-ask_host-clause-goes c =
    subst (λ (why : GoOnFault). GoesOn c.args.now 1 c.args.self.now (Err why) c.ask_host.new.self) (sym c.of_send.ensures)
    (ask_fails c.args.now c.args.self.now c.fetch.new.self c.fetch_note.new.self c.ask_host.new.self c.fetch.new.self.held c.in-Err-ask_host.why
    (c.is_empty-2.ensures.none c.if-not-is_empty-2.false) c.fetch.ensures c.if-fetch_note.ensures c.in-Err-ask_host.ensures)
