use Rattle.std.proofs.Common.{◌≡◌, ◌+◌, rules, Ok, Err, Result, sym, subst}
use Rattle.sam_overlay.specs.Calls.{PlainOverlay}
use Rattle.sam_client.specs.Going.{EditIdle, EditsIdle, GoesOn, IsAllPut}
use Rattle.sam_client.specs.declared.event.Event.{Event}
use Rattle.sam_client.specs.declared.event.Event.TheVariants as tell
use Rattle.sam_client.specs.declared.fault.GoOnFault.{GoOnFault}
use Rattle.sam_client.proofs.Moves.{goes_then}
use Rattle.sam_client.proofs.GoingLaws.{all_so_far, at_idle, goes_at, more_so_far, not_idle, one_more_so_far}
use Rattle.sam_client.proofs.client.Client.go_on_edits.Goals as goal

pub returns-in_err-event-clause-goes : goal.returns-in_err-event-clause-goes
returns-in_err-event-clause-goes c =
    let why = c.in_err-event.field-0.0 in
    let same : c.from_residual.result ≡ Err why = search rules in
    λ now.
    subst (λ (answer : Result Event GoOnFault). GoesOn now 1 c.args.self.now answer c.go_on_edit.new.self) (sym same)
    (goes_then now 0 1 c.args.self.now c.tags.self c.go_on_edit.new.self (Err why) (c.tags.invariant.moves now) (c.in_err-event.ensures.goes now))

pub returns-in_default : goal.returns-in_default
returns-in_default c = record {
  goes = λ now.
      goes_then now 0 1 c.args.self.now c.tags.self c.go_on_edit.new.self (Ok c.in_ok-event.event) (c.tags.invariant.moves now)
      (c.in_ok-event.ensures.goes now);
  idle = not_idle c.in_ok-event.event (EditsIdle c.args.self.now c.go_on_edit.new.self) c.in_default.not-Idle;
}

pub tags-preserved : goal.tags-preserved
tags-preserved c =
    let tag = c.tags.tag in
    more_so_far c.args.self.now c.go_on_edit.new.self (tag + 1) c.next_kept-tag-in-tags.result
    (one_more_so_far c.args.self.now c.tags.self c.go_on_edit.new.self tag c.tags.invariant
    (λ now. goes_at now c.tags.self c.go_on_edit.new.self c.in_ok-event.event tell.Idle c.in-Idle.is (c.in_ok-event.ensures.goes now))
    (at_idle c.in_ok-event.event (EditIdle tag c.tags.self c.go_on_edit.new.self) c.in-Idle.is c.in_ok-event.ensures.idle))
    c.next_kept-tag-in-tags.ensures.put

pub returns-clause-idle : goal.returns-clause-idle
returns-clause-idle c =
    all_so_far c.args.self.now c.tags.self c.tags.tag c.tags-test.false c.tags.invariant
    (subst (λ (o : PlainOverlay). IsAllPut o 0) c.overlay.ensures c.facts.ensures.command)
