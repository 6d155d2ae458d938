use Rattle.std.proofs.Common.{◌≡◌, rules, Ok, Err, Result, sym, subst}
use Rattle.sam_client.specs.Going.{EditsIdle, EndIdle, GoesOn, InIdle, OutIdle, RequestsIdle, Rests}
use Rattle.sam_client.specs.declared.event.Event.{Event}
use Rattle.sam_client.specs.declared.event.Event.TheVariants as tell
use Rattle.sam_client.specs.declared.fault.GoOnFault.{GoOnFault}
use Rattle.sam_client.proofs.Moves.{goes_after}
use Rattle.sam_client.proofs.GoingLaws.{all_rest, at_idle, goes_at, idle_then, not_idle}
use Rattle.sam_client.proofs.client.Client.advance.Goals as goal

pub returns-in_err-event-2-clause-goes : goal.returns-in_err-event-2-clause-goes
returns-in_err-event-2-clause-goes c =
    let now = c.args.now in
    let b = c.go_on_end.new.self in
    let why = c.in_err-event-2.field-0.0 in
    let same : c.from_residual-in_err-event-2.result ≡ Err why = search rules in
    let first = goes_at now c.args.self.now b c.in_ok-event.event tell.Idle c.in-Idle.is (c.in_ok-event.ensures.goes now) in
    subst (λ (answer : Result Event GoOnFault). GoesOn now 1 c.args.self.now answer c.go_on_requests.new.self) (sym same)
    (goes_after now c.args.self.now b c.go_on_requests.new.self (Err why) first (c.in_err-event-2.ensures.goes now))

pub returns-in_default-2 : goal.returns-in_default-2
returns-in_default-2 c =
    let now = c.args.now in
    let b = c.go_on_end.new.self in
    let first = goes_at now c.args.self.now b c.in_ok-event.event tell.Idle c.in-Idle.is (c.in_ok-event.ensures.goes now) in
    record {
      goes = goes_after now c.args.self.now b c.go_on_requests.new.self (Ok c.in_ok-event-2.event) first (c.in_ok-event-2.ensures.goes now);
      idle = not_idle c.in_ok-event-2.event (Rests c.go_on_requests.new.self) c.in_default-2.not-Idle;
    }

pub returns-in_err-event-3-clause-goes : goal.returns-in_err-event-3-clause-goes
returns-in_err-event-3-clause-goes c =
    let now = c.args.now in
    let b = c.go_on_end.new.self in
    let r = c.go_on_requests.new.self in
    let why = c.in_err-event-3.field-0.0 in
    let same : c.from_residual-in_err-event-3.result ≡ Err why = search rules in
    let first = goes_at now c.args.self.now b c.in_ok-event.event tell.Idle c.in-Idle.is (c.in_ok-event.ensures.goes now) in
    let next = goes_at now b r c.in_ok-event-2.event tell.Idle c.in-Idle-2.is (c.in_ok-event-2.ensures.goes now) in
    subst (λ (answer : Result Event GoOnFault). GoesOn now 1 c.args.self.now answer c.go_on_edits.new.self) (sym same)
    (goes_after now c.args.self.now r c.go_on_edits.new.self (Err why) (goes_after now c.args.self.now b r (Ok tell.Idle) first next)
    (c.in_err-event-3.ensures.goes now))

pub returns-in_default-3 : goal.returns-in_default-3
returns-in_default-3 c =
    let now = c.args.now in
    let b = c.go_on_end.new.self in
    let r = c.go_on_requests.new.self in
    let first = goes_at now c.args.self.now b c.in_ok-event.event tell.Idle c.in-Idle.is (c.in_ok-event.ensures.goes now) in
    let next = goes_at now b r c.in_ok-event-2.event tell.Idle c.in-Idle-2.is (c.in_ok-event-2.ensures.goes now) in
    record {
      goes =
          goes_after now c.args.self.now r c.go_on_edits.new.self (Ok c.in_ok-event-3.event)
          (goes_after now c.args.self.now b r (Ok tell.Idle) first next) (c.in_ok-event-3.ensures.goes now);
      idle = not_idle c.in_ok-event-3.event (Rests c.go_on_edits.new.self) c.in_default-3.not-Idle;
    }

pub returns-in_err-event-4-clause-goes : goal.returns-in_err-event-4-clause-goes
returns-in_err-event-4-clause-goes c =
    let now = c.args.now in
    let b = c.go_on_end.new.self in
    let r = c.go_on_requests.new.self in
    let e = c.go_on_edits.new.self in
    let why = c.in_err-event-4.field-0.0 in
    let same : c.from_residual-in_err-event-4.result ≡ Err why = search rules in
    let first = goes_at now c.args.self.now b c.in_ok-event.event tell.Idle c.in-Idle.is (c.in_ok-event.ensures.goes now) in
    let next = goes_at now b r c.in_ok-event-2.event tell.Idle c.in-Idle-2.is (c.in_ok-event-2.ensures.goes now) in
    let third = goes_at now r e c.in_ok-event-3.event tell.Idle c.in-Idle-3.is (c.in_ok-event-3.ensures.goes now) in
    subst (λ (answer : Result Event GoOnFault). GoesOn now 1 c.args.self.now answer c.go_on_out.new.self) (sym same)
    (goes_after now c.args.self.now e c.go_on_out.new.self (Err why)
    (goes_after now c.args.self.now r e (Ok tell.Idle) (goes_after now c.args.self.now b r (Ok tell.Idle) first next) third)
    c.in_err-event-4.ensures.goes)

pub returns-in_default-4 : goal.returns-in_default-4
returns-in_default-4 c =
    let now = c.args.now in
    let b = c.go_on_end.new.self in
    let r = c.go_on_requests.new.self in
    let e = c.go_on_edits.new.self in
    let first = goes_at now c.args.self.now b c.in_ok-event.event tell.Idle c.in-Idle.is (c.in_ok-event.ensures.goes now) in
    let next = goes_at now b r c.in_ok-event-2.event tell.Idle c.in-Idle-2.is (c.in_ok-event-2.ensures.goes now) in
    let third = goes_at now r e c.in_ok-event-3.event tell.Idle c.in-Idle-3.is (c.in_ok-event-3.ensures.goes now) in
    record {
      goes =
          goes_after now c.args.self.now e c.go_on_out.new.self (Ok c.in_ok-event-4.event)
          (goes_after now c.args.self.now r e (Ok tell.Idle) (goes_after now c.args.self.now b r (Ok tell.Idle) first next) third)
          c.in_ok-event-4.ensures.goes;
      idle = not_idle c.in_ok-event-4.event (Rests c.go_on_out.new.self) c.in_default-4.not-Idle;
    }

pub returns-clause-goes : goal.returns-clause-goes
returns-clause-goes c =
    let now = c.args.now in
    let b = c.go_on_end.new.self in
    let r = c.go_on_requests.new.self in
    let e = c.go_on_edits.new.self in
    let o = c.go_on_out.new.self in
    let first = goes_at now c.args.self.now b c.in_ok-event.event tell.Idle c.in-Idle.is (c.in_ok-event.ensures.goes now) in
    let next = goes_at now b r c.in_ok-event-2.event tell.Idle c.in-Idle-2.is (c.in_ok-event-2.ensures.goes now) in
    let third = goes_at now r e c.in_ok-event-3.event tell.Idle c.in-Idle-3.is (c.in_ok-event-3.ensures.goes now) in
    let last = goes_at now e o c.in_ok-event-4.event tell.Idle c.in-Idle-4.is c.in_ok-event-4.ensures.goes in
    goes_after now c.args.self.now o c.go_on_in.new.self c.go_on_in.result
    (goes_after now c.args.self.now e o (Ok tell.Idle)
    (goes_after now c.args.self.now r e (Ok tell.Idle) (goes_after now c.args.self.now b r (Ok tell.Idle) first next) third) last)
    c.go_on_in.ensures.goes

pub returns-clause-idle : goal.returns-clause-idle
returns-clause-idle c =
    let b = c.go_on_end.new.self in
    let r = c.go_on_requests.new.self in
    let e = c.go_on_edits.new.self in
    let o = c.go_on_out.new.self in
    let n = c.go_on_in.new.self in
    let end = at_idle c.in_ok-event.event (EndIdle b) c.in-Idle.is c.in_ok-event.ensures.idle in
    let requests = at_idle c.in_ok-event-2.event (RequestsIdle b r) c.in-Idle-2.is c.in_ok-event-2.ensures.idle in
    let edits = at_idle c.in_ok-event-3.event (EditsIdle r e) c.in-Idle-3.is c.in_ok-event-3.ensures.idle in
    let out = at_idle c.in_ok-event-4.event (OutIdle e o) c.in-Idle-4.is c.in_ok-event-4.ensures.idle in
    idle_then c.go_on_in.result (InIdle o n) (Rests n) (all_rest b r e o n end requests edits out) c.go_on_in.ensures.idle
