use Rattle.sam_term_worker.proofs.Common.{◌≡◌, ap, subst, sym, List, Bool, true, Ok, Err, arith, CanGoOn, LoggedView, TermLog, WentOn}
use Rattle.sam_endpoint.specs.TermStepping.{Steps}
use Rattle.sam_endpoint.specs.declared.step.TermStep.{TermStep}
use Rattle.sam_ends.specs.declared.stop.Stop.TheVariants as stop
use Rattle.sam_term_worker.proofs.TermSteps.{went_acted, went_fault, went_memory, went_refused}
use Rattle.sam_term_worker.proofs.logged_terminal.LoggedTerminal.act.Goals as goal

pub returns-then-is_err-clause-went : goal.returns-then-is_err-clause-went
returns-then-is_err-clause-went c =
    let a : LoggedView = record { end = c.self.inside.end; log = c.self.inside.log.items; most = c.self.inside.most } in
    let b : LoggedView = record { end = c.self.inside.end; log = c.reserve.new.self.items; most = c.self.inside.most } in
    let same : b ≡ a = ap (λ (es : List TermLog). record { end = c.self.inside.end; log = es; most = c.self.inside.most }) c.reserve.ensures.items in
    subst (λ (v : LoggedView). WentOn {A = Bool} v (Err stop.Memory) b) c.self.view_is (went_memory Bool a b same)

pub returns-in-Ok-Acted-clause-went : goal.returns-in-Ok-Acted-clause-went
returns-in-Ok-Acted-clause-went c =
    let a : LoggedView = record { end = c.self.inside.end; log = c.self.inside.log.items; most = c.self.inside.most } in
    let b : LoggedView = record { end = c.step.new.self; log = c.push_reserved.new.self.items; most = c.self.inside.most } in
    let on : CanGoOn a.end = subst (λ (v : LoggedView). CanGoOn v.end) (sym c.self.view_is) c.requires in
    let steps = subst (λ (d : TermStep). Steps a.end (Ok d) b.end) c.in-Ok-Acted.field-0-is c.in-Ok-Acted.ensures in
    subst (λ (v : LoggedView). WentOn v (Ok true) b) c.self.view_is
    (went_acted a b.end b.log b.most c.in-Ok-Acted.field-0-0 c.in-Ok-Acted.field-0-1 c.in-Ok-Acted.field-0-2 on steps (grind (arith, c.push_reserved.ensures.items, c.reserve.ensures.items)))

pub returns-in-Ok-Refused-clause-went : goal.returns-in-Ok-Refused-clause-went
returns-in-Ok-Refused-clause-went c =
    let a : LoggedView = record { end = c.self.inside.end; log = c.self.inside.log.items; most = c.self.inside.most } in
    let b : LoggedView = record { end = c.step.new.self; log = c.push_reserved-in-Ok-Refused.new.self.items; most = c.self.inside.most } in
    let on : CanGoOn a.end = subst (λ (v : LoggedView). CanGoOn v.end) (sym c.self.view_is) c.requires in
    let steps = subst (λ (d : TermStep). Steps a.end (Ok d) b.end) c.in-Ok-Refused.field-0-is c.in-Ok-Refused.ensures in
    subst (λ (v : LoggedView). WentOn v (Ok true) b) c.self.view_is
    (went_refused a b.end b.log b.most c.in-Ok-Refused.field-0-0 c.in-Ok-Refused.field-0-1 on steps (grind (arith, c.push_reserved-in-Ok-Refused.ensures.items, c.reserve.ensures.items)))

pub returns-in-Err-clause-went : goal.returns-in-Err-clause-went
returns-in-Err-clause-went c =
    let a : LoggedView = record { end = c.self.inside.end; log = c.self.inside.log.items; most = c.self.inside.most } in
    let b : LoggedView = record { end = c.step.new.self; log = c.reserve.new.self.items; most = c.self.inside.most } in
    let on : CanGoOn a.end = subst (λ (v : LoggedView). CanGoOn v.end) (sym c.self.view_is) c.requires in
    subst (λ (v : LoggedView). WentOn {A = Bool} v (Err c.stop_for.result) b) c.self.view_is
    (went_fault a b.end b.log b.most c.in-Err.fault c.stop_for.result on c.in-Err.ensures c.reserve.ensures.items c.stop_for.ensures)
