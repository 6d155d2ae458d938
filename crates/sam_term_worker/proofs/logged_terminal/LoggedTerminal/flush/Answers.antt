use Rattle.sam_term_worker.proofs.Common.{◌≡◌, ap, subst, sym, List, Err, CanGoOn, LoggedView, TermLog, WentOn}
use Rattle.sam_ends.specs.declared.stop.Stop.TheVariants as stop
use Rattle.sam_term_worker.proofs.TermSteps.{went_memory, went_uncomposed}
use Rattle.sam_term_worker.proofs.logged_terminal.LoggedTerminal.flush.Goals as goal

pub returns-then-is_err : goal.returns-then-is_err
returns-then-is_err c =
    let a : LoggedView = record { end = c.self.inside.end; log = c.self.inside.log.items; most = c.self.inside.most } in
    let b : LoggedView = record { end = c.self.inside.end; log = c.reserve.new.self.items; most = c.self.inside.most } in
    let same : b ≡ a = ap (λ (es : List TermLog). record { end = c.self.inside.end; log = es; most = c.self.inside.most }) c.reserve.ensures.items in
    subst (λ (v : LoggedView). WentOn {A = Unit {0}} v (Err stop.Memory) b) c.self.view_is (went_memory (Unit {0}) a b same)

pub returns-in-Err : goal.returns-in-Err
returns-in-Err c =
    let a : LoggedView = record { end = c.self.inside.end; log = c.self.inside.log.items; most = c.self.inside.most } in
    let b : LoggedView = record { end = c.compose.new.self; log = c.reserve.new.self.items; most = c.self.inside.most } in
    let on : CanGoOn a.end = subst (λ (v : LoggedView). CanGoOn v.end) (sym c.self.view_is) c.requires.goes_on in
    subst (λ (v : LoggedView). WentOn {A = Unit {0}} v (Err c.stop_unbrought.result) b) c.self.view_is
    (went_uncomposed a b.end b.log b.most c.in-Err.fault c.stop_unbrought.result on c.in-Err.ensures c.reserve.ensures.items c.stop_unbrought.ensures)
