use Rattle.sam_term_worker.proofs.Common.{◌≡◌, ap, subst, List, Err, LoggedView, TermLog, Took}
use Rattle.sam_ends.specs.declared.stop.Stop.TheVariants as stop
use Rattle.sam_term_worker.proofs.TermSteps.{took_memory, took_none}
use Rattle.sam_term_worker.proofs.logged_terminal.LoggedTerminal.receive.Goals as goal

pub returns-then-is_err : goal.returns-then-is_err
returns-then-is_err c =
    let a : LoggedView = record { end = c.self.inside.end; log = c.self.inside.log.items; most = c.self.inside.most } in
    let b : LoggedView = record { end = c.self.inside.end; log = c.reserve.new.self.items; most = c.self.inside.most } in
    let same : b ≡ a = ap (λ (es : List TermLog). record { end = c.self.inside.end; log = es; most = c.self.inside.most }) c.reserve.ensures.items in
    subst (λ (v : LoggedView). Took v c.args.frame (Err stop.Memory) b) c.self.view_is (took_memory a b c.args.frame same)

pub returns-in-Err-step : goal.returns-in-Err-step
returns-in-Err-step c =
    let a : LoggedView = record { end = c.self.inside.end; log = c.self.inside.log.items; most = c.self.inside.most } in
    let b : LoggedView = record { end = c.step.new.self; log = c.reserve.new.self.items; most = c.self.inside.most } in
    subst (λ (v : LoggedView). Took v c.args.frame (Err c.stop_for.result) b) c.self.view_is
    (took_none a c.bring_frame.new.self b.end b.log b.most c.args.frame c.in-Err-step.fault c.stop_for.result c.in-Ok.ensures c.in-Err-step.ensures c.reserve.ensures.items c.stop_for.ensures)
