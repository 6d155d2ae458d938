use Rattle.sam_workers.proofs.Common.{rules, refl, sym, subst, [], Halts, Stop}
use Rattle.sam_ends.specs.declared.stop.Stop.TheVariants as stop
use Rattle.sam_workers.proofs.HostSide.{halts_here, step_cut, step_done, step_halts}
use Rattle.sam_workers.proofs.host_side.HostSide.step.Goals as goal

pub returns-then-not-may_step-clause-steps : goal.returns-then-not-may_step-clause-steps
returns-then-not-may_step-clause-steps g c =
    halts_here (g.G.Gate.may_refuse c.args.gate.now 2) _ _ _ _ [] stop.Gate c.requires.going.1 refl refl (c.may_step.ensures.refused (search rules))

pub returns-in-Err-clause-steps : goal.returns-in-Err-clause-steps
returns-in-Err-clause-steps g c =
    subst (λ (x : Stop). Halts (g.G.Gate.may_refuse c.args.gate.now 2) c.args.self.now.end c.step_message.new.self c.args.self.now.post c.args.self.now.post [] x) (sym c.stop_of.ensures)
    (step_halts (g.G.Gate.may_refuse c.args.gate.now 2) _ _ _ _ c.requires.going c.in-Err.ensures.steps)

pub returns-in-Ok-send : goal.returns-in-Ok-send
returns-in-Ok-send g c =
    let d = step_done (g.G.Gate.must_refuse c.args.gate.now 2) _ _ c.step_message.new.self _ _ _ _ c.in-Ok.ensures.steps (search rules) c.in-Ok.ensures.one
    (c.may_step.ensures.let_on (search rules)) c.in-Ok-send.ensures.sent c.in-Ok-send.ensures.puts in
    record { piece = c.send.ensures.piece; steps = (d.0, d.1, d.2); let_on = d.3 }

pub returns-in-Err-send : goal.returns-in-Err-send
returns-in-Err-send g c =
    let d = step_cut (g.G.Gate.may_refuse c.args.gate.now 2) (g.G.Gate.must_refuse c.args.gate.now 2) _ _ c.step_message.new.self _ _ _ _ c.in-Ok.ensures.steps c.in-Ok.ensures.one
    (c.may_step.ensures.let_on (search rules)) c.in-Err-send.ensures.pending c.in-Err-send.ensures.puts in
    record { piece = c.send.ensures.piece; steps = d.0; let_on = d.1 }
