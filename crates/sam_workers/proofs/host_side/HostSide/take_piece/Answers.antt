use Rattle.sam_workers.proofs.Common.{rules, ◌∙◌}
use Rattle.sam_ends.proofs.GateLaws.{let_on_more}
use Rattle.sam_workers.proofs.HostSide.{piece_begins, piece_ends, piece_more, piece_refused, piece_stops}
use Rattle.sam_workers.proofs.host_side.HostSide.take_piece.Goals as goal

pub returns-in_err-bring-clause-takes : goal.returns-in_err-bring-clause-takes
returns-in_err-bring-clause-takes g c =
    piece_refused (g.G.Gate.may_refuse c.args.gate.now 2) _ _ _ _ c.args.piece.now _ _ c.requires.quiet c.in_err-bring.ensures.post c.in_err-bring.ensures.brings c.from_residual.ensures.1

pub loop-init : goal.loop-init
loop-init g c =
    let b = piece_begins (g.G.Gate.must_refuse c.args.gate.now 2) _ _ _ _ c.args.piece.now c.requires.quiet c.in_ok-bring.ensures.post c.in_ok-bring.ensures.brings in
    record { piece = c.in_ok-bring.ensures.piece; closed = b.0.closed ∙ c.requires.«open»; made = b.0; going = b.1; let_on = b.2 }

pub loop-preserved : goal.loop-preserved
loop-preserved g c =
    let i = c.loop.invariant in
    let m = piece_more (g.G.Gate.may_refuse c.args.gate.now 2) _ _ _ _ _ _ c.args.piece.now _ (search rules) c.in_ok-step.ensures.steps i.made i.going in
    record {
      piece = c.in_ok-step.ensures.piece ∙ i.piece;
      closed = m.0.closed ∙ c.requires.«open»;
      made = m.0;
      going = m.1;
      let_on = let_on_more (g.G.Gate.must_refuse c.args.gate.now 2) _ _ _ i.let_on c.in_ok-step.ensures.let_on;
    }

pub loop-smaller : goal.loop-smaller
loop-smaller g c =
    (piece_more (g.G.Gate.may_refuse c.args.gate.now 2) _ _ _ _ _ _ c.args.piece.now _ (search rules) c.in_ok-step.ensures.steps c.loop.invariant.made c.loop.invariant.going).2

pub returns-in_err-step-clause-takes : goal.returns-in_err-step-clause-takes
returns-in_err-step-clause-takes g c =
    piece_stops (g.G.Gate.may_refuse c.args.gate.now 2) _ _ _ _ _ _ c.args.piece.now _ _ c.loop.invariant.going c.loop.invariant.made c.in_err-step.ensures.steps
    c.from_residual-in_err-step.ensures.1

pub returns-in_err-step-clause-let_on : goal.returns-in_err-step-clause-let_on
returns-in_err-step-clause-let_on g c = let_on_more (g.G.Gate.must_refuse c.args.gate.now 2) _ _ _ c.loop.invariant.let_on c.in_err-step.ensures.let_on

pub returns-clause-takes : goal.returns-clause-takes
returns-clause-takes g c =
    piece_ends (g.G.Gate.may_refuse c.args.gate.now 2) _ _ _ _ _ _ c.args.piece.now _ (search rules) c.in_ok-step.ensures.steps c.loop.invariant.made

pub returns-clause-let_on : goal.returns-clause-let_on
returns-clause-let_on g c = let_on_more (g.G.Gate.must_refuse c.args.gate.now 2) _ _ _ c.loop.invariant.let_on c.in_ok-step.ensures.let_on
