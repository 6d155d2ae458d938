use Rattle.sam_workers.proofs.Common.{◌∙◌, ap, arith, LineView}
use Rattle.sam_ends.proofs.GateLaws.{let_on_more}
use Rattle.sam_workers.proofs.HostWhole.{going_item, going_stops}
use Rattle.sam_workers.proofs.host_side.HostSide.serve.Goals as goal

pub returns-in-Err-clause-serves : goal.returns-in-Err-clause-serves
returns-in-Err-clause-serves g c =
    let one = ap (λ (x : LineView). x.senders) c.loop.invariant.line ∙ c.requires.one in
    going_stops (g.G.Gate.may_refuse c.args.gate.now 2) _ _ _ _ _ _ _ _ _ c.in-Item.piece _ c.in-Err.stop
    one c.in-Item.ensures.answer c.as_slice.ensures.value c.loop.invariant.going c.in-Err.ensures.takes

pub loop-preserved-in-Item : goal.loop-preserved-in-Item
loop-preserved-in-Item g c =
    let one = ap (λ (x : LineView). x.senders) c.loop.invariant.line ∙ c.requires.one in
    grind (
      arith,
      (going_item (g.G.Gate.may_refuse c.args.gate.now 2) _ _ _ _ _ _ _ _ _ c.in-Item.piece _ one c.in-Item.ensures.answer c.as_slice.ensures.value c.loop.invariant.going c.in-Ok.ensures.takes),
      (let_on_more (g.G.Gate.must_refuse c.args.gate.now 2) _ _ _ c.loop.invariant.let_on c.in-Ok.ensures.let_on),
    )

pub returns-in-Err-clause-let_on : goal.returns-in-Err-clause-let_on
returns-in-Err-clause-let_on g c = let_on_more (g.G.Gate.must_refuse c.args.gate.now 2) _ _ _ c.loop.invariant.let_on c.in-Err.ensures.let_on
