use Rattle.std.proofs.Common.{◌∙◌, ap, arith, drop, drop-drop}
use Rattle.sam_endpoint.proofs.incoming.drop_oldest.Goals as goal

pub loop-dropped-preserved : goal.loop-dropped-preserved
loop-dropped-preserved g c =
    (omega arith, c.drop_first.ensures ∙ ap (drop 1) c.loop-dropped.invariant.1 ∙ drop-drop 1 c.loop-dropped.dropped c.args.waiting.now.items)
