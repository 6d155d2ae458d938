use Rattle.std.proofs.Common.{rules, arith}
use Rattle.sam_handles.proofs.Filling.{starts, fits-now, one-more, no-more, no-rest}
use Rattle.sam_handles.proofs.utf8.fill_utf8.Goals as goal

pub loop-rune-init : goal.loop-rune-init
loop-rune-init c = search (rules, arith, starts)

pub put_rune-requires : goal.put_rune-requires
put_rune-requires c = search (rules, arith, fits-now)

pub returns-in_default : goal.returns-in_default
returns-in_default c =
    let i = c.loop-rune.invariant in
    no-more _ _ _ c.loop-rune.filled c.rune-item.result (omega (arith, i.count)) (search rules) i.stands _ (search rules)

pub loop-rune-preserved : goal.loop-rune-preserved
loop-rune-preserved c =
    let i = c.loop-rune.invariant in
    record {
      count = omega (arith, i.count);
      stands = one-more _ _ _ _ _ _ _ c.rune-item.result (omega (arith, i.count)) (search rules) i.stands (search rules);
    }

pub returns : goal.returns
returns c =
    let i = c.loop-rune.invariant in
    no-rest _ _ _ c.loop-rune.filled (omega (arith, i.count)) (omega (arith, i.count)) i.stands
