use Rattle.std.proofs.Common.{◌≡◌, ◌≤◌, ◌∙◌, refl, ap, rules, arith, length, slice_get, Some}
use Rattle.sam_handles.proofs.Filling.{starts, fits-now, one-more, no-more, no-rest}
use Rattle.sam_handles.proofs.Measuring.{front-end, front-next, front-past}
use Rattle.sam_handles.proofs.measures.fill_front.Goals as goal

pub loop-at-init : goal.loop-at-init
loop-at-init c = record { same = refl; at = omega arith; count = omega arith; stands = starts _ _ }

pub put_rune-requires : goal.put_rune-requires
put_rune-requires c = search (rules, arith, fits-now)

pub returns-in_default : goal.returns-in_default
returns-in_default c =
    let i = c.loop-at.invariant in
    let ends = front-end c.args.members c.args.place c.loop-at.filled.runes c.loop-at.at c.at.result i.at (c.at.ensures.member ∙ ap (λ r. slice_get r c.loop-at.at) c.loop-at.invariant.same) (λ r e. grind (arith, e)) in
    record { fills = no-rest _ _ _ c.loop-at.filled ends i.count i.stands; few = omega (arith, i.at) }

pub returns-in_default-2 : goal.returns-in_default-2
returns-in_default-2 c =
    let i = c.loop-at.invariant in
    let ends = front-end c.args.members c.args.place c.loop-at.filled.runes c.loop-at.at c.at.result i.at (c.at.ensures.member ∙ ap (λ r. slice_get r c.loop-at.at) c.loop-at.invariant.same) (λ r e. grind (arith, e)) in
    record { fills = no-rest _ _ _ c.loop-at.filled ends i.count i.stands; few = omega (arith, i.at) }

pub returns-in_default-put_rune : goal.returns-in_default-put_rune
returns-in_default-put_rune c =
    let i = c.loop-at.invariant in
    let there : slice_get c.args.members c.loop-at.at ≡ Some (Some c.in-Some-Some.rune) = grind (arith, (c.at.ensures.member ∙ ap (λ r. slice_get r c.loop-at.at) c.loop-at.invariant.same)) in
    let next = front-next c.args.members c.args.place c.loop-at.filled.runes c.loop-at.at c.in-Some-Some.rune i.at i.count there in
    record { fills = no-more _ _ _ c.loop-at.filled c.in-Some-Some.rune next.0 next.1 i.stands _ (search rules); few = omega (arith, i.at) }

pub loop-at-preserved : goal.loop-at-preserved
loop-at-preserved c =
    let i = c.loop-at.invariant in
    let there : slice_get c.args.members c.loop-at.at ≡ Some (Some c.in-Some-Some.rune) = grind (arith, (c.at.ensures.member ∙ ap (λ r. slice_get r c.loop-at.at) c.loop-at.invariant.same)) in
    let next = front-next c.args.members c.args.place c.loop-at.filled.runes c.loop-at.at c.in-Some-Some.rune i.at i.count there in
    record {
      same = c.at.ensures.unchanged ∙ i.same;
      at = omega (arith, i.at);
      count = omega (arith, next.0);
      stands = one-more _ _ _ _ _ _ _ c.in-Some-Some.rune next.0 next.1 i.stands (search rules);
    }

pub returns : goal.returns
returns c =
    let i = c.loop-at.invariant in
    let past : length c.args.members ≤ c.loop-at.at = grind arith in
    let ends = front-past c.args.members c.args.place c.loop-at.filled.runes c.loop-at.at i.at past in
    record { fills = no-rest _ _ _ c.loop-at.filled ends i.count i.stands; few = omega (arith, i.at) }
