use Rattle.std.proofs.Common.{◌+◌, ◌-◌, ◌++◌, ◌∙◌, ap, arith}
use Rattle.sam_pending.specs.Blocks.{flat}
use Rattle.sam_pending.specs.Layers.{most_kept}
use Rattle.sam_pending.specs.Runs.{above, back, front, gone_runs, waiting_runs, IsSame}
use Rattle.sam_pending.specs.declared.run.Side.TheVariants.{Below}
use Rattle.sam_pending.proofs.FrameLaws.{gone_told, removed_change, removed_fits}
use Rattle.sam_pending.proofs.LayerLaws.{above-most}
use Rattle.sam_pending.proofs.PartLaws.{part_fits, part_within}
use Rattle.sam_pending.proofs.frames.removed.Goals as goal

pub sums_to-before-requires-clause-there : goal.sums_to-before-requires-clause-there
sums_to-before-requires-clause-there c = omega (arith, c.in_ok-part.ensures.there)

pub removed-requires-clause-within : goal.removed-requires-clause-within
removed-requires-clause-within c = rw c.as_slice.ensures.value (part_within most_kept c.in_ok-part.ensures c.requires.within)

pub removed-requires-clause-shown : goal.removed-requires-clause-shown
removed-requires-clause-shown c =
    rw c.as_slice.ensures.value
    (omega (arith, (ap (λ z. z.shown_len) c.sums_to-before.ensures), (part_fits c.in_ok-part.ensures).shown, above-most (flat c.args.blocks.now), c.requires.fits))

pub prepared-requires-clause-fits : goal.prepared-requires-clause-fits
prepared-requires-clause-fits c =
    let xs = c.in_ok-part.part.runs.items in
    let at = c.in_ok-part.part.at in
    let n = c.args.q - c.args.p in
    let same : IsSame c.in_ok-told.after.items (front Below at xs ++ waiting_runs (front Below n (back Below at xs)) ++ back Below n (back Below at xs)) =
    rw (← c.as_slice.ensures.value) c.in_ok-told.ensures.runs in
    rw c.as_slice-2.ensures.value
    (omega (arith, removed_fits at n xs c.in_ok-told.after.items same, (part_fits c.in_ok-part.ensures).all, c.requires.fits))

pub returns-clause-told : goal.returns-clause-told
returns-clause-told c =
    let xs = c.in_ok-part.part.runs.items in
    let at = c.in_ok-part.part.at in
    let n = c.args.q - c.args.p in
    c.in_ok-told.ensures.told
    ∙ (ap (λ z. gone_runs (c.sums_to-before.result.shown_len + above (front Below at z)) (front Below n (back Below at z))) c.as_slice.ensures.value
    ∙ (ap (λ j. gone_runs (j + above (front Below at xs)) (front Below n (back Below at xs))) (ap (λ z. z.shown_len) c.sums_to-before.ensures) ∙ gone_told c.in_ok-part.ensures))

pub returns-clause-runs : goal.returns-clause-runs
returns-clause-runs c =
    let xs = c.in_ok-part.part.runs.items in
    let at = c.in_ok-part.part.at in
    let n = c.args.q - c.args.p in
    let same : IsSame c.in_ok-told.after.items (front Below at xs ++ waiting_runs (front Below n (back Below at xs)) ++ back Below n (back Below at xs)) =
    rw (← c.as_slice.ensures.value) c.in_ok-told.ensures.runs in
    rw (c.in_ok-change.ensures.first, c.in_ok-change.ensures.count)
    (removed_change c.in_ok-change.change.made c.in_ok-told.after.items c.in_ok-part.ensures (c.in_ok-change.ensures.made ∙ c.as_slice-2.ensures.value) same)
