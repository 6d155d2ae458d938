use Rattle.std.proofs.Common.{◌≡◌, ◌+◌, ◌-◌, ◌∙◌, ap, subst, take, arith}
use Rattle.std.specs.Prelude.{IfOk}
use Rattle.sam_pending.specs.Blocks.{flat}
use Rattle.sam_pending.specs.Layers.{most_kept}
use Rattle.sam_pending.specs.Runs.{above, back, filled_runs, front}
use Rattle.sam_pending.specs.declared.run.Side.TheVariants.{Below}
use Rattle.sam_pending.proofs.FrameLaws.{filled_told}
use Rattle.sam_pending.proofs.LayerLaws.{above-most}
use Rattle.sam_pending.proofs.PartLaws.{part_fits, part_within}
use Rattle.sam_pending.proofs.frames.loaded.Goals as goal

pub sums_to-before-requires-clause-there : goal.sums_to-before-requires-clause-there
sums_to-before-requires-clause-there c = omega (arith, c.in_ok-part.ensures.there)

pub loaded-requires-clause-within : goal.loaded-requires-clause-within
loaded-requires-clause-within c = rw c.as_slice.ensures.value (part_within most_kept c.in_ok-part.ensures c.requires.within)

pub loaded-requires-clause-shown : goal.loaded-requires-clause-shown
loaded-requires-clause-shown c =
    rw c.as_slice.ensures.value
    (omega (arith, (ap (λ z. z.shown_len) c.sums_to-before.ensures), (part_fits c.in_ok-part.ensures).shown, above-most (flat c.args.blocks.now), c.requires.fits))

pub loaded-requires-clause-held : goal.loaded-requires-clause-held
loaded-requires-clause-held c = rw c.as_slice.ensures.value (omega (arith, (part_fits c.in_ok-part.ensures).held, c.requires.fits))

pub returns : goal.returns
returns c =
    let xs = c.in_ok-part.part.runs.items in
    let all = flat c.args.blocks.now in
    let at = c.in_ok-part.part.at in
    let p = c.args.p in
    let n = c.args.count in
    let back_to : p + n - p ≡ n = omega arith in
    let says : filled_runs (c.sums_to-before.result.shown_len + above (front Below at c.as_slice.result.now)) 0 (front Below n (back Below at c.as_slice.result.now))
    ≡ filled_runs (above (front Below p all)) 0 (front Below n (back Below p all)) =
    ap (λ z. filled_runs (c.sums_to-before.result.shown_len + above (front Below at z)) 0 (front Below n (back Below at z))) c.as_slice.ensures.value
    ∙ (ap (λ j. filled_runs (j + above (front Below at xs)) 0 (front Below n (back Below at xs))) (ap (λ z. z.shown_len) c.sums_to-before.ensures)
    ∙ subst (λ j. filled_runs (above (flat (take c.in_ok-part.part.first c.args.blocks.now)) + above (front Below at xs)) 0 (front Below j (back Below at xs))
    ≡ filled_runs (above (front Below p all)) 0 (front Below j (back Below p all))) back_to (filled_told c.in_ok-part.ensures)) in
    subst (λ z. IfOk c.loaded.result (λ told. told.items ≡ z)) says c.loaded.ensures
