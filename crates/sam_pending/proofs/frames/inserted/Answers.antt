use Rattle.std.proofs.Common.{◌≡◌, ◌++◌, ◌∷◌, [], None, ◌∙◌, ap, arith}
use Rattle.sam_pending.specs.Blocks.{flat}
use Rattle.sam_pending.specs.Layers.{most_kept}
use Rattle.sam_pending.specs.Runs.{above, back, front, IsSame}
use Rattle.sam_pending.specs.declared.run.Run.TheVariants.{Held}
use Rattle.sam_pending.specs.declared.run.Side.TheVariants.{Below}
use Rattle.sam_pending.proofs.FrameLaws.{inserted_change, inserted_fits}
use Rattle.sam_pending.proofs.JoinLaws.{above-split}
use Rattle.sam_pending.proofs.LayerLaws.{above-most}
use Rattle.sam_pending.proofs.PartLaws.{part_fits, part_says, part_within}
use Rattle.sam_pending.proofs.frames.inserted.Goals as goal

pub sums_to-before-requires-clause-there : goal.sums_to-before-requires-clause-there
sums_to-before-requires-clause-there c = omega (arith, c.in_ok-part.ensures.there)

pub inserted-requires-clause-within : goal.inserted-requires-clause-within
inserted-requires-clause-within c = rw c.as_slice.ensures.value (part_within most_kept c.in_ok-part.ensures c.requires.within)

pub inserted-requires-clause-shown : goal.inserted-requires-clause-shown
inserted-requires-clause-shown c =
    rw c.as_slice.ensures.value (omega (arith, (part_fits c.in_ok-part.ensures).shown, above-most (flat c.args.blocks.now), c.requires.fits))

pub prepared-requires-clause-fits : goal.prepared-requires-clause-fits
prepared-requires-clause-fits c =
    let xs = c.in_ok-part.part.runs.items in
    let at = c.in_ok-part.part.at in
    let same : IsSame c.in_ok-place.after.items (front Below at xs ++ Held c.args.count None ∷ [] ++ back Below at xs) =
    rw (← c.as_slice.ensures.value) c.in_ok-place.ensures.runs in
    rw c.as_slice-2.ensures.value
    (omega (arith, inserted_fits at c.args.count xs c.in_ok-place.after.items same, (part_fits c.in_ok-part.ensures).all, c.requires.fits))

pub overflow_add-result : goal.overflow_add-result
overflow_add-result c =
    let xs = c.in_ok-part.part.runs.items in
    let at = c.in_ok-part.part.at in
    let place : c.in_ok-place.place ≡ above (front Below at xs) = c.in_ok-place.ensures.place ∙ ap (λ z. above (front Below at z)) c.as_slice.ensures.value in
    omega (
      arith,
      (ap (λ z. z.shown_len) c.sums_to-before.ensures),
      place,
      above-split Below at xs,
      (part_fits c.in_ok-part.ensures).shown,
      above-most (flat c.args.blocks.now),
      c.requires.fits,
    )

pub returns-clause-place : goal.returns-clause-place
returns-clause-place c =
    let xs = c.in_ok-part.part.runs.items in
    let at = c.in_ok-part.part.at in
    let place : c.in_ok-place.place ≡ above (front Below at xs) = c.in_ok-place.ensures.place ∙ ap (λ z. above (front Below at z)) c.as_slice.ensures.value in
    omega (arith, (ap (λ z. z.shown_len) c.sums_to-before.ensures), place, (part_says c.in_ok-part.ensures).shown)

pub returns-clause-runs : goal.returns-clause-runs
returns-clause-runs c =
    let xs = c.in_ok-part.part.runs.items in
    let at = c.in_ok-part.part.at in
    let same : IsSame c.in_ok-place.after.items (front Below at xs ++ Held c.args.count None ∷ [] ++ back Below at xs) =
    rw (← c.as_slice.ensures.value) c.in_ok-place.ensures.runs in
    rw (c.in_ok-change.ensures.first, c.in_ok-change.ensures.count)
    (inserted_change c.args.count c.in_ok-change.change.made c.in_ok-place.after.items c.in_ok-part.ensures (c.in_ok-change.ensures.made ∙ c.as_slice-2.ensures.value) same)
