use Rattle.std.proofs.Common.{◌-◌, ◌++◌, ◌∷◌, [], None, ◌∙◌, arith}
use Rattle.sam_pending.specs.Blocks.{changed, flat}
use Rattle.sam_pending.specs.Layers.{most_kept}
use Rattle.sam_pending.specs.Runs.{back, dying_runs, front, IsSame}
use Rattle.sam_pending.specs.declared.run.Run.TheVariants.{Typed}
use Rattle.sam_pending.specs.declared.run.Side.TheVariants.{Above}
use Rattle.sam_pending.proofs.FrameLaws.{replaced_change, replaced_fits}
use Rattle.sam_pending.proofs.PartLaws.{part_fits, part_within}
use Rattle.sam_pending.proofs.blocks.replace.Goals as goal

pub replaced-requires : goal.replaced-requires
replaced-requires c = rw c.as_slice-runs.ensures.value (part_within most_kept c.in_ok-part.ensures c.requires.within)

pub prepared-requires-clause-fits : goal.prepared-requires-clause-fits
prepared-requires-clause-fits c =
    let part = c.in_ok-part.part in
    let xs = part.runs.items in
    let n = c.args.q - c.args.p in
    let g = c.args.group in
    let t = c.args.stretch in
    let same : IsSame c.in_ok-after.after.items (front Above part.at xs ++ Typed t g None ∷ [] ++ dying_runs g (front Above n (back Above part.at xs)) ++ back Above n (back Above part.at xs)) =
    rw (← c.as_slice-runs.ensures.value) c.in_ok-after.ensures in
    rw c.as_slice.ensures.value (omega (arith, replaced_fits g part.at n t xs c.in_ok-after.after.items same, (part_fits c.in_ok-part.ensures).all, c.requires.fits))

pub take_on-requires-clause-fits : goal.take_on-requires-clause-fits
take_on-requires-clause-fits c =
    let part = c.in_ok-part.part in
    let xs = part.runs.items in
    let n = c.args.q - c.args.p in
    let g = c.args.group in
    let t = c.args.stretch in
    let all = flat c.args.blocks.now in
    let same : IsSame c.in_ok-after.after.items (front Above part.at xs ++ Typed t g None ∷ [] ++ dying_runs g (front Above n (back Above part.at xs)) ++ back Above n (back Above part.at xs)) =
    rw (← c.as_slice-runs.ensures.value) c.in_ok-after.ensures in
    let whole : IsSame (flat (changed c.in_ok-change.change c.args.blocks.now)) (front Above c.args.p all ++ Typed t g None ∷ [] ++ dying_runs g (front Above n (back Above c.args.p all)) ++ back Above n (back Above c.args.p all)) =
    rw (c.in_ok-change.ensures.first, c.in_ok-change.ensures.count)
    (replaced_change g t c.in_ok-change.change.made c.in_ok-after.after.items c.in_ok-part.ensures (c.in_ok-change.ensures.made ∙ c.as_slice.ensures.value) same) in
    omega (arith, replaced_fits g c.args.p n t all (flat (changed c.in_ok-change.change c.args.blocks.now)) whole, c.requires.fits)

pub returns-clause-ok : goal.returns-clause-ok
returns-clause-ok c =
    let part = c.in_ok-part.part in
    let xs = part.runs.items in
    let n = c.args.q - c.args.p in
    let g = c.args.group in
    let t = c.args.stretch in
    let same : IsSame c.in_ok-after.after.items (front Above part.at xs ++ Typed t g None ∷ [] ++ dying_runs g (front Above n (back Above part.at xs)) ++ back Above n (back Above part.at xs)) =
    rw (← c.as_slice-runs.ensures.value) c.in_ok-after.ensures in
    rw (c.take_on.ensures, c.in_ok-change.ensures.first, c.in_ok-change.ensures.count)
    (replaced_change g t c.in_ok-change.change.made c.in_ok-after.after.items c.in_ok-part.ensures (c.in_ok-change.ensures.made ∙ c.as_slice.ensures.value) same)
