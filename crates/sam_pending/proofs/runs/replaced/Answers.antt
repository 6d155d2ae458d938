use Rattle.std.proofs.Common.{◌≡◌, subst, sym, ◌∙◌, ◌++◌, [], ◌∷◌, None}
use Rattle.sam_pending.specs.Runs.{front, back, dying_runs, Within, IsSame}
use Rattle.sam_pending.specs.Layers.{most_kept}
use Rattle.sam_pending.specs.declared.run.Run.TheVariants.{Typed}
use Rattle.sam_pending.specs.declared.run.Side.TheVariants.{Above}
use Rattle.sam_pending.proofs.RunLaws.{within-back}
use Rattle.sam_pending.proofs.runs.replaced.Goals as goal

pub split-requires-2 : goal.split-requires-2
split-requires-2 c =
    subst (Within most_kept) (sym (c.as_slice.ensures.value ∙ c.in_ok-before.ensures.1)) (within-back Above c.args.p c.args.runs.now most_kept c.requires)

pub returns : goal.returns
returns c =
    let xs = c.args.runs.now in
    let p = c.args.p in
    let n = c.args.count in
    let g = c.args.group in
    let items : c.as_slice-4.result.now ≡ front Above p xs ++ Typed c.args.stretch g None ∷ [] ++ dying_runs g (front Above n (back Above p xs)) ++ back Above n (back Above p xs) =
    cc (c.in_ok-before.ensures.0, c.in_ok-before.ensures.1, c.in_ok-middle.ensures.0, c.in_ok-middle.ensures.1, c.in_ok-push.ensures.items, c.in_ok-append_dying.ensures, c.in_ok-extend_from_slice.ensures.items, c.as_slice.ensures.value, c.as_slice-2.ensures.value, c.as_slice-3.ensures.value, c.as_slice-4.ensures.value) in
    subst (IsSame c.in_ok-after.after.items) items c.in_ok-after.ensures
