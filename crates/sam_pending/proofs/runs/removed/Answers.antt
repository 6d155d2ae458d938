use Rattle.std.proofs.Common.{◌≡◌, ap, subst, sym, ◌∙◌, ◌++◌, arith}
use Rattle.sam_pending.specs.Runs.{front, back, above, waiting_runs, Within, IsSame}
use Rattle.sam_pending.specs.Layers.{most_kept}
use Rattle.sam_pending.specs.declared.run.Side.TheVariants.{Below}
use Rattle.sam_pending.proofs.RunLaws.{within-back}
use Rattle.sam_pending.proofs.JoinLaws.{above-split}
use Rattle.sam_pending.proofs.runs.removed.Goals as goal

pub split-requires-2 : goal.split-requires-2
split-requires-2 c =
    subst (Within most_kept) (sym (c.as_slice.ensures.value ∙ c.in_ok-before.ensures.1)) (within-back Below c.args.p c.args.runs.now most_kept c.requires.within)

pub shown_len-requires : goal.shown_len-requires
shown_len-requires c =
    let f : above c.as_slice-2.result.now ≡ above (front Below c.args.p c.args.runs.now) = ap above (c.as_slice-2.ensures.value ∙ c.in_ok-before.ensures.0) in
    omega (arith, f, above-split Below c.args.p c.args.runs.now, c.requires.shown)

pub overflow_add-start : goal.overflow_add-start
overflow_add-start c =
    let f : c.shown_len.result ≡ above (front Below c.args.p c.args.runs.now) = c.shown_len.ensures ∙ ap above (c.as_slice-2.ensures.value ∙ c.in_ok-before.ensures.0) in
    omega (arith, f, above-split Below c.args.p c.args.runs.now, c.requires.shown)

pub gone-requires : goal.gone-requires
gone-requires c =
    let xs = c.args.runs.now in
    let p = c.args.p in
    let n = c.args.count in
    let f : c.shown_len.result ≡ above (front Below p xs) = c.shown_len.ensures ∙ ap above (c.as_slice-2.ensures.value ∙ c.in_ok-before.ensures.0) in
    let m : above c.as_slice-3.result.now ≡ above (front Below n (back Below p xs)) =
    ap above (c.as_slice-3.ensures.value ∙ (c.in_ok-middle.ensures.0 ∙ ap (front Below n) (c.as_slice.ensures.value ∙ c.in_ok-before.ensures.1))) in
    omega (arith, f, m, above-split Below p xs, above-split Below n (back Below p xs), c.requires.shown)

pub returns-clause-runs : goal.returns-clause-runs
returns-clause-runs c =
    let xs = c.args.runs.now in
    let p = c.args.p in
    let n = c.args.count in
    let rest = back Below p xs in
    let items : c.as_slice-7.result.now ≡ front Below p xs ++ waiting_runs (front Below n rest) ++ back Below n rest =
    cc (c.in_ok-before.ensures.0, c.in_ok-before.ensures.1, c.in_ok-middle.ensures.0, c.in_ok-middle.ensures.1, c.in_ok-kept.ensures, c.in_ok-extend_from_slice.ensures.items, c.in_ok-extend_from_slice-2.ensures.items, c.as_slice.ensures.value, c.as_slice-4.ensures.value, c.as_slice-5.ensures.value, c.as_slice-6.ensures.value, c.as_slice-7.ensures.value) in
    subst (IsSame c.in_ok-after.after.items) items c.in_ok-after.ensures
