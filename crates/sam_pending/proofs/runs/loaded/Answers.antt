use Rattle.std.proofs.Common.{◌≡◌, ap, subst, sym, ◌∙◌, arith}
use Rattle.sam_pending.specs.Runs.{front, back, above, rooms, Within}
use Rattle.sam_pending.specs.Layers.{most_kept}
use Rattle.sam_pending.specs.declared.run.Side.TheVariants.{Below}
use Rattle.sam_pending.proofs.RunLaws.{within-back}
use Rattle.sam_pending.proofs.JoinLaws.{above-split, rooms-split}
use Rattle.sam_pending.proofs.runs.loaded.Goals as goal

pub split-requires-2 : goal.split-requires-2
split-requires-2 c =
    subst (Within most_kept) (sym (c.as_slice.ensures.value ∙ c.in_ok-before.ensures.1)) (within-back Below c.args.p c.args.runs.now most_kept c.requires.within)

pub shown_len-requires : goal.shown_len-requires
shown_len-requires c =
    let f : above c.as_slice-2.result.now ≡ above (front Below c.args.p c.args.runs.now) = ap above (c.as_slice-2.ensures.value ∙ c.in_ok-before.ensures.0) in
    omega (arith, f, above-split Below c.args.p c.args.runs.now, c.requires.shown)

pub overflow_add-start : goal.overflow_add-start
overflow_add-start c =
    let f : c.shown_len.result ≡ above (front Below c.args.p c.args.runs.now) = c.shown_len.ensures ∙ ap above (c.as_slice-2.ensures.value ∙ c.in_ok-before.ensures.0) in
    omega (arith, f, above-split Below c.args.p c.args.runs.now, c.requires.shown)

pub filled-requires-clause-shown : goal.filled-requires-clause-shown
filled-requires-clause-shown c =
    let xs = c.args.runs.now in
    let p = c.args.p in
    let n = c.args.count in
    let f : c.shown_len.result ≡ above (front Below p xs) = c.shown_len.ensures ∙ ap above (c.as_slice-2.ensures.value ∙ c.in_ok-before.ensures.0) in
    let m : above c.as_slice-3.result.now ≡ above (front Below n (back Below p xs)) =
    ap above (c.as_slice-3.ensures.value ∙ (c.in_ok-middle.ensures.0 ∙ ap (front Below n) (c.as_slice.ensures.value ∙ c.in_ok-before.ensures.1))) in
    omega (arith, f, m, above-split Below p xs, above-split Below n (back Below p xs), c.requires.shown)

pub filled-requires-clause-held : goal.filled-requires-clause-held
filled-requires-clause-held c =
    let xs = c.args.runs.now in
    let p = c.args.p in
    let n = c.args.count in
    let m : rooms c.as_slice-3.result.now ≡ rooms (front Below n (back Below p xs)) =
    ap rooms (c.as_slice-3.ensures.value ∙ (c.in_ok-middle.ensures.0 ∙ ap (front Below n) (c.as_slice.ensures.value ∙ c.in_ok-before.ensures.1))) in
    omega (arith, m, rooms-split Below p xs, rooms-split Below n (back Below p xs), c.requires.held)
