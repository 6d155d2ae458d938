use Rattle.std.proofs.Common.{subst, ◌++◌, ◌+◌, ◌∷◌, drop, None, slice_index_or}
use Rattle.std.proofs.lemmas.List.{drop_more}
use Rattle.sam_pending.specs.Runs.{IsSame}
use Rattle.sam_pending.proofs.JoinLaws.{join_goes, join_stays}
use Rattle.sam_pending.specs.declared.run.Run.TheVariants.{Held}
use Rattle.sam_pending.proofs.runs.joined.Goals as goal
use Rattle.sam_pending.proofs.runs.joined.Goals.{in-Some, in-None+in_ok-push-in-None}

pub loop-run-preserved : goal.loop-run-preserved
loop-run-preserved c =
    let xs = c.args.runs.now in
    let i = c.loop-run.run-index in
    let run = slice_index_or xs i (Held 0 None) in
    let rest = drop (i + 1) xs in
    let whole : IsSame (c.loop-run.after.items ++ c.loop-run.last ∷ run ∷ rest) xs =
    subst (λ z. IsSame (c.loop-run.after.items ++ c.loop-run.last ∷ z) xs) (drop_more xs i (Held 0 None) c.loop-run-test.true) c.loop-run.invariant in
    elim c.match-joined.branch [
      | in-Some w ↦
          rw (w.last-is, w.after-is) (join_goes c.loop-run.after.items rest xs w.in-Some.one c.loop-run.last run w.in-Some.ensures whole)
      | in-None+in_ok-push-in-None w ↦
          rw (w.last-is, w.after-is, w.in_ok-push-in-None.ensures.items) (join_stays c.loop-run.after.items rest xs c.loop-run.last run whole)
    ]
