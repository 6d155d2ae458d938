use Rattle.std.proofs.Common.{◌≡◌, ap, sym, ◌∙◌, Some, None}
use Rattle.sam_pending.specs.Blocks.{flat}
use Rattle.sam_pending.specs.Runs.{spot}
use Rattle.sam_pending.specs.Layers.{rasp_length}
use Rattle.sam_pending.proofs.LayerLaws.{within-kept, shown_none, shown_there, shown_reach}
use Rattle.sam_pending.proofs.pending.Pending.shown_at.Goals as goal

pub shown_run-requires-clause-within : goal.shown_run-requires-clause-within
shown_run-requires-clause-within c = within-kept c.self.inside.text.items c.self.inside.runs c.self.invariant

pub returns-in_err-run : goal.returns-in_err-run
returns-in_err-run c =
    let e : spot c.args.place 0 (flat c.self.inside.runs) ≡ None = sym c.shown_run.ensures ∙ c.in_err-run.was in
    rw (c.from_residual.ensures, ← c.self.view_is) (shown_none c.self.inside.text.items c.self.inside.runs c.args.place c.self.invariant e)

pub part_of-requires-clause-within : goal.part_of-requires-clause-within
part_of-requires-clause-within c =
    let e : spot c.args.place 0 (flat c.self.inside.runs) ≡ Some (c.in_ok-run.run', c.in_ok-run.at) =
    sym c.shown_run.ensures ∙ c.in_ok-run.was in
    rw c.as_slice.ensures.value (shown_reach c.self.inside.text.items c.self.inside.runs c.args.place c.in_ok-run.at c.in_ok-run.run' c.self.invariant e)

pub returns : goal.returns
returns c = λ r o.
    let e : spot c.args.place 0 (flat c.self.inside.runs) ≡ Some (c.in_ok-run.run', c.in_ok-run.at) =
    sym c.shown_run.ensures ∙ c.in_ok-run.was in
    rw (c.part_of.ensures r, c.as_slice.ensures.value, ← c.self.view_is)
    (shown_there c.self.inside.text.items c.self.inside.runs c.args.place c.in_ok-run.at c.in_ok-run.run' r c.self.invariant e (ap rasp_length c.self.view_is ∙ o))
