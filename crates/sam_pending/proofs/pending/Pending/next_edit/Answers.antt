use Rattle.std.proofs.Common.{arith, ◌∙◌, sym, length}
use Rattle.sam_pending.specs.Blocks.{flat}
use Rattle.sam_pending.proofs.DueLaws.{due_reach}
use Rattle.sam_pending.proofs.pending.Pending.next_edit.Goals as goal

pub edit_at-requires-clause-within : goal.edit_at-requires-clause-within
edit_at-requires-clause-within c =
    rw c.as_slice.ensures.value
    (due_reach c.next_deed-deed.result (flat c.self.inside.runs) _ 0 c.in-Some.at c.in-Some.run' c.self.invariant.within
    (sym c.first_due.ensures ∙ c.in-Some.is)).0

pub edit_at-requires-clause-fits : goal.edit_at-requires-clause-fits
edit_at-requires-clause-fits c =
    omega (
      arith,
      (due_reach c.next_deed-deed.result (flat c.self.inside.runs) (length c.self.inside.text.items) 0 c.in-Some.at c.in-Some.run' c.self.invariant.within
          (sym c.first_due.ensures ∙ c.in-Some.is)).1,
      c.self.invariant.rasp,
    )
