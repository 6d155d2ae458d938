use Rattle.std.proofs.Common.{◌≡◌, ◌∙◌, ◌+◌, false, refl, sym, subst, take, arith}
use Rattle.sam_pending.specs.Blocks.{flat}
use Rattle.sam_pending.specs.Runs.{has_due}
use Rattle.sam_pending.specs.declared.run.Deed.TheVariants.{Inserts}
use Rattle.sam_pending.proofs.MarkLaws.{front_same, is_behind, none_due, taken_small}
use Rattle.sam_pending.proofs.blocks.Blocks.take_first.Goals as goal

pub take_from-at-requires-clause-before : goal.take_from-at-requires-clause-before
take_from-at-requires-clause-before c =
    subst (λ z. has_due (Inserts c.args.up_to) (flat (take c.pass-start.result.0 z)) ≡ false) c.as_slice-blocks.ensures.value (none_due c.pass-start.ensures.passes)

pub mark_one-requires-clause-front : goal.mark_one-requires-clause-front
mark_one-requires-clause-front c =
    rw c.as_slice-2.ensures.value
    (λ n l. front_same c.self.inside.marks.items n c.take_from-at.result c.self.inside.blocks.items c.take_from-at.new.blocks.items (sym c.take_from-at.ensures.before) l c.self.invariant)

pub mark_one-requires-clause-behind : goal.mark_one-requires-clause-behind
mark_one-requires-clause-behind c =
    let end = c.take_from-at.result + 1 in
    rw c.as_slice-2.ensures.value
    (λ n. is_behind c.self.inside.marks.items n end end c.self.inside.blocks.items c.take_from-at.new.blocks.items (sym c.take_from-at.ensures.behind)
    (λ l. omega (arith, l, c.take_from-at.ensures.len)) (omega arith) c.self.invariant)

pub mark_one-requires-clause-fits : goal.mark_one-requires-clause-fits
mark_one-requires-clause-fits c =
    taken_small c.args.up_to c.args.self.now c.as_slice-2.result.now
    (c.as_slice-2.ensures.value ∙ (c.take_from-at.ensures.taken ∙ rw c.self.view_is refl)) c.requires
