use Rattle.std.proofs.Common.{◌≡◌, ◌∙◌, ◌+◌, false, refl, sym, subst, take, arith}
use Rattle.sam_pending.specs.Blocks.{flat}
use Rattle.sam_pending.specs.Runs.{has_due}
use Rattle.sam_pending.proofs.MarkLaws.{front_same, is_behind, made_small, none_due}
use Rattle.sam_pending.proofs.blocks.Blocks.make_first.Goals as goal

pub make_from-at-requires-clause-before : goal.make_from-at-requires-clause-before
make_from-at-requires-clause-before c =
    subst (λ z. has_due c.args.deed (flat (take c.pass-start.result.0 z)) ≡ false) c.as_slice-blocks.ensures.value (none_due c.pass-start.ensures.passes)

pub mark_one-requires-clause-front : goal.mark_one-requires-clause-front
mark_one-requires-clause-front c =
    rw c.as_slice-2.ensures.value
    (λ n l. front_same c.self.inside.marks.items n c.make_from-at.result c.self.inside.blocks.items c.make_from-at.new.blocks.items (sym c.make_from-at.ensures.before) l c.self.invariant)

pub mark_one-requires-clause-behind : goal.mark_one-requires-clause-behind
mark_one-requires-clause-behind c =
    let end = c.make_from-at.result + 1 in
    rw c.as_slice-2.ensures.value
    (λ n. is_behind c.self.inside.marks.items n end end c.self.inside.blocks.items c.make_from-at.new.blocks.items (sym c.make_from-at.ensures.behind)
    (λ l. omega (arith, l, c.make_from-at.ensures.len)) (omega arith) c.self.invariant)

pub mark_one-requires-clause-fits : goal.mark_one-requires-clause-fits
mark_one-requires-clause-fits c =
    made_small c.args.deed c.args.self.now c.as_slice-2.result.now
    (c.as_slice-2.ensures.value ∙ (c.make_from-at.ensures.made ∙ rw c.self.view_is refl)) c.requires
