use Rattle.std.proofs.Common.{◌<◌, ◌∷◌, ◌+◌, arith, length, ◌∙◌, ap, sym, drop}
use Rattle.std.proofs.lemmas.List.{drop_more}
use Rattle.sam_pending.specs.Runs.{taken_first}
use Rattle.sam_pending.proofs.DropLaws.{taken_at}
use Rattle.sam_pending.proofs.due.take_first.Goals as goal

pub returns-then-is_due : goal.returns-then-is_due
returns-then-is_due c =
    let xs = c.loop-at.runs.items in
    let i = c.loop-at.at in
    let x = c.index.result.now in
    let within : i < length xs = omega (arith, c.loop-at-test.true, c.len-at-end.ensures, ap length c.loop-at.invariant.0) in
    taken_at c.args.up_to xs i x within (drop_more xs i x within ∙ ap (λ y. y ∷ drop (i + 1) xs) (sym c.index.ensures)) (sym c.if-is_due.ensures) c.loop-at.invariant.1
    ∙ ap (taken_first c.args.up_to) c.loop-at.invariant.0
