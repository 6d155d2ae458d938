use Rattle.sam_term.proofs.Common.{arith, refl, rules, ◌≡◌, Err}
use Rattle.sam_term.proofs.Edits.{refused_count}
use Rattle.sam_term.proofs.TypedMade.{behind_count}
use Rattle.sam_term.proofs.term.Terminal.type_behind.Goals as goal

pub returns-in_err-out : goal.returns-in_err-out
returns-in_err-out c =
    let same : c.from_residual.result ≡ Err c.in_err-out.field-0.0 = search rules in
    rw same (refused_count c.args.self.now _ _ (grind (arith, (behind_count c.args.self.now c.args.tag _ c.requires.first))) c.in_err-out.ensures.full, refl)
