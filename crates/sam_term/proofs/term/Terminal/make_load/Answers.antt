use Rattle.sam_term.proofs.Common.{rules, ◌≡◌, Err, arith, refl, length-append, shown_from, slot-put_same, Load}
use Rattle.sam_term.proofs.Acts.{made_of}
use Rattle.sam_term.proofs.Composes.{flushed-files}
use Rattle.sam_term.proofs.Edits.{later, flushed-messages, refused_count}
use Rattle.sam_term.proofs.Loads.{made_load_some}
use Rattle.sam_term.proofs.term.Terminal.make_load.Goals as goal

pub compose_requests-requires-clause-opened : goal.compose_requests-requires-clause-opened
compose_requests-requires-clause-opened c =
    grind (arith, (flushed-files (shown_from (later c.args.self.now) c.args.tag c.args.p c.args.n)), slot-put_same)

pub returns-in_err-out : goal.returns-in_err-out
returns-in_err-out c =
    let t = c.args.self.now in
    let e = Load c.args.tag c.args.p c.args.n in
    let u = shown_from (later t) c.args.tag c.args.p c.args.n in
    let same : c.from_residual.result ≡ Err c.in_err-out.field-0.0 = search rules in
    rw same (
      refused_count t _ _
          (grind (arith, length-append, (made_of t e c.requires.first), (made_load_some t c.args.tag c.args.p c.args.n), (flushed-messages u))) c.in_err-out.ensures.full,
      refl,
    )
