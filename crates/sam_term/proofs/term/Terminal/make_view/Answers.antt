use Rattle.sam_term.proofs.Common.{arith, done, shown_from, View}
use Rattle.sam_term.proofs.Acts.{made_of}
use Rattle.sam_term.proofs.Composes.{sends-sent}
use Rattle.sam_term.proofs.Edits.{later, made-view}
use Rattle.sam_term.proofs.term.Terminal.make_view.Goals as goal

pub returns-in_err-out : goal.returns-in_err-out
unfolding done
returns-in_err-out c =
    let t = shown_from (later c.args.self.now) c.args.tag c.args.p c.args.n in
    let e = View c.args.tag c.args.p c.args.n in
    grind (arith, (made_of c.args.self.now e c.requires.first), (made-view (later c.args.self.now) c.args.tag c.args.p c.args.n c.in-Some.message), (sends-sent t c.in-Some.message))
