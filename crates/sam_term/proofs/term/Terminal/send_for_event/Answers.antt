use Rattle.sam_term.proofs.Common.{ap, ◌∙◌, [], ◌∷◌, drop, sends, unchanged, done}
use Rattle.sam_term.proofs.Edits.{held-sends, sends-held, done_later}
use Rattle.sam_term.proofs.term.Terminal.send_for_event.Goals as goal

pub returns : goal.returns
returns c =
    let t = c.args.self.now in
    let m = c.args.message in
    ap done (held-sends t m (drop 1 t.held)) ∙ done_later t (sends t unchanged (m ∷ [])) _ _ _ (sends-held t m) c.in_ok-batch.ensures c.drop_first.ensures
