use Rattle.sam_queue.proofs.Common.{◌++◌, map, sym, ap, ◌∙◌, length-map, into_iter_items, view, PostView, sent_of}
use Rattle.sam_queue.proofs.Drains.{bare_gathers, of_next}
use Rattle.sam_queue.proofs.auditing.gather.Goals as goal

pub absorb-requires-clause-rule : goal.absorb-requires-clause-rule
absorb-requires-clause-rule g c =
    let T : Type 0 = g.row.T.Denot in
    let inv = c.loop-post.invariant in
    let before = c.loop-post.yielded in
    let step = c.in-Some.ensures.steps in
    let split = (λ k. before ++ sym step.0 k) ∙ inv.all in
    let next = of_next c.args.line.now c.args.posts.items before (into_iter_items c.next.new.self) c.in-Some.post c.requires.posts split in
    let number = ap (λ (p : PostView T). p.number) c.post.view_is ∙ next.1 ∙ sym (length-map before (λ (p : PostView T). sent_of p)) in
    rw (inv.knows, c.post.invariant.2) (bare_gathers c.args.line.now.senders _ (view c.args.pass.now) (map sent_of before) _ _ c.requires.knows number)
