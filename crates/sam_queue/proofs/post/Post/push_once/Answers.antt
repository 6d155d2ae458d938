use Rattle.sam_queue.proofs.Common.{◌≡◌, false, refl, ap, ◌∙◌, PostView}
use Rattle.sam_queue.proofs.Steps.{sends}
use Rattle.sam_queue.proofs.post.Post.push_once.Goals as goal

pub try_push_as-requires-clause-rule : goal.try_push_as-requires-clause-rule
try_push_as-requires-clause-rule g c =
    let may : c.self.inside.closed ≡ false = ap (λ (v : PostView g.row.T.Denot). v.closed) c.self.view_is ∙ c.requires in
    rw c.self.invariant.2 (sends _ _ _ _ refl may)
