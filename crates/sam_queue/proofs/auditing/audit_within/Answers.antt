use Rattle.sam_queue.proofs.Common.{ap, ◌∙◌, arith, LineSizes, TakeView}
use Rattle.sam_queue.proofs.Accounts.{drained_of, within_left, accounted, nothing_left, has_history}
use Rattle.sam_queue.proofs.auditing.audit_within.Goals as goal

pub sort_out-requires-clause-room : goal.sort_out-requires-clause-room
sort_out-requires-clause-room g c = λ k v is.
    let r = c.room.invariant.3 k v is in
    let capacity = ap (λ (s : LineSizes). s.capacity) (c.room.view_is ∙ c.requires.room) in
    let line = ap (λ (t : TakeView g.row.T.Denot). t.line.capacity) c.take.view_is in
    (r.0, omega (arith, r.1, c.drain-entries.ensures.few, capacity, line))

pub sort_out-requires-clause-senders : goal.sort_out-requires-clause-senders
sort_out-requires-clause-senders g c =
    let entries = c.drain-entries.result.items in
    let drained = drained_of _ c.args.take c.args.posts.items entries _ _ c.take.invariant.2 c.take.view_is c.gather.ensures.knows c.drain-entries.ensures.all in
    within_left c.args.take.taken entries (c.room.invariant.2 ∙ ap (λ (s : LineSizes). s.senders) (c.room.view_is ∙ c.requires.room)) drained.1

pub returns-clause-left : goal.returns-clause-left
returns-clause-left g c =
    let entries = c.drain-entries.result.items in
    let drained = drained_of _ c.args.take c.args.posts.items entries _ _ c.take.invariant.2 c.take.view_is c.gather.ensures.knows c.drain-entries.ensures.all in
    accounted c.args.take c.args.posts.items entries c.sort_out.new.left.items c.requires.posts drained
    (c.sort_out.ensures.many ∙ c.room.invariant.2 ∙ ap (λ (s : LineSizes). s.senders) (c.room.view_is ∙ c.requires.room)) c.sort_out.ensures.sorted

pub returns-clause-ended : goal.returns-clause-ended
returns-clause-ended g c = nothing_left c.args.take c.args.posts.items c.sort_out.new.left.items c.requires.posts (returns-clause-left g c)

pub returns-clause-history : goal.returns-clause-history
returns-clause-history g c =
    let entries = c.drain-entries.result.items in
    let drained = drained_of _ c.args.take c.args.posts.items entries _ _ c.take.invariant.2 c.take.view_is c.gather.ensures.knows c.drain-entries.ensures.all in
    let capacity = ap (λ (t : TakeView g.row.T.Denot). t.line.capacity) c.take.view_is in
    has_history c.args.take c.args.posts.items entries c.sort_out.new.left.items drained (omega (arith, c.drain-entries.ensures.few, capacity)) c.sort_out.ensures.sorted
