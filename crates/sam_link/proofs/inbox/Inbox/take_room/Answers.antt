use Rattle.std.proofs.Common.{◌∙◌, ap}
use Rattle.sam_link.proofs.Inboxes.{nothing_at}
use Rattle.sam_link.proofs.inbox.Inbox.take_room.Goals as goal

pub returns-clause-empty : goal.returns-clause-empty
returns-clause-empty c =
    nothing_at c.replace-room.new.dest.items c.of_row-self-inside.result (ap (λ v. v.items) c.replace-room.ensures.after ∙ c.new-none.ensures.items) c.of_row-self-inside.ensures
