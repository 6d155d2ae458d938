use Rattle.sam_link.proofs.Inboxes.{nothing_at}
use Rattle.sam_link.proofs.inbox.Inbox.new.Goals as goal

pub returns : goal.returns
returns c = nothing_at c.new.result.items c.of_row.result c.new.ensures.items c.of_row.ensures
