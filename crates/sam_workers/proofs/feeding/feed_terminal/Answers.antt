use Rattle.sam_workers.proofs.Feeds.{fed, not_fed}
use Rattle.sam_workers.proofs.feeding.feed_terminal.Goals as goal

pub returns-in-Ok : goal.returns-in-Ok
returns-in-Ok c = fed _ _ _ _ _ _ _ c.in-Ok.given.fault c.in-Ok.given.place _ c.in-Ok.ensures (rw c.stop_for.ensures at c.take_all.ensures)

pub returns-in-Err : goal.returns-in-Err
returns-in-Err c = not_fed _ _ _ _ _ c.in-Err.why _ c.in-Err.ensures c.new.ensures.items c.from.ensures
