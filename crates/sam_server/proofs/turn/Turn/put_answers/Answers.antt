use Rattle.std.proofs.Common.{Ok, subst, sym}
use Rattle.sam_server.specs.Turns.{Finished, IsHanded, PlainTurn}
use Rattle.sam_server.specs.contracts.turn.Turn.{the_view}
use Rattle.sam_server.proofs.Turns.{put_told}
use Rattle.sam_server.proofs.turn.Turn.put_answers.Goals as goal

pub returns-in-Ok : goal.returns-in-Ok
returns-in-Ok c =
    let t = the_view c.self.inside in
    subst (λ (x : PlainTurn). Finished x (Ok tt) (record t { server = record t.server { link = c.put.new.self; host = c.consume.new.self } }))
    c.self.view_is
    (put_told t c.put.new.self c.consume.new.self c.pending_bytes.result.now c.pending-count.result
    (subst IsHanded (sym c.self.view_is) c.requires) c.pending_bytes.ensures c.pending-count.ensures c.in-Ok.ensures c.consume.ensures)
