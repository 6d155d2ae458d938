use Rattle.sam_server.proofs.Turns.{finish_told}
use Rattle.sam_server.proofs.turn.Turn.finish.Goals as goal

pub returns : goal.returns
returns c =
    finish_told c.args.self.now c.loop.self c.hand_next.new.self c.put_answers.new.self c.in_ok-hand_next.field-0 c.put_answers.result
    c.loop.invariant c.if-branch.false c.in_ok-hand_next.ensures c.put_answers.ensures
