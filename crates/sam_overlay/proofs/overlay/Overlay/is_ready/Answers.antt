use Rattle.std.proofs.Common.{arith}
use Rattle.sam_overlay.specs.Calls.{seen}
use Rattle.sam_overlay.proofs.QueueLaws.{ready_else, ready_then}
use Rattle.sam_overlay.proofs.overlay.Overlay.is_ready.Goals as goal

pub returns-then-not-is_left : goal.returns-then-not-is_left
returns-then-not-is_left c =
    rw (← c.self.view_is)
    (ready_then (seen c.self.inside) c.args.tag c.args.group c.is_left.result c.locked.result (c.self.invariant.over c.args.tag) c.is_left.ensures
    (grind (arith, c.locked.ensures, c.term.ensures)) c.if-not-is_left.true)

pub returns-else-not-is_left : goal.returns-else-not-is_left
returns-else-not-is_left c =
    rw (← c.self.view_is)
    (ready_else (seen c.self.inside) c.args.tag c.args.group c.is_left.result (c.self.invariant.over c.args.tag) c.is_left.ensures c.if-not-is_left.false)
