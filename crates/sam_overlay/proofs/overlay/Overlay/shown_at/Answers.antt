use Rattle.std.proofs.Common.{◌≡◌, Some, arith}
use Rattle.sam_runes.specs.Slots.{slot}
use Rattle.sam_overlay.proofs.CallLaws.{read_over}
use Rattle.sam_overlay.proofs.overlay.Overlay.shown_at.Goals as goal

pub returns-in-Some : goal.returns-in-Some
returns-in-Some c =
    rw (← c.self.view_is)
    (let there : slot c.self.inside.layers c.args.tag ≡ Some c.in-Some.pending.now = grind arith in
    read_over c.self.inside.end.term c.self.inside.layers c.args.tag c.args.place c.in-Some.pending.now c.pending_from.result there c.self.invariant.over
    c.pending_from.ensures)
