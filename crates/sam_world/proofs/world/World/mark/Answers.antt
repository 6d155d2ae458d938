use Rattle.sam_world.proofs.Common.{ap, sym, arith, ◌∙◌, ◌++◌}
use Rattle.sam_host.specs.Marking.{mark_frames}
use Rattle.sam_world.proofs.Keeping.{kept_marked}
use Rattle.sam_world.proofs.world.World.mark.Goals as goal

pub invariant_of-self-in-Ok : goal.invariant_of-self-in-Ok
invariant_of-self-in-Ok c =
    kept_marked _ c.args.tag c.mark_dirty.new.self c.in_ok-frames.frames.items c.join.new.self.messages c.self.invariant (grind (arith, c.may_mark.ensures, c.if-not-may_mark.false))
    c.in-Ok.ensures.2 (c.in_ok-frames.ensures.frames ∙ ap (λ w. mark_frames w.host c.args.tag) (sym c.self.view_is)) (c.join.ensures ∙ ap (λ x. x ++ c.in_ok-frames.frames.items) c.reserve.ensures.messages)
