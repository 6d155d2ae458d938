use Rattle.sam_overlay.proofs.CallLaws.{brought_told}
use Rattle.sam_overlay.proofs.RequestLaws.{brought_texts}
use Rattle.sam_overlay.proofs.overlay.Overlay.step.Goals as goal

pub returns-in_ok-step-in-Some-putting-clause-told : goal.returns-in_ok-step-in-Some-putting-clause-told
returns-in_ok-step-in-Some-putting-clause-told c =
    rw (← c.self.view_is)
    (λ f.
    brought_told c.self.inside.end c.step_edit.new.end c.self.inside.layers c.step_edit.new.layers c.self.inside.limit c.in-Some-putting.tag
    c.in_ok-step-in-Some-putting.step c.quiet.result f c.in_ok-step-in-Some-putting.ensures.brought c.quiet.ensures)

pub returns-in_ok-step-in-Some-putting-clause-texts : goal.returns-in_ok-step-in-Some-putting-clause-texts
returns-in_ok-step-in-Some-putting-clause-texts c =
    rw (← c.self.view_is)
    (λ f g h k put limit up.
    brought_texts c.self.inside.end c.step_edit.new.end c.self.inside.layers c.step_edit.new.layers c.self.inside.limit c.in-Some-putting.tag g h k
    c.in_ok-step-in-Some-putting.ensures.brought limit up)
