use Rattle.std.proofs.Common.{◌∙◌, ap, inr, subst, Err}
use Rattle.sam_front.specs.Fronts.{Says, task_message, with_tasks}
use Rattle.sam_front.specs.Tasks.{taken_back}
use Rattle.sam_front.proofs.FrontLaws.{back_more, says_keep}
use Rattle.sam_front.proofs.front.Front.begin.Goals as goal

pub returns-in-Err-say : goal.returns-in-Err-say
returns-in-Err-say c =
    let f = c.args.self.now in
    let m = task_message c.kind.result c.in-Ok.number c.args.tag c.args.path.now in
    let kept = says_keep (with_tasks f c.begin.new.self) m c.args.now c.in-Err-say.why c.say.new.self c.in-Err-say.ensures in
    inr (
      c.in-Ok.number,
      c.begin.new.self,
      c.say.new.self,
      c.in-Ok.ensures,
      subst (λ k. Says (with_tasks f c.begin.new.self) (task_message k c.in-Ok.number c.args.tag c.args.path.now) c.args.now (Err c.in-Err-say.why) c.say.new.self) c.kind.ensures c.in-Err-say.ensures,
      ap (with_tasks c.say.new.self) (c.take_back.ensures ∙ ap taken_back (kept ∙ c.in-Ok.ensures.3) ∙ back_more f.tasks),
    )
