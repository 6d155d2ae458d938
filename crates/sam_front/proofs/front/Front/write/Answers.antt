use Rattle.std.proofs.Common.{◌∙◌, ◌-◌, ◌^◌, ap}
use Rattle.std.specs.Prelude.{◌==◌}
use Rattle.sam_term.specs.declared.event.UserEvent.TheVariants as event
use Rattle.sam_front.specs.Fronts.{with_tasks}
use Rattle.sam_front.specs.Tasks.{taken_back}
use Rattle.sam_front.proofs.FrontLaws.{asks_keep, back_more}
use Rattle.sam_front.proofs.front.Front.write.Goals as goal

pub returns-in-Err-ask : goal.returns-in-Err-ask
returns-in-Err-ask c =
    let f = c.args.self.now in
    let kept = asks_keep (f.numbers.taken == 2 ^ 64 - 1) (with_tasks f c.begin.new.self) (event.Write c.args.tag) c.in-Err-ask.why c.ask.new.self c.in-Err-ask.ensures in (
      c.in_default.field-0,
      c.begin.new.self,
      c.ask.new.self,
      c.in_default.ensures,
      c.in-Err-ask.ensures,
      ap (with_tasks c.ask.new.self) (c.take_back.ensures ∙ ap taken_back (kept ∙ c.in_default.ensures.3) ∙ back_more f.tasks),
    )
