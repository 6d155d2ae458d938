use Rattle.std.proofs.Common.{Ok, Err, inl, refl, ap, arith}
use Rattle.sam_front.specs.Fronts.{with_runs}
use Rattle.sam_front.proofs.RunningLaws.{asked_line}
use Rattle.sam_front.proofs.front.Front.run_typed.Goals as goal

pub returns-in-Ok : goal.returns-in-Ok
returns-in-Ok c =
    inl (
      Ok c.in-Ok.request,
      c.ask_line.new.self,
      asked_line c.args.self.now c.ask_line.new.self c.args.tag c.args.typed.now c.begin.new.self c.to_empty-emptied.result c.begin.result
          (Ok c.in-Ok.request) (grind (arith, c.if-is_err.false, c.is_err.ensures)) c.begin.ensures.ok c.to_empty-emptied.ensures c.in-Ok.ensures,
      (refl, ap (with_runs c.ask_line.new.self) c.number.ensures),
    )

pub returns-in-Err : goal.returns-in-Err
returns-in-Err c =
    inl (
      Err c.in-Err.why,
      c.ask_line.new.self,
      asked_line c.args.self.now c.ask_line.new.self c.args.tag c.args.typed.now c.begin.new.self c.to_empty-emptied.result c.begin.result
          (Err c.in-Err.why) (grind (arith, c.if-is_err.false, c.is_err.ensures)) c.begin.ensures.ok c.to_empty-emptied.ensures c.in-Err.ensures,
      (refl, ap (with_runs c.ask_line.new.self) c.take_back.ensures),
    )
