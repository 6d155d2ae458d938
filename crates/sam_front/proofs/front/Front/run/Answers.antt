use Rattle.std.proofs.Common.{◌∙◌}
use Rattle.sam_front.proofs.RunningLaws.{found_line}
use Rattle.sam_front.proofs.front.Front.run.Goals as goal

pub returns-in-Ok : goal.returns-in-Ok
returns-in-Ok c =
    found_line c.args.self.now c.run_typed.new.self c.args.tag c.args.line.now c.as_slice.result.now c.run_typed.result c.in_default.ensures.fault
    (c.as_slice.ensures.value ∙ c.in-Ok.ensures.runes) c.run_typed.ensures
