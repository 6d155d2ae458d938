use Rattle.std.proofs.Common.{arith, subst, sym}
use Rattle.std.specs.Prelude.{Option}
use Rattle.sam_script.specs.declared.line.Said.{Said}
use Rattle.sam_script.specs.Words.{Gives}
use Rattle.sam_script.proofs.LineLaws.{line_steps}
use Rattle.sam_script.proofs.line.read_line.Goals as goal

pub returns-in_default : goal.returns-in_default
returns-in_default c =
    subst (λ (o : Option Said). Gives (λ it. it) c.step_line.result o)
    (sym (line_steps c.args.text.now c.split_word.result.0.now c.split_word.result.1.now (grind arith) c.split_word.ensures.word c.split_word.ensures.rest
    c.in_default.not-file c.in_default.not-add c.in_default.not-k c.in_default.not-m))
    c.step_line.ensures
