use Rattle.sam_script.proofs.LineLaws.{said_ok, said_wrong}
use Rattle.sam_script.proofs.line.said_by.Goals as goal

pub returns-in-Ok-clause-ok : goal.returns-in-Ok-clause-ok
returns-in-Ok-clause-ok c = said_ok c.read_line.result c.in-Ok.text.now c.args.bytes.now c.in-Ok.ensures.cases c.read_line.ensures

pub returns-in-Ok-clause-wrong : goal.returns-in-Ok-clause-wrong
returns-in-Ok-clause-wrong c = said_wrong c.read_line.result c.in-Ok.text.now c.args.bytes.now c.in-Ok.ensures.cases c.read_line.ensures
