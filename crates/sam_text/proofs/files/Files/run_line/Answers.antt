use Rattle.std.proofs.Common.{arith}
use Rattle.sam_text.proofs.OutcomeLaws.{meaning_puts}
use Rattle.sam_text.proofs.files.Files.run_line.Goals as goal

pub returns-clause-fits : goal.returns-clause-fits
returns-clause-fits c = grind (arith, (meaning_puts c.args.self.now.plain c.args.line.now c.facts.ensures))
