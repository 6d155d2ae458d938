use Rattle.sam_modes.proofs.Common.{arith, first_value-rows}
use Rattle.sam_modes.proofs.words.text_in.Goals as goal

pub returns-clause-value : goal.returns-clause-value
returns-clause-value c = grind (arith, first_value-rows)
