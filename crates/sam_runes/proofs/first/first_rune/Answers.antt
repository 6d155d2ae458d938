use Rattle.sam_runes.proofs.Common.{common_steps, arith}
use Rattle.sam_runes.proofs.FirstRunes.{none_begins}
use Rattle.sam_runes.proofs.first.first_rune.Goals as goal

pub returns-in_default : goal.returns-in_default
returns-in_default c = grind (arith, common_steps, none_begins)

pub returns-then-first-lt192 : goal.returns-then-first-lt192
returns-then-first-lt192 c = none_begins c.args.bytes.now (λ r is b. omega (arith, b.second (omega arith)))
