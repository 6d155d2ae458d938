use Rattle.sam_runes.proofs.Common.{arith, cases_lt}
use Rattle.sam_runes.proofs.PlaceSteps.{begins-Decides}
use Rattle.sam_runes.proofs.places.first_between.Goals as goal

pub returns-then-stands_at : goal.returns-then-stands_at
returns-then-stands_at c = grind (arith, begins-Decides)

pub loop-place-preserved : goal.loop-place-preserved
loop-place-preserved c = grind (arith, begins-Decides, cases_lt)
