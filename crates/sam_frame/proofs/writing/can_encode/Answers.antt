use Rattle.std.proofs.Common.{arith, rules}
use Rattle.sam_frame.proofs.Encoding.{one_fits, all_fit}
use Rattle.sam_frame.proofs.writing.can_encode.Goals as goal

pub loop-message-preserved : goal.loop-message-preserved
loop-message-preserved g c = grind (arith, one_fits)

pub returns-then-not-fits : goal.returns-then-not-fits
returns-then-not-fits g c = grind arith

pub returns : goal.returns
returns g c = search (rules, arith, all_fit)
