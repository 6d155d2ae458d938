use Rattle.std.proofs.Common.{arith}
use Rattle.sam_note.proofs.Fronts.{wide_there}
use Rattle.sam_note.proofs.reading.wide_at.Goals as goal

pub returns-clause-read : goal.returns-clause-read
returns-clause-read c = wide_there c.args.there c.args.at c.args.bytes.now c.wide_of.result (grind arith) (grind arith) (grind (arith, c.wide_of.ensures))
