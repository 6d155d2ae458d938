use Rattle.sam_rasp.proofs.Common.{arith, length-append}
use Rattle.sam_rasp.proofs.Tallies.{text-sum}
use Rattle.sam_rasp.proofs.piece.Block.append.Goals as goal

pub plus-self-requires : goal.plus-self-requires
plus-self-requires c = (text-sum c.args.self.now.runes.items c.args.more.now c.args.self.now.tally c.of.result (grind arith) (grind arith) (grind arith)).0

pub returns-clause-tallied : goal.returns-clause-tallied
returns-clause-tallied c =
    let s = c.args.self.now.runes.items in
    let sum = (text-sum s c.args.more.now c.args.self.now.tally c.of.result (grind arith) (grind arith) (grind arith)).1 in
    (grind (arith, (length-append s c.args.more.now)), grind (arith, sum))
