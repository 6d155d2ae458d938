use Rattle.sam_rasp.proofs.Common.{arith, drop, length-append, length-drop, length-take, take}
use Rattle.sam_rasp.proofs.Tallies.{text-cut}
use Rattle.sam_rasp.proofs.piece.Block.cut.Goals as goal

pub minus-self-requires : goal.minus-self-requires
minus-self-requires c = (text-cut c.args.self.now.runes.items c.args.self.now.tally c.of-gone.result c.args.p c.args.q (grind arith) (grind arith) (grind arith)).0

pub returns-clause-tallied : goal.returns-clause-tallied
returns-clause-tallied c =
    let s = c.args.self.now.runes.items in
    let left = (text-cut s c.args.self.now.tally c.of-gone.result c.args.p c.args.q (grind arith) (grind arith) (grind arith)).1 in (
      grind (arith, (length-append (take c.args.p s) (drop c.args.q s)), (length-take c.args.p s), (length-drop c.args.q s)),
      grind (arith, left),
    )
