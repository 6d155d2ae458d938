use Rattle.sam_rasp.proofs.Common.{◌≡◌, ◌∙◌, ◌++◌, Some, ap, arith, drop, length, map, sym, take}
use Rattle.sam_rasp.specs.Tallies.{tally_of}
use Rattle.sam_rasp.proofs.SectionLaws.{length_replaced}
use Rattle.sam_rasp.proofs.Tallies.{text-after, text-cut, text-put}
use Rattle.sam_rasp.proofs.piece.Block.replace.Goals as goal

pub minus-requires : goal.minus-requires
minus-requires c = (text-cut c.args.self.now.runes.items c.args.self.now.tally c.of-gone.result c.args.p c.args.q (grind arith) (grind arith) (grind arith)).0

pub plus-self-requires : goal.plus-self-requires
plus-self-requires c =
    (text-put c.args.self.now.runes.items c.args.runes.now c.args.self.now.tally c.of-gone.result c.minus.result c.of.result c.args.p c.args.q (grind arith)
    (grind arith) (grind arith) (grind arith) (grind arith) (grind arith) (grind arith)).0

pub returns-clause-tallied : goal.returns-clause-tallied
returns-clause-tallied c =
    let s = c.args.self.now.runes.items in
    let r = c.args.runes.now in
    let sum =
    (text-put s r c.args.self.now.tally c.of-gone.result c.minus.result c.of.result c.args.p c.args.q (grind arith) (grind arith) (grind arith) (grind arith)
    (grind arith) (grind arith) (grind arith)).1 in
    let after = text-after s r c.args.p c.args.q (grind arith) (grind arith) in
    let items : c.remove_runes.new.items.items ≡ take c.args.p s ++ r ++ drop c.args.q s = grind (arith, after) in
    let long = length_replaced s r c.args.p c.args.q (grind arith) (grind arith) in (
      grind (arith, (ap length items), long),
      c.plus-self.ensures ∙ (sum ∙ ap (λ z. tally_of (map Some z)) (sym items)),
    )
