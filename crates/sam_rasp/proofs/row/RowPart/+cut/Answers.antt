use Rattle.sam_rasp.proofs.Common.{arith, del, refl, ◌+◌, ◌-◌}
use Rattle.sam_rasp.proofs.Changes.{del-twice, length-del}
use Rattle.sam_rasp.proofs.Tallies.{cut-tally}
use Rattle.sam_rasp.proofs.row.RowPart.+cut.Goals as goal

pub returns : goal.returns
returns g t c =
    let count = c.min-count.result in
    grind (arith, (del-twice c.args.self.now c.args.p count (c.args.n - count) c.args.n))

pub minus-self-inside-requires : goal.minus-self-inside-requires
minus-self-inside-requires g t c =
    let r = c.args.self.now in
    let q = c.args.p + c.min-count.result in
    (cut-tally r (del r c.args.p q) c.self.inside.tally c.take_out-went.result c.args.p q (grind arith) (grind arith) refl (omega arith)).0

pub invariant_of-self : goal.invariant_of-self
invariant_of-self g t c =
    let r = c.args.self.now in
    let q = c.args.p + c.min-count.result in
    let cut = cut-tally r (del r c.args.p q) c.self.inside.tally c.take_out-went.result c.args.p q (grind arith) (grind arith) refl (omega arith) in
    grind (arith, cut, (length-del r c.args.p q))

pub invariant_of-self-then-at-eq0 : goal.invariant_of-self-then-at-eq0
invariant_of-self-then-at-eq0 g t c =
    let r = c.args.self.now in
    let q = c.args.p + c.min-count.result in
    let cut = cut-tally r (del r c.args.p q) c.self.inside.tally c.take_out-went.result c.args.p q (grind arith) (grind arith) refl (omega arith) in
    grind (arith, cut, (length-del r c.args.p q))
