use Rattle.sam_rasp.proofs.Common.{arith, del, refl, ◌+◌}
use Rattle.sam_rasp.specs.Rasp.{put_cells}
use Rattle.sam_rasp.specs.Rows.{incoming_cells}
use Rattle.sam_rasp.proofs.Changes.{length-put}
use Rattle.sam_rasp.proofs.Tallies.{cut-tally, put-fits}
use Rattle.sam_rasp.proofs.row.Row.put.Goals as goal

pub minus-requires : goal.minus-requires
minus-requires g c =
    let r = c.args.self.now in
    let q = c.args.p + c.args.n in
    (cut-tally r (del r c.args.p q) c.self.inside.tally c.in-Some.went c.args.p q (grind arith) (grind arith) refl (omega arith)).0

pub plus-self-inside-requires : goal.plus-self-inside-requires
plus-self-inside-requires g c =
    let r = c.args.self.now in
    let q = c.args.p + c.args.n in
    let m = incoming_cells c.args.incoming in
    (put-fits r (put_cells r c.args.p q m) m c.self.inside.tally c.in-Some.went c.minus.result c.tally.result c.args.p q (grind arith) (grind arith) (grind arith)
    (grind arith) refl (omega arith) (grind (arith, (length-put r m c.args.p q)))).0

pub invariant_of-self-2 : goal.invariant_of-self-2
invariant_of-self-2 g c =
    let r = c.args.self.now in
    let q = c.args.p + c.args.n in
    let m = incoming_cells c.args.incoming in
    let long = length-put r m c.args.p q in
    let sum =
    (put-fits r (put_cells r c.args.p q m) m c.self.inside.tally c.in-Some.went c.minus.result c.tally.result c.args.p q (grind arith) (grind arith) (grind arith)
    (grind arith) refl (omega arith) (grind (arith, long))).1 in
    grind (arith, long, sum)
