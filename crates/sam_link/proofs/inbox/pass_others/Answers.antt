use Rattle.std.proofs.Common.{arith, ◌-◌, drop}
use Rattle.sam_link.proofs.Rows.{passed, row_first}
use Rattle.sam_link.proofs.inbox.pass_others.Goals as goal

pub head_of-head-requires : goal.head_of-head-requires
head_of-head-requires c =
    let first = row_first (drop c.loop-left.at c.args.row.now) c.loop-left.left (c.args.len - c.loop-left.at) c.loop-left.invariant.row (grind arith) in
    grind (arith, (first.inside), (c.loop-left.invariant.row.front.inside))

pub loop-left-preserved : goal.loop-left-preserved
loop-left-preserved c =
    let next = passed c.args.row.now c.split_at.result.1.now c.args.count c.args.len c.loop-left.at c.loop-left.left c.head_of-head.result.kind c.head_of-head.result.len
    c.loop-left.invariant.inside c.loop-left.invariant.row c.loop-left.invariant.items (grind arith) (grind arith) (grind arith) (grind arith) (grind arith) in
    record { inside = next.0; row = next.1; items = next.2 }
