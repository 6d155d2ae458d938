use Rattle.std.proofs.Common.{arith, ◌-◌, ◌<◌, drop, slice_index}
use Rattle.sam_link.specs.Packets.Packet.{Data, Note}
use Rattle.sam_link.proofs.Rows.{none_left, row_first, shows_data, shows_note, stands}
use Rattle.sam_link.proofs.inbox.first_item.Goals as goal

pub returns-then-left-eq0 : goal.returns-then-left-eq0
returns-then-left-eq0 c =
    none_left c.args.row.now c.args.count c.pass_others-at.result.0 c.pass_others-at.result.1 (grind arith) c.pass_others-at.ensures.items

pub head_of-head-requires : goal.head_of-head-requires
head_of-head-requires c =
    let first = row_first (drop c.pass_others-at.result.0 c.args.row.now) c.pass_others-at.result.1 (c.args.len - c.pass_others-at.result.0) c.pass_others-at.ensures.row (omega (arith, c.if-left-eq0.false)) in
    rw (c.split_at.ensures.back) (omega (arith, (first.inside), (c.pass_others-at.ensures.row.front.inside)))

pub returns-then-head-eq-DATA : goal.returns-then-head-eq-DATA
returns-then-head-eq-DATA c =
    let some : 0 < c.pass_others-at.result.1 = omega (arith, c.if-left-eq0.false) in
    let kind = rw (c.split_at.ensures.back) at c.head_of-head.ensures.kind in
    let len = rw (c.split_at.ensures.back) at c.head_of-head.ensures.len in
    stands c.args.row.now c.args.count c.args.len c.pass_others-at.result.0 c.pass_others-at.result.1 c.head_of-head.result.kind c.head_of-head.result.len Data
    c.pass_others-at.ensures.inside c.pass_others-at.ensures.row c.pass_others-at.ensures.items some len
    (λ body. shows_data (slice_index (drop c.pass_others-at.result.0 c.args.row.now) 0) body (omega (arith, kind, c.if-head-eq-DATA.true)))

pub returns-else-head-eq-DATA : goal.returns-else-head-eq-DATA
returns-else-head-eq-DATA c =
    let some : 0 < c.pass_others-at.result.1 = omega (arith, c.if-left-eq0.false) in
    let kind = rw (c.split_at.ensures.back) at c.head_of-head.ensures.kind in
    let len = rw (c.split_at.ensures.back) at c.head_of-head.ensures.len in
    let first = row_first (drop c.pass_others-at.result.0 c.args.row.now) c.pass_others-at.result.1 (c.args.len - c.pass_others-at.result.0) c.pass_others-at.ensures.row some in
    stands c.args.row.now c.args.count c.args.len c.pass_others-at.result.0 c.pass_others-at.result.1 c.head_of-head.result.kind c.head_of-head.result.len Note
    c.pass_others-at.ensures.inside c.pass_others-at.ensures.row c.pass_others-at.ensures.items some len
    (λ body. shows_note (slice_index (drop c.pass_others-at.result.0 c.args.row.now) 0) body first.some (c.pass_others-at.ensures.first some) (omega (arith, kind, c.if-head-eq-DATA.false)))
