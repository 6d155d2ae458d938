use Rattle.std.proofs.Common.{arith}
use Rattle.sam_pending.specs.Blocks.{changed}
use Rattle.sam_pending.proofs.LayerLaws.{inserts, within-kept}
use Rattle.sam_pending.proofs.pending.Pending.prepare_insert.Goals as goal

pub inserted-requires-clause-within : goal.inserted-requires-clause-within
inserted-requires-clause-within c = within-kept c.self.inside.text.items c.self.inside.runs c.self.invariant

pub returns-clause-layer : goal.returns-clause-layer
returns-clause-layer c =
    let len = c.rasp_len-len.ensures in
    rw (← c.self.view_is) (record {
      change = c.in_ok-place.ensures.change;
      layer = (inserts c.self.inside.text.items c.self.inside.runs (changed c.in_ok-place.change c.self.inside.runs) c.args.p c.args.count c.self.invariant
          (omega (arith, len, c.if-p-len.false)) (omega (arith, len, c.if-count-len.false, c.if-p-len.false, c.self.invariant.rasp)) c.in_ok-place.ensures.runs).layer;
    })

pub returns-clause-cells : goal.returns-clause-cells
returns-clause-cells c =
    let len = c.rasp_len-len.ensures in
    rw (← c.self.view_is) (inserts c.self.inside.text.items c.self.inside.runs (changed c.in_ok-place.change c.self.inside.runs) c.args.p c.args.count c.self.invariant
    (omega (arith, len, c.if-p-len.false)) (omega (arith, len, c.if-count-len.false, c.if-p-len.false, c.self.invariant.rasp)) c.in_ok-place.ensures.runs).cells

pub returns-clause-place : goal.returns-clause-place
returns-clause-place c =
    let len = c.rasp_len-len.ensures in
    rw (← c.self.view_is, c.in_ok-place.ensures.place) (inserts c.self.inside.text.items c.self.inside.runs (changed c.in_ok-place.change c.self.inside.runs) c.args.p c.args.count c.self.invariant
    (omega (arith, len, c.if-p-len.false)) (omega (arith, len, c.if-count-len.false, c.if-p-len.false, c.self.invariant.rasp)) c.in_ok-place.ensures.runs).place

pub returns-clause-rasp : goal.returns-clause-rasp
returns-clause-rasp c =
    let len = c.rasp_len-len.ensures in
    rw (← c.self.view_is) (inserts c.self.inside.text.items c.self.inside.runs (changed c.in_ok-place.change c.self.inside.runs) c.args.p c.args.count c.self.invariant
    (omega (arith, len, c.if-p-len.false)) (omega (arith, len, c.if-count-len.false, c.if-p-len.false, c.self.invariant.rasp)) c.in_ok-place.ensures.runs).rasp
