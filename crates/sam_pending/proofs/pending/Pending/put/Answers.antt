use Rattle.std.proofs.Common.{◌≡◌, refl, arith, ap, length}
use Rattle.sam_pending.specs.Blocks.{flat}
use Rattle.sam_pending.specs.Layers.{shown_length, waiting_length}
use Rattle.sam_pending.specs.Runs.{waits}
use Rattle.sam_pending.proofs.LayerLaws.{Replaces, replaces, within-kept}
use Rattle.sam_pending.proofs.pending.Pending.put.Goals as goal

pub replace-requires-clause-there : goal.replace-requires-clause-there
replace-requires-clause-there c = omega (arith, ap shown_length c.self.view_is, c.requires.there)

pub replace-requires-clause-within : goal.replace-requires-clause-within
replace-requires-clause-within c = within-kept c.self.inside.text.items c.self.inside.runs c.self.invariant

pub replace-requires-clause-fits : goal.replace-requires-clause-fits
replace-requires-clause-fits c = omega (arith, ap waiting_length c.self.view_is, c.requires.waiting, c.self.invariant.rasp, c.self.invariant.waiting)

done : (c : goal.After-append) → Replaces c.self.inside.text.items c.args.runes.now c.self.inside.runs c.replace.new.blocks c.args.group c.args.p c.args.q
done c =
    let w = c.requires.waiting in
    let n : waits (flat c.self.inside.runs) ≡ waiting_length c.args.self.now = ap waiting_length c.self.view_is in
    replaces c.self.inside.text.items c.args.runes.now c.self.inside.runs c.replace.new.blocks c.args.group c.args.p c.args.q
    (record { start = c.len-2.result; count = length c.args.runes.now }) c.self.invariant (omega (arith, c.len-2.ensures)) refl (omega (arith, c.len.ensures, c.if-runes-len.false, c.self.invariant.text)) (omega (arith, n, w)) c.in_ok-replace.ensures.ok

pub invariant_of-self-2 : goal.invariant_of-self-2
invariant_of-self-2 c = rw (c.append.ensures, c.in_ok-reserve.ensures.items) (done c).layer

pub returns-clause-ok : goal.returns-clause-ok
returns-clause-ok c = rw (c.append.ensures, c.in_ok-reserve.ensures.items, ← c.self.view_is) (done c).cells

pub returns-clause-rasp : goal.returns-clause-rasp
returns-clause-rasp c = rw (← c.self.view_is) (done c).rasp
