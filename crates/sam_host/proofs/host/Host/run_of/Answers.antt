use Rattle.std.proofs.Common.{arith}
use Rattle.sam_host.proofs.EditLaws.{one_more}
use Rattle.sam_host.proofs.host.Host.run_of.Goals as goal

pub loop-entry-init : goal.loop-entry-init
loop-entry-init c = (grind arith, grind arith, (grind arith, grind arith))

pub loop-entry-preserved : goal.loop-entry-preserved
loop-entry-preserved c =
    let h = c.args.self.now in
    let tells =
    one_more h.files c.args.tag h.taken c.loop-entry.count c.args.messages.now.items c.loop-entry.changes.items _ c.loop-entry.frames.items _ c.in-Some.entry c.loop-entry.invariant.2
    c.in-Some.ensures.there c.in-Some.ensures.may in
    (grind arith, grind arith, tells (grind arith))
