use Rattle.std.proofs.Common.{arith}
use Rattle.sam_link.proofs.Taking.{all_taken, more_taken, none_taken}
use Rattle.sam_link.proofs.inbox.Marks.take_all.Goals as goal

pub packets-init : goal.packets-init
packets-init c = none_taken c.args.bytes.now c.args.self.now c.args.into.now c.requires

pub returns-then-more-eq0-clause-taken : goal.returns-then-more-eq0-clause-taken
returns-then-more-eq0-clause-taken c =
    all_taken c.args.bytes.now c.args.self.now c.packets.self c.take_behind-more.new.self c.args.into.now c.packets.into c.take_behind-more.new.into c.packets.count
    c.take_behind-more.result c.packets.invariant (grind (arith, c.if-more-eq0.true)) c.take_behind-more.ensures.taken c.take_behind-more.ensures.front

pub packets-preserved : goal.packets-preserved
packets-preserved c =
    more_taken c.args.bytes.now c.args.self.now c.packets.self c.take_behind-more.new.self c.args.into.now c.packets.into c.take_behind-more.new.into c.packets.count
    c.take_behind-more.result c.packets.invariant c.take_behind-more.ensures.lies c.take_behind-more.ensures.held c.take_behind-more.ensures.taken
    c.take_behind-more.ensures.front (grind arith)
