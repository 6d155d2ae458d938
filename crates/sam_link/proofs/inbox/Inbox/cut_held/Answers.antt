use Rattle.std.proofs.Common.{◌≡◌, drop, subst, take}
use Rattle.sam_link.specs.Inbox.{arrived}
use Rattle.sam_link.proofs.Inboxes.{held_less, other_held}
use Rattle.sam_link.proofs.inbox.Inbox.cut_held.Goals as goal

pub invariant_of-self : goal.invariant_of-self
invariant_of-self c =
    (other_held c.self.inside.bytes.items c.truncate.new.self.items (take c.args.len (drop c.self.inside.marks.whole c.self.inside.bytes.items))
    c.self.inside.marks.gone c.self.inside.marks.next c.self.inside.marks.whole c.self.inside.marks.count c.self.invariant
    (held_less c.self.inside.bytes.items c.truncate.new.self.items c.self.inside.marks.whole c.args.len c.truncate.ensures.items)).0

pub returns : goal.returns
returns c =
    subst (λ v. arrived c.truncate.new.self.items c.self.inside.marks.gone c.self.inside.marks.next c.self.inside.marks.whole c.self.inside.marks.count ≡ record { held = take c.args.len v.held; waiting = v.waiting }) c.self.view_is
    (other_held c.self.inside.bytes.items c.truncate.new.self.items (take c.args.len (drop c.self.inside.marks.whole c.self.inside.bytes.items))
    c.self.inside.marks.gone c.self.inside.marks.next c.self.inside.marks.whole c.self.inside.marks.count c.self.invariant
    (held_less c.self.inside.bytes.items c.truncate.new.self.items c.self.inside.marks.whole c.args.len c.truncate.ensures.items)).1
