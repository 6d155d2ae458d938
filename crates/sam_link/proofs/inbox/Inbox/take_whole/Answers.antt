use Rattle.std.proofs.Common.{◌≡◌, ◌+◌, ◌++◌, ◌-◌, arith, drop, length-drop, subst, sym}
use Rattle.std.proofs.lemmas.Grind.{common_steps}
use Rattle.sam_link.specs.Inbox.{IsRow, arrived, items_among}
use Rattle.sam_link.proofs.Inboxes.{taken_whole}
use Rattle.sam_link.proofs.Rows.{fewer}
use Rattle.sam_link.proofs.inbox.Inbox.take_whole.Goals as goal

pub overflow_add-self-2 : goal.overflow_add-self-2
overflow_add-self-2 c =
    let q : IsRow (drop c.self.inside.marks.whole c.self.inside.bytes.items) c.args.count c.args.len = subst (λ a. IsRow a.held c.args.count c.args.len) (sym c.self.view_is) c.requires in
    grind (
      arith,
      common_steps,
      (fewer (drop c.self.inside.marks.next c.self.inside.bytes.items) c.self.inside.marks.count (c.self.inside.marks.whole - c.self.inside.marks.next) c.self.invariant.row),
      (fewer (drop c.self.inside.marks.whole c.self.inside.bytes.items) c.args.count c.args.len q),
      (q.front.inside),
      (length-drop c.self.inside.marks.whole c.self.inside.bytes.items),
    )

pub invariant_of-self : goal.invariant_of-self
invariant_of-self c =
    (taken_whole c.self.inside.bytes.items c.self.inside.marks.gone c.self.inside.marks.next c.self.inside.marks.whole c.self.inside.marks.count c.args.count c.args.len c.self.invariant
    (subst (λ a. IsRow a.held c.args.count c.args.len) (sym c.self.view_is) c.requires)).0

pub returns : goal.returns
returns c =
    subst
    (λ v. arrived c.self.inside.bytes.items c.self.inside.marks.gone c.self.inside.marks.next (c.self.inside.marks.whole + c.args.len) (c.self.inside.marks.count + c.args.count)
    ≡ record { held = drop c.args.len v.held; waiting = record { part = v.waiting.part; packets = v.waiting.packets ++ items_among c.args.count v.held } })
    c.self.view_is
    (taken_whole c.self.inside.bytes.items c.self.inside.marks.gone c.self.inside.marks.next c.self.inside.marks.whole c.self.inside.marks.count c.args.count c.args.len c.self.invariant
    (subst (λ a. IsRow a.held c.args.count c.args.len) (sym c.self.view_is) c.requires)).1
