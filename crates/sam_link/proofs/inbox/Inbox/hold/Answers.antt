use Rattle.std.proofs.Common.{◌≡◌, ◌++◌, ◌∙◌, subst}
use Rattle.std.specs.Prelude.{OnOk}
use Rattle.sam_link.specs.Inbox.{arrived}
use Rattle.sam_link.proofs.Inboxes.{piece_held}
use Rattle.sam_link.proofs.inbox.Inbox.hold.Goals as goal

pub returns-clause-held : goal.returns-clause-held
returns-clause-held c =
    subst (λ v. OnOk c.extend_from_slice.result (arrived c.extend_from_slice.new.self.items c.self.inside.marks.gone c.self.inside.marks.next c.self.inside.marks.whole c.self.inside.marks.count
    ≡ record { held = v.held ++ c.args.piece.now; waiting = v.waiting }))
    (c.self.view_is ∙ c.compact.ensures ∙ c.pass.ensures)
    (piece_held c.extend_from_slice.result c.self.inside.bytes.items c.extend_from_slice.new.self.items c.args.piece.now c.self.inside.marks.gone c.self.inside.marks.next
    c.self.inside.marks.whole c.self.inside.marks.count c.self.invariant c.extend_from_slice.ensures.items)
