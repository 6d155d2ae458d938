use Rattle.std.proofs.Common.{◌∙◌, ◌+◌, ap, drop, length, subst, sym, take, arith}
use Rattle.sam_pending.specs.Marks.{IsBehind, IsMarked}
use Rattle.sam_pending.proofs.MarkLaws.{put_behind, put_marks, put_moved}
use Rattle.sam_pending.proofs.blocks.Blocks.put.Goals as goal

pub mark_change-requires-clause-front : goal.mark_change-requires-clause-front
mark_change-requires-clause-front c =
    let number = c.stretch_of-number.result.0 in
    let before = c.args.first + c.args.count in
    let bs = c.self.inside.blocks.items in
    let cs = c.as_slice-blocks.result.now in
    let made = c.args.made.items in
    let is = put_moved c.args.room.items bs c.append.new.blocks.items made cs c.args.first before (omega (arith, c.requires.empty.0)) c.append.ensures.items (c.as_slice-blocks.ensures.value ∙ c.put.ensures) in
    subst (λ ms. IsMarked (take number ms) cs) (sym c.move_marks.ensures)
    (put_marks c.self.inside.marks.items number c.args.first before bs cs made is (omega (arith, c.requires.there, ap length c.self.view_is))
    (rw (← c.as_slice.ensures.value) (omega (arith, c.stretch_of-number.ensures.start, c.stretch_of-number.ensures.before))) c.self.invariant)

pub mark_change-requires-clause-behind : goal.mark_change-requires-clause-behind
mark_change-requires-clause-behind c =
    let number = c.stretch_of-number.result.0 in
    let before = c.args.first + c.args.count in
    let after = c.args.first + c.len.result in
    let bs = c.self.inside.blocks.items in
    let cs = c.as_slice-blocks.result.now in
    let made = c.args.made.items in
    let is = put_moved c.args.room.items bs c.append.new.blocks.items made cs c.args.first before (omega (arith, c.requires.empty.0)) c.append.ensures.items (c.as_slice-blocks.ensures.value ∙ c.put.ensures) in
    subst (λ ms. IsBehind (drop number ms) c.stretch_of-number.result.1 before after cs) (sym c.move_marks.ensures)
    (rw (c.stretch_of-number.ensures.start, c.as_slice.ensures.value)
    (put_behind c.self.inside.marks.items number c.args.first before after bs cs made is (omega (arith, c.len.ensures)) (omega arith)
    (omega (arith, c.requires.there, ap length c.self.view_is)) (omega arith) c.self.invariant))
