use Rattle.sam_term.proofs.Common.{arith, refl, [], first_event, nat_eq, eq-eqb}
use Rattle.sam_term.proofs.Acts.{first_is}
use Rattle.sam_term.proofs.Edits.{later, loud_answer}
use Rattle.sam_term.proofs.Replaces.{edit-as, edit_short, made-edit_none}
use Rattle.sam_term.proofs.term.Terminal.make_edit.Goals as goal

pub returns-then-is_empty : goal.returns-then-is_empty
returns-then-is_empty c =
    let t = c.args.self.now in
    let r = c.edit_range-range.result in
    let first = edit-as (first_event t.held) c.in-Some.event.now c.edit_file-tag.result r c.edit_runes-runes.result.now c.requires.first (grind (arith, first_is))
    c.edit_file-tag.ensures c.edit_range-range.ensures c.edit_runes-runes.ensures in
    loud_answer t c.drop_first.new.self _ (later t, []) c.done_quietly.result [] first
    (made-edit_none (later t) c.edit_file-tag.result r.0 r.1 c.edit_runes-runes.result.now (grind (arith, eq-eqb, nat_eq, c.if-range.true, c.if-is_empty.true)))
    c.drop_first.ensures c.done_quietly.ensures.done refl c.done_quietly.ensures.countable

pub count_pieces-count-requires : goal.count_pieces-count-requires
count_pieces-count-requires c =
    let t = c.args.self.now in
    let r = c.edit_range-range.result in
    edit_short t c.edit_file-tag.result r.0 r.1 c.edit_runes-runes.result.now c.requires.free
    (edit-as (first_event t.held) c.in-Some.event.now c.edit_file-tag.result r c.edit_runes-runes.result.now c.requires.first (grind (arith, first_is))
    c.edit_file-tag.ensures c.edit_range-range.ensures c.edit_runes-runes.ensures)
