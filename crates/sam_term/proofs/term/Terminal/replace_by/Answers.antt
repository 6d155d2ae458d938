use Rattle.sam_term.proofs.Common.{arith, refl, inl, append_assoc, length, first_event, edit_runes, window_at, replaced_in, Edit, rules, ◌≡◌, Err}
use Rattle.sam_term.proofs.Edits.{later, loud_answer, flushed-messages, refused_count}
use Rattle.sam_term.proofs.Marks.{edited-put}
use Rattle.sam_term.proofs.Pieces.{pieces-few}
use Rattle.sam_term.proofs.Replaces.{made-edit, edit_count, edit_end, edit_short, edit_within, composed-more}
use Rattle.sam_term.proofs.TypedMade.{put-flushed}
use Rattle.sam_term.specs.declared.fault.TermFault.TheVariants.{OutOfMemory}
use Rattle.sam_term.proofs.term.Terminal.replace_by.Goals as goal

pub overflow_add-composed-2 : goal.overflow_add-composed-2
overflow_add-composed-2 c =
    let t = c.args.self.now in
    let s = edit_runes (first_event t.held) in
    grind (arith, (pieces-few (length s) c.args.range.0 s), (edit_short t c.args.tag c.args.range.0 c.args.range.1 s c.requires.free c.requires.first))

pub cut_first-requires-clause-within : goal.cut_first-requires-clause-within
cut_first-requires-clause-within c = edit_end c.args.self.now c.args.tag c.args.range.0 c.args.range.1 _ c.requires.free c.requires.first

pub returns-in_err-cut : goal.returns-in_err-cut
returns-in_err-cut c =
    let n = edit_count c.args.self.now c.args.tag c.args.range.0 c.args.range.1 _ c.requires.first c.requires.some in
    let same : c.from_residual-in_err-cut.result ≡ Err OutOfMemory = search rules in
    rw same (refused_count c.args.self.now _ _ (grind (arith, n)) (inl (refl, c.in_ok-out.ensures.counts)), refl)

pub returns-in_err-before : goal.returns-in_err-before
returns-in_err-before c =
    let n = edit_count c.args.self.now c.args.tag c.args.range.0 c.args.range.1 _ c.requires.first c.requires.some in
    let same : c.from_residual-in_err-before.result ≡ Err OutOfMemory = search rules in
    rw same (refused_count c.args.self.now _ _ (grind (arith, n)) (inl (refl, c.in_ok-out.ensures.counts)), c.in_err-before.ensures.err)

pub returns-in_err-out : goal.returns-in_err-out
returns-in_err-out c =
    let n = edit_count c.args.self.now c.args.tag c.args.range.0 c.args.range.1 _ c.requires.first c.requires.some in
    let same : c.from_residual.result ≡ Err c.in_err-out.field-0.0 = search rules in
    rw same (refused_count c.args.self.now _ _ (grind (arith, n)) c.in_err-out.ensures.full, refl)

pub returns : goal.returns
returns c =
    let t = later c.args.self.now in
    let f = c.args.tag in
    let p = c.args.range.0 in
    let q = c.args.range.1 in
    let s = edit_runes (first_event c.args.self.now.held) in
    let w = replaced_in (window_at t f) p q s in
    let inside = edit_within c.args.self.now f p q s c.requires.free c.requires.first in
    loud_answer c.args.self.now c.compose_pieces.new.self (Edit f p q s) _ c.done_with.result c.compose_pieces.new.out.messages c.requires.first
    (made-edit t f p q s c.requires.some (omega (arith, inside.0, inside.1)))
    (grind (arith, (edited-put t f w), (put-flushed t f w), composed-more))
    c.done_with.ensures.done
    (grind (arith, flushed-messages, append_assoc))
    c.done_with.ensures.countable
