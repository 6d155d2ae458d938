use Rattle.sam_term.proofs.Common.{arith, refl, inl, append_assoc, first_event, typed_over, typed_runes, window_at, edited, flushed, rules, ◌≡◌, Err}
use Rattle.sam_term.proofs.Edits.{later, loud_answer, flushed-messages, refused_count}
use Rattle.sam_term.proofs.Marks.{edited-put}
use Rattle.sam_term.proofs.TypedMade.{made-apart, apart_count, put-flushed, window-cut, few-typed}
use Rattle.sam_term.specs.declared.fault.TermFault.TheVariants.{OutOfMemory}
use Rattle.sam_term.proofs.term.Terminal.type_apart.Goals as goal

pub keep_typed-requires-clause-within : goal.keep_typed-requires-clause-within
keep_typed-requires-clause-within c =
    let t = later c.args.self.now in
    let f = c.args.tag in
    let w = typed_over (window_at t f) (typed_runes (first_event c.args.self.now.held)) in
    grind (arith, edited-put t f w, put-flushed t f w, window-cut (edited (flushed t).0 f) f w c.args.dot)

pub keep_typed-requires-clause-short : goal.keep_typed-requires-clause-short
keep_typed-requires-clause-short c = grind (arith, (few-typed c.args.self.now c.args.tag _ c.requires.free c.requires.first))

pub returns : goal.returns
returns c =
    let t = later c.args.self.now in
    let f = c.args.tag in
    let s = typed_runes (first_event c.args.self.now.held) in
    let w = typed_over (window_at t f) s in
    grind (arith, (edited-put t f w), (put-flushed t f w), (made-apart t f s c.requires.some), loud_answer, flushed-messages, append_assoc)

pub returns-in_err-out : goal.returns-in_err-out
returns-in_err-out c =
    let same : c.from_residual.result ≡ Err c.in_err-out.field-0.0 = search rules in
    rw same (refused_count c.args.self.now _ _ (grind (arith, (apart_count c.args.self.now c.args.tag _ c.requires.first))) c.in_err-out.ensures.full, refl)

pub returns-in_err-before : goal.returns-in_err-before
returns-in_err-before c =
    let n = apart_count c.args.self.now c.args.tag _ c.requires.first in
    let same : c.from_residual-in_err-before.result ≡ Err OutOfMemory = search rules in
    rw same (refused_count c.args.self.now _ _ (grind (arith, n)) (inl (refl, c.in_ok-out.ensures.counts)), c.in_err-before.ensures.err)
