use Rattle.sam_host.proofs.Common.{◌≡◌, ◌∙◌, ap, arith, List, Bool, length, nat_eq, Edit, ◌+◌, ◌++◌, not, [], ◌∷◌, ◌&&◌, is_empty, Hdirty, Hmovname, Hsetpat, Hsetdot, Hcheck, file_at, stamped, told_edits, told_outcome, when, when_given}
use Rattle.sam_host.proofs.RunLaws.{six_told}
use Rattle.sam_host.proofs.host.Host.tell_parts.Goals as goal

tests-empty : (es : List Edit) → nat_eq (length es) 0 ≡ is_empty es
tests-empty [] = grind arith
tests-empty (e ∷ es) = grind arith

pub returns-clause-ok : goal.returns-clause-ok
unfolding told_outcome
returns-clause-ok c =
    let fs = c.args.self.now.files in
    let f = c.args.tag in
    let es = c.args.edits.now in
    let edited = not c.is_empty-edited.result in
    six_told c.args.frames.now.items _ _ _ _ _ _ (c.args.self.now.taken + 1)
    (told_edits fs f es)
    (when (edited && not (file_at fs f).dirty) (Hdirty f ∷ []))
    (when_given c.args.name.now (Hmovname f))
    (when_given c.args.pattern.now Hsetpat)
    (when_given c.args.dot (λ d. Hsetdot f d.0 d.1))
    (when edited (Hcheck f ∷ []))
    c.in_ok-tell_edits.ensures.ok c.in_ok-tell_edited.ensures.ok c.in_ok-tell_new_name.ensures.ok c.in_ok-tell_pattern.ensures.ok c.in_ok-tell_dot.ensures.ok c.in_ok-tell_check.ensures.ok
    ∙ ap (λ (b : Bool). c.args.frames.now.items ++ stamped (c.args.self.now.taken + 1)
    (told_edits fs f es ++ when (not b && not (file_at fs f).dirty) (Hdirty f ∷ []) ++ when_given c.args.name.now (Hmovname f) ++ when_given c.args.pattern.now Hsetpat ++ when_given c.args.dot (λ d. Hsetdot f d.0 d.1) ++ when (not b) (Hcheck f ∷ [])))
    (c.is_empty-edited.ensures ∙ tests-empty es)
