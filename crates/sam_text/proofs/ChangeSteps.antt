-- One change more.
use Rattle.sam_text.proofs.Common.{◌≡◌, ℕ, List, [], ◌∷◌, ◌++◌, refl, Range}
use Rattle.std.proofs.lemmas.List.{take_more}
use Rattle.sam_text.specs.Changes.{AllowsAll, IsAllowed, after_change, after_changes, dot_after, last_dot}
use Rattle.sam_text.specs.declared.text_change.TextChange.{TextChange}

pub allows-push : (cs : List TextChange) (c : TextChange) (t : List ℕ) → AllowsAll cs t → IsAllowed c (after_changes cs t) → AllowsAll (cs ++ c ∷ []) t
allows-push [] c t all one = (one, tt)
allows-push (x ∷ cs) c t all one = (all.0, allows-push cs c (after_change x t) all.1 one)

pub after-push : (cs : List TextChange) (c : TextChange) (t : List ℕ) → after_changes (cs ++ c ∷ []) t ≡ after_change c (after_changes cs t)
after-push [] c t = refl
after-push (x ∷ cs) c t = after-push cs c (after_change x t)

pub dot-push : (cs : List TextChange) (c : TextChange) (dot : Range) → last_dot (cs ++ c ∷ []) dot ≡ dot_after c
dot-push [] c dot = refl
dot-push (x ∷ cs) c dot = dot-push cs c (dot_after x)

-- what `make_all` rests on
pub ruleset make_facts = (take_more, allows-push, after-push, dot-push)
