use Rattle.std.proofs.Common.{◌≡◌, drop}
use Rattle.sam_term.specs.Term.{is_any_locked}
use Rattle.sam_front.proofs.front.is_any_locked.Given as goal

abbrev pub invariant-loop-file : goal.invariant-loop-file
invariant-loop-file l = is_any_locked (drop l.file-index l.file-items) ≡ is_any_locked l.file-items
