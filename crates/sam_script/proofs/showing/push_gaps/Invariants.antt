use Rattle.sam_script.proofs.Common.{◌≡◌, ◌++◌, replicate, None, string_bytes, rasp_shown}
use Rattle.sam_script.proofs.showing.push_gaps.Given as goal

abbrev pub invariant-loop-gap : goal.invariant-loop-gap
invariant-loop-gap l = string_bytes l.out ≡ string_bytes l.fn.out ++ rasp_shown (replicate l._gap None)
