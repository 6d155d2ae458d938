use Rattle.sam_script.proofs.Common.{◌≡◌, drop, string_bytes, replayed_from, after_output}
use Rattle.sam_script.proofs.replaying.do_lines.Given as goal

-- what was printed, and then what the lines that are left print
abbrev pub invariant-loop-numbered : goal.invariant-loop-numbered
invariant-loop-numbered l =
    after_output (string_bytes l.fn.out) (replayed_from l.fn.world l.lines) ≡ after_output (string_bytes l.out) (replayed_from l.world (drop l.numbered-index l.lines))
