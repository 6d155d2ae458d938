use Rattle.sam_script.proofs.Common.{◌≡◌, string_bytes, into_iter_items, replayed_from, after_output}
use Rattle.sam_script.proofs.replaying.do_owned_lines.Given as goal

-- what was printed, and then what the lines that are left print
abbrev pub invariant-loop-numbered : goal.invariant-loop-numbered
invariant-loop-numbered l =
    after_output (string_bytes l.fn.out) (replayed_from l.fn.world l.fn.lines.items) ≡ after_output (string_bytes l.out) (replayed_from l.world (into_iter_items l.numbered-iterator))
