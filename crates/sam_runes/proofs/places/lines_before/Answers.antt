use Rattle.std.proofs.Common.{sym, ◌∙◌, arith}
use Rattle.sam_runes.proofs.PlaceLaws.{line_behind_newline, newline_passed, rune_passed}
use Rattle.sam_runes.proofs.places.lines_before.Goals as goal
use Rattle.sam_runes.proofs.places.lines_before.Goals.{then-runes-at-eq10+else-left-eq0, else-runes-at-eq10}

pub returns-then-left-eq0-clause-value : goal.returns-then-left-eq0-clause-value
returns-then-left-eq0-clause-value c = grind (arith, line_behind_newline)

pub loop-at-preserved : goal.loop-at-preserved
loop-at-preserved c =
    let t = c.args.runes.now in (
      omega arith,
      elim c.if-runes-at-eq10.branch [
        | then-runes-at-eq10+else-left-eq0 w ↦ rw w.left-is (sym (newline_passed t c.loop-at.at c.loop-at.left c.index-runes-at.result (omega arith)
            (omega arith) (omega arith) c.index-runes-at.is w.if-runes-at-eq10.true) ∙ c.loop-at.invariant.1)
        | else-runes-at-eq10 w ↦ rw w.left-is (sym (rune_passed t c.loop-at.at c.loop-at.left c.index-runes-at.result (omega arith)
            (omega arith) c.index-runes-at.is w.if-runes-at-eq10.false) ∙ c.loop-at.invariant.1)
      ],
    )
