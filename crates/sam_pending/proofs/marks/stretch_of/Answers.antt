use Rattle.std.proofs.Common.{None, arith}
use Rattle.sam_pending.specs.declared.marks.Mark.{Mark}
use Rattle.sam_pending.proofs.MarkLaws.{spans_more}
use Rattle.sam_pending.proofs.marks.stretch_of.Goals as goal

abbrev none : Mark
none = record { count = 0; sums = record { rasp_len = 0; waiting_len = 0; shown_len = 0; newest = 0; removing = None; inserting = None } }

pub loop-mark-preserved : goal.loop-mark-preserved
loop-mark-preserved c =
    let at = c.loop-mark in
    let more = spans_more c.args.marks.now at.mark-index none c.loop-mark-test.true in (
      omega (arith, at.invariant.0),
      omega (arith, c.loop-mark-test.true),
      omega (arith, more, at.invariant.2),
      omega (arith, at.invariant.3, c.if-index-start.false),
    )
