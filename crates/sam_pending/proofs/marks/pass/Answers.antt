use Rattle.std.proofs.Common.{◌+◌, ◌∙◌, None, slice_index_or, ap, subst, sym, arith}
use Rattle.sam_pending.specs.Marks.{allows, Passes}
use Rattle.sam_pending.specs.declared.marks.Mark.{Mark}
use Rattle.sam_pending.proofs.MarkLaws.{marked_next, more_fits, passes_on}
use Rattle.sam_pending.proofs.marks.pass.Goals as goal

abbrev none : Mark
none = record { count = 0; sums = record { rasp_len = 0; waiting_len = 0; shown_len = 0; newest = 0; removing = None; inserting = None } }

pub plus-next-requires-clause-rasp : goal.plus-next-requires-clause-rasp
plus-next-requires-clause-rasp c =
    let at = c.loop-mark in
    let m = marked_next c.args.marks.now c.args.blocks.now at.mark-index at.index none c.loop-mark-test.true at.invariant.2 in
    (more_fits c.args.blocks.now at.index (slice_index_or c.args.marks.now at.mark-index none).count at.sums (slice_index_or c.args.marks.now at.mark-index none).sums at.invariant.1.sums m.1 c.requires.fits).rasp

pub plus-next-requires-clause-waiting : goal.plus-next-requires-clause-waiting
plus-next-requires-clause-waiting c =
    let at = c.loop-mark in
    let m = marked_next c.args.marks.now c.args.blocks.now at.mark-index at.index none c.loop-mark-test.true at.invariant.2 in
    (more_fits c.args.blocks.now at.index (slice_index_or c.args.marks.now at.mark-index none).count at.sums (slice_index_or c.args.marks.now at.mark-index none).sums at.invariant.1.sums m.1 c.requires.fits).waiting

pub plus-next-requires-clause-shown : goal.plus-next-requires-clause-shown
plus-next-requires-clause-shown c =
    let at = c.loop-mark in
    let m = marked_next c.args.marks.now c.args.blocks.now at.mark-index at.index none c.loop-mark-test.true at.invariant.2 in
    (more_fits c.args.blocks.now at.index (slice_index_or c.args.marks.now at.mark-index none).count at.sums (slice_index_or c.args.marks.now at.mark-index none).sums at.invariant.1.sums m.1 c.requires.fits).shown

pub loop-mark-preserved : goal.loop-mark-preserved
loop-mark-preserved c =
    let at = c.loop-mark in
    let mark = slice_index_or c.args.marks.now at.mark-index none in
    let m = marked_next c.args.marks.now c.args.blocks.now at.mark-index at.index none c.loop-mark-test.true at.invariant.2 in (
      omega (arith, at.invariant.0, c.requires.limit, c.if-limit-index.false),
      subst (Passes c.args.stop c.args.blocks.now (at.index + mark.count)) (sym c.plus-next.ensures)
          (passes_on c.args.stop c.args.blocks.now at.index mark.count at.sums mark.sums at.invariant.1.sums m.1
          (ap (allows c.args.stop) (sym c.plus-next.ensures) ∙ (sym c.allows.ensures ∙ c.if-not-allows.false))),
      m.2,
    )
