use Rattle.std.proofs.Common.{◌<◌, ◌+◌, ◌∙◌, sym, arith}
use Rattle.sam_pending.specs.Cells.{PartialText, shown_of}
use Rattle.sam_pending.specs.Layers.{cells_over, shown_members}
use Rattle.sam_overlay.proofs.GapLaws.{gap_within_text}
use Rattle.sam_overlay.proofs.gaps.pending_gap.Goals as goal

pub overflow_add-result : goal.overflow_add-result
overflow_add-result c =
    let r : PartialText = c.args.rasp.now in
    let text : PartialText = shown_of (cells_over r c.args.pending.now) in
    let within : c.loop-at.at + c.in-Some.gap < c.shown_len-len.result =
    gap_within_text c.loop-at.at c.in-Some.gap c.shown_len-len.result text (shown_members r c.in_ok-piece.piece) (c.shown_len-len.ensures.cells r c.requires)
    c.loop-at-test.true (c.in_ok-piece.ensures r c.requires).1 (sym c.piece_gap.ensures ∙ c.in-Some.is) in
    omega (arith, within, c.shown_len-len.type_inv)
