use Rattle.sam_pending.proofs.CellLaws.{rasp_removed, shown_removed}
use Rattle.sam_waiting.proofs.cells.removals_go_out.Goals as goal

pub returns : goal.returns
returns c = record { rasp = rasp_removed; shown = shown_removed }
