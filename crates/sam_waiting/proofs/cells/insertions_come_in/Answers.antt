use Rattle.sam_pending.proofs.CellLaws.{rasp_inserted, shown_inserted}
use Rattle.sam_waiting.proofs.cells.insertions_come_in.Goals as goal

pub returns : goal.returns
returns c = record { rasp = rasp_inserted; shown = shown_inserted }
