use Rattle.sam_pending.proofs.CellLaws.{rasp_filled, shown_filled}
use Rattle.sam_waiting.proofs.cells.runes_are_stored.Goals as goal

pub returns : goal.returns
returns c = record { rasp = rasp_filled; shown = shown_filled }
