use Rattle.sam_pending.proofs.CellLaws.{waiting_inserted, waiting_removed, waiting_filled}
use Rattle.sam_waiting.proofs.cells.nothing_typed_is_lost.Goals as goal

pub returns : goal.returns
returns c = record { inserted = waiting_inserted; removed = waiting_removed; filled = waiting_filled }
