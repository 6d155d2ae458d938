use Rattle.std.proofs.Common.{arith}
use Rattle.sam_runes.proofs.SlotLaws.{slot-read, slot_past}
use Rattle.sam_handles.proofs.snapshots.known_file.Goals as goal

pub returns-then-tag-files : goal.returns-then-tag-files
returns-then-tag-files c = grind (arith, slot-read)

pub returns-else-tag-files : goal.returns-else-tag-files
returns-else-tag-files c = grind (arith, slot_past)
