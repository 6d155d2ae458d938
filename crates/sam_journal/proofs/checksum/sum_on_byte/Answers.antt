use Rattle.sam_journal.proofs.Checksums.{by_table}
use Rattle.sam_journal.proofs.checksum.sum_on_byte.Goals as goal

pub returns : goal.returns
returns c = rw c.from.ensures (by_table c.args.sum c.args.byte)
