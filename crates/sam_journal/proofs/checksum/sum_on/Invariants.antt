use Rattle.std.proofs.Common.{◌≡◌, drop}
use Rattle.sam_journal.specs.Checksums.{bytes_step}
use Rattle.sam_journal.proofs.checksum.sum_on.Given as goal

abbrev pub invariant-loop-byte : goal.invariant-loop-byte
invariant-loop-byte l = bytes_step l.on (drop l.byte-index l.bytes) ≡ bytes_step l.fn.sum l.bytes
