use Rattle.std.proofs.Common.{◌-◌, length}
use Rattle.sam_journal.proofs.Fronts.{FrontOf}
use Rattle.sam_journal.proofs.reading.whole_records.Given as goal

abbrev pub invariant-loop-found : goal.invariant-loop-found
invariant-loop-found l = FrontOf l.random l.bytes l.count l.end

abbrev pub decreases-loop-found : goal.decreases-loop-found
decreases-loop-found l = length l.bytes - l.end
