use Rattle.sam_modes.proofs.Common.{◌≡◌, drop, first_cause}
use Rattle.sam_modes.proofs.stops.fault_of.Given as goal

-- those before had no cause of their own
abbrev pub invariant-loop-stop : goal.invariant-loop-stop
invariant-loop-stop l = first_cause (drop l.stop-index l.stops) ≡ first_cause l.stops
