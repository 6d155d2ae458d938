use Rattle.sam_rasp.proofs.Common.{◌≡◌, ◌≤◌, ◌-◌, length, take}
use Rattle.sam_rasp.specs.Tallies.{measure}
use Rattle.sam_rasp.specs.declared.tally.Measure.TheVariants.{Bytes, Units}
use Rattle.sam_rasp.proofs.tally.Tally.of.Given as goal

abbrev pub invariant-loop-place : goal.invariant-loop-place
invariant-loop-place l = (l.place ≤ length l.runes) × (l.bytes ≡ measure Bytes (take l.place l.runes)) × (l.units ≡ measure Units (take l.place l.runes))

abbrev pub decreases-loop-place : goal.decreases-loop-place
decreases-loop-place l = length l.runes - l.place
