use Rattle.sam_rasp.proofs.Common.{◌≡◌, ◌≤◌, ◌-◌, length, take}
use Rattle.sam_rasp.specs.Tallies.{measure}
use Rattle.sam_rasp.specs.declared.tally.Measure.TheVariants.{Bytes, Units, Newlines}
use Rattle.sam_rasp.proofs.tally.newlines_and_wide.Given as goal

abbrev pub invariant-loop-place : goal.invariant-loop-place
invariant-loop-place l = (l.place ≤ length l.runes) × (l.newlines ≡ measure Newlines (take l.place l.runes)) × (l.wide ≤ l.place)
    × (l.wide ≡ 0 → (measure Bytes (take l.place l.runes) ≡ l.place) × (measure Units (take l.place l.runes) ≡ l.place))

abbrev pub decreases-loop-place : goal.decreases-loop-place
decreases-loop-place l = length l.runes - l.place
