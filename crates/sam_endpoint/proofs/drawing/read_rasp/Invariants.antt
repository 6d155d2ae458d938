use Rattle.sam_endpoint.proofs.Common.{◌≡◌, ◌⊎◌, ◌≤◌, ◌+◌, ◌-◌, ◌++◌, length, take, drop, map, drawn}
use Rattle.sam_endpoint.proofs.drawing.read_rasp.Given as goal

abbrev pub invariant-loop-count : goal.invariant-loop-count
invariant-loop-count l = record {
  size : length l.into ≡ length l.fn.into;
  at_is : l.at ≡ l.place + l.count;
  room : l.count ≤ length l.fn.into;
  within : (l.count ≡ 0) ⊎ (l.at ≤ length l.rasp);
  now : l.into ≡ map drawn (take l.count (drop l.place l.rasp)) ++ drop l.count l.fn.into;
}

abbrev pub decreases-loop-count : goal.decreases-loop-count
decreases-loop-count l = length l.rasp - l.at
