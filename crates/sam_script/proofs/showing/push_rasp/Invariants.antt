use Rattle.sam_script.proofs.Common.{◌≡◌, ◌++◌, ◌≤◌, ◌-◌, length, take, string_bytes, rasp_shown}
use Rattle.sam_script.proofs.showing.push_rasp.Given as goal

abbrev pub invariant-loop-section : goal.invariant-loop-section
invariant-loop-section l = (string_bytes l.out ≡ string_bytes l.fn.out ++ rasp_shown (take l.at l.rasp)) × (l.at ≤ length l.rasp)

abbrev pub decreases-loop-section : goal.decreases-loop-section
decreases-loop-section l = length l.rasp - l.at
