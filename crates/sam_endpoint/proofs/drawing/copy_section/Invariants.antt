use Rattle.sam_endpoint.proofs.Common.{◌≡◌, ◌++◌, ◌+◌, drop, length, take, map, cells, drawn}
use Rattle.sam_endpoint.proofs.drawing.copy_section.Given as goal

abbrev pub invariant-loop-next : goal.invariant-loop-next
invariant-loop-next l = record {
  size : length l.into ≡ length l.fn.into;
  now : l.into ≡ take l.at l.fn.into ++ map drawn (take l.next (drop l.place (cells l.section))) ++ drop (l.at + l.next) l.fn.into;
}
