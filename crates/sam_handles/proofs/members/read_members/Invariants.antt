use Rattle.std.proofs.Common.{◌≡◌, ◌++◌, ◌+◌, drop, length, take, map}
use Rattle.sam_endpoint.specs.Drawing.{drawn}
use Rattle.sam_handles.proofs.members.read_members.Given as goal

-- the members from the place on stand in the buffer, as far as the loop has come
abbrev pub invariant-loop-next : goal.invariant-loop-next
invariant-loop-next l = record {
  size : length l.into ≡ length l.fn.into;
  same : l.members ≡ l.fn.members;
  now : l.into ≡ take 0 l.fn.into ++ map drawn (take l.next (drop l.place l.fn.members)) ++ drop (0 + l.next) l.fn.into;
}
