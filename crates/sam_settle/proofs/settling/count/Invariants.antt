use Rattle.std.proofs.Common.{◌≡◌, length, take, sum_by}
use Rattle.sam_settle.proofs.settling.count.Given as goal

abbrev pub invariant-loop-list : goal.invariant-loop-list
invariant-loop-list g l = l.all ≡ sum_by (λ list. length list.items) (take l.list-index l.lists)
