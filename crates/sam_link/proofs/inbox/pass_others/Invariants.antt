use Rattle.std.proofs.Common.{◌≡◌, ◌≤◌, ◌-◌, drop}
use Rattle.sam_link.specs.Inbox.{IsRow, items_among}
use Rattle.sam_link.proofs.inbox.pass_others.Given as goal

abbrev pub invariant-loop-left : goal.invariant-loop-left
invariant-loop-left l = record {
  inside : l.at ≤ l.len;
  row : IsRow (drop l.at l.row) l.left (l.len - l.at);
  items : items_among l.left (drop l.at l.row) ≡ items_among l.count l.row;
}

abbrev pub decreases-loop-left : goal.decreases-loop-left
decreases-loop-left l = l.left
