use Rattle.std.proofs.Common.{◌≡◌, ◌+◌, length}
use Rattle.sam_client.proofs.BatchLaws.{Stands}
use Rattle.sam_client.proofs.client.Client.replace_each.Given as goal

abbrev pub invariant-left : goal.invariant-left
invariant-left l = record {
  count : l.made + length l.left ≡ length l.replacements;
  stands : Stands l.fn.tag l.replacements l.runes l.fn.self l.made l.left l.rest l.self;
}

abbrev pub decreases-left : goal.decreases-left
decreases-left l = length l.left
