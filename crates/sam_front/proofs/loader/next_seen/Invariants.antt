use Rattle.std.proofs.Common.{◌≡◌, drop}
use Rattle.sam_front.specs.Loader.{gaps_of, next_seen}
use Rattle.sam_front.proofs.loader.next_seen.Given as goal

abbrev pub invariant-loop-seen : goal.invariant-loop-seen
invariant-loop-seen l = next_seen (gaps_of l.overlay) l.size (drop l.seen-index l.list) ≡ next_seen (gaps_of l.overlay) l.size l.list
