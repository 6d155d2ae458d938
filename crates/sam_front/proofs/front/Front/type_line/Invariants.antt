use Rattle.std.proofs.Common.{◌≤◌, length}
use Rattle.sam_front.specs.Runs.{behind_of}
use Rattle.sam_front.proofs.RunningLaws.{Stands}
use Rattle.sam_front.proofs.front.Front.type_line.Given as goal

abbrev pub invariant-pieces : goal.invariant-pieces
invariant-pieces l = record {
  few : l.left ≤ 1_000;
  short : length l.rest ≤ 500_000;
  stands : Stands (behind_of (length l.typed)) l.typed l.fn.self l.left l.rest l.self;
}

abbrev pub decreases-pieces : goal.decreases-pieces
decreases-pieces l = l.left
