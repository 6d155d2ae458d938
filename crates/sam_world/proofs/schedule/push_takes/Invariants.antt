use Rattle.sam_world.proofs.Common.{◌≡◌, ◌++◌, replicate, HostTake, vec_capacity}
use Rattle.sam_world.proofs.schedule.push_takes.Given as goal

abbrev pub invariant-loop-made : goal.invariant-loop-made
invariant-loop-made l = record {
  takes : l.out.items ≡ l.initial.out.items ++ replicate l._made HostTake;
  room : vec_capacity l.out ≡ vec_capacity l.initial.out;
}
