use Rattle.std.proofs.Common.{arith, append_assoc, length-append}
use Rattle.std.proofs.lemmas.List.{drop_more}
use Rattle.sam_pending.proofs.KeptLaws.{kept-push, kept-one}
use Rattle.sam_pending.proofs.runs.kept.Goals as goal

pub loop-run-preserved : goal.loop-run-preserved
loop-run-preserved c = (
  grind (arith, kept-push, append_assoc, drop_more),
  grind (arith, kept-one, append_assoc, drop_more, length-append),
  grind (arith, kept-one, drop_more, length-append),
  grind (arith, drop_more),
)
