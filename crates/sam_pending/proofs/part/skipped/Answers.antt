use Rattle.std.proofs.Common.{arith}
use Rattle.sam_pending.proofs.MarkLaws.{stands_behind}
use Rattle.sam_pending.proofs.part.skipped.Goals as goal

pub returns : goal.returns
returns c =
    stands_behind c.as_slice.result.now c.as_slice.ensures c.pass-start.ensures.limit c.pass-start.ensures.passes (grind (arith, c.skipped_in-more.ensures, c.len.ensures))
