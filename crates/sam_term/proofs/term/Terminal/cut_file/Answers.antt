use Rattle.sam_term.proofs.Common.{arith, slot-put_same, slot-put_other, FitsUnsent, IsShort}
use Rattle.sam_term.proofs.Grows.{grown_facts}
use Rattle.sam_term.proofs.LockTotals.{locks-put}
use Rattle.sam_term.proofs.term.Terminal.cut_file.Goals as goal

pub invariant_of-self : goal.invariant_of-self
unfolding FitsUnsent IsShort
invariant_of-self c =
    record {
      sound = grind (arith, slot-put_same, slot-put_other, grown_facts);
      counted = grind (arith, locks-put);
      countable = grind arith;
    }
