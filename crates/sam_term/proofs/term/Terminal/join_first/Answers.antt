use Rattle.sam_term.proofs.Common.{arith, first_event, typed_runes, seen}
use Rattle.sam_term.proofs.Acts.{first_is}
use Rattle.sam_term.proofs.Grows.{at_ok}
use Rattle.sam_term.proofs.LockTotals.{locks-put}
use Rattle.sam_term.proofs.TypedMade.{lengthened-joined, sound-joined}
use Rattle.sam_term.proofs.term.Terminal.join_first.Goals as goal

pub invariant_of-self-else-is_err : goal.invariant_of-self-else-is_err
invariant_of-self-else-is_err c =
    let t = seen c.self.inside in
    record {
      sound = grind (arith, first_is, at_ok, lengthened-joined, (sound-joined t c.args.tag (typed_runes (first_event t.held)) c.self.invariant.sound));
      counted = grind (arith, first_is, at_ok, locks-put);
      countable = grind arith;
    }
