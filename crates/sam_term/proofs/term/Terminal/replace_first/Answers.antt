use Rattle.sam_term.proofs.Common.{arith, first_event, edit_runes, seen}
use Rattle.sam_term.proofs.Acts.{first_is}
use Rattle.sam_term.proofs.LockTotals.{locks-put}
use Rattle.sam_term.proofs.Replaces.{sound-put}
use Rattle.sam_term.proofs.term.Terminal.replace_first.Goals as goal

pub invariant_of-self-2 : goal.invariant_of-self-2
invariant_of-self-2 c =
    let t = seen c.self.inside in
    record {
      sound = sound-put t c.args.tag c.args.range.0 c.args.range.1 (edit_runes (first_event t.held)) _ _ c.self.invariant.sound c.requires.ordered (grind arith) (grind arith)
          (grind (arith, first_is, c.in_ok-replace_window.ensures.ok, c.window_mut.ensures.value, c.edit_runes.ensures)) c.take.ensures.after;
      counted = grind (arith, first_is, locks-put);
      countable = grind arith;
    }
