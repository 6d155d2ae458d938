use Rattle.sam_term.proofs.Common.{arith, refl, ◌-◌, took_unlockfile, seen}
use Rattle.sam_term.proofs.Sounds.{sound_lent}
use Rattle.sam_term.proofs.LockTotals.{locks-put, locks-among}
use Rattle.sam_term.proofs.term.Terminal.free_lock.Goals as goal

pub overflow_sub-self : goal.overflow_sub-self
overflow_sub-self c = grind (arith, (locks-among c.self.inside.files c.args.tag))

pub invariant_of-self : goal.invariant_of-self
invariant_of-self c =
    let kept = c.self.invariant in
    let h = kept.sound.windows c.args.tag in
    let l = h.locks in
    record {
      sound = sound_lent (seen c.self.inside) c.args.tag _ (λ w. record w { locks = w.locks - 1 }) c.window_mut-window.ensures.value kept.sound
          (record { locks = omega arith; awaited = h.awaited; dot_start = h.dot_start; dot_end = h.dot_end; view = h.view; size = h.size }) refl;
      counted = grind (arith, locks-put, locks-among);
      countable = grind (arith, locks-put, locks-among);
    }

pub returns : goal.returns
unfolding took_unlockfile
returns c = grind arith
