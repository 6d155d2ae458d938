-- Requests for gaps.
use Rattle.sam_term.proofs.Composes.{flush_facts, window-put_same}
use Rattle.sam_term.proofs.Common.{◌≡◌, refl, ap, ◌∙◌, ℕ, true, [], ◌∷◌, Some, None, arith, is_some, lock_of, is_lockable, PlainTerminal, is_open, wanted, took_unlockfile, sends_if, sends, requested, unchanged, window_of, Window, Tmesg, shown_from}
use Rattle.sam_term.proofs.SlotSteps.{put_again}

-- a request may take its lock
pub lockable_wanted : (t : PlainTerminal) (f : ℕ) (m : Tmesg) → wanted t f ≡ Some m → is_lockable t (lock_of m) ≡ true
lockable_wanted t f m e = grind arith

-- freeing a lock changes no request
pub wanted-unlocked : (t : PlainTerminal) (f : ℕ) → is_open t f ≡ true → wanted (took_unlockfile t f) f ≡ wanted t f
unfolding took_unlockfile
wanted-unlocked t f o = grind (arith, window-put_same)

-- nor whether its message can take its lock
pub lockable_unlocked : (t : PlainTerminal) (f : ℕ) (m : Tmesg) → is_open t f ≡ true → wanted t f ≡ Some m → is_lockable (took_unlockfile t f) (lock_of m) ≡ true
lockable_unlocked t f m o e = lockable_wanted (took_unlockfile t f) f m (wanted-unlocked t f o ∙ e)

pub requested_some : (t : PlainTerminal) (f : ℕ) (m : Tmesg) → wanted t f ≡ Some m → requested t f ≡ sends t unchanged (m ∷ [])
unfolding requested
requested_some t f m e = ap (λ o. sends_if o t) e

pub requested_none : (t : PlainTerminal) (f : ℕ) → wanted t f ≡ None → requested t f ≡ (t, [])
unfolding requested
requested_none t f e = ap (λ o. sends_if o t) e

pub sent-unlocked : (t : PlainTerminal) (f : ℕ) → (took_unlockfile t f).sent ≡ t.sent
unfolding took_unlockfile
sent-unlocked t f = refl

pub unsent-unlocked : (t : PlainTerminal) (f : ℕ) → (took_unlockfile t f).unsent ≡ t.unsent
unfolding took_unlockfile
unsent-unlocked t f = refl

-- an open file, shown as it is
pub shown_same : (t : PlainTerminal) (f : ℕ) (w : Window) → window_of t f ≡ Some w → shown_from t f w.view_start w.view_length ≡ t
shown_same t f w e = grind (arith, (put_again t.files f (ap is_some e)))

-- what freeing a lock leaves
pub ruleset unlock_facts = (flush_facts, requested_some, requested_none, wanted-unlocked, sent-unlocked, unsent-unlocked, lockable_unlocked)
