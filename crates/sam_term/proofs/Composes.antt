-- Composing by the lock that a message takes, and what its steps leave.
use Rattle.sam_term.proofs.Common.{◌≡◌, ℕ, ◌+◌, [], ◌∷◌, length, arith, lock_of, lock_added, is_request, PlainTerminal, window_at, put_window, composed, flushed, unsent_message, sends, unchanged, Window, slot-put_same, put_slot-put_slot, Tmesg}

-- a window that is put twice
pub put-put : (t : PlainTerminal) (f : ℕ) (w v : Window) → put_window (put_window t f w) f v ≡ put_window t f v
put-put t f w v = grind (arith, put_slot-put_slot, slot-put_same)

pub window-put_same : (t : PlainTerminal) (f : ℕ) (w : Window) → window_at (put_window t f w) f ≡ w
window-put_same t f w = grind (arith, slot-put_same)

-- composing counts, and adds the lock
pub composed_by : (t : PlainTerminal) (m : Tmesg) → composed t m ≡ lock_added (lock_of m) (is_request m) t
composed_by t m = grind (arith, window-put_same, put-put)

-- ## Flushing

-- flushing leaves the files
pub flushed-files : (t : PlainTerminal) → (flushed t).0.files ≡ t.files
unfolding flushed
flushed-files t = grind arith

pub flushed-sent : (t : PlainTerminal) → (flushed t).0.sent ≡ t.sent + length (unsent_message t.unsent)
unfolding flushed
flushed-sent t = grind arith

pub sends-sent : (t : PlainTerminal) (m : Tmesg) → (sends t unchanged (m ∷ [])).0.sent ≡ t.sent + length (unsent_message t.unsent) + 1
sends-sent t m = grind (arith, flushed-sent)

-- what flushing does
pub ruleset flush_facts = (flushed-files, flushed-sent, sends-sent)

-- what a window that is put shows
pub ruleset put_facts = (window-put_same)
