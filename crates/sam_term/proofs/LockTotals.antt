-- The count of the locks of all files, as one file changes or all do.
use Rattle.sam_term.proofs.Common.{◌≡◌, ℕ, ◌+◌, ◌≤◌, suc, arith, [], ◌∷◌, None, Some, Slots, put_slot, free_slot, map_slots, known_in, freed_known, is_any_locked, KnownFile}
use Rattle.sam_term.specs.Sound.{all_locks, locks_of}
use Rattle.std.proofs.Common.{nat_lt}

pub locks-put : (ss : Slots KnownFile) (f : ℕ) (k : KnownFile) → all_locks (put_slot ss f k) + locks_of (known_in ss f) ≡ all_locks ss + locks_of k
locks-put [] (suc f) k = grind (arith, (locks-put [] f k))
locks-put (None ∷ ss) (suc f) k = grind (arith, (locks-put ss f k))
locks-put (Some x ∷ ss) (suc f) k = grind (arith, (locks-put ss f k))
locks-put ss f k = grind arith

pub locks-free : (ss : Slots KnownFile) (f : ℕ) → all_locks (free_slot ss f) + locks_of (known_in ss f) ≡ all_locks ss
locks-free (None ∷ ss) (suc f) = grind (arith, (locks-free ss f))
locks-free (Some x ∷ ss) (suc f) = grind (arith, (locks-free ss f))
locks-free ss f = grind arith

-- no file holds more than all
pub locks-among : (ss : Slots KnownFile) (f : ℕ) → locks_of (known_in ss f) ≤ all_locks ss
locks-among ss f = grind (arith, (locks-free ss f))

pub locks-freed : (ss : Slots KnownFile) → all_locks (map_slots freed_known ss) ≡ 0
locks-freed (None ∷ ss) = locks-freed ss
locks-freed (Some x ∷ ss) = grind (arith, (locks-freed ss))
locks-freed ss = grind arith

-- some file is locked if the count says so
pub locked-counted : (ss : Slots KnownFile) → is_any_locked ss ≡ nat_lt 0 (all_locks ss)
locked-counted (None ∷ ss) = locked-counted ss
locked-counted (Some x ∷ ss) = grind (arith, (locked-counted ss))
locked-counted ss = grind arith
