-- How long the schedule of a log is.
use Rattle.sam_world.proofs.Common.{◌≡◌, ℕ, ◌+◌, ◌-◌, ◌≤◌, List, [], ◌∷◌, length, false, arith, length-append, merged, merged_from, is_bad_log, HostTake}
use Rattle.std.proofs.lemmas.List.{length-replicate}
use Rattle.sam_sides.specs.declared.log.TermLog.{TermLog}

-- an event for each entry that is left, and for each message that the host has still to take
long_from : (done n : ℕ) (entries : List TermLog) → done ≤ n → is_bad_log entries n ≡ false
    → length (merged_from done entries n) + done ≡ length entries + n
long_from done n [] few fits = omega (arith, length-replicate (n - done) HostTake)
long_from done n (entry ∷ entries) few fits = grind (arith, length-append, length-replicate, (λ (k : ℕ). long_from k n entries))

pub merged_long : (entries : List TermLog) (n : ℕ) → is_bad_log entries n ≡ false → length (merged entries n) ≡ length entries + n
merged_long entries n fits = grind (arith, long_from)
