-- Frames that are stamped one after another.
use Rattle.sam_host.proofs.Common.{◌≡◌, refl, sym, append_assoc, ap, ℕ, ◌+◌, ◌==◌, false, List, [], ◌∷◌, ◌++◌, Option, Some, None, Ok, Err, arith, most_count, first_of_checks, Tmesg, Hmesg, HFrame, PlainHost, Reply, stamped, answer, host_checks, reply_to, counted}
use Rattle.std.proofs.Common.{◌⊎◌, inl, inr}
use Rattle.sam_runes.specs.Checks.{fault_of}
use Rattle.sam_host.specs.Host.{IsRefusal, answer_unless}
use Rattle.sam_host.specs.declared.fault.HostFault.{HostFault}
use Rattle.sam_host.specs.declared.fault.HostFault.TheVariants.{OutOfMemory}

-- frames that are stamped one after another are stamped at once
pub stamped_append : (seen : ℕ) (ms ns : List Hmesg) → stamped seen (ms ++ ns) ≡ stamped seen ms ++ stamped seen ns
stamped_append seen [] ns = refl
stamped_append seen (m ∷ ms) ns = ap (λ rest. record { seen = seen; msg = m } ∷ rest) (stamped_append seen ms ns)

-- two lists that are told one after another
pub told_both : (before : List HFrame) (seen : ℕ) (ms ns : List Hmesg) → before ++ stamped seen (ms ++ ns) ≡ (before ++ stamped seen ms) ++ stamped seen ns
told_both before seen ms ns = grind (arith, stamped_append, append_assoc)

-- an answer of the whole, from the parts that a reply gives
pub answered : (h new : PlainHost) (m : Tmesg) (frames : List HFrame) → (h.taken == most_count) ≡ false → h.is_done ≡ false
    → first_of_checks (host_checks h m) ≡ None → new ≡ (reply_to h m).0 → frames ≡ stamped (h.taken + 1) (reply_to h m).1 → new.taken ≡ h.taken
    → answer h m ≡ Ok (counted new, frames)
unfolding answer
answered h new m frames less undone allowed host told count = grind arith

refused-by : (o : Option HostFault) (reply : Reply) (why : HostFault) → IsRefusal o why → (why ≡ OutOfMemory) ⊎ (answer_unless o reply ≡ Err why)
refused-by None reply why e = inl e
refused-by (Some fault) reply why e = inr (ap Err (sym e))

exact-by : (o : Option HostFault) (reply : Reply) (why : HostFault) → IsRefusal o why → IsRefusal (fault_of (answer_unless o reply)) why
exact-by None reply why e = e
exact-by (Some fault) reply why e = e

-- a refusal of the whole
pub refused : (h : PlainHost) (m : Tmesg) (why : HostFault) → (h.taken == most_count) ≡ false → h.is_done ≡ false → IsRefusal (first_of_checks (host_checks h m)) why
    → (why ≡ OutOfMemory) ⊎ (answer h m ≡ Err why)
unfolding answer
refused h m why less undone against = grind (arith, (refused-by (first_of_checks (host_checks h m)) (reply_to h m) why against))

pub refused_exactly : (h : PlainHost) (m : Tmesg) (why : HostFault) → (h.taken == most_count) ≡ false → h.is_done ≡ false → IsRefusal (first_of_checks (host_checks h m)) why
    → IsRefusal (fault_of (answer h m)) why
unfolding answer
refused_exactly h m why less undone against = grind (arith, (exact-by (first_of_checks (host_checks h m)) (reply_to h m) why against))

-- what the answer to a message rests on
pub ruleset answer_facts = (answered, refused, refused_exactly)
