-- Two runs of calls, one of each endpoint, and the bytes that were carried between them.
use Rattle.std.specs.Prelude.{◌≡◌, ◌⊎◌, ℕ, List, [], ◌∷◌, ◌++◌, flat_map}
use Rattle.sam_host.specs.Host.{new_host}
use Rattle.sam_host.specs.Laws.{AreGiven}
use Rattle.sam_host.specs.declared.fault.HostFault.TheVariants as host_fault
use Rattle.sam_term.specs.declared.fault.TermFault.TheVariants as term_fault
use Rattle.sam_endpoint.specs.HostEndpoints.{PlainHostEndpoint}
use Rattle.sam_endpoint.specs.HostRuns.{begun_with, Call as HostCall, Runs as HostRuns, Stops as HostStops, came_in as came_up, asides_by, went_out as went_down}
use Rattle.sam_endpoint.specs.TermEndpoints.{PlainTermEndpoint, new_term_endpoint}
use Rattle.sam_endpoint.specs.TermRuns.{put_in, Call as TermCall, Runs as TermRuns, Stops as TermStops, came_in as came_down, went_out as went_up}
use Rattle.sam_endpoint.specs.declared.fault.HostStop.{HostStop}
use Rattle.sam_endpoint.specs.declared.fault.HostStop.TheVariants as host_stop
use Rattle.sam_endpoint.specs.declared.fault.TermStop.{TermStop}
use Rattle.sam_endpoint.specs.declared.fault.TermStop.TheVariants as term_stop
use Rattle.sam_joined.specs.Joined.{AreCarried}

-- All bytes that the one handed out in its calls, or has pending, are those that came in with the calls of the other, and then those that
-- are on their way
pub record Carry (host_calls : List HostCall) (term_calls : List TermCall) (up down : List ℕ)
    (e : PlainHostEndpoint) (g : PlainTermEndpoint) : Type 0 where
  pub upwards : flat_map went_up term_calls ++ g.pending_bytes ≡ flat_map came_up host_calls ++ up
  pub downwards : flat_map went_down host_calls ++ e.pending_bytes ≡ flat_map came_down term_calls ++ down

-- ## The laws

-- whatever the calls are, as long as they stop neither
abbrev pub CallsAreCarried : Type 0
CallsAreCarried =
    (given : List (List ℕ × List ℕ)) (host_calls : List HostCall) (term_calls : List TermCall) (up down : List ℕ)
    (e : PlainHostEndpoint) (g : PlainTermEndpoint)
    → AreGiven given → HostRuns (begun_with (new_host given)) host_calls e → TermRuns new_term_endpoint term_calls g
    → Carry host_calls term_calls up down e g
    → AreCarried given (flat_map asides_by host_calls) (flat_map put_in term_calls) up down e g

-- and none does, but for a full count: where a call stops the host endpoint, all that it brought or nothing of it was taken, and of that
-- all may still be on its way
abbrev pub NoCallStopsTheHost : Type 0
NoCallStopsTheHost =
    (given : List (List ℕ × List ℕ)) (host_calls : List HostCall) (last : HostCall) (term_calls : List TermCall) (up down : List ℕ)
    (why : HostStop) (k e : PlainHostEndpoint) (g : PlainTermEndpoint)
    → AreGiven given → HostRuns (begun_with (new_host given)) host_calls k → HostStops k last why e
    → TermRuns new_term_endpoint term_calls g
    → Carry (host_calls ++ last ∷ []) term_calls up down e g
    → (taken : List HostCall) × ((taken ≡ host_calls ++ last ∷ []) ⊎ (taken ≡ host_calls))
    × (way : List ℕ) × AreCarried given (flat_map asides_by taken) (flat_map put_in term_calls) way down e g
    × (why ≡ host_stop.Refused host_fault.CountFull)

-- and so where a call stops the terminal endpoint
abbrev pub NoCallStopsTheTerminal : Type 0
NoCallStopsTheTerminal =
    (given : List (List ℕ × List ℕ)) (host_calls : List HostCall) (term_calls : List TermCall) (last : TermCall) (up down : List ℕ)
    (why : TermStop) (e : PlainHostEndpoint) (k g : PlainTermEndpoint)
    → AreGiven given → HostRuns (begun_with (new_host given)) host_calls e
    → TermRuns new_term_endpoint term_calls k → TermStops k last why g
    → Carry host_calls (term_calls ++ last ∷ []) up down e g
    → (taken : List TermCall) × ((taken ≡ term_calls ++ last ∷ []) ⊎ (taken ≡ term_calls))
    × (way : List ℕ) × AreCarried given (flat_map asides_by host_calls) (flat_map put_in taken) up way e g
    × (why ≡ term_stop.Refused term_fault.CountFull)
