-- What the calls do that take bytes in and go on by single steps.
use Rattle.std.specs.Prelude.{◌≡◌, ℕ, List, slice_get, Option, option_map, Some, None, Result}
use Rattle.sam_mesg.specs.TerminalKinds.{kind_t}
use Rattle.sam_endpoint.specs.Naming.{file_of_t}
use Rattle.sam_endpoint.specs.HostEndpoints.{PlainHostEndpoint}
use Rattle.sam_endpoint.specs.HostRuns as host_call
use Rattle.sam_endpoint.specs.TermEndpoints.{PlainTermEndpoint}
use Rattle.sam_endpoint.specs.TermRuns as term_call
use Rattle.sam_endpoint.specs.TermStepping.{next_frame}
use Rattle.sam_endpoint.specs.declared.fault.EndpointFault.{EndpointFault}
use Rattle.sam_endpoint.specs.declared.fault.HostStop.{HostStop}
use Rattle.sam_endpoint.specs.declared.fault.TermStop.{TermStop}
use Rattle.sam_endpoint.specs.declared.step.BringFault.{BringFault}
use Rattle.sam_endpoint.specs.declared.step.HostStep.{HostStep}
use Rattle.sam_endpoint.specs.declared.step.NextFrame.{NextFrame}
use Rattle.sam_endpoint.specs.declared.step.TermStep.{TermStep}
use Rattle.sam_endpoint.specs.declared.step.TermStep.TheVariants as term
use Rattle.sam_handles.specs.Calls.{AtHandle}
use Rattle.sam_handles.specs.Did.{did_nothing, is_load, tag_or_zero, did_of_host, did_of_term, did_or}
use Rattle.sam_handles.specs.Status.{no_handle, bring_status, call_status, host_stop_status, term_stop_status}
use Rattle.sam_handles.specs.declared.did.SamDid.{SamDid}
unfoldable use Rattle.sam_c.specs.Hosts.{HostDoes}
unfoldable use Rattle.sam_c.specs.Terms.{TermDoes}

-- ## Bytes in

abbrev pub HostBrought : Option PlainHostEndpoint → List ℕ → ℕ → Option PlainHostEndpoint → Type 0
HostBrought before piece status after =
    AtHandle before status after
    (λ e status g. (result : Result (Unit {0}) (BringFault HostStop)) × HostDoes e (host_call.Bring piece result) g
    × (status ≡ bring_status host_stop_status result))

abbrev pub TermBrought : Option PlainTermEndpoint → List ℕ → ℕ → Option PlainTermEndpoint → Type 0
TermBrought before piece status after =
    AtHandle before status after
    (λ e status g. (result : Result (Unit {0}) (BringFault TermStop)) × TermDoes e (term_call.Bring piece result) g
    × (status ≡ bring_status term_stop_status result))

-- ## What a step did

abbrev pub HostStepped : Option PlainHostEndpoint → SamDid → ℕ → SamDid → Option PlainHostEndpoint → Type 0
HostStepped None before status after g = (status ≡ no_handle) × (after ≡ before) × (g ≡ None)
HostStepped (Some e) before status after g =
    (k : PlainHostEndpoint) × (result : Result HostStep (EndpointFault HostStop)) × (g ≡ Some k)
    × HostDoes e (host_call.MakeStep result) k
    × (status ≡ call_status host_stop_status result) × (after ≡ did_or did_of_host before result)

abbrev pub TermStepped : Option PlainTermEndpoint → SamDid → ℕ → SamDid → Option PlainTermEndpoint → Type 0
TermStepped None before status after g = (status ≡ no_handle) × (after ≡ before) × (g ≡ None)
TermStepped (Some e) before status after g =
    (k : PlainTermEndpoint) × (result : Result TermStep (EndpointFault TermStop)) × (g ≡ Some k)
    × TermDoes e (term_call.MakeStep result) k
    × (status ≡ call_status term_stop_status result) × (after ≡ did_or did_of_term before result)

-- ## What the next step begins with

-- the kind of the oldest message that waits, and the file that it names
abbrev pub next_of : PlainHostEndpoint → Option (ℕ × ℕ)
next_of e = option_map (λ m. (kind_t m, tag_or_zero (file_of_t m))) (slice_get e.waiting 0)

-- the oldest frame that waits at a terminal, as a step that doesn't know yet what comes
abbrev pub did_next : NextFrame → SamDid
did_next frame =
    record (did_nothing 5) {
      kind = frame.kind;
      tag = tag_or_zero frame.tag;
      start = frame.start;
      gone = frame.gone;
      loads = is_load frame.kind;
    }

abbrev pub next_did : PlainTermEndpoint → Option SamDid
next_did e = option_map (λ frame. did_next (next_frame e.term frame)) (slice_get e.waiting 0)
