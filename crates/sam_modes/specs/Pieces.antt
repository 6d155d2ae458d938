-- What is done with one piece of the input.
use Rattle.std.specs.Prelude.{◌≡◌, ℕ, List, [], Option, Result, Ok, Err}
use Rattle.std.specs.Io.KnownBytes.{Appends}
use Rattle.sam_mesg.specs.Faults.{mesg_fault_number}
use Rattle.sam_frame.specs.Framing.{Held}
use Rattle.sam_host.specs.Faults.{host_fault_number}
use Rattle.sam_endpoint.specs.declared.fault.EndpointFault.TheVariants.{Stopped}
use Rattle.sam_endpoint.specs.declared.fault.HostStop.{HostStop}
use Rattle.sam_endpoint.specs.declared.fault.HostStop.TheVariants.{Stream, Refused}
use Rattle.sam_endpoint.specs.Streams.{mesg_fault}
use Rattle.sam_endpoint.specs.HostEndpoints.{PlainHostEndpoint, Feeds}
use Rattle.sam_endpoint.specs.HostSteps.{Answer}
use Rattle.sam_ends.specs.declared.stop.Stop.{Stop}
use Rattle.sam_ends.specs.declared.stop.Stop.TheVariants.{Frame, Host}
use Rattle.sam_modes.specs.declared.fault.PlayFault.{PlayFault}
use Rattle.sam_modes.specs.declared.fault.PlayFault.TheVariants.{Side}

-- what the stop of the host's end is for the program
abbrev pub of_host_stop : HostStop → Stop
of_host_stop (Stream why) = Frame (mesg_fault_number (mesg_fault why))
of_host_stop (Refused why) = Host (host_fault_number why)

-- the end was fed the piece, and the bytes that were pending then are written
abbrev pub Answers : {W : Type 0} → (W → Option (List ℕ)) → PlainHostEndpoint → PlainHostEndpoint → W → W → List ℕ → Answer → Type 0
Answers contents e g before after piece answer =
    (fed : PlainHostEndpoint) × Feeds e piece answer fed
    × Appends (contents before) (contents after) fed.pending_bytes × (g ≡ record fed { pending_bytes = [] })

-- the same, and the piece stopped the end
abbrev pub StopsAt : {W : Type 0} → (W → Option (List ℕ)) → PlainHostEndpoint → PlainHostEndpoint → W → W → List ℕ → Stop → Type 0
StopsAt contents e g before after piece stopped =
    (why : HostStop) × (stopped ≡ of_host_stop why) × Answers contents e g before after piece (Err (Stopped why))

-- the stream ends after a whole message, or is cut short
abbrev pub MayEnd : Held → Result (Unit {0}) PlayFault → Type 0
MayEnd held (Ok done) = held.bytes ≡ []
MayEnd held (Err fault) = (fault ≡ Side (Frame 4)) × (held.bytes ≡ [] → ⊥)
