-- A note of the terminal's program to the host's.
use Rattle.std.specs.Prelude.{◌≡◌, ◌⊎◌, ℕ, ◌<◌, List, [], length, None, Result, Ok, Err}
use Rattle.sam_endpoint.specs.declared.fault.EndpointFault.{EndpointFault}
use Rattle.sam_endpoint.specs.declared.fault.EndpointFault.TheVariants.{Unfinished}
use Rattle.sam_endpoint.specs.declared.fault.TermStop.{TermStop}
use Rattle.sam_endpoint.specs.declared.step.TermStep.TheVariants.{Wrote}
use Rattle.sam_endpoint.specs.TermEndpoints.{PlainTermEndpoint}
use Rattle.sam_link.specs.declared.fault.NoteFault.{NoteFault}
use Rattle.sam_link.specs.declared.fault.NoteFault.TheVariants.{TooLong, CountFull, OutOfMemory}
use Rattle.sam_link.specs.declared.keeping.PutFault.{PutFault as SendFault}
use Rattle.sam_link.specs.declared.keeping.PutFault.TheVariants as send
use Rattle.sam_overlay.specs.declared.shown_change.OverlayStep.{OverlayStep}
use Rattle.sam_client.specs.Clients.{Does}
use Rattle.sam_client.specs.Clients.Act.{Send, SendNote, Step}
use Rattle.sam_client.specs.declared.client.Client.{Client}

abbrev pub note_fault : SendFault → NoteFault
note_fault send.CountFull = CountFull
note_fault send.OutOfMemory = OutOfMemory

-- messages of what acted last are left over to be written, and no frame of the host waits
abbrev pub HasActed : PlainTermEndpoint → Type 0
HasActed e = (e.stop ≡ None) × (e.waiting ≡ []) × (0 < length e.unwritten)

-- these messages are written, if there are some; or memory is refused for them
abbrev pub WritesActed : Client → Result (Unit {0}) (EndpointFault TermStop) → Client → Type 0
WritesActed c (Ok done) n =
    ((HasActed c.ordered.overlay.end → ⊥) × (n ≡ c))
    ⊎ (HasActed c.ordered.overlay.end × (x : OverlayStep) × (x.step ≡ Wrote) × Does c (Step (Ok x)) n)
WritesActed c (Err why) n = HasActed c.ordered.overlay.end × (why ≡ Unfinished) × Does c (Step (Err why)) n

-- all that the end composed went into the line, or there was nothing; or the line didn't take it
abbrev pub SendsAll : Client → ℕ → Result (Unit {0}) SendFault → Client → Type 0
SendsAll c now (Ok done) n =
    ((c.ordered.overlay.end.pending_bytes ≡ []) × (n ≡ c))
    ⊎ Does c (Send c.ordered.overlay.end.pending_bytes now (Ok tt)) n
SendsAll c now (Err why) n = Does c (Send c.ordered.overlay.end.pending_bytes now (Err why)) n

-- behind that, the line took the note, or didn't
abbrev pub SendsBehind : Client → List ℕ → ℕ → Result (Unit {0}) NoteFault → Client → Type 0
SendsBehind c bytes now answer n = (m : Client) × SendsAll c now (Ok tt) m × Does m (SendNote bytes now answer) n

-- all that was written goes into the line, and behind it the note; or the line didn't take the one or the other
abbrev pub SendsWithNote : Client → List ℕ → ℕ → Result (Unit {0}) NoteFault → Client → Type 0
SendsWithNote c bytes now (Ok done) n = SendsBehind c bytes now (Ok tt) n
SendsWithNote c bytes now (Err TooLong) n = ⊥
SendsWithNote c bytes now (Err CountFull) n = SendsAll c now (Err send.CountFull) n ⊎ SendsBehind c bytes now (Err CountFull) n
SendsWithNote c bytes now (Err OutOfMemory) n = SendsAll c now (Err send.OutOfMemory) n ⊎ SendsBehind c bytes now (Err OutOfMemory) n

-- What acted last is written
abbrev pub PutsBehind : Client → List ℕ → ℕ → Result (Unit {0}) NoteFault → Client → Type 0
PutsBehind c bytes now answer n = (m : Client) × WritesActed c (Ok tt) m × SendsWithNote m bytes now answer n

-- The note goes into the line, behind all that acted. Or why not: it is too long, and all stays; or memory was refused for what acted last;
-- or the line didn't take what was composed; or it did, and not the note
abbrev pub PutsNote : Client → List ℕ → ℕ → Result (Unit {0}) NoteFault → Client → Type 0
PutsNote c bytes now (Ok done) n = PutsBehind c bytes now (Ok tt) n
PutsNote c bytes now (Err TooLong) n = (4096 < length bytes) × (n ≡ c)
PutsNote c bytes now (Err CountFull) n = PutsBehind c bytes now (Err CountFull) n
PutsNote c bytes now (Err OutOfMemory) n = WritesActed c (Err Unfinished) n ⊎ PutsBehind c bytes now (Err OutOfMemory) n
