-- A server in the middle of a turn, and what is left of it.
use Rattle.std.specs.Prelude.{◌≡◌, ◌≢◌, ℕ, ◌+◌, ◌*◌, ◌<◌, ◌≤◌, List, [], ◌∷◌, ◌++◌, length, take, Option, None, Some, Bool, true, false, Result, Ok, Err}
use Rattle.sam_link.specs.End.{End}
use Rattle.sam_link.specs.Packets.{Packet}
use Rattle.sam_link.specs.Packets.{Packet as packet}
use Rattle.sam_mesg.specs.declared.hmesg.HFrame.{HFrame}
use Rattle.sam_endpoint.specs.HostEndpoints.{PlainHostEndpoint}
use Rattle.sam_endpoint.specs.HostStepping.{BringsIn, IsReady}
use Rattle.sam_endpoint.specs.declared.fault.EndpointFault.{EndpointFault}
use Rattle.sam_endpoint.specs.declared.fault.EndpointFault.TheVariants as endpoint
use Rattle.sam_endpoint.specs.declared.fault.HostStop.{HostStop}
use Rattle.sam_endpoint.specs.declared.step.BringFault.{BringFault}
use Rattle.sam_endpoint.specs.declared.step.BringFault.TheVariants as bring
use Rattle.sam_endpoint.specs.declared.step.HostStep.{HostStep}
use Rattle.sam_endpoint.specs.declared.step.HostStep.TheVariants as steps
use Rattle.sam_server.specs.Servers.{Close, Effect, Hear, IsPausedAt, Pauses, PutsAnswers, Server, Work, Write, with_work}
use Rattle.sam_server.specs.declared.effect.Effect as declared
use Rattle.sam_server.specs.declared.effect.Effect.TheVariants as effect
use Rattle.sam_server.specs.declared.host_link.Next.{Next}
use Rattle.sam_server.specs.declared.host_link.Next.TheVariants as next
use Rattle.sam_server.specs.declared.turn.Stop.TheVariants as stop
use Rattle.sam_server.specs.declared.turn.TurnFault.{TurnFault}
use Rattle.sam_server.specs.declared.turn.TurnFault.TheVariants as fault

abbrev pub plain_effect : declared.Effect → Effect
plain_effect (effect.Write tag) = Write tag
plain_effect (effect.Hear bytes) = Hear bytes.items
plain_effect (effect.Close tag name text) = Close tag name.items text.items

pub record PlainTurn : Type 0 where
  pub server : Server
  pub held : List Packet  -- what left the link, and neither the endpoint nor the program has got yet

abbrev pub linked : PlainTurn → End → PlainTurn
linked t l = record t { server = record t.server { link = l } }

abbrev pub hosted : PlainTurn → PlainHostEndpoint → PlainTurn
hosted t k = record t { server = record t.server { host = k } }

abbrev pub with_effect : PlainTurn → Option Effect → PlainTurn
with_effect t effect = record t { server = record t.server { effect = effect } }

-- the packet that stands in a buffer
abbrev pub held_in : Next → List ℕ → List Packet
held_in (next.Data count) buffer = packet.Data (take count buffer) ∷ []
held_in (next.Note count) buffer = packet.Note (take count buffer) ∷ []
held_in next.Nothing buffer = []

abbrev pub Fits : Next → Type 0
Fits (next.Data count) = (1 ≤ count) × (count ≤ 4096)
Fits (next.Note count) = count ≤ 4096
Fits next.Nothing = Unit {0}

-- a packet is held only for an endpoint that is ready, and while no effect waits
abbrev pub MayHold : Next → PlainHostEndpoint → Option declared.Effect → Type 0
MayHold (next.Data count) e effect = IsReady e × (effect ≡ None)
MayHold (next.Note count) e effect = IsReady e × (effect ≡ None)
MayHold next.Nothing e effect = Unit {0}

-- what is left to work on
abbrev pub work_of : PlainTurn → Work
work_of t = record { packets = t.held ++ t.server.link.waiting.packets; host = t.server.host; effect = t.server.effect }

-- What is left of a turn leads there
abbrev pub Finishes : PlainTurn → Server → Type 0
Finishes t z = (m : Work) × Pauses (work_of t) m × PutsAnswers (with_work t.server.link m) z

-- something of the turn is done: what is left leads where all led, and only what led nowhere leads nowhere
pub record Nears (t u : PlainTurn) : Type 0 where
  pub leads : (z : Server) → Finishes u z → Finishes t z
  pub back : (z : Server) → Finishes t z → Finishes u z

-- the effect that waits is dropped, if there is one
abbrev pub DroppedEffect : PlainTurn → Bool → PlainTurn → Type 0
DroppedEffect t true u = (t.server.effect ≢ None) × (u ≡ with_effect t None)
DroppedEffect t false u = (t.server.effect ≡ None) × (u ≡ t)

-- ## What each part of a turn answers, and how it leaves the server

-- the endpoint has this many steps left at most
abbrev pub some_left : List HFrame → ℕ
some_left [] = 0
some_left (frame ∷ frames) = 1

abbrev pub steps_left : PlainHostEndpoint → ℕ
steps_left e = 2 * length e.waiting + some_left e.unwritten

-- the packets that are not handed on
abbrev pub left_in : PlainTurn → List Packet
left_in t = t.held ++ t.server.link.waiting.packets

-- something is done by the endpoint alone
pub record GoesOn (t u : PlainTurn) : Type 0 where
  pub near : Nears t u
  pub link : u.server.link ≡ t.server.link
  pub held : u.held ≡ t.held

-- where a turn breaks off: memory was refused, and what is left leads where all led; or the server has stopped, since it leads nowhere
abbrev pub BreaksOff : PlainTurn → TurnFault → PlainTurn → Type 0
BreaksOff t fault.OutOfMemory u = Nears t u
BreaksOff t (fault.Stopped why) u = (z : Server) → Finishes t z → ⊥

-- what a step of the endpoint says of a turn: whether something was done
abbrev pub told_of_step : Result HostStep (EndpointFault HostStop) → Result Bool TurnFault
told_of_step (Ok steps.Idle) = Ok false
told_of_step (Ok steps.Wrote) = Ok true
told_of_step (Ok (steps.Edited tag count)) = Ok true
told_of_step (Ok (steps.Answered kind tag)) = Ok true
told_of_step (Err (endpoint.Stopped why)) = Err (fault.Stopped (stop.Endpoint why))
told_of_step (Err endpoint.Unfinished) = Err fault.OutOfMemory
told_of_step (Err endpoint.OutOfMemory) = Err fault.OutOfMemory
told_of_step (Err endpoint.CountFull) = Err fault.OutOfMemory

-- an effect waits, or the endpoint has nothing left to do
abbrev pub IsStillAt : Option Effect → PlainHostEndpoint → Type 0
IsStillAt None e = IsReady e
IsStillAt (Some effect) e = Unit {0}

abbrev pub IsStill : PlainTurn → Type 0
IsStill t = IsStillAt t.server.effect t.server.host

abbrev pub Stepped : PlainTurn → Result Bool TurnFault → PlainTurn → Type 0
Stepped t (Ok true) u = GoesOn t u × (steps_left u.server.host < steps_left t.server.host)
Stepped t (Ok false) u = (u ≡ t) × IsStill t
Stepped t (Err why) u = BreaksOff t why u

abbrev pub Idled : PlainTurn → Result (Unit {0}) TurnFault → PlainTurn → Type 0
Idled t (Ok done) u = GoesOn t u × IsStill u
Idled t (Err why) u = BreaksOff t why u

-- nothing is left of what came, or an effect waits
pub record IsHanded (t : PlainTurn) : Type 0 where
  pub held : t.held ≡ []
  pub paused : IsPausedAt t.server.effect (work_of t)

-- a packet is held, and may be handed on
pub record IsHolding (t : PlainTurn) : Type 0 where
  pub some : t.held ≡ [] → ⊥
  pub ready : IsReady t.server.host
  pub none : t.server.effect ≡ None

-- as many packets are left to be handed on, and one is held where there was one
abbrev pub Fetched : PlainTurn → Result Bool TurnFault → PlainTurn → Type 0
Fetched t (Ok true) u = Nears t u × IsHolding u × (left_in u ≡ left_in t)
Fetched t (Ok false) u = Nears t u × IsHanded u
Fetched t (Err why) u = BreaksOff t why u

-- what bringing a piece says of a turn
abbrev pub told_of_bring : Result (Unit {0}) (BringFault HostStop) → Result (Unit {0}) TurnFault
told_of_bring (Ok done) = Ok tt
told_of_bring (Err (bring.Stopped why)) = Err (fault.Stopped (stop.Endpoint why))
told_of_bring (Err bring.CountFull) = Err (fault.Stopped stop.CountFull)
told_of_bring (Err bring.Waiting) = Err fault.OutOfMemory
told_of_bring (Err bring.OutOfMemory) = Err fault.OutOfMemory

-- the endpoint has the piece; or all is as it was, since memory was refused, or since it may never have it
abbrev pub Brought : PlainHostEndpoint → List ℕ → Result (Unit {0}) TurnFault → PlainHostEndpoint → Type 0
Brought e piece (Ok done) k = BringsIn e piece (Ok tt) k
Brought e piece (Err fault.OutOfMemory) k = k ≡ e
Brought e piece (Err (fault.Stopped why)) k = ((j : PlainHostEndpoint) → BringsIn e piece (Ok tt) j → ⊥) × (k ≡ e)

-- an effect with the message, or out of memory
abbrev pub Heard : List ℕ → Result declared.Effect TurnFault → Type 0
Heard message (Ok effect) = plain_effect effect ≡ Hear message
Heard message (Err fault.OutOfMemory) = Unit {0}
Heard message (Err (fault.Stopped why)) = ⊥

-- the packet is handed on
abbrev pub Handed : PlainTurn → Result (Unit {0}) TurnFault → PlainTurn → Type 0
Handed t (Ok done) u = Nears t u × (length (left_in u) < length (left_in t))
Handed t (Err why) u = BreaksOff t why u

abbrev pub HandedNext : PlainTurn → Result Bool TurnFault → PlainTurn → Type 0
HandedNext t (Ok true) u = Nears t u × (length (left_in u) < length (left_in t))
HandedNext t (Ok false) u = Nears t u × IsHanded u
HandedNext t (Err why) u = BreaksOff t why u

-- nothing is left of a turn
pub record IsResting (t : PlainTurn) : Type 0 where
  pub handed : IsHanded t
  pub answers : t.server.host.pending_bytes ≡ []

-- the turn is done, and has led where it was to lead
abbrev pub Finished : PlainTurn → Result (Unit {0}) TurnFault → PlainTurn → Type 0
Finished t (Ok done) u = Finishes t u.server × IsResting u
Finished t (Err why) u = BreaksOff t why u
