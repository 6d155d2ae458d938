-- A server of another session that begins with the texts of one.
use Rattle.std.specs.Prelude.{◌≡◌, ℕ, List, [], ◌∷◌, map, drop, Option, None, Some, Result, Ok, Err}
use Rattle.std.specs.Str.{encode_utf8_all}
use Rattle.sam_link.specs.End.{fresh}
use Rattle.sam_link.specs.declared.hello.Id.{Id}
use Rattle.sam_link.specs.declared.phase.Role.TheVariants.{Host}
use Rattle.sam_runes.specs.Slots.{Slots}
use Rattle.sam_text.specs.Files.{PlainFile}
use Rattle.sam_host.specs.Host.{PlainHost, new_host, with_given}
use Rattle.sam_endpoint.specs.HostRuns.{begun_with}
use Rattle.sam_server.specs.DurableServers.{PlainDurableServer, begun, new_durable_server, recorded}
use Rattle.sam_server.specs.Gates.{new_gate}
use Rattle.sam_server.specs.Records.{Joined, NumbersFit, PlainRecord, record_bytes}
use Rattle.sam_server.specs.Servers.{Effect, Makes, Server, Takes, new_server}
use Rattle.sam_server.specs.declared.fault.HeirFault.{HeirFault}
use Rattle.sam_server.specs.declared.fault.HeirFault.TheVariants as fault
use Rattle.sam_server.specs.declared.server.Stage.{Stage}
use Rattle.sam_server.specs.declared.server.Stage.TheVariants.{Answering, Recording, Settled, Stopped}

abbrev pub host_of : PlainDurableServer → PlainHost
host_of d = d.turn.server.host.host

-- the files that are there, in the order of their tags
abbrev pub files_in : Slots PlainFile → List PlainFile
files_in [] = []
files_in (None ∷ slots) = files_in slots
files_in (Some file ∷ slots) = file ∷ files_in slots

-- all but the command file, which has tag 0
abbrev pub files_of : PlainHost → List PlainFile
files_of h = files_in (drop 1 h.files.slots)

-- the record by which a file joins with the name and the text that it has
abbrev pub joining : PlainFile → PlainRecord
joining file = Joined (encode_utf8_all file.name) (encode_utf8_all file.text)

abbrev pub name_and_text : PlainFile → List ℕ × List ℕ
name_and_text file = (file.name, file.text)

-- ## It takes a record for each file

-- a call has taken the record, to its end
abbrev pub HasTaken : PlainDurableServer → PlainRecord → PlainDurableServer → Type 0
HasTaken d r e = (d.stage ≡ Settled) × Takes d.turn.server r e.turn.server × (e ≡ recorded (begun d r) e.turn (record_bytes r))

-- the file has joined, and has its name and its text
pub record Adopts (d : PlainDurableServer) (file : PlainFile) (e : PlainDurableServer) : Type 0 where
  pub taken : HasTaken d (joining file) e
  pub host : host_of e ≡ with_given (host_of d) (name_and_text file)
  pub fits : NumbersFit (joining file)

abbrev pub AdoptsAll : PlainDurableServer → List PlainFile → PlainDurableServer → Type 0
AdoptsAll d [] e = e ≡ d
AdoptsAll d (file ∷ files) e = (m : PlainDurableServer) × Adopts d file m × AdoptsAll m files e

-- ## What it is

-- a server of this session with files of these names and texts, which has heard nothing
abbrev pub server_with : Id → List PlainFile → Server
server_with id files =
    record { link = fresh Host id; host = begun_with (new_host (map name_and_text files)); effect = None }

-- It has a record for each file, none of which is durable, so nothing may go out; and what is made of these records is what it is
pub record IsHeir (id : Id) (files : List PlainFile) (e : PlainDurableServer) : Type 0 where
  pub server : e.turn.server ≡ server_with id files
  pub stage : e.stage ≡ Settled
  pub records : e.records ≡ map (λ file. record_bytes (joining file)) files
  pub gate : e.gate ≡ record { base = new_gate.base; waiting = map (λ file. new_gate.base) files }
  pub due : e.due ≡ None
  pub made : Makes (new_server id) (map joining files) e.turn.server

-- something is under way: what was taken last is not done, or an effect waits, and perhaps messages behind it
abbrev pub under_way : Stage → Option Effect → Option HeirFault
under_way Answering effect = Some fault.Waiting
under_way Recording effect = Some fault.Waiting
under_way Settled (Some effect) = Some fault.EffectWaits
under_way Settled None = None
under_way (Stopped why) effect = None

abbrev pub Rests : PlainDurableServer → Result (Unit {0}) HeirFault → Type 0
Rests d (Ok done) = under_way d.stage d.turn.server.effect ≡ None
Rests d (Err why) = under_way d.stage d.turn.server.effect ≡ Some why

-- what the call for it answers
abbrev pub Inherits : PlainDurableServer → Id → Result PlainDurableServer HeirFault → Type 0
Inherits d id (Ok e) =
    (under_way d.stage d.turn.server.effect ≡ None)
    × AdoptsAll (new_durable_server id) (files_of (host_of d)) e × IsHeir id (files_of (host_of d)) e
Inherits d id (Err fault.Waiting) = under_way d.stage d.turn.server.effect ≡ Some fault.Waiting
Inherits d id (Err fault.EffectWaits) = under_way d.stage d.turn.server.effect ≡ Some fault.EffectWaits
Inherits d id (Err fault.OutOfMemory) = under_way d.stage d.turn.server.effect ≡ None
