-- A server: a host endpoint, its end of a link, and the records of what it was given, which alone decide it.
use Rattle.std.specs.Prelude.{◌≡◌, ◌≢◌, ◌⊎◌, ℕ, zero, suc, List, [], ◌∷◌, length, if◌then◌else◌, Option, None, Some, Ok}
use Rattle.std.specs.Str.{encode_utf8_all}
use Rattle.sam_mesg.specs.declared.hmesg.HFrame.{HFrame}
use Rattle.sam_mesg.specs.declared.tmesg.Tmesg.{Tmesg}
use Rattle.sam_mesg.specs.declared.tmesg.Tmesg.TheVariants.{Tversion, Tstartcmdfile, Tcheck, Trequest, Torigin, Tstartfile, Tworkfile, Ttype, Tcut, Tpaste, Tsnarf, Tstartnewfile, Twrite, Tclose, Tlook, Tsearch, Tsend, Tdclick, Tstartsnarf, Tsetsnarf, Tack, Texit}
use Rattle.sam_text.specs.Files.{PlainFile, file_at}
use Rattle.sam_link.specs.Calls.{Does}
use Rattle.sam_link.specs.Calls.Call.{Acknowledge, Answer, Ask, Feed, Put, PutNote}
use Rattle.sam_link.specs.End.{End, fresh}
use Rattle.sam_link.specs.Packets.{Packet}
use Rattle.sam_link.specs.Packets.{Packet as packet}
use Rattle.sam_link.specs.declared.hello.Id.{Id}
use Rattle.sam_link.specs.declared.phase.Phase.{Phase}
use Rattle.sam_link.specs.declared.phase.Phase.TheVariants.{Asking, Down, Open}
use Rattle.sam_link.specs.declared.phase.Role.TheVariants.{Host}
use Rattle.sam_host.specs.Host.{PlainHost, new_host}
use Rattle.sam_endpoint.specs.HostEndpoints.{Adds, Marks, PlainHostEndpoint}
use Rattle.sam_endpoint.specs.HostRuns.{begun_with}
use Rattle.sam_endpoint.specs.HostStepping.{BringsIn, IsReady, Steps}
use Rattle.sam_endpoint.specs.declared.step.HostStep.{HostStep}
use Rattle.sam_endpoint.specs.declared.step.HostStep.TheVariants.{Idle}
pub use Rattle.sam_server.specs.Records.{Acknowledged, Asked, Called, Came, Done, Joined, Marked, PlainRecord, Said}

-- what the program is asked to do
pub data Effect : Type 0 where
  Write : ℕ → Effect  -- the saved text of this file is to be written
  Hear : List ℕ → Effect  -- the terminal said this message
  Close : ℕ → List ℕ → List ℕ → Effect  -- this file was closed while it was dirty: here are its name and its text, in UTF-8

pub record Server : Type 0 where
  pub link : End
  pub host : PlainHostEndpoint
  pub effect : Option Effect  -- that is to be done before anything behind it is handled

abbrev pub new_server : Id → Server
new_server id = record { link = fresh Host id; host = begun_with (new_host []); effect = None }

-- ## What came is handled

-- what a server works on: the packets that wait in its link, its endpoint, and the effect that waits, if one does
pub record Work : Type 0 where
  pub packets : List Packet
  pub host : PlainHostEndpoint
  pub effect : Option Effect

-- a dirty file is told of as it goes
abbrev pub close_of : ℕ → PlainFile → Option Effect
close_of f file = if file.dirty then Some (Close f (encode_utf8_all file.name) (encode_utf8_all file.text)) else None

-- what a host's answer to this message has the program do; a host that is done does nothing
abbrev pub effect_of : PlainHost → Tmesg → Option Effect
effect_of h (Tversion v) = None
effect_of h Tstartcmdfile = None
effect_of h (Tcheck f) = None
effect_of h (Trequest f p n) = None
effect_of h (Torigin f p n) = None
effect_of h (Tstartfile f) = None
effect_of h (Tworkfile f p q) = None
effect_of h (Ttype f p s) = None
effect_of h (Tcut f p q) = None
effect_of h (Tpaste f p) = None
effect_of h (Tsnarf f p q) = None
effect_of h Tstartnewfile = None
effect_of h (Twrite f) = if h.is_done then None else Some (Write f)
effect_of h (Tclose f) = if h.is_done then None else close_of f (file_at h.files f)
effect_of h (Tlook f p q) = None
effect_of h (Tsearch f p q) = None
effect_of h (Tsend f p q) = None
effect_of h (Tdclick f p) = None
effect_of h Tstartsnarf = None
effect_of h (Tsetsnarf s) = None
effect_of h Tack = None
effect_of h Texit = None

abbrev pub first_effect : PlainHost → List Tmesg → Option Effect
first_effect h [] = None
first_effect h (message ∷ messages) = effect_of h message

-- what the next step of an endpoint has the program do: it writes the frames that are left over, or answers the oldest message
abbrev pub step_effect : List HFrame → PlainHost → List Tmesg → Option Effect
step_effect [] h messages = first_effect h messages
step_effect (frame ∷ frames) h messages = None

abbrev pub next_effect : PlainHostEndpoint → Option Effect
next_effect e = step_effect e.unwritten e.host e.waiting

-- the endpoint goes on by a step; where the program has something to do then, an effect waits
abbrev pub StepsOn : Work → Work → Type 0
StepsOn w v =
    (step : HostStep) × (k : PlainHostEndpoint) × (step ≢ Idle) × Steps w.host (Ok step) k
    × (v ≡ record { packets = w.packets; host = record k { writes = [] }; effect = next_effect w.host })

-- Where the endpoint is ready, it takes the bytes of the first packet in; what the terminal's program said is an effect. Acknowledgements
-- and questions are never among what waits
abbrev pub HandsOn : Work → List Packet → Work → Type 0
HandsOn w [] v = ⊥
HandsOn w (packet.Data bytes ∷ rest) v =
    (k : PlainHostEndpoint) × BringsIn w.host bytes (Ok tt) k × (v ≡ record { packets = rest; host = k; effect = None })
HandsOn w (packet.Note bytes ∷ rest) v = IsReady w.host × (v ≡ record { packets = rest; host = w.host; effect = Some (Hear bytes) })
HandsOn w (packet.Acknowledge count ∷ rest) v = ⊥
HandsOn w (packet.Ask ∷ rest) v = ⊥

-- an effect waits, or nothing is left
abbrev pub IsPausedAt : Option Effect → Work → Type 0
IsPausedAt None w = IsReady w.host × (w.packets ≡ [])
IsPausedAt (Some effect) w = Unit {0}

-- so many of these moves lead there, one after another while no effect waits, and there it pauses
abbrev pub PausesBy : ℕ → Work → Work → Type 0
PausesBy zero w v = IsPausedAt w.effect w × (v ≡ w)
PausesBy (suc n) w v = (w.effect ≡ None) × (m : Work) × (StepsOn w m ⊎ HandsOn w w.packets m) × PausesBy n m v

abbrev pub Pauses : Work → Work → Type 0
Pauses w v = (n : ℕ) × PausesBy n w v

-- these packets wait in the link
abbrev pub waits_for : End → List Packet → End
waits_for l packets = record l { waiting = record l.waiting { packets = packets } }

abbrev pub with_work : End → Work → Server
with_work l w = record { link = waits_for l w.packets; host = w.host; effect = w.effect }

-- All that the endpoint answered is put at once: a link cuts its stream into packets by what is put, so it is cut alike whenever there was
-- memory for it
abbrev pub PutsAnswers : Server → Server → Type 0
PutsAnswers s z =
    (l : End) × Does s.link (Put s.host.pending_bytes (Ok tt)) l
    × (z ≡ record s { link = l; host = record s.host { pending_bytes = [] } })

-- what waits is handled until an effect waits or nothing is left, and then all answers are put
abbrev pub Handles : End → PlainHostEndpoint → Option Effect → Server → Type 0
Handles l host effect z =
    (m : Work) × Pauses (record { packets = l.waiting.packets; host = host; effect = effect }) m × PutsAnswers (with_work l m) z

-- what the server does with a record
abbrev pub Takes : Server → PlainRecord → Server → Type 0
Takes s (Joined name text) z = (tag : ℕ) × (k : PlainHostEndpoint) × Adds s.host name text (Ok tag) k × (z ≡ record s { host = k })
Takes s (Marked f) z = (k : PlainHostEndpoint) × Marks s.host f (Ok tt) k × PutsAnswers (record s { host = k }) z
Takes s (Called hello) z = (l : End) × Does s.link (Answer hello (Ok tt)) l × (z ≡ record s { link = l })
Takes s (Came attempt piece) z = (l : End) × Does s.link (Feed attempt piece (Ok tt)) l × Handles l s.host s.effect z
Takes s (Said bytes) z = (l : End) × Does s.link (PutNote bytes (Ok tt)) l × (z ≡ record s { link = l })
Takes s Acknowledged z = (l : End) × Does s.link (Acknowledge (Ok tt)) l × (z ≡ record s { link = l })
Takes s Asked z = (l : End) × Does s.link (Ask (Ok tt)) l × (z ≡ record s { link = l })
Takes s (Done ending) z = (e : Effect) × (s.effect ≡ Some e) × Handles s.link s.host None z

-- where a connection is up all that was put counts as given, since the records don't say what went out; a host never asks
abbrev pub given_at : Phase → End → End
given_at Open e = record e { hello = []; keeps = record e.keeps { sent = length e.keeps.kept } }
given_at Asking e = e
given_at Down e = e

abbrev pub all_given : End → End
all_given e = given_at e.phase e

abbrev pub given : Server → Server
given s = record s { link = all_given s.link }

-- what is made of these records
abbrev pub Makes : Server → List PlainRecord → Server → Type 0
Makes s [] z = z ≡ s
Makes s (first ∷ records) z = (m : Server) × Takes (given s) first m × Makes m records z

-- ## The law

-- the records alone decide what is made of them: link, bytes, texts, and the effect that waits
abbrev pub OneIsMade : Type 0
OneIsMade =
    (id : Id) (records : List PlainRecord) (a b : Server) → Makes (new_server id) records a → Makes (new_server id) records b → a ≡ b
