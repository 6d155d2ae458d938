-- The host's end of a link, and what it hands out.
use Rattle.std.specs.Prelude.{◌≡◌, ℕ, ◌<◌, ◌≤◌, Bool, true, false, List, [], ◌∷◌, length, take, Some, Result, Ok, Err}
use Rattle.sam_link.specs.Calls.{Does}
use Rattle.sam_link.specs.Calls.Call.{Answer}
use Rattle.sam_link.specs.End.{End, refusal_of}
use Rattle.sam_link.specs.Inbox.{nothing}
use Rattle.sam_link.specs.Meeting.{to_go}
use Rattle.sam_link.specs.Packets.{Packet}
use Rattle.sam_link.specs.Packets.{Packet as packet}
use Rattle.sam_link.specs.declared.hello.Hello.{Hello}
use Rattle.sam_link.specs.declared.hello.Refusal.{Refusal}
use Rattle.sam_link.specs.declared.phase.Phase.TheVariants.{Open}
use Rattle.sam_link.specs.declared.phase.Role.TheVariants.{Host}
use Rattle.sam_server.specs.Servers.{all_given, waits_for}
use Rattle.sam_server.specs.declared.host_link.Next.{Next}
use Rattle.sam_server.specs.declared.host_link.Next.TheVariants as next

-- a packet for the endpoint or the program, within its limits
abbrev pub IsItem : Packet → Type 0
IsItem (packet.Data bytes) = (1 ≤ length bytes) × (length bytes ≤ 4096)
IsItem (packet.Note bytes) = length bytes ≤ 4096
IsItem (packet.Acknowledge count) = ⊥
IsItem packet.Ask = ⊥

abbrev pub AreItems : List Packet → Type 0
AreItems [] = Unit {0}
AreItems (p ∷ ps) = IsItem p × AreItems ps

-- what holds of a host's end, of whose hello so many bytes are left to go
pub record IsHostEnd (e : End) (left : ℕ) : Type 0 where
  pub role : e.role ≡ Host
  pub hello : left ≡ length e.hello
  pub inside : e.keeps.sent ≤ length e.keeps.kept
  pub whole : e.waiting.part ≡ []
  pub items : AreItems e.waiting.packets

-- what a host answers a hello: it takes it, or says why not and stays
abbrev pub Answered : End → Hello → Result (Unit {0}) Refusal → End → Type 0
Answered e hello (Ok done) n = Does e (Answer hello (Ok tt)) n
Answered e hello (Err why) n = (refusal_of e hello ≡ Some why) × (n ≡ e)

-- the packet that is next, whole, if there is one
abbrev pub HandsOut : End → Next → List ℕ → End → Type 0
HandsOut e (next.Data count) new n =
    (rest : List Packet) × (1 ≤ count) × (count ≤ 4096) × (e.waiting.packets ≡ packet.Data (take count new) ∷ rest) × (n ≡ waits_for e rest)
HandsOut e (next.Note count) new n =
    (rest : List Packet) × (count ≤ 4096) × (e.waiting.packets ≡ packet.Note (take count new) ∷ rest) × (n ≡ waits_for e rest)
HandsOut e next.Nothing new n = (e.waiting ≡ nothing.waiting) × (n ≡ e)

-- some of what is to go is taken out, and what counts as given is the same; or nothing is left to go
abbrev pub DropsSome : End → Bool → End → Type 0
DropsSome e true n = (n.phase ≡ Open) × (all_given n ≡ all_given e) × (to_go n < to_go e)
DropsSome e false n = n ≡ all_given e
