-- A gate of marks keeps the rule.
use Rattle.std.specs.Prelude.{◌≡◌, ℕ, ◌<◌, ◌≤◌, List, length, take, Ok}
use Rattle.sam_link.specs.Calls.Call.{TakeOut}
use Rattle.sam_link.specs.declared.hello.Id.{Id}
use Rattle.sam_server.specs.Gates.{PlainGate, allowed}
use Rattle.sam_server.specs.Records.{PlainRecord}
use Rattle.sam_server.specs.declared.gate.Mark.{Mark}
use Rattle.sam_served.specs.Gates.{gone_count, put_count}
use Rattle.sam_server.specs.Servers.{Makes, Server, new_server}
use Rattle.sam_served.specs.Serving.{Event, LeadsServed, MayDo, Served, new_served, records_in}

-- the server that is made of these records has the mark's connection, and has put as many bytes
abbrev pub StandsAt : Id → List PlainRecord → Mark → Type 0
StandsAt id records mark =
    (m : Server) × Makes (new_server id) records m × (mark.attempt ≡ m.link.attempt) × (mark.put ≡ put_count m.link)

-- where a server stands, there stands the one that is made of its records: so its mark is theirs
abbrev pub MarksAreRight : Type 0
MarksAreRight =
    (id : Id) (events : List Event) (w : Served) (mark : Mark) → LeadsServed id (new_served id) events w
    → mark.attempt ≡ w.server.link.attempt → mark.put ≡ put_count w.server.link → StandsAt id (records_in w.log) mark

-- where the base of a gate is the mark of the durable records, what the gate allows may go out
abbrev pub GatesKeepTheRule : Type 0
GatesKeepTheRule =
    (id : Id) (w : Served) (gate : PlainGate) (attempt count : ℕ) (old new : List ℕ)
    → StandsAt id (take w.durable (records_in w.log)) gate.base → 0 < length old
    → length old ≤ allowed gate attempt (length w.server.link.hello) (gone_count w.server.link)
    → MayDo id w (TakeOut attempt old (Ok count) new)
