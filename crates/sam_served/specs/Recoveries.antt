-- A server that is made again of the bodies of its records, one by one, after a crash.
use Rattle.std.specs.Prelude.{◌≡◌, ℕ, ◌≤◌, List, [], ◌∷◌, ◌++◌, take, Ok, Err}
use Rattle.sam_link.specs.declared.hello.Id.{Id}
use Rattle.sam_server.specs.Records.{PlainRecord, Spells}
use Rattle.sam_server.specs.Recovering.{Retakes, recovered}
use Rattle.sam_server.specs.Servers.{Server, new_server}
use Rattle.sam_server.specs.declared.recovery.RecoveryFault.{RecoveryFault}
use Rattle.sam_server.specs.declared.recovery.RecoveryFault.TheVariants.{OutOfMemory}
use Rattle.sam_served.specs.Marks.{StandsAt}
use Rattle.sam_served.specs.Serving.{Crash, Event, LeadsServed, Served, crashed, new_served, records_in}

-- these are the bodies of the records
abbrev pub SpellAll : List PlainRecord → List (List ℕ) → Type 0
SpellAll [] [] = Unit {0}
SpellAll [] (body ∷ bodies) = ⊥
SpellAll (r ∷ records) [] = ⊥
SpellAll (r ∷ records) (body ∷ bodies) = Spells r body × SpellAll records bodies

-- these bodies are taken again, one after another
abbrev pub RetakesAll : Server → List (List ℕ) → Server → Type 0
RetakesAll s [] z = z ≡ s
RetakesAll s (body ∷ bodies) z = (m : Server) × Retakes s body (Ok m) × RetakesAll m bodies z

-- Of the bodies of the first so many records, which have all that were durable, a server is made: then that is the crash of the definition.
-- The server that goes on is its server, and the base of its gate is their mark
abbrev pub RecoveriesAreCrashes : Type 0
RecoveriesAreCrashes =
    (id : Id) (events : List Event) (w : Served) (n : ℕ) (bodies : List (List ℕ)) (s : Server)
    → LeadsServed id (new_served id) events w → w.durable ≤ n → SpellAll (take n (records_in w.log)) bodies
    → RetakesAll (new_server id) bodies s
    → LeadsServed id (new_served id) (events ++ Crash n ∷ []) (crashed w n s)
    × ((crashed w n s).server ≡ (recovered s).turn.server) × StandsAt id (take n (records_in w.log)) (recovered s).gate.base

-- none of these bodies is refused but for memory
abbrev pub RecoveriesGoOn : Type 0
RecoveriesGoOn =
    (id : Id) (events : List Event) (w : Served) (n : ℕ) (front rest : List PlainRecord) (r : PlainRecord) (bodies : List (List ℕ))
    (body : List ℕ) (s : Server) (why : RecoveryFault)
    → LeadsServed id (new_served id) events w → w.durable ≤ n → take n (records_in w.log) ≡ front ++ r ∷ rest → SpellAll front bodies
    → Spells r body → RetakesAll (new_server id) bodies s → Retakes s body (Err why) → why ≡ OutOfMemory
