-- A session whose program keeps its records in a file of sam_journal: what a crash leaves of the file is read, and is a crash of the
-- program.
use Rattle.std.specs.Prelude.{◌≡◌, ℕ, List, [], ◌∷◌, ◌++◌, length, map, take, Bool, Result, Ok}
use Rattle.sam_journal.specs.Files.{Reads, file_bytes}
use Rattle.sam_journal.specs.Records.{Entry}
use Rattle.sam_journal.specs.declared.reading.Journal.{Journal}
use Rattle.sam_journal.specs.declared.reading.ReadFault.{ReadFault}
use Rattle.sam_link.specs.declared.hello.Id.{Id}
use Rattle.sam_server.specs.Servers.{Server, new_server}
use Rattle.sam_served.specs.Journals.{IsJournalOf, IsLeft, gone_on}
use Rattle.sam_served.specs.Programs.Act.{Crash}
use Rattle.sam_served.specs.Recoveries.{RetakesAll}
use Rattle.sam_end_to_end.specs.Sessions.{ByProgram, Event, Leads, Session, hearing, new_session}

-- the session whose program goes on behind this crash, with the server that was made of the first so many bodies
abbrev pub session_on : Session → ℕ → Server → Session
session_on s count m = record s { program = gone_on (hearing s) count m }

-- Reading what is left has one answer: some first records, and where they end; what stands behind is torn. They are the file of the program
-- that goes on, and if a server is made of their bodies, that is a crash of the session's program
pub record IsCrash (id : Id) (take_over : Bool) (now : ℕ) (events : List Event) (s : Session) (random : ℕ) (es : List Entry)
    (answer : Result Journal ReadFault) : Type 0 where
  pub count : ℕ
  pub read : answer ≡ Ok (record { random = random; count = count; end = length (file_bytes random (take count es)) })
  pub is : (m : Server) → IsJournalOf random (take count es) (session_on s count m).program
  pub leads : (m : Server) → RetakesAll (new_server id) (map (λ e. e.body) (take count es)) m
      → Leads id (new_session id take_over now) (events ++ ByProgram (Crash count) ∷ []) (session_on s count m)

-- whichever first bytes a crash leaves, with all records that the program said are durable
abbrev pub JournalsAreCrashes : Type 0
JournalsAreCrashes =
    (id : Id) (take_over : Bool) (now : ℕ) (events : List Event) (s : Session) (random : ℕ) (es : List Entry) (durable n : ℕ)
    (answer : Result Journal ReadFault)
    → Leads id (new_session id take_over now) events s → IsJournalOf random es s.program → IsLeft random es s.program durable n
    → Reads (take n (file_bytes random es)) answer → IsCrash id take_over now events s random es answer
