-- A program that keeps its records in a file of sam_journal: what a crash leaves of the file is read, and is a crash of the program.
use Rattle.std.specs.Prelude.{◌≡◌, ℕ, ◌+◌, ◌≤◌, List, [], ◌∷◌, ◌++◌, length, map, take, Result, Ok}
use Rattle.sam_journal.specs.Files.{IsJournal, NamesNoMore, Reads, file_bytes}
use Rattle.sam_journal.specs.Records.{Entry}
use Rattle.sam_journal.specs.declared.reading.Journal.{Journal}
use Rattle.sam_journal.specs.declared.reading.ReadFault.{ReadFault}
use Rattle.sam_link.specs.declared.hello.Id.{Id}
use Rattle.sam_server.specs.Recovering.{recovered}
use Rattle.sam_server.specs.Servers.{Server, new_server}
use Rattle.sam_served.specs.Programs.{Act, Crash, LeadsProgram, Program, new_program}
use Rattle.sam_served.specs.Recoveries.{RetakesAll}

-- the file of these records has the bodies that the program got
pub record IsJournalOf (random : ℕ) (es : List Entry) (p : Program) : Type 0 where
  pub is : IsJournal random es
  pub bodies : map (λ e. e.body) es ≡ p.journal

-- A crash left the first n bytes of the file. They have its first so many records, all that the program has said durable among them, and
-- nothing in them looks like a record that says more
pub record IsLeft (random : ℕ) (es : List Entry) (p : Program) (durable n : ℕ) : Type 0 where
  pub there : durable ≤ length es
  pub said : length p.taken ≤ durable + length p.server.gate.waiting
  pub has : length (file_bytes random (take durable es)) ≤ n
  pub within : n ≤ length (file_bytes random es)
  pub names : NamesNoMore random (take n (file_bytes random es)) (length (file_bytes random (take durable es)))

-- the program that goes on behind this crash, with the server that was made of the first so many bodies
abbrev pub gone_on : Program → ℕ → Server → Program
gone_on p count s = record p { server = recovered s; journal = take count p.journal; taken = take count p.taken; begun = [] }

-- Reading what is left has one answer: some first records, and where they end; what stands behind is torn. They are the file of the program
-- that goes on, and if a server is made of their bodies, that is a crash of the program
pub record IsCrash (id : Id) (acts : List Act) (p : Program) (random : ℕ) (es : List Entry) (answer : Result Journal ReadFault)
    : Type 0 where
  pub count : ℕ
  pub read : answer ≡ Ok (record { random = random; count = count; end = length (file_bytes random (take count es)) })
  pub is : (s : Server) → IsJournalOf random (take count es) (gone_on p count s)
  pub leads : (s : Server) → RetakesAll (new_server id) (map (λ e. e.body) (take count es)) s
      → LeadsProgram id (new_program id) (acts ++ Crash count ∷ []) (gone_on p count s)

abbrev pub JournalsAreCrashes : Type 0
JournalsAreCrashes =
    (id : Id) (acts : List Act) (p : Program) (random : ℕ) (es : List Entry) (durable n : ℕ) (answer : Result Journal ReadFault)
    → LeadsProgram id (new_program id) acts p → IsJournalOf random es p → IsLeft random es p durable n
    → Reads (take n (file_bytes random es)) answer → IsCrash id acts p random es answer
