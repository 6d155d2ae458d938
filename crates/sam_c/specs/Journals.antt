-- What the calls of a journal do.
use Rattle.std.specs.Prelude.{◌≡◌, ◌⊎◌, ℕ, ◌+◌, ◌^◌, ◌<◌, ◌≤◌, List, length, Result, Ok, Err}
use Rattle.sam_journal.specs.Files.{NextIs, Reads}
use Rattle.sam_journal.specs.Records.{Entry, back, front}
use Rattle.sam_journal.specs.declared.finding.Record.{Record}
use Rattle.sam_journal.specs.declared.reading.Journal.{Journal}
use Rattle.sam_journal.specs.declared.reading.Next.{Next}
use Rattle.sam_journal.specs.declared.reading.Next.TheVariants.{End, Torn, Whole}
use Rattle.sam_journal.specs.declared.reading.ReadFault.{ReadFault}
use Rattle.sam_journal.specs.declared.reading.ReadFault.TheVariants.{Damaged, DamagedHead, NotAJournal, OtherVersion, Short}
use Rattle.sam_handles.specs.Status.{ok, nothing}
use Rattle.sam_c.specs.declared.journal_calls.SamRecord.{SamRecord}
use Rattle.sam_c.specs.declared.journal_calls.SamRecordFrame.{SamRecordFrame}

abbrev pub read_status : ReadFault → ℕ
read_status Short = 257
read_status NotAJournal = 258
read_status OtherVersion = 259
read_status DamagedHead = 260
read_status (Damaged j) = 261

abbrev pub torn : ℕ
torn = 262

abbrev pub too_long : ℕ
too_long = 263

-- the bytes around this body
abbrev pub frame_of : ℕ → ℕ → Entry → SamRecordFrame
frame_of random number e = record { front = front random number e; back = back random number e }

-- they are handed out, or the body is too long
abbrev pub RecordFramed : ℕ → ℕ → ℕ → List ℕ → ℕ → SamRecordFrame → SamRecordFrame → Type 0
RecordFramed random number durable body status before after =
    ((length body < 2 ^ 32) × (status ≡ ok) × (after ≡ frame_of random number (record { durable = durable; body = body })))
    ⊎ ((2 ^ 32 ≤ length body) × (status ≡ too_long) × (after ≡ before))

-- what is handed out of a file
abbrev pub told : ℕ → ℕ → ℕ → Journal
told random count end = record { random = random; count = count; end = end }

-- the whole records of a file are told of, also where they end before damage
abbrev pub TellsJournal : Result Journal ReadFault → ℕ → Journal → Journal → Type 0
TellsJournal (Ok j) status before after = (status ≡ ok) × (after ≡ j)
TellsJournal (Err (Damaged j)) status before after = (status ≡ read_status (Damaged j)) × (after ≡ j)
TellsJournal (Err why) status before after = (status ≡ read_status why) × (after ≡ before)

abbrev pub JournalRead : List ℕ → ℕ → Journal → Journal → Type 0
JournalRead bytes status before after = (answer : Result Journal ReadFault) × Reads bytes answer × TellsJournal answer status before after

-- where its body stands, and where the next one does
abbrev pub told_record : Record → SamRecord
told_record found = record { durable = found.durable; body = found.place + 24; len = found.len; next = found.place + 28 + found.len }

abbrev pub TellsNext : Next → ℕ → SamRecord → SamRecord → Type 0
TellsNext (Whole found) status before after = (status ≡ ok) × (after ≡ told_record found)
TellsNext End status before after = (status ≡ nothing) × (after ≡ before)
TellsNext Torn status before after = (status ≡ torn) × (after ≡ before)

abbrev pub NextRecord : ℕ → List ℕ → ℕ → ℕ → ℕ → SamRecord → SamRecord → Type 0
NextRecord random bytes place number status before after =
    (next : Next) × NextIs random bytes place number next × TellsNext next status before after
