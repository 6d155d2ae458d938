-- A journal's file, and what reading it may answer.
use Rattle.std.specs.Prelude.{◌≡◌, ◌≢◌, ℕ, suc, ◌+◌, ◌^◌, ◌<◌, ◌≤◌, List, [], ◌∷◌, ◌++◌, length, take, drop, Result, Ok, Err}
use Rattle.sam_journal.specs.Checksums.{crc_32c}
use Rattle.sam_journal.specs.Records.{Entry, IsFound, IsRecord, NoneStands, Stands, eight, four, record_bytes, size}
use Rattle.sam_journal.specs.declared.reading.Journal.{Journal}
use Rattle.sam_journal.specs.declared.reading.Next.{Next}
use Rattle.sam_journal.specs.declared.reading.Next.TheVariants.{End, Torn, Whole}
use Rattle.sam_journal.specs.declared.reading.ReadFault.{ReadFault}
use Rattle.sam_journal.specs.declared.reading.ReadFault.TheVariants.{Damaged, DamagedHead, NotAJournal, OtherVersion, Short}

abbrev pub magic : List ℕ
magic = 0x89 ∷ 0x73 ∷ 0x61 ∷ 0x6d ∷ 0x6a ∷ 0x72 ∷ 0x6e ∷ 0x0a ∷ []

-- the head: a magic, the version of the format, the file's random number, and their sum
unfoldable pub head : ℕ → List ℕ
head random = ((magic ++ four 2) ++ eight random) ++ four (crc_32c ((magic ++ four 2) ++ eight random))

-- the records, numbered from here on
abbrev pub journal_bytes : ℕ → ℕ → List Entry → List ℕ
journal_bytes random number [] = []
journal_bytes random number (e ∷ es) = record_bytes random number e ++ journal_bytes random (suc number) es

abbrev pub file_bytes : ℕ → List Entry → List ℕ
file_bytes random es = head random ++ journal_bytes random 0 es

-- each is a record at its place
abbrev pub AreRecords : ℕ → ℕ → List Entry → Type 0
AreRecords place number [] = Unit {0}
AreRecords place number (e ∷ es) = IsRecord place number e × AreRecords (place + size e) (suc number) es

abbrev pub IsJournal : ℕ → List Entry → Type 0
IsJournal random es = (random < 2 ^ 64) × AreRecords 24 0 es

-- the bytes begin with the file of these records, which ends at this place
pub record Front (random : ℕ) (es : List Entry) (bytes : List ℕ) (end : ℕ) : Type 0 where
  pub is : IsJournal random es
  pub whole : bytes ≡ file_bytes random es ++ drop end bytes
  pub end_is : end ≡ length (file_bytes random es)

-- these are all the whole records from the front on
pub record Wholes (random : ℕ) (es : List Entry) (bytes : List ℕ) (end : ℕ) : Type 0 where
  pub front : Front random es bytes end
  pub no_more : NoneStands random bytes end (length es)

-- a whole record at this place says that more was durable
abbrev pub NamesMoreAt : ℕ → List ℕ → ℕ → ℕ → Type 0
NamesMoreAt random bytes place end = (number : ℕ) × (e : Entry) × Stands random bytes place number e × (end < e.durable)

-- one does, anywhere in the bytes
abbrev pub NamesMore : ℕ → List ℕ → ℕ → Type 0
NamesMore random bytes end = (place : ℕ) × NamesMoreAt random bytes place end

-- none does
abbrev pub NamesNoMore : ℕ → List ℕ → ℕ → Type 0
NamesNoMore random bytes end = (place : ℕ) (number : ℕ) (e : Entry) → Stands random bytes place number e → e.durable ≤ end

abbrev pub IsHead : List ℕ → ℕ → Type 0
IsHead bytes random = (random < 2 ^ 64) × (take 24 bytes ≡ head random)

-- what reading a head may answer
abbrev pub ReadsHead : List ℕ → Result ℕ ReadFault → Type 0
ReadsHead bytes (Ok random) = IsHead bytes random
ReadsHead bytes (Err Short) = length bytes < 24
ReadsHead bytes (Err NotAJournal) = (24 ≤ length bytes) × (take 8 bytes ≢ magic)
ReadsHead bytes (Err OtherVersion) = (24 ≤ length bytes) × (take 8 bytes ≡ magic) × (take 4 (drop 8 bytes) ≢ four 2)
ReadsHead bytes (Err DamagedHead) = (24 ≤ length bytes) × (take 12 bytes ≡ magic ++ four 2) × ((random : ℕ) → IsHead bytes random → ⊥)
ReadsHead bytes (Err (Damaged j)) = ⊥

-- The file is damaged if its whole records end before a place up to which a whole record, anywhere in it, says that it was durable. Else
-- all behind them is a torn end.
abbrev pub Reads : List ℕ → Result Journal ReadFault → Type 0
Reads bytes (Ok j) = (es : List Entry) × Wholes j.random es bytes j.end × (j.count ≡ length es) × NamesNoMore j.random bytes j.end
Reads bytes (Err (Damaged j)) = (es : List Entry) × Wholes j.random es bytes j.end × (j.count ≡ length es) × NamesMore j.random bytes j.end
Reads bytes (Err why) = ReadsHead bytes (Err why)

-- what stands at a place, where the record of this number would
abbrev pub NextIs : ℕ → List ℕ → ℕ → ℕ → Next → Type 0
NextIs random bytes place number (Whole found) = IsFound random bytes place found × (found.number ≡ number)
NextIs random bytes place number End = length bytes ≤ place
NextIs random bytes place number Torn = (place < length bytes) × NoneStands random bytes place number
