-- What holds of a journal's bytes.
use Rattle.std.specs.Prelude.{◌≡◌, ℕ, ◌≤◌, List, ◌++◌, length, take, Result, Ok, Err}
use Rattle.sam_journal.specs.Records.{Entry, Stands}
use Rattle.sam_journal.specs.Files.{AreRecords, IsHead, IsJournal, NamesNoMore, Reads, Wholes, file_bytes}
use Rattle.sam_journal.specs.declared.reading.Journal.{Journal}
use Rattle.sam_journal.specs.declared.reading.ReadFault.{ReadFault}
use Rattle.sam_journal.specs.declared.reading.ReadFault.TheVariants.{Damaged}

-- there is one answer to any bytes
abbrev pub OneReading : Type 0
OneReading = (bytes : List ℕ) (a b : Result Journal ReadFault) → Reads bytes a → Reads bytes b → a ≡ b

-- one list of records is the whole ones from the front on
abbrev pub OneList : Type 0
OneList = (random : ℕ) (bytes : List ℕ) (end last : ℕ) (es fs : List Entry) → Wholes random es bytes end → Wholes random fs bytes last
    → (es ≡ fs) × (end ≡ last)

-- the records of a file are read
abbrev pub RecordsAreRead : Type 0
RecordsAreRead = (random : ℕ) (es : List Entry) (answer : Result Journal ReadFault) → IsJournal random es
    → Reads (file_bytes random es) answer → answer ≡ Ok (record { random = random; count = length es; end = length (file_bytes random es) })

-- the answer is a journal that begins with these records, and what follows of it
abbrev pub Keeps : ℕ → List Entry → List ℕ → Result Journal ReadFault → Type 0
Keeps random es bytes answer = (more : List Entry) × (end : ℕ)
    × (answer ≡ Ok (record { random = random; count = length (es ++ more); end = end })) × Wholes random (es ++ more) bytes end

-- Whatever stands behind the records that were durable, they are read, if no record in the file says that more was
abbrev pub DurableIsKept : Type 0
DurableIsKept = (random : ℕ) (es : List Entry) (rest : List ℕ) (answer : Result Journal ReadFault) → IsJournal random es
    → NamesNoMore random (file_bytes random es ++ rest) (length (file_bytes random es)) → Reads (file_bytes random es ++ rest) answer
    → Keeps random es (file_bytes random es ++ rest) answer

-- any front that has the first so many records, which were durable, has just its whole records
abbrev pub FrontsAreRead : Type 0
FrontsAreRead = (random : ℕ) (es : List Entry) (durable n : ℕ) (answer : Result Journal ReadFault) → IsJournal random es
    → length (file_bytes random (take durable es)) ≤ n → n ≤ length (file_bytes random es)
    → NamesNoMore random (take n (file_bytes random es)) (length (file_bytes random (take durable es)))
    → Reads (take n (file_bytes random es)) answer
    → (count : ℕ)
    × (answer ≡ Ok (record { random = random; count = length (take count es); end = length (file_bytes random (take count es)) }))
    × ((all : ℕ) → all ≤ length es → length (file_bytes random (take all es)) ≤ n → all ≤ count)

-- if a record anywhere in the file says that so much was durable, and that is no front of a file of records, the file is refused as damaged
abbrev pub DamageIsTold : Type 0
DamageIsTold = (random : ℕ) (bytes : List ℕ) (place number : ℕ) (e : Entry) (answer : Result Journal ReadFault)
    → IsHead bytes random → Stands random bytes place number e
    → ((es : List Entry) → AreRecords 24 0 es → take e.durable bytes ≡ take e.durable (file_bytes random es) → ⊥)
    → Reads bytes answer → (j : Journal) × (answer ≡ Err (Damaged j))
