-- A record as bytes, and where one stands. Numbers have the highest byte first.
use Rattle.std.specs.Prelude.{◌≡◌, ℕ, ◌+◌, ◌^◌, ◌<◌, ◌≤◌, List, ◌++◌, length, take, drop}
use Rattle.std.specs.Int.{w32, w64, to_be_bytes}
use Rattle.sam_journal.specs.Checksums.{crc_32c}
use Rattle.sam_journal.specs.declared.finding.Record.{Record}

-- numbers of four and eight bytes
unfoldable pub four : ℕ → List ℕ
four n = to_be_bytes w32 n

unfoldable pub eight : ℕ → List ℕ
eight n = to_be_bytes w64 n

-- what a record says: how many bytes of the file were durable when it was made, and its body
pub record Entry : Type 0 where
  pub durable : ℕ
  pub body : List ℕ

-- the sum of these bytes and of the file's random number
abbrev pub sum_of : ℕ → List ℕ → List ℕ
sum_of random bytes = four (crc_32c (eight random ++ bytes))

-- its number, the length of its body, and how many bytes were durable
abbrev pub heading : ℕ → Entry → List ℕ
heading number e = (eight number ++ four (length e.body)) ++ eight e.durable

-- what stands before the body: the heading and its sum
abbrev pub front : ℕ → ℕ → Entry → List ℕ
front random number e = heading number e ++ sum_of random (heading number e)

-- what stands behind the body: the sum of all before
abbrev pub back : ℕ → ℕ → Entry → List ℕ
back random number e = sum_of random (front random number e ++ e.body)

unfoldable pub record_bytes : ℕ → ℕ → Entry → List ℕ
record_bytes random number e = (front random number e ++ e.body) ++ back random number e

abbrev pub size : Entry → ℕ
size e = 28 + length e.body

-- its numbers fit, and no more was durable than stands before it
pub record IsRecord (place number : ℕ) (e : Entry) : Type 0 where
  pub number_fits : number < 2 ^ 64
  pub body_fits : length e.body < 2 ^ 32
  pub durable_fits : e.durable < 2 ^ 64
  pub durable_before : e.durable ≤ place

-- in the file of this random number and these bytes, this record stands at this place
pub record Stands (random : ℕ) (bytes : List ℕ) (place number : ℕ) (e : Entry) : Type 0 where
  pub is : IsRecord place number e
  pub rest : List ℕ
  pub whole : drop place bytes ≡ record_bytes random number e ++ rest

-- no record of this number stands there
abbrev pub NoneStands : ℕ → List ℕ → ℕ → ℕ → Type 0
NoneStands random bytes place number = (e : Entry) → Stands random bytes place number e → ⊥

-- what a record that was found says
abbrev pub entry_of : List ℕ → Record → Entry
entry_of bytes found = record { durable = found.durable; body = take found.len (drop (found.place + 24) bytes) }

-- this one was found at this place, and its body is inside
pub record IsFound (random : ℕ) (bytes : List ℕ) (place : ℕ) (found : Record) : Type 0 where
  pub place_is : found.place ≡ place
  pub stands : Stands random bytes place found.number (entry_of bytes found)
  pub inside : place + 28 + found.len ≤ length bytes
