-- What a server was given and took, and its bytes in a journal. Numbers have the highest byte first.
use Rattle.std.specs.Prelude.{◌≡◌, ℕ, ◌^◌, ◌<◌, List, [], ◌∷◌, ◌++◌, length, Option, None, Some}
use Rattle.sam_mesg.specs.Spelling.{eight, two}
use Rattle.sam_link.specs.Hellos.{IsHello, spelled}
use Rattle.sam_link.specs.declared.hello.Hello.{Hello}
use Rattle.sam_server.specs.declared.record.Record.{Record}
use Rattle.sam_server.specs.declared.record.Record.TheVariants as record_of

-- it goes into the journal as soon as it is taken, and nothing else does
pub data PlainRecord : Type 0 where
  Joined : List ℕ → List ℕ → PlainRecord  -- a file of this name and text joined
  Marked : ℕ → PlainRecord  -- this file was marked as dirty
  Called : Hello → PlainRecord  -- a connection with this hello
  Came : ℕ → List ℕ → PlainRecord  -- this connection brought this piece
  Said : List ℕ → PlainRecord  -- the program said this message
  Acknowledged : PlainRecord  -- the program had acknowledged what came
  Asked : PlainRecord  -- the program had the terminal asked for an acknowledgement
  Done : ℕ → PlainRecord  -- the oldest effect is done, and this is how it ended

abbrev pub plain : Record → PlainRecord
plain (record_of.Joined name text) = Joined name.now text.now
plain (record_of.Marked tag) = Marked tag
plain (record_of.Called hello) = Called hello
plain (record_of.Came attempt piece) = Came attempt piece.now
plain (record_of.Said bytes) = Said bytes.now
plain record_of.Acknowledged = Acknowledged
plain record_of.Asked = Asked
plain (record_of.Done ending) = Done ending

-- a name stands behind its length
abbrev pub record_bytes : PlainRecord → List ℕ
record_bytes (Joined name text) = 1 ∷ ((eight (length name) ++ name) ++ text)
record_bytes (Called hello) = 2 ∷ spelled hello
record_bytes (Came attempt piece) = 3 ∷ (eight attempt ++ piece)
record_bytes (Said bytes) = 4 ∷ bytes
record_bytes Acknowledged = 5 ∷ []
record_bytes Asked = 6 ∷ []
record_bytes (Done ending) = 7 ∷ eight ending
record_bytes (Marked tag) = 8 ∷ two tag

-- its numbers have eight bytes each, and a tag two
abbrev pub NumbersFit : PlainRecord → Type 0
NumbersFit (Joined name text) = length name < 2 ^ 64
NumbersFit (Called hello) = IsHello hello
NumbersFit (Came attempt piece) = attempt < 2 ^ 64
NumbersFit (Said bytes) = Unit {0}
NumbersFit Acknowledged = Unit {0}
NumbersFit Asked = Unit {0}
NumbersFit (Done ending) = ending < 2 ^ 64
NumbersFit (Marked tag) = tag < 2 ^ 16

-- the record has these bytes
pub record Spells (r : PlainRecord) (bytes : List ℕ) : Type 0 where
  pub fits : NumbersFit r
  pub bytes_are : record_bytes r ≡ bytes

-- what reading may answer: the record that has these bytes, all of them, or that none has
abbrev pub ReadsRecord : List ℕ → Option Record → Type 0
ReadsRecord bytes (Some r) = Spells (plain r) bytes
ReadsRecord bytes None = (r : PlainRecord) → Spells r bytes → ⊥
