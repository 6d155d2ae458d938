-- A call of an end with its answer, and what it brought.
use Rattle.std.specs.Prelude.{◌≡◌, ℕ, List, [], ◌∷◌, ◌++◌, length, take, drop, map, min, All, flat_map, Bool, ◌==◌, if◌then◌else◌, Option, None, Some, Result, Ok, Err}
use Rattle.sam_mesg.specs.Spelling.{eight, frame}
use Rattle.sam_link.specs.End.{Answers, Calls, End, TakesOut, Welcomes, broken}
use Rattle.sam_link.specs.Feeding.{Feeds, PutsNote}
use Rattle.sam_link.specs.Inbox.{GivesNote, Waiting, left_of, ready, stretch}
use Rattle.sam_link.specs.Keeping.{Puts}
use Rattle.sam_link.specs.Putting.{data_stream}
use Rattle.sam_link.specs.declared.fault.AnswerFault.{AnswerFault}
use Rattle.sam_link.specs.declared.fault.CallFault.{CallFault}
use Rattle.sam_link.specs.declared.fault.FeedFault.{FeedFault}
use Rattle.sam_link.specs.declared.fault.NotOpen.{NotOpen}
use Rattle.sam_link.specs.declared.fault.NoteFault.{NoteFault}
use Rattle.sam_link.specs.declared.fault.WelcomeFault.{WelcomeFault}
use Rattle.sam_link.specs.declared.hello.Hello.{Hello}
use Rattle.sam_link.specs.declared.inbox.Place.{Place}
use Rattle.sam_link.specs.declared.keeping.PutFault.{PutFault}
use Rattle.sam_link.specs.Packets.{Packet}
use Rattle.sam_link.specs.Packets.{Packet as packet}

-- what was given, and what came of it
pub data Call : Type 0 where
  Dial : Bool → Result ℕ CallFault → Call  -- `call`: the terminal makes another connection
  Answer : Hello → Result (Unit {0}) AnswerFault → Call  -- `answer`: the host takes a connection by its hello
  Welcome : Hello → Result (Unit {0}) WelcomeFault → Call  -- `welcomed`: the terminal takes the host's hello
  Break : ℕ → Call  -- `broken`: this connection is over
  Put : List ℕ → Result (Unit {0}) PutFault → Call
  PutNote : List ℕ → Result (Unit {0}) NoteFault → Call
  Ask : Result (Unit {0}) PutFault → Call
  Acknowledge : Result (Unit {0}) PutFault → Call
  TakeOut : ℕ → List ℕ → Result ℕ NotOpen → List ℕ → Call  -- of this connection into these bytes, which then were those
  Feed : ℕ → List ℕ → Result (Unit {0}) FeedFault → Call  -- this connection brought this piece
  TakeIn : List ℕ → ℕ → List ℕ → Call  -- into these bytes so many came, and then they were those
  NextNote : Option (List ℕ) → Call

-- an end that has acknowledged knows that it told so much
abbrev pub Acknowledges : End → Result (Unit {0}) PutFault → End → Type 0
Acknowledges e (Ok done) n = n ≡ record e { keeps = n.keeps; told = e.received }
Acknowledges e (Err why) n = n ≡ e

-- the call leads from one end to the other: these are the clauses of the calls
abbrev pub Does : End → Call → End → Type 0
Does e (Dial take_over answer) n = Calls e take_over answer n
Does e (Answer hello answer) n = Answers e hello answer n
Does e (Welcome hello answer) n = Welcomes e hello answer n
Does e (Break attempt) n = n ≡ broken e attempt
Does e (Put bytes answer) n = Puts e.keeps (data_stream bytes) answer n.keeps × (n ≡ record e { keeps = n.keeps })
Does e (PutNote bytes answer) n = PutsNote e.keeps bytes answer n.keeps × (n ≡ record e { keeps = n.keeps })
Does e (Ask answer) n = Puts e.keeps (frame 4 []) answer n.keeps × (n ≡ record e { keeps = n.keeps })
Does e (Acknowledge answer) n = Puts e.keeps (frame 3 (eight e.received)) answer n.keeps × Acknowledges e answer n
Does e (TakeOut attempt old answer new) n = TakesOut e attempt old answer new n
Does e (Feed attempt piece answer) n = Feeds e attempt piece answer n
Does e (TakeIn old count new) n =
    (count ≡ min (length (ready e.waiting).part) (length old)) × (new ≡ take count (ready e.waiting).part ++ drop count old)
    × (n ≡ record e { waiting = left_of e.waiting count })
Does e (NextNote answer) n = GivesNote e.waiting answer n.waiting × (n ≡ record e { waiting = n.waiting })

-- these calls, one after another
abbrev pub DoesAll : End → List Call → End → Type 0
DoesAll e [] n = n ≡ e
DoesAll e (call ∷ calls) n = (m : End) × Does e call m × DoesAll m calls n

-- ## What crosses a link

pub data Item : Type 0 where
  Byte : ℕ → Item
  Note : List ℕ → Item

-- what of a packet is for the program
abbrev pub items_in : Packet → List Item
items_in (packet.Data bytes) = map Byte bytes
items_in (packet.Note bytes) = Note bytes ∷ []
items_in (packet.Acknowledge count) = []
items_in packet.Ask = []

-- what waits for the program
abbrev pub waits : Waiting → List Item
waits w = map Byte w.part ++ flat_map items_in w.packets

-- what the call put for the other program
abbrev pub put_by : Call → List Item
put_by (Dial take_over answer) = []
put_by (Answer hello answer) = []
put_by (Welcome hello answer) = []
put_by (Break attempt) = []
put_by (Put bytes (Ok done)) = map Byte bytes
put_by (Put bytes (Err why)) = []
put_by (PutNote bytes (Ok done)) = Note bytes ∷ []
put_by (PutNote bytes (Err why)) = []
put_by (Ask answer) = []
put_by (Acknowledge answer) = []
put_by (TakeOut n old answer new) = []
put_by (Feed n piece answer) = []
put_by (TakeIn old count new) = []
put_by (NextNote answer) = []

-- what the call handed to this program
abbrev pub handed_by : Call → List Item
handed_by (Dial take_over answer) = []
handed_by (Answer hello answer) = []
handed_by (Welcome hello answer) = []
handed_by (Break attempt) = []
handed_by (Put bytes answer) = []
handed_by (PutNote bytes answer) = []
handed_by (Ask answer) = []
handed_by (Acknowledge answer) = []
handed_by (TakeOut n old answer new) = []
handed_by (Feed n piece answer) = []
handed_by (TakeIn old count new) = map Byte (take count new)
handed_by (NextNote (Some bytes)) = Note bytes ∷ []
handed_by (NextNote None) = []

abbrev pub put : List Call → List Item
put calls = flat_map put_by calls

abbrev pub handed : List Call → List Item
handed calls = flat_map handed_by calls

abbrev pub IsTakeIn : Call → Type 0
IsTakeIn (Dial take_over answer) = ⊥
IsTakeIn (Answer hello answer) = ⊥
IsTakeIn (Welcome hello answer) = ⊥
IsTakeIn (Break attempt) = ⊥
IsTakeIn (Put bytes answer) = ⊥
IsTakeIn (PutNote bytes answer) = ⊥
IsTakeIn (Ask answer) = ⊥
IsTakeIn (Acknowledge answer) = ⊥
IsTakeIn (TakeOut n old answer new) = ⊥
IsTakeIn (Feed n piece answer) = ⊥
IsTakeIn (TakeIn old count new) = Unit {0}
IsTakeIn (NextNote answer) = ⊥

-- calls of `take_in` alone, which move these bytes, lead from one end to the other
pub record Moves (e : End) (bytes : List ℕ) (n : End) : Type 0 where
  pub takes : List Call
  pub are : All IsTakeIn takes
  pub does : DoesAll e takes n
  pub moved : handed takes ≡ map Byte bytes

-- `feed_into` is a feed, and then such calls
abbrev pub DoesInto : End → ℕ → List ℕ → Result ℕ FeedFault → List ℕ → End → Type 0
DoesInto e attempt piece (Ok count) new n = (m : End) × Does e (Feed attempt piece (Ok tt)) m × Moves m (take count new) n
DoesInto e attempt piece (Err fault) new n = Does e (Feed attempt piece (Err fault)) n

-- `feed_places` is a feed, and then such calls, which move the bytes that lie at the places
abbrev pub DoesPlaces : End → ℕ → List ℕ → Result ℕ FeedFault → List Place → End → Type 0
DoesPlaces e attempt piece (Ok count) new n =
    (m : End) × Does e (Feed attempt piece (Ok tt)) m × Moves m (flat_map (stretch piece) (take count new)) n
DoesPlaces e attempt piece (Err fault) new n = Does e (Feed attempt piece (Err fault)) n

-- the bytes among these items
abbrev pub byte_of : Item → List ℕ
byte_of (Byte byte) = byte ∷ []
byte_of (Note bytes) = []

abbrev pub bytes_of : List Item → List ℕ
bytes_of items = flat_map byte_of items

-- ## What crosses a connection

-- on which connection the call took bytes out, and which
abbrev pub out_by : ℕ → Call → List ℕ
out_by attempt (Dial take_over answer) = []
out_by attempt (Answer hello answer) = []
out_by attempt (Welcome hello answer) = []
out_by attempt (Break n) = []
out_by attempt (Put bytes answer) = []
out_by attempt (PutNote bytes answer) = []
out_by attempt (Ask answer) = []
out_by attempt (Acknowledge answer) = []
out_by attempt (TakeOut n old (Ok count) new) = if n == attempt then take count new else []
out_by attempt (TakeOut n old (Err why) new) = []
out_by attempt (Feed n piece answer) = []
out_by attempt (TakeIn old count new) = []
out_by attempt (NextNote answer) = []

-- the piece of the connection that the call took; one that is refused may be fed again
abbrev pub fed_by : ℕ → Call → List ℕ
fed_by attempt (Dial take_over answer) = []
fed_by attempt (Answer hello answer) = []
fed_by attempt (Welcome hello answer) = []
fed_by attempt (Break n) = []
fed_by attempt (Put bytes answer) = []
fed_by attempt (PutNote bytes answer) = []
fed_by attempt (Ask answer) = []
fed_by attempt (Acknowledge answer) = []
fed_by attempt (TakeOut n old answer new) = []
fed_by attempt (Feed n piece (Ok done)) = if n == attempt then piece else []
fed_by attempt (Feed n piece (Err why)) = []
fed_by attempt (TakeIn old count new) = []
fed_by attempt (NextNote answer) = []

-- all that was taken out on a connection: a hello, and the stream behind it
abbrev pub out : ℕ → List Call → List ℕ
out attempt calls = flat_map (out_by attempt) calls

-- all that came behind the hello of a connection
abbrev pub fed : ℕ → List Call → List ℕ
fed attempt calls = flat_map (fed_by attempt) calls
