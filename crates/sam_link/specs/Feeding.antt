-- What feeding a piece of the other side's stream does.
use Rattle.std.specs.Prelude.{◌≡◌, ◌≢◌, ℕ, ◌+◌, ◌-◌, ◌^◌, ◌<◌, ◌≤◌, ◌⊎◌, List, [], ◌++◌, length, take, drop, Bool, true, false, ◌&&◌, ◌||◌, ◌==◌, nat_le, nat_lt, if◌then◌else◌, Option, None, Some, Result, Ok, Err}
use Rattle.sam_mesg.specs.Spelling.{eight, frame}
use Rattle.sam_frame.specs.Splitting.{Front}
use Rattle.sam_frame.specs.Stream.{IsOpen, Shows}
use Rattle.sam_link.specs.End.{End, ended}
use Rattle.sam_link.specs.Inbox.{Arrived, TakesAll, TakesPlaces, Waiting, items_among, items_of, nothing, ready}
use Rattle.sam_link.specs.Keeping.{Keeps, Puts, acknowledged, put}
use Rattle.sam_link.specs.Packets.{Packet, asks, mesg_fault, packets, top_of}
use Rattle.sam_link.specs.declared.fault.FeedFault.{FeedFault}
use Rattle.sam_link.specs.declared.fault.FeedFault.TheVariants.{NotOpen, CountFull, OutOfMemory, Wrong, AckAhead}
use Rattle.sam_link.specs.declared.fault.NoteFault.{NoteFault}
use Rattle.sam_link.specs.declared.fault.NoteFault.TheVariants as notes
use Rattle.sam_link.specs.declared.inbox.Place.{Place}
use Rattle.sam_link.specs.declared.keeping.PutFault.TheVariants as puts
use Rattle.sam_link.specs.declared.reading.Said.{Said}
use Rattle.sam_link.specs.declared.reading.Split.{Split}
use Rattle.sam_link.specs.declared.phase.Phase.{Phase}
use Rattle.sam_link.specs.declared.phase.Phase.TheVariants.{Down, Asking, Open}

abbrev pub is_open : Phase → Bool
is_open Down = false
is_open Asking = false
is_open Open = true

abbrev pub has_room : Keeps → ℕ → Bool
has_room k len = nat_lt (k.base + length k.kept + len) (2 ^ 64)

-- an acknowledgement of this count is put, where one is owed and can be counted
abbrev pub tells : Keeps → Bool → Bool
tells k owes = owes && has_room k 11

abbrev pub told : Keeps → Bool → ℕ → Keeps
told k owes count = if tells k owes then put k (frame 3 (eight count)) else k

-- the other side asks, or 16,384 bytes have come since it was told
abbrev pub owes : End → List Packet → ℕ → Bool
owes e ps count = asks ps || nat_le 16384 (count - e.told)

abbrev pub fed_to : End → List Packet → List ℕ → ℕ → End
fed_to e ps held count =
    record e {
      received = count;
      told = if tells e.keeps (owes e ps count) then count else e.told;
      keeps = acknowledged (told e.keeps (owes e ps count) count) (top_of ps);
      held = held;
      waiting = record e.waiting { packets = e.waiting.packets ++ items_of ps };
    }

abbrev pub fed : End → List ℕ → List Packet → ℕ → End
fed e piece ps len = fed_to e ps (drop len (e.held ++ piece)) (e.received + length piece)

abbrev pub MayFeed : End → ℕ → List ℕ → Type 0
MayFeed e attempt piece = ((is_open e.phase && (attempt == e.attempt)) ≡ true) × (e.received + length piece < 2 ^ 64)

-- what packets say is taken, which come up to this count of all bytes
abbrev pub said_to : End → Said → ℕ → End
said_to e said count =
    record e {
      received = count;
      told = if tells e.keeps (said.asked || nat_le 16384 (count - e.told)) then count else e.told;
      keeps = acknowledged (told e.keeps (said.asked || nat_le 16384 (count - e.told)) count) said.top;
    }

-- the packets that were read of what is held are taken, up to this count of all bytes
abbrev pub read_to : End → Split → ℕ → End
read_to e s count =
    record e {
      received = count;
      told = if tells e.keeps (s.said.asked || nat_le 16384 (count - e.told)) then count else e.told;
      keeps = acknowledged (told e.keeps (s.said.asked || nat_le 16384 (count - e.told)) count) s.said.top;
      held = drop s.len e.held;
      waiting = record e.waiting { packets = e.waiting.packets ++ items_among s.count e.held };
    }

-- what is wrong with what was read
abbrev pub IsFault : End → Split → Option FeedFault → Type 0
IsFault e s None = (s.fault ≡ None) × (s.said.top ≤ e.keeps.base + e.keeps.sent)
IsFault e s (Some (Wrong fault)) = s.fault ≡ Some fault
IsFault e s (Some AckAhead) = (s.fault ≡ None) × (e.keeps.base + e.keeps.sent < s.said.top)
IsFault e s (Some NotOpen) = ⊥
IsFault e s (Some CountFull) = ⊥
IsFault e s (Some OutOfMemory) = ⊥

-- what taking the packets of a piece that is held may answer, and leave as n
abbrev pub TakesSplit : End → Split → ℕ → Result (Unit {0}) FeedFault → End → Type 0
TakesSplit e s count (Ok done) n = (s.fault ≡ None) × (s.said.top ≤ e.keeps.base + e.keeps.sent) × (n ≡ read_to e s count)
TakesSplit e s count (Err (Wrong fault)) n = (s.fault ≡ Some fault) × (n ≡ e)
TakesSplit e s count (Err AckAhead) n = (s.fault ≡ None) × (e.keeps.base + e.keeps.sent < s.said.top) × (n ≡ e)
TakesSplit e s count (Err OutOfMemory) n = n ≡ e
TakesSplit e s count (Err NotOpen) n = ⊥
TakesSplit e s count (Err CountFull) n = ⊥

-- a fault of the other side ends the connection
abbrev pub ended_for : FeedFault → End → End
ended_for (Wrong fault) e = ended e
ended_for AckAhead e = ended e
ended_for NotOpen e = e
ended_for CountFull e = e
ended_for OutOfMemory e = e

-- what putting a note may answer, and leave as n
abbrev pub PutsNote : Keeps → List ℕ → Result (Unit {0}) NoteFault → Keeps → Type 0
PutsNote k bytes (Ok done) n = (length bytes ≤ 4096) × Puts k (frame 2 bytes) (Ok done) n
PutsNote k bytes (Err notes.TooLong) n = (4096 < length bytes) × (n ≡ k)
PutsNote k bytes (Err notes.CountFull) n = (length bytes ≤ 4096) × Puts k (frame 2 bytes) (Err puts.CountFull) n
PutsNote k bytes (Err notes.OutOfMemory) n = (length bytes ≤ 4096) × Puts k (frame 2 bytes) (Err puts.OutOfMemory) n

-- what feed may answer to a piece, and leave as n
abbrev pub Feeds : End → ℕ → List ℕ → Result (Unit {0}) FeedFault → End → Type 0
Feeds e attempt piece (Ok done) n =
    (ps : List Packet) × (len : ℕ) × MayFeed e attempt piece × Front packets 1 (e.held ++ piece) ps 1 len
    × IsOpen packets 1 (drop len (e.held ++ piece)) × (top_of ps ≤ e.keeps.base + e.keeps.sent) × (n ≡ fed e piece ps len)
Feeds e attempt piece (Err NotOpen) n = ((is_open e.phase && (attempt == e.attempt)) ≡ false) × (n ≡ e)
Feeds e attempt piece (Err CountFull) n =
    ((is_open e.phase && (attempt == e.attempt)) ≡ true) × (2 ^ 64 ≤ e.received + length piece) × (n ≡ e)
Feeds e attempt piece (Err OutOfMemory) n = MayFeed e attempt piece × (n ≡ e)
Feeds e attempt piece (Err (Wrong fault)) n =
    (ps : List Packet) × (len : ℕ) × MayFeed e attempt piece × Front packets 1 (e.held ++ piece) ps 1 len
    × Shows packets 1 (drop len (e.held ++ piece)) (mesg_fault fault) × (n ≡ ended e)
Feeds e attempt piece (Err AckAhead) n =
    (ps : List Packet) × (len : ℕ) × MayFeed e attempt piece × Front packets 1 (e.held ++ piece) ps 1 len
    × IsOpen packets 1 (drop len (e.held ++ piece)) × (e.keeps.base + e.keeps.sent < top_of ps) × (n ≡ ended e)

-- but for memory there is one answer to a piece, and it leaves one end
abbrev pub OneFeed : Type 0
OneFeed =
    (e : End) (attempt : ℕ) (piece : List ℕ) (a b : Result (Unit {0}) FeedFault) (n m : End)
    → Feeds e attempt piece a n → Feeds e attempt piece b m
    → a ≢ Err OutOfMemory → b ≢ Err OutOfMemory → (a ≡ b) × (n ≡ m)

-- why no piece of this length is taken
abbrev pub IsRefused : End → ℕ → List ℕ → Option FeedFault → Type 0
IsRefused e attempt piece None = MayFeed e attempt piece
IsRefused e attempt piece (Some NotOpen) = (is_open e.phase && (attempt == e.attempt)) ≡ false
IsRefused e attempt piece (Some CountFull) =
    ((is_open e.phase && (attempt == e.attempt)) ≡ true) × (2 ^ 64 ≤ e.received + length piece)
IsRefused e attempt piece (Some OutOfMemory) = ⊥
IsRefused e attempt piece (Some (Wrong fault)) = ⊥
IsRefused e attempt piece (Some AckAhead) = ⊥

-- what came and was not taken
abbrev pub has_come : End → Arrived
has_come e = record { held = e.held; waiting = e.waiting }

-- what feed_into may answer: it is a feed, and if that is well, `take_in` again and again
abbrev pub FeedsInto : End → ℕ → List ℕ → List ℕ → Result ℕ FeedFault → List ℕ → End → Type 0
FeedsInto e attempt piece old (Ok count) new n =
    (m : End) × Feeds e attempt piece (Ok tt) m × TakesAll m.waiting old count new n.waiting × (n ≡ record m { waiting = n.waiting })
FeedsInto e attempt piece old (Err fault) new n = Feeds e attempt piece (Err fault) n × (new ≡ old)

-- where nothing was there before, it goes on until there is no room for a place, or a note is first, or nothing; else it takes nothing
abbrev pub GoesOn : Arrived → ℕ → ℕ → Waiting → Type 0
GoesOn before count room n = (before ≡ nothing → (count ≡ room) ⊎ ((ready n).part ≡ [])) × ((before ≡ nothing → ⊥) → count ≡ 0)

-- what feed_places may answer: it is a feed, and if that is well, the data is taken that lies at these places of the piece
abbrev pub FeedsPlaces : End → ℕ → List ℕ → List Place → Result ℕ FeedFault → List Place → End → Type 0
FeedsPlaces e attempt piece old (Ok count) new n =
    (m : End) × Feeds e attempt piece (Ok tt) m × (count ≤ length old) × (new ≡ take count new ++ drop count old)
    × TakesPlaces piece m.waiting (take count new) n.waiting × (n ≡ record m { waiting = n.waiting })
    × GoesOn (has_come e) count (length old) n.waiting
FeedsPlaces e attempt piece old (Err fault) new n = Feeds e attempt piece (Err fault) n × (new ≡ old)
