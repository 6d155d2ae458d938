-- The packets of a link's stream, and what stands first in bytes.
use Rattle.std.specs.Prelude.{◌≡◌, ℕ, ◌<◌, ◌≤◌, ◌^◌, List, [], ◌∷◌, length, drop, max, Option, None, Some, Bool, true, false, ◌||◌}
use Rattle.sam_mesg.specs.Bounds.{entry}
use Rattle.sam_mesg.specs.Spelling.{eight}
use Rattle.sam_mesg.specs.declared.fault.MesgFault.{MesgFault}
use Rattle.sam_mesg.specs.declared.fault.MesgFault.TheVariants as wrong
use Rattle.sam_frame.specs.Direction.{Direction, spells}
use Rattle.sam_frame.specs.First.{IsWhole}
use Rattle.sam_frame.specs.Splitting.{Front}
use Rattle.sam_frame.specs.Stream.{IsOpen, Shows}
use Rattle.sam_link.specs.declared.reading.First.{First}
use Rattle.sam_link.specs.declared.reading.First.TheVariants.{Open, Whole, Wrong}
use Rattle.sam_link.specs.declared.reading.PacketFault.{PacketFault}
use Rattle.sam_link.specs.declared.reading.PacketFault.TheVariants.{BadKind, BadLength}
use Rattle.sam_link.specs.declared.reading.Said.{Said}
use Rattle.sam_link.specs.declared.reading.Split.{Split}

-- Its numbers on the wire are 1 to 4, in this order
pub data Packet : Type 0 where
  Data : List ℕ → Packet  -- bytes of the stream that the program puts
  Note : List ℕ → Packet  -- a note of the program
  Acknowledge : ℕ → Packet  -- so many bytes of the other side's stream have come
  Ask : Packet  -- the other side is to acknowledge now

abbrev pub kind_of : Packet → ℕ
kind_of (Data bytes) = 1
kind_of (Note bytes) = 2
kind_of (Acknowledge count) = 3
kind_of Ask = 4

abbrev pub body_of : Packet → List ℕ
body_of (Data bytes) = bytes
body_of (Note bytes) = bytes
body_of (Acknowledge count) = eight count
body_of Ask = []

abbrev pub IsPacket : Packet → Type 0
IsPacket (Data bytes) = (1 ≤ length bytes) × (length bytes ≤ 4096)
IsPacket (Note bytes) = length bytes ≤ 4096
IsPacket (Acknowledge count) = count < 2 ^ 64
IsPacket Ask = Unit {0}

-- the least and the greatest length of the body of a kind
abbrev pub bounds : ℕ → Option (ℕ × ℕ)
bounds kind = entry 1 ((1, 4096) ∷ (0, 4096) ∷ (8, 8) ∷ (0, 0) ∷ []) kind

-- packets are the same in all versions
abbrev pub packets : Direction Packet
packets =
    record {
      kind_of = kind_of;
      body_of = body_of;
      fits = λ version p. true;
      good = λ version p. IsPacket p;
      bounds = λ version. bounds;
      after = λ version p. version;
    }

abbrev pub mesg_fault : PacketFault → MesgFault
mesg_fault BadKind = wrong.BadKind
mesg_fault BadLength = wrong.BadLength

-- ## What packets say of the other stream

-- the count that the packet acknowledges, if it does
abbrev pub count_of : Packet → ℕ
count_of (Data bytes) = 0
count_of (Note bytes) = 0
count_of (Acknowledge count) = count
count_of Ask = 0

-- the greatest count that is acknowledged
abbrev pub top_of : List Packet → ℕ
top_of [] = 0
top_of (p ∷ ps) = max (count_of p) (top_of ps)

abbrev pub is_ask : Packet → Bool
is_ask (Data bytes) = false
is_ask (Note bytes) = false
is_ask (Acknowledge count) = false
is_ask Ask = true

abbrev pub asks : List Packet → Bool
asks [] = false
asks (p ∷ ps) = is_ask p || asks ps

-- ## What is read

-- a packet of this kind with this body says so much
abbrev pub Says : ℕ → List ℕ → Said → Type 0
Says kind body said = (p : Packet) × spells packets 1 kind body p × (said.top ≡ count_of p) × (said.asked ≡ is_ask p)

-- a packet that says so much stands first, and takes so many bytes
abbrev pub StandsFirst : List ℕ → Said → ℕ → Type 0
StandsFirst bytes said len = (p : Packet) × IsWhole packets 1 bytes p len × (said.top ≡ count_of p) × (said.asked ≡ is_ask p)

abbrev pub FirstIs : List ℕ → First → Type 0
FirstIs bytes Open = IsOpen packets 1 bytes
FirstIs bytes (Whole said len) = StandsFirst bytes said len
FirstIs bytes (Wrong fault) = Shows packets 1 bytes (mesg_fault fault)

abbrev pub EndsIn : List ℕ → Option PacketFault → Type 0
EndsIn rest None = IsOpen packets 1 rest
EndsIn rest (Some fault) = Shows packets 1 rest (mesg_fault fault)

-- so many packets, which take so many bytes and say so much, stand at the front of the bytes
pub record IsRead (bytes : List ℕ) (count len : ℕ) (said : Said) : Type 0 where
  pub ps : List Packet
  pub front : Front packets 1 bytes ps 1 len
  pub count_is : count ≡ length ps
  pub fewer : count ≤ len
  pub top_is : said.top ≡ top_of ps
  pub asked_is : said.asked ≡ asks ps

-- the bytes are these packets and then what is no whole packet, or shows a fault
abbrev pub IsSplit : List ℕ → Split → Type 0
IsSplit bytes s = IsRead bytes s.count s.len s.said × EndsIn (drop s.len bytes) s.fault
