-- What came and was not taken yet.
use Rattle.std.specs.Prelude.{◌≡◌, ℕ, zero, suc, ◌+◌, ◌*◌, ◌-◌, ◌<◌, ◌≤◌, List, [], ◌∷◌, ◌++◌, length, take, drop, slice_index, Option, None, Some, Bool, true, false, ◌==◌, if◌then◌else◌, min, option_map}
use Rattle.std.specs.List.{flat_map}
use Rattle.sam_frame.specs.Splitting.{Front}
use Rattle.sam_link.specs.Packets.{Packet, packets}
use Rattle.sam_link.specs.Packets.Packet.{Data, Note, Acknowledge, Ask}
use Rattle.sam_link.specs.declared.inbox.Body.{Body}
use Rattle.sam_link.specs.declared.inbox.Found.{Found}
use Rattle.sam_link.specs.declared.inbox.Found.TheVariants.{Nothing}
use Rattle.sam_link.specs.declared.inbox.Found.TheVariants as found
use Rattle.sam_link.specs.declared.inbox.Marks.{Marks}
use Rattle.sam_link.specs.declared.inbox.Place.{Place}

-- the rest of the data whose first bytes were taken, and the packets after it
pub record Waiting : Type 0 where
  pub part : List ℕ
  pub packets : List Packet

-- whether a packet is for the program
abbrev pub is_item : Packet → Bool
is_item (Data bytes) = true
is_item (Note bytes) = true
is_item (Acknowledge count) = false
is_item Ask = false

abbrev pub item_of : Packet → List Packet
item_of p = if is_item p then p ∷ [] else []

abbrev pub items_of : List Packet → List Packet
items_of ps = flat_map item_of ps

-- the data of the first packet, if nothing is left of what was begun and data is first
abbrev pub ready_of : List ℕ → List Packet → Waiting
ready_of (byte ∷ part) ps = record { part = byte ∷ part; packets = ps }
ready_of [] [] = record { part = []; packets = [] }
ready_of [] (Data bytes ∷ ps) = record { part = bytes; packets = ps }
ready_of [] (Note bytes ∷ ps) = record { part = []; packets = Note bytes ∷ ps }
ready_of [] (Acknowledge count ∷ ps) = record { part = []; packets = Acknowledge count ∷ ps }
ready_of [] (Ask ∷ ps) = record { part = []; packets = Ask ∷ ps }

abbrev pub ready : Waiting → Waiting
ready w = ready_of w.part w.packets

-- taking in leaves this behind: of the data that was first, what did not come along, and the packets after it
abbrev pub left_of : Waiting → ℕ → Waiting
left_of w count = record { part = drop count (ready w).part; packets = (ready w).packets }

-- one `take_in`: so many bytes come into the buffer, and this waits then
abbrev pub TakesIn : Waiting → List ℕ → ℕ → List ℕ → Waiting → Type 0
TakesIn w old count new n =
    (count ≡ min (length (ready w).part) (length old)) × (new ≡ take count (ready w).part ++ drop count old) × (n ≡ left_of w count)

-- so many of them, each into what those before it left of the buffer: so many bytes come in all
abbrev pub TakesOften : ℕ → Waiting → List ℕ → ℕ → List ℕ → Waiting → Type 0
TakesOften zero w old count new n = (count ≡ 0) × (new ≡ old) × (n ≡ w)
TakesOften (suc often) w old count new n =
    (mid : Waiting) × (before : ℕ) × (more : ℕ) × (into : List ℕ) × TakesOften often w old before into mid × (count ≡ before + more)
    × (take before new ≡ take before into) × TakesIn mid (drop before into) more (drop before new) n

-- as many as bring something, and one that brings nothing: no room is left, or a note is first, or nothing
abbrev pub TakesAll : Waiting → List ℕ → ℕ → List ℕ → Waiting → Type 0
TakesAll w old count new n =
    (often : ℕ) × (mid : Waiting) × TakesOften often w old count new mid × TakesIn mid (drop count new) 0 (drop count new) n

-- the bytes of the piece at the place
abbrev pub stretch : List ℕ → Place → List ℕ
stretch piece p = take p.len (drop p.start piece)

-- at the place in the piece lies this data: all of it, and some
abbrev pub Holds : List ℕ → Place → List ℕ → Type 0
Holds piece p body = (p.start + p.len ≤ length piece) × (stretch piece p ≡ body) × (0 < p.len)

-- the data that is first is taken whole, one packet after the other: these places of the piece hold it
abbrev pub TakesPlaces : List ℕ → Waiting → List Place → Waiting → Type 0
TakesPlaces piece w [] n = n ≡ w
TakesPlaces piece w (p ∷ ps) n = Holds piece p (ready w).part × TakesPlaces piece (left_of w p.len) ps n

-- the note that is first, once all bytes before it are taken
abbrev pub note_of : List ℕ → List Packet → Option (List ℕ × List Packet)
note_of (byte ∷ part) ps = None
note_of [] [] = None
note_of [] (Note bytes ∷ ps) = Some (bytes, ps)
note_of [] (Data bytes ∷ ps) = None
note_of [] (Acknowledge count ∷ ps) = None
note_of [] (Ask ∷ ps) = None

abbrev pub GivesNote : Waiting → Option (List ℕ) → Waiting → Type 0
GivesNote w (Some bytes) n = (note_of w.part w.packets ≡ Some (bytes, n.packets)) × (n.part ≡ w.part)
GivesNote w None n = (note_of w.part w.packets ≡ None) × (n ≡ w)

-- a note that was moved into a buffer, which had so many bytes
abbrev pub note_in : Option ℕ → List ℕ → Option (List ℕ)
note_in count bytes = option_map (λ n. take n bytes) count

-- only the note's bytes of the buffer changed
abbrev pub RestStays : Option ℕ → List ℕ → List ℕ → Type 0
RestStays None old new = new ≡ old
RestStays (Some count) old new = (count ≤ 4096) × (new ≡ take count new ++ drop count old)

-- ## Where it lies

-- all that came and was not taken: bytes that are no whole packet yet, and what waits
pub record Arrived : Type 0 where
  pub held : List ℕ
  pub waiting : Waiting

-- the length of the body of the packet that stands first
abbrev pub body_len : List ℕ → ℕ
body_len bytes = slice_index bytes 1 * 256 + slice_index bytes 2

-- the packet of this kind with this body, if it is for the program
abbrev pub item_at : ℕ → List ℕ → List Packet
item_at kind body = if kind == 1 then Data body ∷ [] else if kind == 2 then Note body ∷ [] else []

-- those for the program among so many packets that stand first
unfoldable pub items_among : ℕ → List ℕ → List Packet
items_among zero bytes = []
items_among (suc n) bytes =
    item_at (slice_index bytes 0) (take (body_len bytes) (drop 3 bytes)) ++ items_among n (drop (3 + body_len bytes) bytes)

-- so many packets stand at the front of the bytes, and take so many of them
pub record IsRow (bytes : List ℕ) (count len : ℕ) : Type 0 where
  pub ps : List Packet
  pub front : Front packets 1 bytes ps 1 len
  pub count_is : count ≡ length ps

-- so many bytes from there on are the body of the first packet for the program, and these packets stand behind it
pub record Stands (bytes : List ℕ) (count len : ℕ) (b : Body) (item : List ℕ → Packet) : Type 0 where
  pub inside : b.start + b.len ≤ len
  pub brief : b.len ≤ 4096
  pub behind : IsRow (drop (b.start + b.len) bytes) b.left (len - (b.start + b.len))
  pub items : items_among count bytes ≡ item (take b.len (drop b.start bytes)) ∷ items_among b.left (drop (b.start + b.len) bytes)

abbrev pub Finds : List ℕ → ℕ → ℕ → Found → Type 0
Finds bytes count len Nothing = items_among count bytes ≡ []
Finds bytes count len (found.Data b) = Stands bytes count len b Data
Finds bytes count len (found.Note b) = Stands bytes count len b Note

-- what was begun lies from `gone` on, packets from `next` on, and from `whole` on what is no packet yet
pub record IsInbox (bytes : List ℕ) (gone next whole count : ℕ) : Type 0 where
  pub begun : gone ≤ next
  pub behind : next ≤ whole
  pub inside : whole ≤ length bytes
  pub row : IsRow (drop next bytes) count (whole - next)

abbrev pub arrived : List ℕ → ℕ → ℕ → ℕ → ℕ → Arrived
arrived bytes gone next whole count =
    record {
      held = drop whole bytes;
      waiting = record { part = take (next - gone) (drop gone bytes); packets = items_among count (drop next bytes) };
    }

abbrev pub nothing : Arrived
nothing = record { held = []; waiting = record { part = []; packets = [] } }

abbrev pub LiesIn : Marks → List ℕ → Type 0
LiesIn m bytes = IsInbox bytes m.gone m.next m.whole m.count

abbrev pub lying : Marks → List ℕ → Arrived
lying m bytes = arrived bytes m.gone m.next m.whole m.count

abbrev pub made_ready : Arrived → Arrived
made_ready a = record a { waiting = ready a.waiting }

-- so many bytes of what was begun are taken
abbrev pub parted : Arrived → ℕ → Arrived
parted a count = record a { waiting = record a.waiting { part = drop count a.waiting.part } }
