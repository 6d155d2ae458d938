-- A host at one end of a stream of bytes each way, and what feeding it does.
use Rattle.std.specs.Prelude.{◌≡◌, ℕ, ◌+◌, ◌^◌, ◌<◌, ◌≤◌, ◌⊎◌, List, [], ◌∷◌, ◌++◌, length, map, not, ◌&&◌, ◌||◌, nat_lt, nat_le, if◌then◌else◌, Option, Some, None, Result, Ok, Err}
use Rattle.std.specs.Str.{chars, is_utf8}
use Rattle.sam_runes.specs.Checks.{Checks, first_of_checks}
use Rattle.sam_runes.specs.Texts.{all_tags, max_runes, most_in_name}
use Rattle.sam_mesg.specs.declared.tmesg.Tmesg.{Tmesg}
use Rattle.sam_mesg.specs.declared.tmesg.Tmesg.TheVariants.{Tversion, Tstartcmdfile, Tcheck, Trequest, Torigin, Tstartfile, Tworkfile, Ttype, Tcut, Tpaste, Tsnarf, Tstartnewfile, Twrite, Tclose, Tlook, Tsearch, Tsend, Tdclick, Tstartsnarf, Tsetsnarf, Tack, Texit}
use Rattle.sam_mesg.specs.declared.hmesg.HFrame.{HFrame}
use Rattle.sam_frame.specs.Direction.{host, terminal}
use Rattle.sam_frame.specs.Stream.{stream_of}
use Rattle.sam_frame.specs.Framing.{Held, HasRoom, fresh}
use Rattle.sam_host.specs.Host.{PlainHost, answer, new_host, with_given}
use Rattle.sam_host.specs.Marking.{mark_checks, mark_frames, marked}
use Rattle.sam_host.specs.declared.fault.MarkFault.{MarkFault}
use Rattle.sam_host.specs.declared.fault.MarkFault.TheVariants as marking
use Rattle.sam_endpoint.specs.declared.fault.AddFault.{AddFault}
use Rattle.sam_endpoint.specs.declared.fault.AddFault.TheVariants as refusal
use Rattle.sam_endpoint.specs.declared.fault.StreamFault.{StreamFault}
use Rattle.sam_endpoint.specs.declared.fault.HostStop.{HostStop}
use Rattle.sam_endpoint.specs.declared.fault.HostStop.TheVariants as stop
use Rattle.sam_endpoint.specs.declared.fault.EndpointFault.{EndpointFault}
use Rattle.sam_endpoint.specs.declared.fault.EndpointFault.TheVariants as fault
use Rattle.sam_endpoint.specs.declared.fault.FinishFault.{FinishFault}
use Rattle.sam_endpoint.specs.declared.fault.FinishFault.TheVariants as ending
use Rattle.sam_endpoint.specs.Streams.{FitFrames, Gives}

pub record PlainHostEndpoint : Type 0 where
  pub framer : Held  -- what came of the terminal's stream and is no whole frame yet
  pub host : PlainHost
  pub waiting : List Tmesg  -- messages that came and are not answered yet
  pub broken_by : Option StreamFault  -- what is wrong with the stream after them
  pub unwritten : List HFrame  -- frames that were answered and are not in the pending bytes yet
  pub pending_bytes : List ℕ  -- bytes for the terminal that were not taken yet
  pub writes : List ℕ  -- the tags that the host was told to write and that were not asked for yet, in order
  pub stop : Option HostStop  -- why it has stopped for good

abbrev pub new_host_endpoint : PlainHostEndpoint
new_host_endpoint =
    record {
      framer = fresh;
      host = new_host [];
      waiting = [];
      broken_by = None;
      unwritten = [];
      pending_bytes = [];
      writes = [];
      stop = None;
    }

-- the tag that a message tells the host to write; a host that is done writes nothing
abbrev pub writes_of : PlainHost → Tmesg → List ℕ
writes_of h (Tversion v) = []
writes_of h Tstartcmdfile = []
writes_of h (Tcheck f) = []
writes_of h (Trequest f p n) = []
writes_of h (Torigin f p n) = []
writes_of h (Tstartfile f) = []
writes_of h (Tworkfile f p q) = []
writes_of h (Ttype f p s) = []
writes_of h (Tcut f p q) = []
writes_of h (Tpaste f p) = []
writes_of h (Tsnarf f p q) = []
writes_of h Tstartnewfile = []
writes_of h (Twrite f) = if h.is_done then [] else f ∷ []
writes_of h (Tclose f) = []
writes_of h (Tlook f p q) = []
writes_of h (Tsearch f p q) = []
writes_of h (Tsend f p q) = []
writes_of h (Tdclick f p) = []
writes_of h Tstartsnarf = []
writes_of h (Tsetsnarf s) = []
writes_of h Tack = []
writes_of h Texit = []

-- what a host does
pub data Step : Type 0 where
  Answered : Tmesg → Step  -- it answered this message
  Joined : List ℕ × List ℕ → Step  -- a file of this name and text joined its files
  Marked : ℕ → Step  -- this file was marked as dirty

-- a tag is left, and name and text of the file are within their limits
abbrev pub MayJoin : PlainHost → List ℕ × List ℕ → Type 0
MayJoin h file = (length h.files.slots < all_tags) × (length file.0 ≤ most_in_name) × (length file.1 ≤ max_runes)

-- nothing stands against marking this file as dirty
abbrev pub MayMark : PlainHost → ℕ → Type 0
MayMark h f = first_of_checks (mark_checks h f) ≡ None

-- The host does these steps in order; its answers and the frames of its marks are these, and it is told to write these tags. A file joins,
-- or is marked, only where it may
abbrev pub Serves : PlainHost → List Step → List HFrame → List ℕ → PlainHost → Type 0
Serves h [] frames writes g = (frames ≡ []) × (writes ≡ []) × (g ≡ h)
Serves h (Answered m ∷ steps) frames writes g =
    (k : PlainHost) × (first : List HFrame) × (rest : List HFrame) × (more : List ℕ)
    × (answer h m ≡ Ok (k, first)) × (frames ≡ first ++ rest) × (writes ≡ writes_of h m ++ more) × Serves k steps rest more g
Serves h (Joined file ∷ steps) frames writes g = MayJoin h file × Serves (with_given h file) steps frames writes g
Serves h (Marked f ∷ steps) frames writes g =
    (rest : List HFrame) × MayMark h f × (frames ≡ mark_frames h f ++ rest) × Serves (marked h f) steps rest writes g

-- of the messages that waited these were answered, and the frames of the answers are written or wait to be
pub record Answers (e : PlainHostEndpoint) (messages : List Tmesg) (g : PlainHostEndpoint) : Type 0 where
  pub frames : List HFrame
  pub more : List ℕ
  pub serves : Serves e.host (map Answered messages) frames more g.host
  pub frames_fit : FitFrames frames
  pub waiting : e.waiting ≡ messages ++ g.waiting
  pub bytes : g.pending_bytes ++ stream_of host g.unwritten ≡ e.pending_bytes ++ stream_of host (e.unwritten ++ frames)
  pub writes : g.writes ≡ e.writes ++ more
  pub framer : g.framer ≡ e.framer
  pub broken_by : g.broken_by ≡ e.broken_by

-- nothing is left to answer or to write
pub record IsIdle (g : PlainHostEndpoint) : Type 0 where
  pub waiting : g.waiting ≡ []
  pub unwritten : g.unwritten ≡ []

-- what going on with what waits leads to: all is answered; memory was refused first, and something still waits; or the end stops, at a
-- message that the host refuses or at the stream's fault after them all
abbrev pub GoesOn : PlainHostEndpoint → Result (Unit {0}) (EndpointFault HostStop) → PlainHostEndpoint → Type 0
GoesOn e (Ok done) g = Answers e e.waiting g × IsIdle g × (e.broken_by ≡ None) × (g.stop ≡ None)
GoesOn e (Err fault.Unfinished) g =
    (messages : List Tmesg) × Answers e messages g × (g.stop ≡ None) × (0 < length g.waiting + length g.unwritten)
GoesOn e (Err (fault.Stopped (stop.Stream why))) g =
    Answers e e.waiting g × IsIdle g × (e.broken_by ≡ Some why) × (g.stop ≡ Some (stop.Stream why))
GoesOn e (Err (fault.Stopped (stop.Refused why))) g =
    (messages : List Tmesg) × (m : Tmesg) × (rest : List Tmesg)
    × Answers e messages g × (g.waiting ≡ m ∷ rest) × (answer g.host m ≡ Err why) × (g.unwritten ≡ []) × (g.stop ≡ Some (stop.Refused why))
GoesOn e (Err fault.OutOfMemory) g = ⊥
GoesOn e (Err fault.CountFull) g = ⊥

-- the framer took the piece in: its messages wait, and then perhaps a fault of the stream
abbrev pub TakesIn : PlainHostEndpoint → List ℕ → PlainHostEndpoint → Type 0
TakesIn e piece k =
    (messages : List Tmesg) × (broken_by : Option StreamFault) × (rest : Held)
    × Gives terminal e.framer piece messages broken_by rest
    × (k ≡ record e { framer = rest; waiting = messages; broken_by = broken_by })

-- what an end does with a piece, where nothing waits any more
abbrev pub FeedsIdle : PlainHostEndpoint → List ℕ → Result (Unit {0}) (EndpointFault HostStop) → PlainHostEndpoint → Type 0
FeedsIdle e piece result g =
    ((k : PlainHostEndpoint) × TakesIn e piece k × GoesOn k result g)
    ⊎ (((result ≡ Err fault.OutOfMemory) × HasRoom e.framer piece × (g ≡ e))
    ⊎ ((result ≡ Err fault.CountFull) × (2 ^ 64 ≤ e.framer.offset + length e.framer.bytes + length piece) × (g ≡ e)))

-- what it does with the piece after it went on with what waited
abbrev pub FeedsAfter : Result (Unit {0}) (EndpointFault HostStop) → PlainHostEndpoint → List ℕ
    → Result (Unit {0}) (EndpointFault HostStop) → PlainHostEndpoint → Type 0
FeedsAfter (Ok done) e piece result g = FeedsIdle e piece result g
FeedsAfter (Err fault.Unfinished) e piece result g = (result ≡ Err fault.OutOfMemory) × (g ≡ e)
FeedsAfter (Err (fault.Stopped why)) e piece result g = (result ≡ Err (fault.Stopped why)) × (g ≡ e)
FeedsAfter (Err fault.OutOfMemory) e piece result g = ⊥
FeedsAfter (Err fault.CountFull) e piece result g = ⊥

-- what feeding a piece answers, and how it leaves the end: one that has stopped says why again and stays as it is
abbrev pub Feeds : PlainHostEndpoint → List ℕ → Result (Unit {0}) (EndpointFault HostStop) → PlainHostEndpoint → Type 0
Feeds e piece result g =
    ((why : HostStop) × (e.stop ≡ Some why) × (result ≡ Err (fault.Stopped why)) × (g ≡ e))
    ⊎ ((e.stop ≡ None) × (middle : PlainHostEndpoint) × (first : Result (Unit {0}) (EndpointFault HostStop))
    × GoesOn e first middle × FeedsAfter first middle piece result g)

-- ## The end of the stream

-- all that came was answered and written, and no fault stands after it
abbrev pub IsDone : PlainHostEndpoint → Type 0
IsDone e = IsIdle e × (e.broken_by ≡ None)

-- whether the stream may end here: it may where all of it was answered, and it ends between two messages
abbrev pub Finishes : PlainHostEndpoint → Result (Unit {0}) (FinishFault HostStop) → Type 0
Finishes e (Err (ending.Stopped why)) = e.stop ≡ Some why
Finishes e (Err ending.Unfinished) = (e.stop ≡ None) × (IsDone e → ⊥)
Finishes e (Err ending.Truncated) = (e.stop ≡ None) × IsDone e × (0 < length e.framer.bytes)
Finishes e (Ok done) = (e.stop ≡ None) × IsDone e × (e.framer.bytes ≡ [])

-- how many bytes of the stream stand before the wrong frame at which an end has stopped that has read so many whole ones
abbrev pub place_of_stop : Option HostStop → ℕ → Option ℕ
place_of_stop None bytes = None
place_of_stop (Some (stop.Stream why)) bytes = Some bytes
place_of_stop (Some (stop.Refused why)) bytes = None

abbrev pub fault_place : PlainHostEndpoint → Option ℕ
fault_place e = place_of_stop e.stop e.framer.offset

-- ## Files that join

-- what stands against a file of this name and text, in bytes
abbrev pub add_checks : PlainHostEndpoint → List ℕ → List ℕ → Checks AddFault
add_checks e name text =
    (not (is_utf8 name && is_utf8 text), refusal.NotText)
    ∷ (nat_lt most_in_name (length (chars name)) || nat_lt max_runes (length (chars text)), refusal.TooLong)
    ∷ (nat_le all_tags (length e.host.files.slots), refusal.NoTag)
    ∷ []

-- the first test that holds, or out of memory where none does
abbrev pub IsAddFault : Option AddFault → AddFault → Type 0
IsAddFault None why = why ≡ refusal.OutOfMemory
IsAddFault (Some fault) why = why ≡ fault

-- the end with one more file, of the runes that the bytes spell: it is there before all messages that are not answered yet
abbrev pub with_file : PlainHostEndpoint → List ℕ → List ℕ → PlainHostEndpoint
with_file e name text = record e { host = with_given e.host (chars name, chars text) }

-- what adding a file answers, and how it leaves the end, whatever waits there and whether it goes on or has stopped: the file has joined
-- under the next tag; or it is refused, and all is as it was
abbrev pub Adds : PlainHostEndpoint → List ℕ → List ℕ → Result ℕ AddFault → PlainHostEndpoint → Type 0
Adds e name text (Ok tag) g =
    (tag ≡ length e.host.files.slots) × (first_of_checks (add_checks e name text) ≡ None) × (g ≡ with_file e name text)
Adds e name text (Err why) g = IsAddFault (first_of_checks (add_checks e name text)) why × (g ≡ e)

-- ## Files that are marked as dirty

-- the end with this file marked, and with the frame for that written behind all that was answered before
abbrev pub with_mark : PlainHostEndpoint → ℕ → PlainHostEndpoint
with_mark e f =
    record e {
      host = marked e.host f;
      unwritten = [];
      pending_bytes = e.pending_bytes ++ stream_of host (e.unwritten ++ mark_frames e.host f);
    }

-- the first test that holds, or out of memory where none does
abbrev pub IsMarkFault : Option MarkFault → MarkFault → Type 0
IsMarkFault None why = why ≡ marking.OutOfMemory
IsMarkFault (Some fault) why = why ≡ fault

-- what marking a file answers, and how it leaves the end, whatever waits there and whether it goes on or has stopped
abbrev pub Marks : PlainHostEndpoint → ℕ → Result (Unit {0}) MarkFault → PlainHostEndpoint → Type 0
Marks e f (Ok done) g = MayMark e.host f × FitFrames (mark_frames e.host f) × (g ≡ with_mark e f)
Marks e f (Err why) g = IsMarkFault (first_of_checks (mark_checks e.host f)) why × (g ≡ e)
