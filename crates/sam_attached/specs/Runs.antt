-- What any acts of a client come to: calls of its terminal's end and of its line, and what went between the two.
use Rattle.std.specs.Prelude.{◌≡◌, ℕ, List, [], ◌∷◌, ◌++◌, length, drop, map, replicate, flat_map, Some, None, Ok, Err}
use Rattle.sam_link.specs.Calls.{Item, bytes_of}
use Rattle.sam_link.specs.Calls.Item.{Byte, Note}
use Rattle.sam_line.specs.Calls.{LineCall, LineDoesAll, handed_by as line_handed_by, put_by as line_put_by}
use Rattle.sam_line.specs.Calls.LineCall.{Ask, NextNote, Put, PutNote, TakeIn}
use Rattle.sam_endpoint.specs.Streams.{GoesOnAfter}
use Rattle.sam_endpoint.specs.TermRuns.{Call as EndCall, Runs as EndRuns, came_in, went_out}
use Rattle.sam_client.specs.Clients.{Act, Does, DoesAll}
use Rattle.sam_client.specs.Clients.Act.{ActNext, AskHost, Bring, Fetch, FetchNote, OfLine, PutEdit, Replace, Request, Send, SendNote, Step, TakeBack, TellRefusal}
use Rattle.sam_client.specs.declared.client.Client.{Client}

-- ## What crosses

-- what the act put into the line
abbrev pub put_by : Act → List Item
put_by (OfLine call) = []
put_by (Replace f p q s answer) = []
put_by (Request event answer) = []
put_by (TakeBack f answer) = []
put_by (TellRefusal oldest) = []
put_by (Step answer) = []
put_by (ActNext answer) = []
put_by (PutEdit f answer) = []
put_by (Send bytes now (Ok done)) = map Byte bytes
put_by (Send bytes now (Err why)) = []
put_by (SendNote bytes now (Ok done)) = Note bytes ∷ []
put_by (SendNote bytes now (Err why)) = []
put_by (Fetch bytes) = []
put_by (Bring bytes answer) = []
put_by (FetchNote bytes) = []
put_by (AskHost now answer) = []

-- what left the line by the act
abbrev pub left_by : Act → List Item
left_by (OfLine call) = []
left_by (Replace f p q s answer) = []
left_by (Request event answer) = []
left_by (TakeBack f answer) = []
left_by (TellRefusal oldest) = []
left_by (Step answer) = []
left_by (ActNext answer) = []
left_by (PutEdit f answer) = []
left_by (Send bytes now answer) = []
left_by (SendNote bytes now answer) = []
left_by (Fetch bytes) = map Byte bytes
left_by (Bring bytes answer) = []
left_by (FetchNote None) = []
left_by (FetchNote (Some bytes)) = Note bytes ∷ []
left_by (AskHost now answer) = []

-- a buffer before bytes came into it, and with them
abbrev pub blank : List ℕ
blank = replicate 4096 0

abbrev pub with_bytes : List ℕ → List ℕ
with_bytes bytes = bytes ++ drop (length bytes) blank

-- the act as calls of the line
abbrev pub line_calls : Act → List LineCall
line_calls (OfLine call) = call ∷ []
line_calls (Replace f p q s answer) = []
line_calls (Request event answer) = []
line_calls (TakeBack f answer) = []
line_calls (TellRefusal oldest) = []
line_calls (Step answer) = []
line_calls (ActNext answer) = []
line_calls (PutEdit f answer) = []
line_calls (Send bytes now answer) = Put bytes now answer ∷ []
line_calls (SendNote bytes now answer) = PutNote bytes now answer ∷ []
line_calls (Fetch bytes) = TakeIn blank (length bytes) (with_bytes bytes) ∷ []
line_calls (Bring bytes answer) = []
line_calls (FetchNote None) = []
line_calls (FetchNote (Some bytes)) = NextNote blank (Some (length bytes)) (with_bytes bytes) ∷ []
line_calls (AskHost now answer) = Ask now answer ∷ []

-- ## Runs

-- the act doesn't stop the terminal's end
abbrev pub IsGoing : Act → Type 0
IsGoing (OfLine call) = Unit {0}
IsGoing (Replace f p q s answer) = Unit {0}
IsGoing (Request event answer) = Unit {0}
IsGoing (TakeBack f answer) = Unit {0}
IsGoing (TellRefusal oldest) = Unit {0}
IsGoing (Step answer) = GoesOnAfter answer
IsGoing (ActNext answer) = Unit {0}
IsGoing (PutEdit f answer) = Unit {0}
IsGoing (Send bytes now answer) = Unit {0}
IsGoing (SendNote bytes now answer) = Unit {0}
IsGoing (Fetch bytes) = Unit {0}
IsGoing (Bring bytes answer) = Unit {0}
IsGoing (FetchNote bytes) = Unit {0}
IsGoing (AskHost now answer) = Unit {0}

abbrev pub AreGoing : List Act → Type 0
AreGoing [] = Unit {0}
AreGoing (act ∷ acts) = IsGoing act × AreGoing acts

-- The acts are calls of the line, which put and handed over the same; and calls of the terminal's end, which handed out just the bytes that
-- went into the line, and took in just those that left it, but for what is held
pub record AreCalls (c : Client) (acts : List Act) (n : Client) : Type 0 where
  pub end_calls : List EndCall
  pub runs : EndRuns c.ordered.overlay.end end_calls n.ordered.overlay.end
  pub does : LineDoesAll c.line (flat_map line_calls acts) n.line
  pub puts : flat_map line_put_by (flat_map line_calls acts) ≡ flat_map put_by acts
  pub leaves : flat_map line_handed_by (flat_map line_calls acts) ≡ flat_map left_by acts
  pub sent : flat_map went_out end_calls ≡ bytes_of (flat_map put_by acts)
  pub received : c.held ++ bytes_of (flat_map left_by acts) ≡ flat_map came_in end_calls ++ n.held

-- ## The laws

-- whatever a client does, as long as its end doesn't stop
abbrev pub ClientsAreCalls : Type 0
ClientsAreCalls = (c n : Client) (acts : List Act) → DoesAll c acts n → AreGoing acts → AreCalls c acts n

-- where a note leaves the line, the end has taken in all bytes in front of it
abbrev pub NotesComeBehind : Type 0
NotesComeBehind =
    (c m n : Client) (acts : List Act) (note : List ℕ) → c.held ≡ [] → DoesAll c acts m → AreGoing acts → Does m (FetchNote (Some note)) n
    → (calls : AreCalls c acts m) × (bytes_of (flat_map left_by acts) ≡ flat_map came_in calls.end_calls)
