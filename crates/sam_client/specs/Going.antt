-- How a client goes on.
use Rattle.std.specs.Prelude.{◌≡◌, ◌⊎◌, ℕ, ◌+◌, ◌^◌, ◌<◌, ◌≤◌, List, [], ◌∷◌, Bool, true, false, not, Option, Some, None, Result, Ok, Err, if◌then◌else◌, is_some, option_map}
use Rattle.sam_link.specs.Inbox.{Waiting, ready}
use Rattle.sam_line.specs.declared.line.Line.{Line}
use Rattle.sam_pending.specs.Cells.{resting}
use Rattle.sam_pending.specs.Groups.{IsPutUpTo}
use Rattle.sam_pending.specs.Layers.{Layer, cells_over, next_made, rasp_length}
use Rattle.sam_runes.specs.Slots.{slot}
use Rattle.sam_runes.specs.Texts.{is_empty, max_runes}
use Rattle.sam_term.specs.Term.{rasp_at}
use Rattle.sam_endpoint.specs.TermEndpoints.{IsQuiet, PlainTermEndpoint}
use Rattle.sam_endpoint.specs.TermStepping.{IsReady}
use Rattle.sam_endpoint.specs.declared.step.TermStep.{TermStep}
use Rattle.sam_endpoint.specs.declared.step.TermStep.TheVariants.{Acted, Idle, Locked, Received, Refused, Wrote}
use Rattle.sam_overlay.specs.Calls.{IsFree, PlainOverlay, cells_at}
use Rattle.sam_overlay.specs.Ordered.{IsNotYet}
use Rattle.sam_overlay.specs.Outcomes.{NoneKept}
use Rattle.sam_overlay.specs.Requests.{put_limit}
use Rattle.sam_overlay.specs.declared.ordered.OrderedOverlay.{OrderedOverlay}
use Rattle.sam_overlay.specs.declared.shown_change.OverlayStep.{OverlayStep}
use Rattle.sam_overlay.specs.declared.shown_change.Put.TheVariants as became
use Rattle.sam_overlay.specs.declared.shown_change.Turn.TheVariants as turn
use Rattle.sam_client.specs.Clients.{Act, Does, DoesAll}
use Rattle.sam_client.specs.Clients.Act.{ActNext, AskHost, Bring, Fetch, FetchNote, OfLine, PutEdit, Replace, Request, Send, SendNote, Step, TakeBack, TellRefusal}
use Rattle.sam_client.specs.Faults.{act_fault, bring_fault, put_fault, send_fault, step_fault}
use Rattle.sam_client.specs.Packets.{next_note}
use Rattle.sam_client.specs.declared.client.Client.{Client}
use Rattle.sam_client.specs.declared.event.Event.{Event}
use Rattle.sam_client.specs.declared.event.Event.TheVariants as tell
use Rattle.sam_client.specs.declared.fault.GoOnFault.{GoOnFault}

-- ## Moves

-- an act of a client that goes on at this time
abbrev pub IsMove : ℕ → Act → Type 0
IsMove now (OfLine call) = ⊥
IsMove now (Replace f p q s answer) = ⊥
IsMove now (Request event answer) = ⊥
IsMove now (TakeBack f answer) = ⊥
IsMove now (TellRefusal oldest) = Unit {0}
IsMove now (Step answer) = Unit {0}
IsMove now (ActNext answer) = Unit {0}
IsMove now (PutEdit f answer) = Unit {0}
IsMove now (Send bytes time answer) = time ≡ now
IsMove now (SendNote bytes time answer) = ⊥
IsMove now (Fetch bytes) = Unit {0}
IsMove now (Bring bytes answer) = Unit {0}
IsMove now (FetchNote told) = Unit {0}
IsMove now (AskHost time answer) = time ≡ now

-- such a step is told: what is shown may have changed by it. A refusal is told by itself
abbrev pub is_told : TermStep → Bool
is_told Idle = false
is_told Locked = false
is_told Wrote = false
is_told (Received kind tag change) = true
is_told (Acted number tag change) = true
is_told (Refused number why) = false

-- what is told of an act
abbrev pub tells : Act → Option (Result Event GoOnFault)
tells (OfLine call) = None
tells (Replace f p q s answer) = None
tells (Request event answer) = None
tells (TakeBack f answer) = None
tells (TellRefusal None) = None
tells (TellRefusal (Some (number, why))) = Some (Ok (tell.Refused number why))
tells (Step (Ok x)) = if is_told x.step then Some (Ok (tell.Stepped x)) else None
tells (Step (Err why)) = Some (Err (step_fault why))
tells (ActNext (Ok became)) = None
tells (ActNext (Err why)) = Some (Err (act_fault why))
tells (PutEdit f (Ok became)) = None
tells (PutEdit f (Err why)) = option_map Err (put_fault why)
tells (Send bytes now (Ok done)) = None
tells (Send bytes now (Err why)) = Some (Err (send_fault why))
tells (SendNote bytes now answer) = None
tells (Fetch bytes) = None
tells (Bring bytes (Ok done)) = None
tells (Bring bytes (Err why)) = Some (Err (bring_fault why))
tells (FetchNote (Some note)) = Some (Ok tell.Note)
tells (FetchNote None) = None
tells (AskHost now (Ok done)) = None
tells (AskHost now (Err why)) = Some (Err (send_fault why))

-- a move of which nothing is told
abbrev pub IsSilent : ℕ → Act → Type 0
IsSilent now act = IsMove now act × (tells act ≡ None)

abbrev pub AreSilent : ℕ → List Act → Type 0
AreSilent now [] = Unit {0}
AreSilent now (act ∷ acts) = IsSilent now act × AreSilent now acts

-- the step did something
abbrev pub is_work_of_end : TermStep → Bool
is_work_of_end Idle = false
is_work_of_end Locked = false
is_work_of_end Wrote = true
is_work_of_end (Received kind tag change) = true
is_work_of_end (Acted number tag change) = true
is_work_of_end (Refused number why) = true

-- the move did something: the end made a step, a request or an edit went to it, or bytes went from one part to the other
abbrev pub is_work : Act → Bool
is_work (OfLine call) = false
is_work (Replace f p q s answer) = false
is_work (Request event answer) = false
is_work (TakeBack f answer) = false
is_work (TellRefusal oldest) = false
is_work (Step (Ok x)) = is_work_of_end x.step
is_work (Step (Err why)) = false
is_work (ActNext (Ok turn.Nothing)) = false
is_work (ActNext (Ok turn.NotYet)) = false
is_work (ActNext (Ok turn.Request)) = true
is_work (ActNext (Err why)) = false
is_work (PutEdit f (Ok became.Nothing)) = false
is_work (PutEdit f (Ok became.NotFree)) = false
is_work (PutEdit f (Ok became.Edit)) = true
is_work (PutEdit f (Err why)) = false
is_work (Send bytes now (Ok done)) = not (is_empty bytes)
is_work (Send bytes now (Err why)) = false
is_work (SendNote bytes now answer) = false
is_work (Fetch bytes) = not (is_empty bytes)
is_work (Bring bytes (Ok done)) = not (is_empty bytes)
is_work (Bring bytes (Err why)) = false
is_work (FetchNote told) = false
is_work (AskHost now answer) = false

-- how many of the moves did something
abbrev pub work_in : List Act → ℕ
work_in [] = 0
work_in (act ∷ acts) = (if is_work act then 1 else 0) + work_in acts

-- such moves lead there, so many of which did something
pub record Moves (now work : ℕ) (c n : Client) : Type 0 where
  pub acts : List Act
  pub silent : AreSilent now acts
  pub does : DoesAll c acts n
  pub works : work_in acts ≡ work

-- one move leads there, of which this is told
pub record Tells (now : ℕ) (c : Client) (answer : Result Event GoOnFault) (n : Client) : Type 0 where
  pub act : Act
  pub move : IsMove now act
  pub told : tells act ≡ Some answer
  pub does : Does c act n

-- ## Going on

-- what is answered behind such moves
abbrev pub Answers : ℕ → Client → Result Event GoOnFault → Client → Type 0
Answers now m (Ok tell.Idle) n = n ≡ m
Answers now m (Ok tell.Busy) n = n ≡ m
Answers now m (Ok tell.Note) n = Tells now m (Ok tell.Note) n
Answers now m (Ok (tell.Refused number why)) n = Tells now m (Ok (tell.Refused number why)) n
Answers now m (Ok (tell.Stepped x)) n = Tells now m (Ok (tell.Stepped x)) n
Answers now m (Err why) n = Tells now m (Err why) n

-- so many moves did something: as many as a call may make if it answers that it is busy, and fewer otherwise
abbrev pub Counts : ℕ → Result Event GoOnFault → ℕ → Type 0
Counts most (Ok tell.Idle) work = work < most
Counts most (Ok tell.Busy) work = work ≡ most
Counts most (Ok tell.Note) work = work < most
Counts most (Ok (tell.Refused number why)) work = work < most
Counts most (Ok (tell.Stepped x)) work = work < most
Counts most (Err why) work = work < most

-- Moves of which nothing is told, and then one of which this is told. `Busy` is answered behind so many that did something, no other is
pub record GoesOn (now most : ℕ) (c : Client) (answer : Result Event GoOnFault) (n : Client) : Type 0 where
  pub last : Client
  pub work : ℕ
  pub moves : Moves now work c last
  pub counts : Counts most answer work
  pub answers : Answers now last answer n

-- so many moves of one call do something at most
abbrev pub most_moves : ℕ
most_moves = 1000

-- ## Where nothing moves

-- the terminal's end has nothing to do, or a lock holds its oldest event back
pub record EndRests (e : PlainTermEndpoint) : Type 0 where
  pub ready : IsReady e
  pub quiet : IsQuiet e.term
  pub told : e.refusals ≡ []

-- no request waits, or the oldest can't act yet
abbrev pub NoneActs : OrderedOverlay → Type 0
NoneActs o = (o.queue ≡ []) ⊎ IsNotYet o

-- nothing waits over the file
abbrev pub IsAllPut : PlainOverlay → ℕ → Type 0
IsAllPut o f = cells_at o f ≡ resting (rasp_at o.end.term f)

-- its text has no room for the next edit
abbrev pub IsFull : OrderedOverlay → ℕ → Type 0
IsFull o f =
    (l : Layer) × (cells_at o.overlay f ≡ cells_over (rasp_at o.overlay.end.term f) l)
    × (max_runes < rasp_length (next_made (put_limit o.queue f) l))

-- a request that concerns it waits, and no edit before that is left to put
abbrev pub IsPutToRequest : OrderedOverlay → ℕ → Type 0
IsPutToRequest o f = (g : ℕ) × (put_limit o.queue f ≡ Some g) × IsPutUpTo g (cells_at o.overlay f)

-- what may be put of the edits that wait over the file is put, as far as there is room
abbrev pub IsPut : OrderedOverlay → ℕ → Type 0
IsPut o f = IsAllPut o.overlay f ⊎ (IsFull o f ⊎ IsPutToRequest o f)

-- that is the first tag from this one on for whose file a list of edits is kept, or past all
abbrev pub IsNextTag : PlainOverlay → ℕ → ℕ → Type 0
IsNextTag o from tag =
    (from ≤ tag) × (tag ≤ 2 ^ 16) × NoneKept o.layers from tag × (tag < 2 ^ 16 → is_some (slot o.layers tag) ≡ true)

-- so it is with each file whose edits can act
abbrev pub AllPut : OrderedOverlay → Type 0
AllPut o = (f : ℕ) → f < 2 ^ 16 → IsFree o.overlay.end f → IsPut o f

-- no byte is left of the packet in front, if it had some
abbrev pub HasNoBytes : Line → Type 0
HasNoBytes l = (w : Waiting) × (l.link.waiting ≡ ready w) × ((ready w).part ≡ [])

pub record Rests (c : Client) : Type 0 where
  pub end : EndRests c.ordered.overlay.end
  pub putting : c.ordered.overlay.putting ≡ None
  pub acts : NoneActs c.ordered
  pub put : AllPut c.ordered
  pub command : IsAllPut c.ordered.overlay 0
  pub sent : c.ordered.overlay.end.pending_bytes ≡ []
  pub received : c.held ≡ []
  pub bytes : HasNoBytes c.line
  pub notes : next_note c.line ≡ None

-- what is answered to a step that is not told as one
abbrev pub event_of : TermStep → OverlayStep → Event
event_of Idle x = tell.Idle
event_of Locked x = tell.Idle
event_of Wrote x = tell.Busy
event_of (Received kind tag change) x = tell.Stepped x
event_of (Acted number tag change) x = tell.Stepped x
event_of (Refused number why) x = tell.Busy

abbrev pub step_event : OverlayStep → Event
step_event x = event_of x.step x

-- ## What each part of going on leaves where it has nothing to do

-- the terminal's end has nothing to do
pub record EndIdle (n : Client) : Type 0 where
  pub rests : EndRests n.ordered.overlay.end
  pub putting : n.ordered.overlay.putting ≡ None

-- the end and the requests are as before, and so are the cells of each file
pub record Still (o n : OrderedOverlay) : Type 0 where
  pub end : n.overlay.end ≡ o.overlay.end
  pub putting : n.overlay.putting ≡ o.overlay.putting
  pub cells : (f : ℕ) → cells_at n.overlay f ≡ cells_at o.overlay f
  pub queue : n.queue ≡ o.queue

-- no request can act
pub record RequestsIdle (c n : Client) : Type 0 where
  pub same : n ≡ c
  pub none : NoneActs c.ordered

-- no edit of this file can be put
pub record EditIdle (f : ℕ) (c n : Client) : Type 0 where
  pub still : Still c.ordered n.ordered
  pub put : n.ordered.overlay.putting ≡ None → IsFree n.ordered.overlay.end f → IsPut n.ordered f

-- nor of any other, and nothing waits over the command file
pub record EditsIdle (c n : Client) : Type 0 where
  pub still : Still c.ordered n.ordered
  pub put : n.ordered.overlay.putting ≡ None → AllPut n.ordered
  pub command : IsAllPut n.ordered.overlay 0

-- nothing is composed
pub record OutIdle (c n : Client) : Type 0 where
  pub same : n ≡ c
  pub sent : c.ordered.overlay.end.pending_bytes ≡ []

-- nothing leaves the line
pub record InIdle (c n : Client) : Type 0 where
  pub ordered : n.ordered ≡ c.ordered
  pub received : n.held ≡ []
  pub bytes : HasNoBytes n.line
  pub notes : next_note n.line ≡ None

-- the fact holds if this is answered
abbrev pub IfIdle : Result Event GoOnFault → Type 0 → Type 0
IfIdle (Ok tell.Idle) p = p
IfIdle (Ok tell.Busy) p = Unit {0}
IfIdle (Ok tell.Note) p = Unit {0}
IfIdle (Ok (tell.Refused number why)) p = Unit {0}
IfIdle (Ok (tell.Stepped x)) p = Unit {0}
IfIdle (Err why) p = Unit {0}
