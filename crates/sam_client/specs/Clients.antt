-- A client, and what it does with its two parts: a terminal's end with edits and requests that wait, and its line to the host.
use Rattle.std.specs.Prelude.{◌≡◌, ◌≢◌, ◌⊎◌, ◌↔◌, ℕ, ◌-◌, ◌^◌, ◌<◌, ◌≤◌, List, [], ◌∷◌, drop, length, slice_get, Bool, true, false, if◌then◌else◌, Option, Some, None, is_some, IfSome, Result, Ok, Err, IfOk, OnErr}
use Rattle.sam_runes.specs.Checks.{first_of_checks}
use Rattle.sam_pending.specs.Cells.{IsTakenBack}
use Rattle.sam_pending.specs.declared.fault.PendingFault.{PendingFault}
use Rattle.sam_pending.specs.declared.told.Dropped.{Dropped}
use Rattle.sam_term.specs.declared.event.UserEvent.{UserEvent}
use Rattle.sam_term.specs.declared.fault.Refusal.{Refusal}
use Rattle.sam_endpoint.specs.TermStepping.{IsReady, Steps}
use Rattle.sam_endpoint.specs.declared.fault.EndpointFault.{EndpointFault}
use Rattle.sam_endpoint.specs.declared.fault.TermStop.{TermStop}
use Rattle.sam_endpoint.specs.declared.step.BringFault.{BringFault}
use Rattle.sam_link.specs.declared.fault.NoteFault.{NoteFault}
use Rattle.sam_link.specs.declared.keeping.PutFault.{PutFault as SendFault}
use Rattle.sam_link.specs.declared.hello.Id.{Id}
use Rattle.sam_line.specs.Calls.{LineCall, LineDoes}
use Rattle.sam_line.specs.Calls.LineCall.{Acknowledge, AddressChanged, Ask, Broken, Connected, Expect, NextNote, NotConnected, Put, PutNote, Receive, TakeIn, TakeOut, TickAt}
use Rattle.sam_line.specs.Line as lines
use Rattle.sam_line.specs.declared.line.Line.{Line}
use Rattle.sam_overlay.specs.Calls.{Brings, CellsGo, DropsUpTo, Keeps, KeepsTexts, PlainOverlay, PutsUpTo, cells_at, shown_at}
use Rattle.sam_overlay.specs.Ordered.{ActsNext, IsAsked, NoneFinds, closing_group, most_waiting_requests, new_ordered, ordered_checks, queue_after, queue_after_drop, shared_with}
use Rattle.sam_overlay.specs.Outcomes.{Leads, Replaces}
use Rattle.sam_overlay.specs.Overlays.{StopsOnly, told_at}
use Rattle.sam_overlay.specs.Requests.{put_limit}
use Rattle.sam_overlay.specs.declared.fault.AskFault.{AskFault}
use Rattle.sam_overlay.specs.declared.fault.AskFault.TheVariants as unasked
use Rattle.sam_overlay.specs.declared.fault.PutFault.{PutFault}
use Rattle.sam_overlay.specs.declared.fault.ReplaceFault.{ReplaceFault}
use Rattle.sam_overlay.specs.declared.fault.ReplaceFault.TheVariants as refuses
use Rattle.sam_overlay.specs.declared.ordered.OrderedOverlay.{OrderedOverlay}
use Rattle.sam_overlay.specs.declared.shown_change.Asked.{Asked}
use Rattle.sam_overlay.specs.declared.shown_change.OverlayStep.{OverlayStep}
use Rattle.sam_overlay.specs.declared.shown_change.Put.{Put as Became}
use Rattle.sam_overlay.specs.declared.shown_change.Turn.{Turn}
use Rattle.sam_client.specs.Packets.{GivesNote, next_bytes, without_bytes}
use Rattle.sam_client.specs.declared.client.Client.{Client}

abbrev pub new_client : Id → Bool → ℕ → Client
new_client id take_over now =
    record { ordered = new_ordered; line = lines.begun id take_over now; held = []; note = [] }

-- ## The parts

abbrev pub with_line : Client → Line → Client
with_line c l = record c { line = l }

abbrev pub with_ordered : Client → OrderedOverlay → Client
with_ordered c o = record c { ordered = o }

-- the requests that wait stay
abbrev pub with_overlay : Client → PlainOverlay → Client
with_overlay c o = with_ordered c (record c.ordered { overlay = o })

-- the overlay, of whose composed bytes none is left
abbrev pub emptied : PlainOverlay → PlainOverlay
emptied o = record o { end = record o.end { pending_bytes = [] } }

-- the overlay, of whose refusals the oldest is told
abbrev pub told : PlainOverlay → PlainOverlay
told o = record o { end = record o.end { refusals = drop 1 o.end.refusals } }

-- the runes are in the place of what was shown of the file from p to q, no request finds them, and nothing else is otherwise; or why not
abbrev pub Edits : OrderedOverlay → ℕ → ℕ → ℕ → List ℕ → Result (Unit {0}) ReplaceFault → OrderedOverlay → Type 0
Edits o f p q s (Ok done) n =
    (first_of_checks (ordered_checks o f p q s) ≡ None) × Replaces (cells_at o.overlay f) p q s (cells_at n.overlay f)
    × NoneFinds o.queue (cells_at o.overlay f) (cells_at n.overlay f)
    × ((g : ℕ) → g ≢ f → cells_at n.overlay g ≡ cells_at o.overlay g)
    × (n.overlay.end ≡ o.overlay.end) × (n.overlay.putting ≡ o.overlay.putting) × (n.queue ≡ o.queue)
Edits o f p q s (Err why) n =
    ((first_of_checks (ordered_checks o f p q s) ≡ Some why)
    ⊎ ((why ≡ refuses.OutOfMemory) × (first_of_checks (ordered_checks o f p q s) ≡ None)))
    × (n ≡ o)

-- the request waits behind the others, or shares a write that waits, and comes to what is shown now; or why not, and all is as before
pub record Asks (o : OrderedOverlay) (event : UserEvent) (answer : Result Asked AskFault) (n : OrderedOverlay) : Type 0 where
  pub asked : IfOk answer (λ x. IsAsked o event x n)
  pub waiting : (answer ≡ Err unasked.Waiting) ↔ (is_some o.overlay.putting ≡ true)
  pub many : (answer ≡ Err unasked.TooMany)
      ↔ ((o.overlay.putting ≡ None) × (shared_with o event ≡ None) × (most_waiting_requests ≤ length o.queue))
  pub full : (answer ≡ Err unasked.CountFull)
      ↔ ((o.overlay.putting ≡ None) × (shared_with o event ≡ None) × (length o.queue < most_waiting_requests)
      × (2 ^ 32 - 1 ≤ closing_group o))
  pub err : OnErr answer (n ≡ o)

-- the terminal's end goes on by one step, what is shown goes with it, and what a request comes to stays by an edit; or why not
abbrev pub StepsOver : PlainOverlay → Result OverlayStep (EndpointFault TermStop) → PlainOverlay → Type 0
StepsOver o (Ok x) n =
    Steps o.end (Ok x.step) n.end × CellsGo o x n × (n.putting ≡ None) × ((f : ℕ) → Leads (told_at x f) (shown_at o f) (shown_at n f))
    × KeepsTexts o n
StepsOver o (Err why) n = Steps o.end (Err why) n.end × Keeps o n × StopsOnly o.end n.end

-- the overlay after a step, with the requests that wait: the places that they name moved with their texts
abbrev pub stepped : OrderedOverlay → Result OverlayStep (EndpointFault TermStop) → PlainOverlay → OrderedOverlay
stepped o answer p = record o { overlay = p; queue = queue_after o answer }

-- the overlay after such an answer of what is taken back, with the requests that wait: the places that they name moved with their texts
abbrev pub dropped : OrderedOverlay → ℕ → Result (Option Dropped) PendingFault → PlainOverlay → OrderedOverlay
dropped o f answer p = record o { overlay = p; queue = queue_after_drop o f answer }

-- the next runes that wait over the file, of the groups up to a limit, and have no room are taken back, and so they go from what is shown;
-- or all is as before
abbrev pub TakesBack : Option ℕ → PlainOverlay → ℕ → Result (Option Dropped) PendingFault → PlainOverlay → Type 0
TakesBack m o f answer n =
    DropsUpTo m o f answer n
    × IfOk answer (λ taken. IfSome taken (λ d. IsTakenBack (cells_at o f) d.place d.count d.text (cells_at n f)))

-- ## What a client does

-- one call of a part, or one that moves something between the two: what was given, and what came of it
pub data Act : Type 0 where
  OfLine : LineCall → Act  -- a call of the line that moves nothing between the two
  Replace : ℕ → ℕ → ℕ → List ℕ → Result (Unit {0}) ReplaceFault → Act  -- an edit of the user
  Request : UserEvent → Result Asked AskFault → Act  -- a request of the user, which waits behind those before it
  TakeBack : ℕ → Result (Option Dropped) PendingFault → Act  -- runes for which this file has no room are taken back
  TellRefusal : Option (ℕ × Refusal) → Act  -- the oldest refusal of an event is told, if there is one
  Step : Result OverlayStep (EndpointFault TermStop) → Act  -- the terminal's end goes on by one step
  ActNext : Result Turn PutFault → Act  -- the oldest request goes to the end, if nothing is left before it
  PutEdit : ℕ → Result Became PutFault → Act  -- the next edit that waits over this file is put as an event, if no request is before it
  Send : List ℕ → ℕ → Result (Unit {0}) SendFault → Act  -- these bytes, all that the end composed, go into the line, at this time
  SendNote : List ℕ → ℕ → Result (Unit {0}) NoteFault → Act  -- and so goes this note, behind all that was composed
  Fetch : List ℕ → Act  -- these bytes, the next ones, leave the line, and are held
  Bring : List ℕ → Result (Unit {0}) (BringFault TermStop) → Act  -- these bytes, the held ones, go to the end
  FetchNote : Option (List ℕ) → Act  -- the note that is next leaves the line, if there is one
  AskHost : ℕ → Result (Unit {0}) SendFault → Act  -- at this time the host is asked whether all has come

-- a call of the line that moves nothing between the two
abbrev pub IsAlone : LineCall → Type 0
IsAlone (TickAt now answer) = Unit {0}
IsAlone (Connected now answer) = Unit {0}
IsAlone (NotConnected now) = Unit {0}
IsAlone (Broken attempt now) = Unit {0}
IsAlone (AddressChanged now) = Unit {0}
IsAlone (Expect expects now) = Unit {0}
IsAlone (Receive attempt piece now answer) = Unit {0}
IsAlone (Put bytes now answer) = ⊥
IsAlone (PutNote bytes now answer) = ⊥
IsAlone (Ask now answer) = Unit {0}
IsAlone (Acknowledge answer) = Unit {0}
IsAlone (TakeOut attempt old answer new) = Unit {0}
IsAlone (TakeIn old count new) = ⊥
IsAlone (NextNote old count new) = ⊥

-- all bytes that left the line are received, and nothing that the end composed is still to be written
abbrev pub HasReceived : Client → Type 0
HasReceived c = (c.held ≡ []) × IsReady c.ordered.overlay.end

-- the act leads from one client to the other
abbrev pub Does : Client → Act → Client → Type 0
Does c (OfLine call) n = IsAlone call × LineDoes c.line call n.line × (n ≡ with_line c n.line)
Does c (Replace f p q s answer) n = Edits c.ordered f p q s answer n.ordered × (n ≡ with_ordered c n.ordered)
Does c (Request event answer) n = Asks c.ordered event answer n.ordered × (n ≡ with_ordered c n.ordered)
Does c (TakeBack f answer) n =
    TakesBack (put_limit c.ordered.queue f) c.ordered.overlay f answer n.ordered.overlay
    × (n ≡ with_ordered c (dropped c.ordered f answer n.ordered.overlay))
Does c (TellRefusal oldest) n =
    (oldest ≡ slice_get c.ordered.overlay.end.refusals 0) × (n ≡ with_overlay c (told c.ordered.overlay))
Does c (Step answer) n =
    StepsOver c.ordered.overlay answer n.ordered.overlay × (n ≡ with_ordered c (stepped c.ordered answer n.ordered.overlay))
Does c (ActNext answer) n = ActsNext c.ordered answer n.ordered × (n ≡ with_ordered c n.ordered)
Does c (PutEdit f answer) n =
    PutsUpTo (put_limit c.ordered.queue f) c.ordered.overlay f answer n.ordered.overlay × (n ≡ with_overlay c n.ordered.overlay)
Does c (Send bytes now (Ok done)) n =
    (bytes ≡ c.ordered.overlay.end.pending_bytes) × LineDoes c.line (Put bytes now (Ok tt)) n.line
    × (n ≡ with_line (with_overlay c (emptied c.ordered.overlay)) n.line)
Does c (Send bytes now (Err why)) n =
    (bytes ≡ c.ordered.overlay.end.pending_bytes) × LineDoes c.line (Put bytes now (Err why)) n.line × (n ≡ with_line c n.line)
Does c (SendNote bytes now answer) n =
    (c.ordered.overlay.end.pending_bytes ≡ []) × LineDoes c.line (PutNote bytes now answer) n.line × (n ≡ with_line c n.line)
Does c (Fetch bytes) n = HasReceived c × (bytes ≡ next_bytes c.line) × (n ≡ record c { line = without_bytes c.line; held = bytes })
Does c (Bring bytes (Ok done)) n =
    (bytes ≡ c.held) × Brings c.ordered.overlay bytes (Ok tt) n.ordered.overlay
    × (n ≡ record (with_overlay c n.ordered.overlay) { held = [] })
Does c (Bring bytes (Err why)) n =
    (bytes ≡ c.held) × Brings c.ordered.overlay bytes (Err why) n.ordered.overlay × (n ≡ with_overlay c n.ordered.overlay)
Does c (FetchNote (Some bytes)) n =
    HasReceived c × GivesNote c.line c.note true n.line bytes × (n ≡ record c { line = n.line; note = bytes })
Does c (FetchNote None) n = HasReceived c × GivesNote c.line c.note false n.line n.note × (n ≡ c)
Does c (AskHost now answer) n = LineDoes c.line (Ask now answer) n.line × (n ≡ with_line c n.line)

-- the note that was fetched, if there was one
abbrev pub fetched : Bool → List ℕ → Option (List ℕ)
fetched some bytes = if some then Some bytes else None

-- these acts, one after another
abbrev pub DoesAll : Client → List Act → Client → Type 0
DoesAll c [] n = n ≡ c
DoesAll c (act ∷ acts) n = (m : Client) × Does c act m × DoesAll m acts n
