-- What the calls of a client do. Times are in milliseconds.
use Rattle.std.specs.Prelude.{◌≡◌, ◌⊎◌, ◌↔◌, ◌*◌, ◌==◌, ℕ, Bool, true, false, nat_le, nat_lt, IsTrue, List, [], ◌∷◌, ◌++◌, drop, length, Option, Some, None, Result, Ok, Err}
use Rattle.sam_runes.specs.Texts.{is_empty}
use Rattle.sam_link.specs.Sessions.{IsId}
use Rattle.sam_link.specs.declared.fault.CallFault.{CallFault}
use Rattle.sam_link.specs.declared.fault.NotOpen.{NotOpen}
use Rattle.sam_link.specs.declared.fault.NoteFault.{NoteFault}
use Rattle.sam_link.specs.declared.hello.Id.{Id}
use Rattle.sam_link.specs.declared.keeping.PutFault.{PutFault}
use Rattle.sam_line.specs.Calls.{LineCall}
use Rattle.sam_line.specs.Calls as line
use Rattle.sam_line.specs.declared.clock.Tick.{Tick}
use Rattle.sam_line.specs.declared.fault.ReceiveFault.{ReceiveFault}
use Rattle.sam_line.specs.declared.line.Line.{Line}
use Rattle.sam_pending.specs.declared.fault.PendingFault.{PendingFault}
use Rattle.sam_pending.specs.declared.told.Dropped.{Dropped}
use Rattle.sam_term.specs.declared.event.UserEvent.{UserEvent}
use Rattle.sam_endpoint.specs.TermEndpoints.{PlainTermEndpoint}
use Rattle.sam_endpoint.specs.declared.step.TermStep.TheVariants as step
use Rattle.sam_note.specs.declared.fault.NoteFault.TheVariants.{BadKind}
use Rattle.sam_overlay.specs.Calls.{PlainOverlay, waiting_at}
use Rattle.sam_overlay.specs.declared.fault.AskFault.{AskFault}
use Rattle.sam_overlay.specs.declared.fault.ReplaceFault.{ReplaceFault}
use Rattle.sam_shown.specs.Splices.{splices_of}
use Rattle.sam_shown.specs.declared.splices.Splice.{Splice}
use Rattle.sam_client.specs.Batches.{ReplacesEach, count_in}
use Rattle.sam_client.specs.Clients.{Act, Does}
use Rattle.sam_client.specs.Clients.Act.{OfLine, Replace, TakeBack}
use Rattle.sam_client.specs.Delivery.{HasAll}
use Rattle.sam_client.specs.Notes.{PutsNote}
use Rattle.sam_client.specs.declared.fault.GoOnFault.{GoOnFault}
use Rattle.sam_client.specs.declared.replacement.Replaced.{Replaced}
use Rattle.sam_client.specs.declared.replacement.Replacement.{Replacement}
use Rattle.sam_front.specs.Fronts as front
use Rattle.sam_front.specs.Loader.{PlainLoader, later, rest_time, without}
use Rattle.sam_front.specs.Running as running
use Rattle.sam_front.specs.declared.fault.BeginFault.{BeginFault}
use Rattle.sam_front.specs.declared.fault.RunFault.{RunFault}
use Rattle.sam_front.specs.declared.fault.WriteFault.{WriteFault}
use Rattle.sam_front.specs.declared.loader.Seen.{Seen}
use Rattle.sam_front.specs.declared.told.Order.{Order}
use Rattle.sam_front.specs.declared.told.Told.{Told}
use Rattle.sam_front.specs.declared.told.Told.TheVariants as tell
use Rattle.sam_handles.specs.Calls.{AtHandle, handed_or, WithText}
use Rattle.sam_handles.specs.Did.{did_nothing, did_of_term}
use Rattle.sam_handles.specs.Events.{event_of}
use Rattle.sam_handles.specs.LineDetails.{CopiesWords}
use Rattle.sam_handles.specs.LineStatus.{receive_status, tick_number}
use Rattle.sam_handles.specs.LinkIds.{id_bytes}
use Rattle.sam_handles.specs.LinkStatus.{call_status, note_status, out_status, put_status}
use Rattle.sam_handles.specs.NoteStatus.{fault_status}
use Rattle.sam_handles.specs.OverlayStatus.{ask_status, replace_status}
use Rattle.sam_handles.specs.Shown.{NextWaiting}
use Rattle.sam_handles.specs.Splices.{Handed, HandsBack, told_splice}
use Rattle.sam_handles.specs.Status.{ok, no_memory, is_made, no_handle, no_room, not_text, nothing, waiting}
use Rattle.sam_handles.specs.declared.did.SamDid.{SamDid}
use Rattle.sam_handles.specs.declared.event.SamEvent.{SamEvent}
use Rattle.sam_handles.specs.declared.splice.SamSplice.{SamSplice}
use Rattle.sam_c_client.specs.ClientStatus.{begin_status, event_number, go_on_status, order_of, run_status, write_status}
use Rattle.sam_c_client.specs.declared.client_end.ClientEnd.{ClientEnd}

-- ## The parts

-- what waits over the terminal's end
abbrev pub overlay_of : ClientEnd → PlainOverlay
overlay_of e = e.front.client.ordered.overlay

abbrev pub term_of : ClientEnd → PlainTermEndpoint
term_of e = (overlay_of e).end

abbrev pub line_of : ClientEnd → Line
line_of e = e.front.client.line

-- a new client with this id, or why there is none and the handle is as before
abbrev pub MakesClient : List ℕ → Bool → ℕ → ℕ → Option ClientEnd → Type 0
MakesClient bytes take_over now status after =
    ((id : Id) × IsId id × (id_bytes id ≡ bytes) × (status ≡ ok)
    × (after ≡ Some (record { front = front.new_front id take_over now; splices = [] })))
    ⊎ ((status ≡ no_memory) × (after ≡ None))

abbrev pub ClientMade : Option ClientEnd → List ℕ → Bool → ℕ → ℕ → Option ClientEnd → Type 0
ClientMade None bytes take_over now status after = MakesClient bytes take_over now status after
ClientMade (Some e) bytes take_over now status after = (status ≡ is_made) × (after ≡ Some e)

-- what stands beside the client stays
abbrev pub KeepsBeside : ClientEnd → ClientEnd → Type 0
KeepsBeside e g = (g.splices ≡ e.splices) × (g.front ≡ front.with_client e.front g.front.client)

-- this act leads there, and what stands beside the client stays
abbrev pub ActsOne : ClientEnd → Act → ClientEnd → Type 0
ActsOne e act g = Does e.front.client act g.front.client × KeepsBeside e g

-- ## Connections

abbrev pub ClientTicked : Option ClientEnd → ℕ → ℕ → ℕ → ℕ → Option ClientEnd → Type 0
ClientTicked None now old status new after = (status ≡ no_handle) × (new ≡ old) × (after ≡ None)
ClientTicked (Some e) now old status new after =
    (g : ClientEnd) × (tick : Tick) × (after ≡ Some g) × ActsOne e (OfLine (line.TickAt now tick)) g
    × (status ≡ ok) × (new ≡ tick_number tick)

abbrev pub ClientConnected : Option ClientEnd → ℕ → ℕ → ℕ → ℕ → Option ClientEnd → Type 0
ClientConnected None now old status new after = (status ≡ no_handle) × (new ≡ old) × (after ≡ None)
ClientConnected (Some e) now old status new after =
    (g : ClientEnd) × (result : Result ℕ CallFault) × (after ≡ Some g) × ActsOne e (OfLine (line.Connected now result)) g
    × (status ≡ call_status result) × (new ≡ handed_or old result)

-- a call of the line that can't be refused
abbrev pub ClientDone : Option ClientEnd → LineCall → ℕ → Option ClientEnd → Type 0
ClientDone before made status after = AtHandle before status after (λ e status g. (status ≡ ok) × ActsOne e (OfLine made) g)

abbrev pub ClientExpected : Option ClientEnd → Bool → ℕ → ℕ → Option ClientEnd → Type 0
ClientExpected before expects now status after =
    AtHandle before status after
    (λ e status g. (status ≡ ok) × front.Knows (record e.front { expects = expects }) now g.front × (g.splices ≡ e.splices))

abbrev pub ClientAcknowledged : Option ClientEnd → ℕ → Option ClientEnd → Type 0
ClientAcknowledged before status after =
    AtHandle before status after
    (λ e status g. (result : Result (Unit {0}) PutFault) × ActsOne e (OfLine (line.Acknowledge result)) g × (status ≡ put_status result))

abbrev pub ClientTakenOut : Option ClientEnd → ℕ → List ℕ → List ℕ → ℕ → ℕ → ℕ → Option ClientEnd → Type 0
ClientTakenOut None attempt before after old status new g = (status ≡ no_handle) × (after ≡ before) × (new ≡ old) × (g ≡ None)
ClientTakenOut (Some e) attempt before after old status new g =
    (n : ClientEnd) × (result : Result ℕ NotOpen) × (g ≡ Some n) × ActsOne e (OfLine (line.TakeOut attempt before result after)) n
    × (status ≡ out_status result) × (new ≡ handed_or old result)

abbrev pub ClientReceived : Option ClientEnd → ℕ → List ℕ → ℕ → ℕ → Option ClientEnd → Type 0
ClientReceived before attempt piece now status after =
    AtHandle before status after
    (λ e status g. (result : Result (Unit {0}) ReceiveFault) × ActsOne e (OfLine (line.Receive attempt piece now result)) g
    × (status ≡ receive_status result))

-- ## Going on

-- what is told, and what a step did
pub record Heard : Type 0 where
  pub kind : ℕ
  pub did : SamDid

abbrev pub heard : ℕ → SamDid → Heard
heard kind did = record { kind = kind; did = did }

-- what was done, by what is told
abbrev pub did_of_told : Told → SamDid
did_of_told tell.Idle = did_nothing 0
did_of_told tell.Busy = did_nothing 0
did_of_told (tell.Stepped x request) = record (did_of_term x.step) { request = request }
did_of_told (tell.Refused x) = record (did_of_term (step.Refused x.event x.why)) { request = x.request; task = x.task }
did_of_told tell.Note = did_nothing 0
did_of_told (tell.Answered task) = record (did_nothing 0) { task = task }
did_of_told (tell.Unanswered task) = record (did_nothing 0) { task = task }
did_of_told (tell.Ran x) = record (did_nothing 0) { request = x.request; start = x.place; came = x.count }
did_of_told (tell.Lapsed request) = record (did_nothing 0) { request = request }

-- what is told, or what stood there before
abbrev pub heard_or : Heard → Result Told GoOnFault → Heard
heard_or before (Ok told) = heard (event_number told) (did_of_told told)
heard_or before (Err why) = before

-- a step brings its splices
abbrev pub splices_after : List Splice → Told → List Splice
splices_after before tell.Idle = before
splices_after before tell.Busy = before
splices_after before (tell.Stepped x request) = splices_of x.tag x.told
splices_after before (tell.Refused x) = before
splices_after before tell.Note = before
splices_after before (tell.Answered task) = before
splices_after before (tell.Unanswered task) = before
splices_after before (tell.Ran x) = before
splices_after before (tell.Lapsed request) = before

abbrev pub splices_or : List Splice → Result Told GoOnFault → List Splice
splices_or before (Ok told) = splices_after before told
splices_or before (Err why) = before

-- one call of going on; while splices are left all is as before
abbrev pub GoesOnOne : ClientEnd → Bool → ℕ → Heard → ℕ → Heard → ClientEnd → Type 0
GoesOnOne e false now old status new g = (status ≡ waiting) × (new ≡ old) × (g ≡ e)
GoesOnOne e true now old status new g =
    (result : Result Told GoOnFault) × front.FrontGoesOn e.front now result g.front × (g.splices ≡ splices_or e.splices result)
    × (status ≡ go_on_status result) × (new ≡ heard_or old result)

abbrev pub ClientWentOn : Option ClientEnd → ℕ → Heard → ℕ → Heard → Option ClientEnd → Type 0
ClientWentOn None now old status new after = (status ≡ no_handle) × (new ≡ old) × (after ≡ None)
ClientWentOn (Some e) now old status new after =
    (g : ClientEnd) × (after ≡ Some g) × GoesOnOne e (is_empty e.splices) now old status new g

-- the next splice is handed out
abbrev pub FirstSplice : ClientEnd → List Splice → SamSplice → ℕ → SamSplice → Option ClientEnd → Type 0
FirstSplice e [] old status new after = (status ≡ nothing) × (new ≡ old) × (after ≡ Some e)
FirstSplice e (x ∷ rest) old status new after = (status ≡ ok) × (new ≡ told_splice x) × (after ≡ Some (record e { splices = rest }))

abbrev pub ClientNextSplice : Option ClientEnd → SamSplice → ℕ → SamSplice → Option ClientEnd → Type 0
ClientNextSplice None old status new after = (status ≡ no_handle) × (new ≡ old) × (after ≡ None)
ClientNextSplice (Some e) old status new after = FirstSplice e e.splices old status new after

-- ## Notes

-- the note that was told last, whole
abbrev pub CopiesNote : List ℕ → Bool → List ℕ → List ℕ → ℕ → ℕ → ℕ → Type 0
CopiesNote note true before after old status new = (status ≡ no_room) × (after ≡ before) × (new ≡ old)
CopiesNote note false before after old status new = (status ≡ ok) × (after ≡ note ++ drop new before) × (new ≡ length note)

abbrev pub ClientNote : Option ClientEnd → List ℕ → List ℕ → ℕ → ℕ → ℕ → Type 0
ClientNote None before after old status new = (status ≡ no_handle) × (after ≡ before) × (new ≡ old)
ClientNote (Some e) before after old status new =
    CopiesNote e.front.client.note (nat_lt (length before) (length e.front.client.note)) before after old status new

abbrev pub ClientNotePut : Option ClientEnd → List ℕ → ℕ → ℕ → Option ClientEnd → Type 0
ClientNotePut before bytes now status after =
    AtHandle before status after
    (λ e status g. (result : Result (Unit {0}) NoteFault) × PutsNote e.front.client bytes now result g.front.client × KeepsBeside e g
    × (status ≡ note_status result))

-- ## What the user does

-- while splices are left all is as before
abbrev pub ReplacesOne : ClientEnd → Bool → ℕ → ℕ × ℕ → List ℕ → ℕ → ClientEnd → Type 0
ReplacesOne e false tag range runes status g = (status ≡ waiting) × (g ≡ e)
ReplacesOne e true tag range runes status g =
    (result : Result (Unit {0}) ReplaceFault) × front.Types e.front (Replace tag range.0 range.1 runes result) g.front
    × (g.splices ≡ e.splices) × (status ≡ replace_status (term_of e).stop result)

abbrev pub ClientReplacedBy : Option ClientEnd → ℕ → ℕ × ℕ → List ℕ → ℕ → Option ClientEnd → Type 0
ClientReplacedBy before tag range runes status after =
    AtHandle before status after (λ e status g. ReplacesOne e (is_empty e.splices) tag range runes status g)

abbrev pub ClientReplaced : Option ClientEnd → ℕ → ℕ × ℕ → List ℕ → ℕ → Option ClientEnd → Type 0
ClientReplaced before tag range text status after =
    AtHandle before status after
    (λ e status g. WithText e text (λ runes status g. ReplacesOne e (is_empty e.splices) tag range runes status g) status g)

-- a client, and a number that is handed out: how many replacements were made, say
abbrev pub Counted : Type 0
Counted = ClientEnd × ℕ

-- as many replacements are made as there are before the first that is refused; while splices are left none is
abbrev pub ReplacesAll : ClientEnd → Bool → ℕ → List Replacement → List ℕ → ℕ → ℕ → Counted → Type 0
ReplacesAll e false tag xs runes before status g = (status ≡ waiting) × (g ≡ (e, before))
ReplacesAll e true tag xs runes before status g =
    (x : Replaced) × ReplacesEach e.front.client tag xs runes x g.0.front.client
    × (g.0.front ≡ record e.front { client = g.0.front.client; has_typed = true }) × (g.0.splices ≡ e.splices)
    × (status ≡ replace_status (term_of g.0).stop x.result) × (g.1 ≡ x.made)

-- the text has just the runes that they take, or none is made
abbrev pub ReplacesJust : ClientEnd → Bool → ℕ → List Replacement → List ℕ → ℕ → ℕ → Counted → Type 0
ReplacesJust e false tag xs runes before status g = (status ≡ not_text) × (g ≡ (e, before))
ReplacesJust e true tag xs runes before status g = ReplacesAll e (is_empty e.splices) tag xs runes before status g

abbrev pub ClientReplacedEachBy : Option ClientEnd → ℕ → List Replacement → List ℕ → ℕ → ℕ → ℕ → Option ClientEnd → Type 0
ClientReplacedEachBy None tag xs runes old status new after = (status ≡ no_handle) × (new ≡ old) × (after ≡ None)
ClientReplacedEachBy (Some e) tag xs runes old status new after =
    (g : ClientEnd) × (after ≡ Some g) × ReplacesJust e (count_in xs == length runes) tag xs runes old status (g, new)

abbrev pub ClientReplacedEach : Option ClientEnd → ℕ → List Replacement → List ℕ → ℕ → ℕ → ℕ → Option ClientEnd → Type 0
ClientReplacedEach None tag xs text old status new after = (status ≡ no_handle) × (new ≡ old) × (after ≡ None)
ClientReplacedEach (Some e) tag xs text old status new after =
    (g : ClientEnd) × (after ≡ Some g)
    × WithText (e, 0) text (λ runes status g. ReplacesJust e (count_in xs == length runes) tag xs runes 0 status g) status (g, new)

-- a request is taken, and its number handed out beside the client
abbrev pub Asks : ClientEnd → UserEvent → ℕ → ℕ → Counted → Type 0
Asks e event before status g =
    (result : Result ℕ AskFault) × front.Asks e.front event result g.0.front × (g.0.splices ≡ e.splices)
    × (status ≡ ask_status result) × (g.1 ≡ handed_or before result)

-- if there is none, nothing is done
abbrev pub AsksOne : ClientEnd → Option UserEvent → ℕ → ℕ → Counted → Type 0
AsksOne e None before status g = (status ≡ nothing) × (g ≡ (e, before))
AsksOne e (Some event) before status g = Asks e event before status g

abbrev pub ClientAskedOne : Option ClientEnd → Option UserEvent → ℕ → ℕ → ℕ → Option ClientEnd → Type 0
ClientAskedOne None event old status new after = (status ≡ no_handle) × (new ≡ old) × (after ≡ None)
ClientAskedOne (Some e) event old status new after =
    (g : ClientEnd) × (after ≡ Some g) × AsksOne e event old status (g, new)

abbrev pub ClientAsked : Option ClientEnd → SamEvent → List ℕ → ℕ → ℕ → ℕ → Option ClientEnd → Type 0
ClientAsked None x text old status new after = (status ≡ no_handle) × (new ≡ old) × (after ≡ None)
ClientAsked (Some e) x text old status new after =
    (g : ClientEnd) × (after ≡ Some g)
    × WithText (e, old) text (λ runes status g. AsksOne e (event_of x runes) old status g) status (g, new)

-- runes for which the host left no room
abbrev pub TakesBack : ClientEnd → ℕ → Handed → ℕ → Handed → ClientEnd → Type 0
TakesBack e tag old status new g =
    (result : Result (Option Dropped) PendingFault) × ActsOne e (TakeBack tag result) g × HandsBack tag result old status new

-- while splices are left all is as before, and so where the buffer has less than four bytes for each rune that waits
abbrev pub DropsOne : ClientEnd → Bool → Bool → ℕ → Handed → ℕ → Handed → ClientEnd → Type 0
DropsOne e false fits tag old status new g = (status ≡ waiting) × (new ≡ old) × (g ≡ e)
DropsOne e true false tag old status new g = (status ≡ no_room) × (new ≡ old) × (g ≡ e)
DropsOne e true true tag old status new g = TakesBack e tag old status new g

abbrev pub ClientDropped : Option ClientEnd → ℕ → Handed → ℕ → Handed → Option ClientEnd → Type 0
ClientDropped None tag old status new after = (status ≡ no_handle) × (new ≡ old) × (after ≡ None)
ClientDropped (Some e) tag old status new after =
    (g : ClientEnd) × (after ≡ Some g)
    × DropsOne e (is_empty e.splices) (nat_le (4 * waiting_at (overlay_of e) tag) (length old.buffer)) tag old status new g

-- ## What the host's program is to do, and what windows show

-- A task is begun, and its number handed out beside the client; no order has any other number
abbrev pub BeginsOne : ClientEnd → Option Order → ℕ × List ℕ → ℕ → ℕ → ℕ → Counted → Type 0
BeginsOne e None file now before status g = (status ≡ fault_status BadKind) × (g ≡ (e, before))
BeginsOne e (Some order) file now before status g =
    (result : Result ℕ BeginFault) × front.BeginsTask e.front order file.0 file.1 now result g.0.front × (g.0.splices ≡ e.splices)
    × (status ≡ begin_status result) × (g.1 ≡ handed_or before result)

abbrev pub ClientBegun : Option ClientEnd → ℕ → ℕ × List ℕ → ℕ → ℕ → ℕ → ℕ → Option ClientEnd → Type 0
ClientBegun None kind file now old status new after = (status ≡ no_handle) × (new ≡ old) × (after ≡ None)
ClientBegun (Some e) kind file now old status new after =
    (g : ClientEnd) × (after ≡ Some g) × BeginsOne e (order_of kind) file now old status (g, new)

-- a write is asked for, and the number of its task handed out beside the client
abbrev pub WritesOne : ClientEnd → ℕ → ℕ → ℕ → Counted → Type 0
WritesOne e tag before status g =
    (result : Result ℕ WriteFault) × front.WritesTask e.front tag result g.0.front × (g.0.splices ≡ e.splices)
    × (status ≡ write_status result) × (g.1 ≡ handed_or before result)

abbrev pub ClientWrote : Option ClientEnd → ℕ → ℕ → ℕ → ℕ → Option ClientEnd → Type 0
ClientWrote None tag old status new after = (status ≡ no_handle) × (new ≡ old) × (after ≡ None)
ClientWrote (Some e) tag old status new after = (g : ClientEnd) × (after ≡ Some g) × WritesOne e tag old status (g, new)

-- a command line is asked for, and the number of its request handed out beside the client
abbrev pub RunsOne : ClientEnd → ℕ → List ℕ → ℕ → ℕ → Counted → Type 0
RunsOne e tag line before status g =
    (result : Result ℕ RunFault) × running.RunsLine e.front tag line result g.0.front × (g.0.splices ≡ e.splices)
    × (status ≡ run_status result) × (g.1 ≡ handed_or before result)

abbrev pub ClientRanOne : Option ClientEnd → ℕ → List ℕ → ℕ → ℕ → ℕ → Option ClientEnd → Type 0
ClientRanOne None tag line old status new after = (status ≡ no_handle) × (new ≡ old) × (after ≡ None)
ClientRanOne (Some e) tag line old status new after = (g : ClientEnd) × (after ≡ Some g) × RunsOne e tag line old status (g, new)

abbrev pub ClientRan : Option ClientEnd → ℕ → List ℕ → ℕ → ℕ → ℕ → Option ClientEnd → Type 0
ClientRan None tag text old status new after = (status ≡ no_handle) × (new ≡ old) × (after ≡ None)
ClientRan (Some e) tag text old status new after =
    (g : ClientEnd) × (after ≡ Some g) × WithText (e, old) text (λ line status g. RunsOne e tag line old status g) status (g, new)

-- the same with this loader
abbrev pub with_loader : ClientEnd → PlainLoader → ClientEnd
with_loader e l = record e { front = record e.front { loader = l } }

-- what a window shows is noted in front of all others, in the place of what was noted of that file
abbrev pub SeesOne : ClientEnd → Seen → ℕ → ClientEnd → Type 0
SeesOne e x status g =
    ((status ≡ ok) × (g ≡ with_loader e (record e.front.loader { seen = x ∷ without x.tag e.front.loader.seen })))
    ⊎ ((status ≡ no_memory) × (g ≡ e))

abbrev pub ClientSaw : Option ClientEnd → Seen → ℕ → Option ClientEnd → Type 0
ClientSaw before x status after = AtHandle before status after (λ e status g. SeesOne e x status g)

abbrev pub ClientForgot : Option ClientEnd → ℕ → ℕ → Option ClientEnd → Type 0
ClientForgot before tag status after =
    AtHandle before status after
    (λ e status g. (status ≡ ok) × (g ≡ with_loader e (record e.front.loader { seen = without tag e.front.loader.seen })))

-- a key that edits nothing: for a while only what windows show is loaded
abbrev pub ClientRested : Option ClientEnd → ℕ → ℕ → Option ClientEnd → Type 0
ClientRested before now status after =
    AtHandle before status after
    (λ e status g. (status ≡ ok) × (g ≡ with_loader e (record e.front.loader { rests_until = later now rest_time })))

-- ## Readers

abbrev pub ClientHasAll : Option ClientEnd → ℕ → Bool → Bool → Type 0
ClientHasAll None status old new = (status ≡ no_handle) × (new ≡ old)
ClientHasAll (Some e) status old new = (status ≡ ok) × (IsTrue new ↔ HasAll e.front.client)

abbrev pub ClientNextWaiting : Option ClientEnd → ℕ → ℕ → ℕ → ℕ → Type 0
ClientNextWaiting None from status before after = (status ≡ no_handle) × (after ≡ before)
ClientNextWaiting (Some e) from status before after = NextWaiting (overlay_of e) from status before after

abbrev pub ClientWords : Option ClientEnd → List ℕ → List ℕ → ℕ → ℕ → ℕ → Type 0
ClientWords None before after old status new = (status ≡ no_handle) × (after ≡ before) × (new ≡ old)
ClientWords (Some e) before after old status new = CopiesWords (line_of e) before after status new
