-- What the calls of an overlay do.
use Rattle.std.specs.Prelude.{◌≡◌, ◌⊎◌, ◌*◌, ℕ, Bool, true, false, nat_le, List, [], ◌∷◌, length, Option, Some, None, Result, Ok, Err}
use Rattle.sam_runes.specs.Texts.{is_empty}
use Rattle.sam_pending.specs.declared.fault.PendingFault.{PendingFault}
use Rattle.sam_pending.specs.declared.told.Dropped.{Dropped}
use Rattle.sam_term.specs.declared.event.UserEvent.{UserEvent}
use Rattle.sam_term.specs.declared.fault.Refusal.{Refusal}
use Rattle.sam_endpoint.specs.TermEndpoints.{PlainTermEndpoint, Finishes}
use Rattle.sam_endpoint.specs.declared.fault.EndpointFault.{EndpointFault}
use Rattle.sam_endpoint.specs.declared.fault.FinishFault.{FinishFault}
use Rattle.sam_endpoint.specs.declared.fault.TermStop.{TermStop}
use Rattle.sam_endpoint.specs.declared.step.BringFault.{BringFault}
use Rattle.sam_overlay.specs.Calls.{Asks, Brings, DropsUpTo, PutsUpTo, waiting_at}
use Rattle.sam_overlay.specs.Ordered.{ActsNext, queue_after_drop}
use Rattle.sam_overlay.specs.Requests.{put_limit}
use Rattle.sam_overlay.specs.declared.fault.AskFault.{AskFault}
use Rattle.sam_overlay.specs.declared.fault.PutFault.{PutFault}
use Rattle.sam_overlay.specs.declared.fault.ReplaceFault.{ReplaceFault}
use Rattle.sam_overlay.specs.declared.shown_change.Put.{Put}
use Rattle.sam_overlay.specs.declared.shown_change.Turn.{Turn}
use Rattle.sam_shown.specs.Shown.{AsksNumbered, Edits, StepsShown, new_shown_end}
use Rattle.sam_shown.specs.declared.shown_end.ShownEnd.{ShownEnd}
use Rattle.sam_shown.specs.declared.shown_end.ShownStep.{ShownStep}
use Rattle.sam_shown.specs.declared.splices.Splice.{Splice}
use Rattle.sam_handles.specs.Buffers.{Takes}
use Rattle.sam_handles.specs.Calls.{WithText, AtHandle, handed_or}
use Rattle.sam_handles.specs.Did.{did_of_term, did_or}
use Rattle.sam_handles.specs.Events.{event_of}
use Rattle.sam_handles.specs.OverlayStatus.{ask_status, put_number, put_status, replace_status, turn_number}
use Rattle.sam_handles.specs.Shown.{NextWaiting}
use Rattle.sam_handles.specs.Splices.{told_splice, Handed, HandsBack}
use Rattle.sam_handles.specs.Status.{ok, no_memory, is_made, no_handle, no_room, nothing, waiting, bring_status, call_status, refusal_status, term_finish_status, term_stop_status}
use Rattle.sam_handles.specs.declared.did.SamDid.{SamDid}
use Rattle.sam_handles.specs.declared.event.SamEvent.{SamEvent}
use Rattle.sam_handles.specs.declared.splice.SamSplice.{SamSplice}

-- a new overlay, or why there is none and the handle is as before
abbrev pub OverlayMade : Option ShownEnd → ℕ → Option ShownEnd → Type 0
OverlayMade None status after = ((status ≡ ok) × (after ≡ Some new_shown_end)) ⊎ ((status ≡ no_memory) × (after ≡ None))
OverlayMade (Some e) status after = (status ≡ is_made) × (after ≡ Some e)

-- what stands beside the overlay stays
abbrev pub KeepsBeside : ShownEnd → ShownEnd → Type 0
KeepsBeside e g = (g.splices ≡ e.splices) × (g.numbers ≡ e.numbers)

-- and so do the requests that wait
abbrev pub KeepsRequests : ShownEnd → ShownEnd → Type 0
KeepsRequests e g = (g.ordered.queue ≡ e.ordered.queue) × KeepsBeside e g

-- ## Bytes in and out

abbrev pub OverlayBrought : Option ShownEnd → List ℕ → ℕ → Option ShownEnd → Type 0
OverlayBrought before piece status after =
    AtHandle before status after
    (λ e status g. (result : Result (Unit {0}) (BringFault TermStop)) × Brings e.ordered.overlay piece result g.ordered.overlay
    × KeepsRequests e g × (status ≡ bring_status term_stop_status result))

-- whether the host's stream may end here
abbrev pub OverlayFinished : Option ShownEnd → ℕ → Type 0
OverlayFinished None status = status ≡ no_handle
OverlayFinished (Some e) status =
    (result : Result (Unit {0}) (FinishFault TermStop)) × Finishes e.ordered.overlay.end result × (status ≡ term_finish_status result)

-- the same with another terminal end
abbrev pub over_end : ShownEnd → PlainTermEndpoint → ShownEnd
over_end e end = record e { ordered = record e.ordered { overlay = record e.ordered.overlay { end = end } } }

abbrev pub OverlayTaken : Option ShownEnd → List ℕ → List ℕ → ℕ → ℕ → ℕ → Option ShownEnd → Type 0
OverlayTaken None before after old_count status new_count g =
    (status ≡ no_handle) × (after ≡ before) × (new_count ≡ old_count) × (g ≡ None)
OverlayTaken (Some e) before after old_count status new_count g =
    (left : List ℕ) × (status ≡ ok) × Takes e.ordered.overlay.end.pending_bytes before after new_count left
    × (g ≡ Some (over_end e (record e.ordered.overlay.end { pending_bytes = left })))

-- the oldest refused event is handed out, with the number of why
abbrev pub FirstRefused : ShownEnd → List (ℕ × Refusal) → ℕ × ℕ → ℕ → ℕ × ℕ → Option ShownEnd → Type 0
FirstRefused e [] before status after g = (status ≡ nothing) × (after ≡ before) × (g ≡ Some e)
FirstRefused e (refused ∷ rest) before status after g =
    (status ≡ ok) × (after ≡ (refused.0, refusal_status refused.1))
    × (g ≡ Some (over_end e (record e.ordered.overlay.end { refusals = rest })))

abbrev pub OverlayNextRefusal : Option ShownEnd → ℕ × ℕ → ℕ → ℕ × ℕ → Option ShownEnd → Type 0
OverlayNextRefusal None before status after g = (status ≡ no_handle) × (after ≡ before) × (g ≡ None)
OverlayNextRefusal (Some e) before status after g = FirstRefused e e.ordered.overlay.end.refusals before status after g

-- ## Events that pass

-- the event is brought beside the requests that wait; if there is none, nothing is done
abbrev pub BringsOne : ShownEnd → Option UserEvent → ℕ → ShownEnd → Type 0
BringsOne e None status g = (status ≡ nothing) × (g ≡ e)
BringsOne e (Some event) status g =
    (result : Result (Unit {0}) (BringFault TermStop)) × Asks e.ordered.overlay event result g.ordered.overlay × KeepsRequests e g
    × (status ≡ bring_status term_stop_status result)

abbrev pub OverlayBroughtOne : Option ShownEnd → Option UserEvent → ℕ → Option ShownEnd → Type 0
OverlayBroughtOne before event status after = AtHandle before status after (λ e status g. BringsOne e event status g)

abbrev pub OverlayEvent : Option ShownEnd → SamEvent → List ℕ → ℕ → Option ShownEnd → Type 0
OverlayEvent before x text status after =
    AtHandle before status after (λ e status g. WithText e text (λ runes status g. BringsOne e (event_of x runes) status g) status g)

-- ## Edits of the user

-- while splices are left all is as before
abbrev pub ReplacesOne : ShownEnd → Bool → ℕ → ℕ × ℕ → List ℕ → ℕ → ShownEnd → Type 0
ReplacesOne e false tag range runes status g = (status ≡ waiting) × (g ≡ e)
ReplacesOne e true tag range runes status g =
    (result : Result (Unit {0}) ReplaceFault) × Edits e.ordered tag range.0 range.1 runes result g.ordered × KeepsBeside e g
    × (status ≡ replace_status e.ordered.overlay.end.stop result)

abbrev pub OverlayReplacedBy : Option ShownEnd → ℕ → ℕ × ℕ → List ℕ → ℕ → Option ShownEnd → Type 0
OverlayReplacedBy before tag range runes status after =
    AtHandle before status after (λ e status g. ReplacesOne e (is_empty e.splices) tag range runes status g)

abbrev pub OverlayReplaced : Option ShownEnd → ℕ → ℕ × ℕ → List ℕ → ℕ → Option ShownEnd → Type 0
OverlayReplaced before tag range text status after =
    AtHandle before status after
    (λ e status g. WithText e text (λ runes status g. ReplacesOne e (is_empty e.splices) tag range runes status g) status g)

-- what became of the edit, or what stood there before
abbrev pub put_or : ℕ → Result Put PutFault → ℕ
put_or before (Ok put) = put_number put
put_or before (Err why) = before

abbrev pub OverlayPut : Option ShownEnd → ℕ → ℕ → ℕ → ℕ → Option ShownEnd → Type 0
OverlayPut None tag old status new after = (status ≡ no_handle) × (new ≡ old) × (after ≡ None)
OverlayPut (Some e) tag old status new after =
    (g : ShownEnd) × (result : Result Put PutFault) × (after ≡ Some g)
    × PutsUpTo (put_limit e.ordered.queue tag) e.ordered.overlay tag result g.ordered.overlay × KeepsRequests e g
    × (status ≡ put_status result) × (new ≡ put_or old result)

-- ## Requests

-- a request is taken, and its number handed out beside the overlay
abbrev pub AsksOf : ShownEnd → UserEvent → ℕ → ℕ → ShownEnd × ℕ → Type 0
AsksOf e event before status g =
    (result : Result ℕ AskFault) × AsksNumbered e event result g.0 × (status ≡ ask_status result) × (g.1 ≡ handed_or before result)

-- if there is none, nothing is done
abbrev pub AsksOne : ShownEnd → Option UserEvent → ℕ → ℕ → ShownEnd × ℕ → Type 0
AsksOne e None before status g = (status ≡ nothing) × (g ≡ (e, before))
AsksOne e (Some event) before status g = AsksOf e event before status g

abbrev pub OverlayAskedOne : Option ShownEnd → Option UserEvent → ℕ → ℕ → ℕ → Option ShownEnd → Type 0
OverlayAskedOne None event old status new after = (status ≡ no_handle) × (new ≡ old) × (after ≡ None)
OverlayAskedOne (Some e) event old status new after = (g : ShownEnd) × (after ≡ Some g) × AsksOne e event old status (g, new)

abbrev pub OverlayAsked : Option ShownEnd → SamEvent → List ℕ → ℕ → ℕ → ℕ → Option ShownEnd → Type 0
OverlayAsked None x text old status new after = (status ≡ no_handle) × (new ≡ old) × (after ≡ None)
OverlayAsked (Some e) x text old status new after =
    (g : ShownEnd) × (after ≡ Some g)
    × WithText (e, old) text (λ runes status g. AsksOne e (event_of x runes) old status g) status (g, new)

-- what became of the oldest request, or what stood there before
abbrev pub turn_or : ℕ → Result Turn PutFault → ℕ
turn_or before (Ok turn) = turn_number turn
turn_or before (Err why) = before

abbrev pub OverlayActed : Option ShownEnd → ℕ → ℕ → ℕ → Option ShownEnd → Type 0
OverlayActed None old status new after = (status ≡ no_handle) × (new ≡ old) × (after ≡ None)
OverlayActed (Some e) old status new after =
    (g : ShownEnd) × (result : Result Turn PutFault) × (after ≡ Some g) × ActsNext e.ordered result g.ordered × KeepsBeside e g
    × (status ≡ put_status result) × (new ≡ turn_or old result)

-- ## Steps, and changes of what is shown

-- what a step did, with the number of the request that acted or was refused
abbrev pub did_of_shown : ShownStep → SamDid
did_of_shown x = record (did_of_term x.step) { request = x.request }

-- while splices are left all is as before
abbrev pub StepsOne : ShownEnd → Bool → SamDid → ℕ → SamDid → ShownEnd → Type 0
StepsOne e false old status new g = (status ≡ waiting) × (new ≡ old) × (g ≡ e)
StepsOne e true old status new g =
    (result : Result ShownStep (EndpointFault TermStop)) × StepsShown e result g × (status ≡ call_status term_stop_status result)
    × (new ≡ did_or did_of_shown old result)

abbrev pub OverlayStepped : Option ShownEnd → SamDid → ℕ → SamDid → Option ShownEnd → Type 0
OverlayStepped None old status new after = (status ≡ no_handle) × (new ≡ old) × (after ≡ None)
OverlayStepped (Some e) old status new after = (g : ShownEnd) × (after ≡ Some g) × StepsOne e (is_empty e.splices) old status new g

-- the next one is handed out
abbrev pub FirstSplice : ShownEnd → List Splice → SamSplice → ℕ → SamSplice → Option ShownEnd → Type 0
FirstSplice e [] old status new after = (status ≡ nothing) × (new ≡ old) × (after ≡ Some e)
FirstSplice e (x ∷ rest) old status new after = (status ≡ ok) × (new ≡ told_splice x) × (after ≡ Some (record e { splices = rest }))

abbrev pub OverlayNextSplice : Option ShownEnd → SamSplice → ℕ → SamSplice → Option ShownEnd → Type 0
OverlayNextSplice None old status new after = (status ≡ no_handle) × (new ≡ old) × (after ≡ None)
OverlayNextSplice (Some e) old status new after = FirstSplice e e.splices old status new after

-- ## What is shown

abbrev pub OverlayNextWaiting : Option ShownEnd → ℕ → ℕ → ℕ → ℕ → Type 0
OverlayNextWaiting None from status before after = (status ≡ no_handle) × (after ≡ before)
OverlayNextWaiting (Some e) from status before after = NextWaiting e.ordered.overlay from status before after

-- ## Runes for which the host left no room

abbrev pub TakesBack : ShownEnd → ℕ → Handed → ℕ → Handed → ShownEnd → Type 0
TakesBack e tag old status new g =
    (result : Result (Option Dropped) PendingFault)
    × DropsUpTo (put_limit e.ordered.queue tag) e.ordered.overlay tag result g.ordered.overlay
    × (g.ordered.queue ≡ queue_after_drop e.ordered tag result) × KeepsBeside e g
    × HandsBack tag result old status new

-- while splices are left all is as before, and so where the buffer has less than four bytes for each rune that waits
abbrev pub DropsOne : ShownEnd → Bool → Bool → ℕ → Handed → ℕ → Handed → ShownEnd → Type 0
DropsOne e false fits tag old status new g = (status ≡ waiting) × (new ≡ old) × (g ≡ e)
DropsOne e true false tag old status new g = (status ≡ no_room) × (new ≡ old) × (g ≡ e)
DropsOne e true true tag old status new g = TakesBack e tag old status new g

abbrev pub OverlayDropped : Option ShownEnd → ℕ → Handed → ℕ → Handed → Option ShownEnd → Type 0
OverlayDropped None tag old status new after = (status ≡ no_handle) × (new ≡ old) × (after ≡ None)
OverlayDropped (Some e) tag old status new after =
    (g : ShownEnd) × (after ≡ Some g)
    × DropsOne e (is_empty e.splices) (nat_le (4 * waiting_at e.ordered.overlay tag) (length old.buffer)) tag old status new g
