-- What the calls do of an end whose front end takes the changes of the shown text one by one.
use Rattle.std.specs.Prelude.{◌≡◌, ◌≢◌, ◌⊎◌, ◌↔◌, ◌<◌, ◌≤◌, ◌^◌, ◌-◌, ◌==◌, ℕ, Bool, true, false, is_some, length, List, [], None, Some, Result, Ok, Err, IfOk, OnErr}
use Rattle.sam_runes.specs.Checks.{first_of_checks}
use Rattle.sam_term.specs.declared.event.UserEvent.{UserEvent}
use Rattle.sam_endpoint.specs.TermStepping.{Steps}
use Rattle.sam_endpoint.specs.declared.fault.EndpointFault.{EndpointFault}
use Rattle.sam_endpoint.specs.declared.fault.TermStop.{TermStop}
use Rattle.sam_overlay.specs.Calls.{CellsGo, Keeps, KeepsTexts, cells_at, shown_at}
use Rattle.sam_overlay.specs.Numbers.{after_asking, after_telling, no_numbers, number_of, told_number}
use Rattle.sam_overlay.specs.Ordered.{IsAsked, NoneFinds, closing_group, most_waiting_requests, new_ordered, ordered_checks, queue_after, shared_with}
use Rattle.sam_overlay.specs.Outcomes.{Leads, Replaces}
use Rattle.sam_overlay.specs.Overlays.{StopsOnly, told_at}
use Rattle.sam_overlay.specs.declared.fault.AskFault.{AskFault}
use Rattle.sam_overlay.specs.declared.fault.AskFault.TheVariants as unasked
use Rattle.sam_overlay.specs.declared.fault.ReplaceFault.{ReplaceFault}
use Rattle.sam_overlay.specs.declared.fault.ReplaceFault.TheVariants as refuses
use Rattle.sam_overlay.specs.declared.numbers.RequestNumbers.{RequestNumbers}
use Rattle.sam_overlay.specs.declared.ordered.OrderedOverlay.{OrderedOverlay}
use Rattle.sam_overlay.specs.declared.shown_change.Asked.{Asked}
use Rattle.sam_overlay.specs.declared.shown_change.OverlayStep.{OverlayStep}
use Rattle.sam_shown.specs.Splices.{splices_of}
use Rattle.sam_shown.specs.declared.shown_end.ShownEnd.{ShownEnd}
use Rattle.sam_shown.specs.declared.shown_end.ShownStep.{ShownStep}

abbrev pub new_shown_end : ShownEnd
new_shown_end = record { ordered = new_ordered; splices = []; numbers = no_numbers }

-- ## Steps

-- the cells of each file went as the step says; what is told of a file leads from what was shown of it to what is shown now, and is handed
-- out as these splices; what a request comes to stays by an edit, and the places that it names go with the host's changes
abbrev pub TellsStep : OrderedOverlay → OverlayStep → ShownEnd → Type 0
TellsStep o x n =
    CellsGo o.overlay x n.ordered.overlay × (n.ordered.overlay.putting ≡ None) × (n.splices ≡ splices_of x.tag x.told)
    × ((f : ℕ) → Leads (told_at x f) (shown_at o.overlay f) (shown_at n.ordered.overlay f))
    × KeepsTexts o.overlay n.ordered.overlay × (n.ordered.queue ≡ queue_after o (Ok x))

-- the request that acted or was refused is told by its number, and by 0 that none did
abbrev pub TellsRequest : ShownEnd → ShownStep → ShownEnd → Type 0
TellsRequest e step n =
    (step.request ≡ told_number e.numbers (length n.ordered.queue) step.step)
    × (n.numbers ≡ after_telling e.numbers (length n.ordered.queue) step.step)

-- a step of the end; after a fault what waits and what is shown is as before
abbrev pub StepsShown : ShownEnd → Result ShownStep (EndpointFault TermStop) → ShownEnd → Type 0
StepsShown e (Ok step) n =
    Steps e.ordered.overlay.end (Ok step.step) n.ordered.overlay.end
    × ((x : OverlayStep) × (x.step ≡ step.step) × TellsStep e.ordered x n) × TellsRequest e step n
StepsShown e (Err why) n =
    Steps e.ordered.overlay.end (Err why) n.ordered.overlay.end × Keeps e.ordered.overlay n.ordered.overlay
    × StopsOnly e.ordered.overlay.end n.ordered.overlay.end × (n.ordered.queue ≡ e.ordered.queue) × (n.splices ≡ e.splices)
    × (n.numbers ≡ e.numbers)

-- ## What the user does

-- an edit of the user: these runes are in the place of what was shown from p to q, nothing else changed, and no request that waits finds
-- them; or it is refused, and all is as before
abbrev pub Edits : OrderedOverlay → ℕ → ℕ → ℕ → List ℕ → Result (Unit {0}) ReplaceFault → OrderedOverlay → Type 0
Edits o tag p q s (Ok done) n =
    (first_of_checks (ordered_checks o tag p q s) ≡ None) × Replaces (cells_at o.overlay tag) p q s (cells_at n.overlay tag)
    × NoneFinds o.queue (cells_at o.overlay tag) (cells_at n.overlay tag)
    × ((f : ℕ) → f ≢ tag → cells_at n.overlay f ≡ cells_at o.overlay f)
    × (n.overlay.end ≡ o.overlay.end) × (n.overlay.putting ≡ o.overlay.putting) × (n.queue ≡ o.queue)
Edits o tag p q s (Err why) n =
    ((first_of_checks (ordered_checks o tag p q s) ≡ Some why)
    ⊎ ((why ≡ refuses.OutOfMemory) × (first_of_checks (ordered_checks o tag p q s) ≡ None))) × (n ≡ o)

-- the request waits behind the others, or shares a write that waits, and comes to what is shown now; or why not, and all is as before
pub record TakesIn (o : OrderedOverlay) (event : UserEvent) (answer : Result Asked AskFault) (n : OrderedOverlay) : Type 0 where
  pub asked : IfOk answer (λ x. IsAsked o event x n)
  pub waiting : (answer ≡ Err unasked.Waiting) ↔ (is_some o.overlay.putting ≡ true)
  pub many : (answer ≡ Err unasked.TooMany)
      ↔ ((o.overlay.putting ≡ None) × (shared_with o event ≡ None) × (most_waiting_requests ≤ length o.queue))
  pub full : (answer ≡ Err unasked.CountFull)
      ↔ ((o.overlay.putting ≡ None) × (shared_with o event ≡ None) × (length o.queue < most_waiting_requests)
      × (2 ^ 32 - 1 ≤ closing_group o))
  pub err : OnErr answer (n ≡ o)

-- a request that was taken has its number, where so many wait by then
abbrev pub Numbers : RequestNumbers → ℕ → Result Asked AskFault → Result ℕ AskFault → RequestNumbers → Type 0
Numbers before requests (Ok x) answer after = (answer ≡ Ok (number_of before requests x)) × (after ≡ after_asking before x)
Numbers before requests (Err why) answer after = (answer ≡ Err why) × (after ≡ before)

-- the request is taken in, and numbered; none is once there are no more numbers
abbrev pub AsksUnless : Bool → ShownEnd → UserEvent → Result ℕ AskFault → ShownEnd → Type 0
AsksUnless true e event answer n = (answer ≡ Err unasked.CountFull) × (n ≡ e)
AsksUnless false e event answer n =
    (asked : Result Asked AskFault) × TakesIn e.ordered event asked n.ordered × (n.splices ≡ e.splices)
    × Numbers e.numbers (length n.ordered.queue) asked answer n.numbers

abbrev pub AsksNumbered : ShownEnd → UserEvent → Result ℕ AskFault → ShownEnd → Type 0
AsksNumbered e event answer n = AsksUnless (e.numbers.taken == 2 ^ 64 - 1) e event answer n
