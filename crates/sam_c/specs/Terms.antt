-- What the calls of a terminal do.
use Rattle.std.specs.Prelude.{◌≡◌, ◌⊎◌, ◌≤◌, ℕ, List, [], ◌∷◌, length, Bool, true, false, Option, option_map, Some, None, Result, take}
use Rattle.std.specs.Str.{encode_utf8_all, IsUtf8}
use Rattle.sam_runes.specs.Reading.{AreRunes}
use Rattle.sam_rasp.specs.Rasp.{hole_within}
use Rattle.sam_term.specs.Term.{is_open, rasp_at, view_end, window_of}
use Rattle.sam_term.specs.declared.event.UserEvent.{UserEvent}
use Rattle.sam_term.specs.declared.fault.Refusal.{Refusal}
use Rattle.sam_term.specs.declared.records.Window.{Window}
use Rattle.sam_endpoint.specs.declared.fault.EndpointFault.{EndpointFault}
use Rattle.sam_endpoint.specs.declared.fault.FinishFault.{FinishFault}
use Rattle.sam_endpoint.specs.declared.fault.TermStop.{TermStop}
use Rattle.sam_endpoint.specs.declared.changes.Change.{Change}
use Rattle.sam_endpoint.specs.Changes.{asked, change_of, kept_at}
use Rattle.sam_endpoint.specs.TermEndpoints.{PlainTermEndpoint, new_term_endpoint, Finishes}
use Rattle.sam_endpoint.specs.TermRuns.{Call, Runs, Stops}
use Rattle.sam_endpoint.specs.TermRuns as call
use Rattle.sam_handles.specs.Buffers.{Takes}
use Rattle.sam_handles.specs.Calls.{AtHandle, TellsOne}
use Rattle.sam_handles.specs.Status.{ok, no_memory, is_made, no_handle, not_text, nothing, refusal_status, term_status, term_finish_status}

-- a new terminal, or why there is none and the handle is as before
abbrev pub TermMade : Option PlainTermEndpoint → ℕ → Option PlainTermEndpoint → Type 0
TermMade None status after = ((status ≡ ok) × (after ≡ Some new_term_endpoint)) ⊎ ((status ≡ no_memory) × (after ≡ None))
TermMade (Some e) status after = (status ≡ is_made) × (after ≡ Some e)

-- a call with what came of it, as the laws of calls know it, leads from one end to the other; perhaps it stops the end
unfoldable pub TermDoes : PlainTermEndpoint → Call → PlainTermEndpoint → Type 0
TermDoes e made g = Runs e (made ∷ []) g ⊎ ((why : TermStop) × Stops e made why g)

abbrev pub TermPut : Option PlainTermEndpoint → UserEvent → ℕ → Option PlainTermEndpoint → Type 0
TermPut before event status after =
    AtHandle before status after
    (λ e status g. (result : Result (Unit {0}) (EndpointFault TermStop)) × TermDoes e (call.Put event result) g
    × (status ≡ term_status result))

abbrev pub TermFed : Option PlainTermEndpoint → List ℕ → ℕ → Option PlainTermEndpoint → Type 0
TermFed before piece status after =
    AtHandle before status after
    (λ e status g. (result : Result (Unit {0}) (EndpointFault TermStop)) × TermDoes e (call.Feed piece result) g
    × (status ≡ term_status result))

abbrev pub TermIdled : Option PlainTermEndpoint → ℕ → Option PlainTermEndpoint → Type 0
TermIdled before status after =
    AtHandle before status after
    (λ e status g. (result : Result (Unit {0}) (EndpointFault TermStop)) × TermDoes e (call.Flush result) g
    × (status ≡ term_status result))

-- whether the host's stream may end here
abbrev pub TermFinished : Option PlainTermEndpoint → ℕ → Type 0
TermFinished None status = status ≡ no_handle
TermFinished (Some e) status =
    (result : Result (Unit {0}) (FinishFault TermStop)) × Finishes e result × (status ≡ term_finish_status result)

-- an event that brings a text: the bytes spell its runes, or are not UTF-8, or memory for the runes was refused
abbrev pub PutsText : PlainTermEndpoint → List ℕ → (List ℕ → UserEvent) → ℕ → PlainTermEndpoint → Type 0
PutsText e text event status g =
    ((runes : List ℕ) × (result : Result (Unit {0}) (EndpointFault TermStop))
    × AreRunes runes × (encode_utf8_all runes ≡ text) × TermDoes e (call.Put (event runes) result) g × (status ≡ term_status result))
    ⊎ (((status ≡ not_text) × (IsUtf8 text → ⊥) × (g ≡ e)) ⊎ ((status ≡ no_memory) × IsUtf8 text × (g ≡ e)))

abbrev pub TermPutText : Option PlainTermEndpoint → List ℕ → (List ℕ → UserEvent) → ℕ → Option PlainTermEndpoint → Type 0
TermPutText before text event status after = AtHandle before status after (λ e status g. PutsText e text event status g)

abbrev pub TermTaken : Option PlainTermEndpoint → List ℕ → List ℕ → ℕ → ℕ → ℕ → Option PlainTermEndpoint → Type 0
TermTaken None before after old_count status new_count g = (status ≡ no_handle) × (after ≡ before) × (new_count ≡ old_count) × (g ≡ None)
TermTaken (Some e) before after old_count status new_count g =
    (n : PlainTermEndpoint) × (g ≡ Some n) × (status ≡ ok) × Takes e.pending_bytes before after new_count n.pending_bytes
    × TermDoes e (call.TakeOut (take new_count e.pending_bytes)) n

-- a refusal in two numbers: which event, and why
abbrev pub told : ℕ × Refusal → ℕ × ℕ
told refused = (refused.0, refusal_status refused.1)

-- the oldest refused event is handed out, with the number of why
abbrev pub TermNextRefusal : Option PlainTermEndpoint → ℕ × ℕ → ℕ → ℕ × ℕ → Option PlainTermEndpoint → Type 0
TermNextRefusal None before status after g = (status ≡ no_handle) × (after ≡ before) × (g ≡ None)
TermNextRefusal (Some e) before status after g =
    (n : PlainTermEndpoint) × (refused : Option (ℕ × Refusal)) × (g ≡ Some n) × TermDoes e (call.NextRefusal refused) n
    × TellsOne (option_map told refused) status before after

-- a change in three numbers
abbrev pub numbers : Change → ℕ × ℕ × ℕ
numbers c = (c.start, c.gone, c.came)

-- the change of an open file's text is handed out, and the next one begins; or memory was refused, where neither this file nor one with a
-- higher tag was asked of before; of a file that is not open there is none
abbrev pub HandsChange : PlainTermEndpoint → ℕ → Bool → ℕ × ℕ × ℕ → ℕ → ℕ × ℕ × ℕ → Option PlainTermEndpoint → Type 0
HandsChange e tag false before status after g = (status ≡ nothing) × (after ≡ before) × (g ≡ Some e)
HandsChange e tag true before status after g =
    ((n : PlainTermEndpoint) × (g ≡ Some n) × (status ≡ ok)
    × (after ≡ numbers (change_of (kept_at e.kept tag) (length (rasp_at e.term tag))))
    × TermDoes e (call.Changed (asked e.kept tag (length (rasp_at e.term tag)))) n)
    ⊎ ((status ≡ no_memory) × (length e.kept ≤ tag) × (after ≡ before) × (g ≡ Some e))

abbrev pub TermChanged : Option PlainTermEndpoint → ℕ → ℕ × ℕ × ℕ → ℕ → ℕ × ℕ × ℕ → Option PlainTermEndpoint → Type 0
TermChanged None tag before status after g = (status ≡ no_handle) × (after ≡ before) × (g ≡ None)
TermChanged (Some e) tag before status after g = HandsChange e tag (is_open e.term tag) before status after g

abbrev pub dot_of : PlainTermEndpoint → ℕ → Option (ℕ × ℕ)
dot_of e tag = option_map (λ w. w.dot) (window_of e.term tag)

abbrev pub rasp_of : PlainTermEndpoint → ℕ → Option (List (Option ℕ))
rasp_of e tag = option_map (λ w. w.rasp) (window_of e.term tag)

-- what a window shows: the places where its view begins and ends
abbrev pub shown_of : Window → ℕ × ℕ
shown_of w = (w.view_start, view_end w)

-- the first gap at or after a place
abbrev pub gap_from : ℕ → Window → Option ℕ
gap_from place w = option_map (λ hole. hole.0) (hole_within w.rasp place (length w.rasp))
