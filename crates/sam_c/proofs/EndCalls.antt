-- What an endpoint's call is said to do, as a call of its laws; and what a link's call is that feeds and takes in.
use Rattle.std.proofs.Common.{◌≡◌, refl, sym, inl, inr, ℕ, List, take, drop, take-append-drop, Option, Result, Ok, Err}
use Rattle.std.specs.Prelude.{slice_get}
use Rattle.sam_host.specs.declared.fault.MarkFault.{MarkFault}
use Rattle.sam_term.specs.declared.event.UserEvent.{UserEvent}
use Rattle.sam_term.specs.declared.fault.Refusal.{Refusal}
use Rattle.sam_link.specs.Calls.{DoesInto, DoesPlaces}
use Rattle.sam_link.specs.End.{End}
use Rattle.sam_link.specs.Feeding.{FeedsInto, FeedsPlaces}
use Rattle.sam_link.specs.declared.fault.FeedFault.{FeedFault}
use Rattle.sam_link.specs.declared.inbox.Place.{Place}
use Rattle.sam_link.proofs.TakingCalls.{as_calls, places_as_calls}
use Rattle.sam_endpoint.specs.declared.changes.Kept.{Kept}
use Rattle.sam_endpoint.specs.declared.fault.AddFault.{AddFault}
use Rattle.sam_endpoint.specs.declared.fault.EndpointFault.{EndpointFault}
use Rattle.sam_endpoint.specs.declared.fault.EndpointFault.TheVariants as fault
use Rattle.sam_endpoint.specs.declared.fault.HostStop.{HostStop}
use Rattle.sam_endpoint.specs.declared.fault.TermStop.{TermStop}
use Rattle.sam_endpoint.specs.declared.step.BringFault.{BringFault}
use Rattle.sam_endpoint.specs.declared.step.HostStep.{HostStep}
use Rattle.sam_endpoint.specs.declared.step.TermStep.{TermStep}
use Rattle.sam_endpoint.specs.HostEndpoints as hosts
use Rattle.sam_endpoint.specs.HostRuns as host_call
use Rattle.sam_endpoint.specs.HostStepping as host_steps
use Rattle.sam_endpoint.specs.TermEndpoints as terms
use Rattle.sam_endpoint.specs.TermRuns as term_call
use Rattle.sam_endpoint.specs.TermStepping as term_steps
unfoldable use Rattle.sam_c.specs.Hosts.{HostDoes}
unfoldable use Rattle.sam_c.specs.Terms.{TermDoes}

-- ## A host

pub host_feeds : (e g : hosts.PlainHostEndpoint) (piece : List ℕ) (result : Result (Unit {0}) (EndpointFault HostStop)) → hosts.Feeds e piece result g
    → HostDoes e (host_call.Feed piece result) g
unfolding HostDoes
host_feeds e g piece (Ok done) is = inl (g, is, tt, refl)
host_feeds e g piece (Err fault.OutOfMemory) is = inl (g, is, tt, refl)
host_feeds e g piece (Err fault.Unfinished) is = inl (g, is, tt, refl)
host_feeds e g piece (Err fault.CountFull) is = inl (g, is, tt, refl)
host_feeds e g piece (Err (fault.Stopped why)) is = inr (why, (is, refl))

pub host_makes_step : (e g : hosts.PlainHostEndpoint) (result : Result HostStep (EndpointFault HostStop)) → host_steps.Steps e result g
    → HostDoes e (host_call.MakeStep result) g
unfolding HostDoes
host_makes_step e g (Ok done) is = inl (g, is, tt, refl)
host_makes_step e g (Err fault.OutOfMemory) is = inl (g, is, tt, refl)
host_makes_step e g (Err fault.Unfinished) is = inl (g, is, tt, refl)
host_makes_step e g (Err fault.CountFull) is = inl (g, is, tt, refl)
host_makes_step e g (Err (fault.Stopped why)) is = inr (why, (is, refl))

pub host_brings : (e g : hosts.PlainHostEndpoint) (piece : List ℕ) (result : Result (Unit {0}) (BringFault HostStop)) → host_steps.BringsIn e piece result g
    → HostDoes e (host_call.Bring piece result) g
unfolding HostDoes
host_brings e g piece result is = inl (g, is, refl)

pub host_adds : (e g : hosts.PlainHostEndpoint) (name text : List ℕ) (result : Result ℕ AddFault) → hosts.Adds e name text result g
    → HostDoes e (host_call.AddFile e.host.taken name text result) g
unfolding HostDoes
host_adds e g name text result is = inl (g, refl, is, refl)

pub host_marks : (e g : hosts.PlainHostEndpoint) (tag : ℕ) (result : Result (Unit {0}) MarkFault) → hosts.Marks e tag result g
    → HostDoes e (host_call.MarkDirty e.host.taken tag result) g
unfolding HostDoes
host_marks e g tag result is = inl (g, refl, is, refl)

pub host_takes_out : (e g : hosts.PlainHostEndpoint) (count : ℕ) → g ≡ record e { pending_bytes = drop count e.pending_bytes }
    → HostDoes e (host_call.TakeOut (take count e.pending_bytes)) g
unfolding HostDoes
host_takes_out e g count is = inl (drop count e.pending_bytes, sym (take-append-drop count e.pending_bytes), is)

pub host_next_written : (e g : hosts.PlainHostEndpoint) (tag : Option ℕ) → tag ≡ slice_get e.writes 0 → g ≡ record e { writes = drop 1 e.writes }
    → HostDoes e (host_call.NextWritten tag) g
unfolding HostDoes
host_next_written e g tag told rest = inl (told, rest)

-- ## A terminal

pub term_feeds : (e g : terms.PlainTermEndpoint) (piece : List ℕ) (result : Result (Unit {0}) (EndpointFault TermStop)) → terms.Feeds e piece result g
    → TermDoes e (term_call.Feed piece result) g
unfolding TermDoes
term_feeds e g piece (Ok done) is = inl (g, is, tt, refl)
term_feeds e g piece (Err fault.OutOfMemory) is = inl (g, is, tt, refl)
term_feeds e g piece (Err fault.Unfinished) is = inl (g, is, tt, refl)
term_feeds e g piece (Err fault.CountFull) is = inl (g, is, tt, refl)
term_feeds e g piece (Err (fault.Stopped why)) is = inr (why, (is, refl))

pub term_puts : (e g : terms.PlainTermEndpoint) (event : UserEvent) (result : Result (Unit {0}) (EndpointFault TermStop)) → terms.Puts e event result g
    → TermDoes e (term_call.Put event result) g
unfolding TermDoes
term_puts e g event (Ok done) is = inl (g, is, tt, refl)
term_puts e g event (Err fault.OutOfMemory) is = inl (g, is, tt, refl)
term_puts e g event (Err fault.Unfinished) is = inl (g, is, tt, refl)
term_puts e g event (Err fault.CountFull) is = inl (g, is, tt, refl)
term_puts e g event (Err (fault.Stopped why)) is = inr (why, (is, refl))

pub term_flushes : (e g : terms.PlainTermEndpoint) (result : Result (Unit {0}) (EndpointFault TermStop)) → terms.Flushes e result g
    → TermDoes e (term_call.Flush result) g
unfolding TermDoes
term_flushes e g (Ok done) is = inl (g, is, tt, refl)
term_flushes e g (Err fault.OutOfMemory) is = inl (g, is, tt, refl)
term_flushes e g (Err fault.Unfinished) is = inl (g, is, tt, refl)
term_flushes e g (Err fault.CountFull) is = inl (g, is, tt, refl)
term_flushes e g (Err (fault.Stopped why)) is = inr (why, (is, refl))

pub term_makes_step : (e g : terms.PlainTermEndpoint) (result : Result TermStep (EndpointFault TermStop)) → term_steps.Steps e result g
    → TermDoes e (term_call.MakeStep result) g
unfolding TermDoes
term_makes_step e g (Ok done) is = inl (g, is, tt, refl)
term_makes_step e g (Err fault.OutOfMemory) is = inl (g, is, tt, refl)
term_makes_step e g (Err fault.Unfinished) is = inl (g, is, tt, refl)
term_makes_step e g (Err fault.CountFull) is = inl (g, is, tt, refl)
term_makes_step e g (Err (fault.Stopped why)) is = inr (why, (is, refl))

pub term_brings : (e g : terms.PlainTermEndpoint) (piece : List ℕ) (result : Result (Unit {0}) (BringFault TermStop)) → term_steps.BringsIn e piece result g
    → TermDoes e (term_call.Bring piece result) g
unfolding TermDoes
term_brings e g piece result is = inl (g, is, refl)

pub term_takes_out : (e g : terms.PlainTermEndpoint) (count : ℕ) → g ≡ record e { pending_bytes = drop count e.pending_bytes }
    → TermDoes e (term_call.TakeOut (take count e.pending_bytes)) g
unfolding TermDoes
term_takes_out e g count is = inl (drop count e.pending_bytes, sym (take-append-drop count e.pending_bytes), is)

pub term_next_refusal : (e g : terms.PlainTermEndpoint) (refused : Option (ℕ × Refusal)) → refused ≡ slice_get e.refusals 0
    → g ≡ record e { refusals = drop 1 e.refusals } → TermDoes e (term_call.NextRefusal refused) g
unfolding TermDoes
term_next_refusal e g refused told rest = inl (told, rest)

pub term_changed : (e g : terms.PlainTermEndpoint) (kept : List Kept) → g ≡ record e { kept = kept } → TermDoes e (term_call.Changed kept) g
unfolding TermDoes
term_changed e g kept is = inl is

-- ## A link

pub link_feeds_into : (e n : End) (attempt : ℕ) (piece old : List ℕ) (result : Result ℕ FeedFault) (new : List ℕ) → FeedsInto e attempt piece old result new n
    → DoesInto e attempt piece result new n
link_feeds_into e n attempt piece old result new is = as_calls e attempt piece old result new n is

pub link_feeds_places : (e n : End) (attempt : ℕ) (piece : List ℕ) (old : List Place) (result : Result ℕ FeedFault) (new : List Place)
    → FeedsPlaces e attempt piece old result new n → DoesPlaces e attempt piece result new n
link_feeds_places e n attempt piece old result new is = places_as_calls e attempt piece old result new n is
