-- A host endpoint and a terminal endpoint that carry each other's bytes: they are one run of a world.
use Rattle.std.specs.Prelude.{◌≡◌, ℕ, true, false, List, [], ◌++◌, Some, None}
use Rattle.sam_frame.specs.Direction.{host, terminal}
use Rattle.sam_frame.specs.Stream.{stream_of}
use Rattle.sam_host.specs.Host.{new_host}
use Rattle.sam_host.specs.Laws.{AreGiven}
use Rattle.sam_host.specs.declared.fault.HostFault.TheVariants as host_fault
use Rattle.sam_term.specs.Term.{is_open}
use Rattle.sam_term.specs.declared.event.UserEvent.{UserEvent}
use Rattle.sam_term.specs.declared.fault.Refusal.{Refusal}
use Rattle.sam_term.specs.declared.fault.TermFault.TheVariants as term_fault
use Rattle.sam_endpoint.specs.HostEndpoints.{PlainHostEndpoint, IsIdle as IsHostIdle}
use Rattle.sam_endpoint.specs.HostRuns.{HasServed, HasStopped as HostHasStopped}
use Rattle.sam_endpoint.specs.TermEndpoints.{PlainTermEndpoint, IsIdle as IsTermIdle, IsQuiet}
use Rattle.sam_endpoint.specs.TermRuns.{HasDone, HasStopped as TermHasStopped}
use Rattle.sam_endpoint.specs.declared.fault.HostStop.{HostStop}
use Rattle.sam_endpoint.specs.declared.fault.HostStop.TheVariants as host_stop
use Rattle.sam_endpoint.specs.declared.fault.TermStop.{TermStop}
use Rattle.sam_endpoint.specs.declared.fault.TermStop.TheVariants as term_stop
use Rattle.sam_crossing.specs.World.{PlainWorld, SidesAgree, is_locked, marked_files, new_world, run_of, user_events}
use Rattle.sam_crossing.specs.declared.event.Event.{Event}
use Rattle.sam_local.specs.Local.{at_rest, carried_through, events_in, files_in}
use Rattle.sam_local.specs.Worlds.{IsWhereDone, ShowsFile, doings_of}
use Rattle.sam_apart.specs.Apart.{Asides, asides_in, joined_in, marked_in}
use Rattle.sam_rest.specs.Rest.{HasRoom, IsDone}

-- ## What is joined

-- A host endpoint that began with the files `given`, and at which the asides were done, each after so many messages, took in the bytes
-- `came_up` and handed out `went_down`. A terminal endpoint, at which the user did all of `said`, took in `came_down` and handed out
-- `went_up`. All that the terminal endpoint handed out, or has pending, is what the host endpoint took in, and then what is on its way up;
-- and likewise down. What is pending is counted, since a program may show it to the other endpoint before it takes it out
pub record AreCarried (given : List (List ℕ × List ℕ)) (asides : Asides) (said : List UserEvent) (up down : List ℕ)
    (e : PlainHostEndpoint) (g : PlainTermEndpoint) : Type 0 where
  pub came_up : List ℕ
  pub went_down : List ℕ
  pub came_down : List ℕ
  pub went_up : List ℕ
  pub written : List ℕ
  pub refused : List (ℕ × Refusal)
  pub given_fit : AreGiven given
  pub served : HasServed (new_host given) came_up went_down written asides e
  pub did : HasDone came_down said went_up refused g
  pub upwards : went_up ++ g.pending_bytes ≡ came_up ++ up
  pub downwards : went_down ++ e.pending_bytes ≡ came_down ++ down

-- the two sides, with nothing between them
abbrev pub both : PlainHostEndpoint → PlainTermEndpoint → PlainWorld
both e g = record { host = e.host; term = g.term; up = []; down = [] }

-- nothing is on its way, nothing waits at either endpoint, and no rune is unsent
pub record IsAllCarried (up down : List ℕ) (e : PlainHostEndpoint) (g : PlainTermEndpoint) : Type 0 where
  pub none_up : up ≡ []
  pub none_down : down ≡ []
  pub host_idle : IsHostIdle e
  pub term_idle : IsTermIdle g
  pub none_unsent : g.term.unsent ≡ None

-- ## What follows

-- A run of one world of the first files, in which the user did all of `said`, and each aside was done once the host had taken as many
-- messages as stand beside it, leads to the very host and the very terminal. What is under way between them is, in bytes: what waits
-- at the one, the front of a frame that its framer holds, what is on its way, and what the other has not written yet
pub record AreOneRun (given : List (List ℕ × List ℕ)) (asides : Asides) (said : List UserEvent) (up down : List ℕ)
    (e : PlainHostEndpoint) (g : PlainTermEndpoint) : Type 0 where
  pub events : List Event
  pub world : PlainWorld
  pub run : run_of (new_world given) events ≡ Some world
  pub users : user_events events ≡ said
  pub asides_are : asides_in 0 events ≡ asides
  pub host_is : world.host ≡ e.host
  pub term_is : world.term ≡ g.term
  pub upwards : stream_of terminal world.up ≡ ((stream_of terminal e.waiting ++ e.framer.bytes) ++ up) ++ stream_of terminal g.unwritten
  pub downwards : stream_of host world.down ≡ ((stream_of host g.waiting ++ g.framer.bytes) ++ down) ++ stream_of host e.unwritten

-- neither endpoint has read a fault, and each stops only where a count is full
pub record GoOn (e : PlainHostEndpoint) (g : PlainTermEndpoint) : Type 0 where
  pub host_reads : e.broken_by ≡ None
  pub term_reads : g.broken_by ≡ None
  pub host_stops : (why : HostStop) → HostHasStopped e why → why ≡ host_stop.Refused host_fault.CountFull
  pub term_stops : (why : TermStop) → TermHasStopped g why → why ≡ term_stop.Refused term_fault.CountFull

-- no lock is held, each open file's loaded runes are the host's there, and the same files are open; and no framer holds half a frame
pub record AreAgreed (e : PlainHostEndpoint) (g : PlainTermEndpoint) : Type 0 where
  pub agree : SidesAgree (both e g)
  pub none_half_up : e.framer.bytes ≡ []
  pub none_half_down : g.framer.bytes ≡ []

-- What was done in the run stands in one order: all files that joined, and all that the user did but what is still held. There a file
-- joins just before the first event whose message the host had still to take, as far as any answer can tell. An open file that is not
-- locked is shown as what was done leaves it in the editor without a network. Where all is carried, both sides are where it leads that
-- editor, but for runes that are not loaded and for counts. That is so but for which of the files are dirty that were marked
pub record AreAsIfLocal {given : List (List ℕ × List ℕ)} {asides : Asides} {said : List UserEvent} {up down : List ℕ}
    {e : PlainHostEndpoint} {g : PlainTermEndpoint} (run : AreOneRun given asides said up down e g) : Type 0 where
  pub events : said ≡ events_in (doings_of given run.events) ++ g.term.held
  pub files : joined_in asides ≡ files_in (doings_of given run.events)
  pub marked : marked_in asides ≡ marked_files run.events
  pub shows : (f : ℕ) → is_locked g.term f ≡ false → is_open g.term f ≡ true
      → ShowsFile (marked_in asides) (both e g) (carried_through given (doings_of given run.events)) f
  pub carried : IsAllCarried up down e g → IsWhereDone given run.events (at_rest e.host g.term)

-- ## The laws

abbrev pub EndpointsJoin : Type 0
EndpointsJoin =
    (given : List (List ℕ × List ℕ)) (asides : Asides) (said : List UserEvent) (up down : List ℕ)
    (e : PlainHostEndpoint) (g : PlainTermEndpoint)
    → AreCarried given asides said up down e g → AreOneRun given asides said up down e g

abbrev pub NeitherStops : Type 0
NeitherStops =
    (given : List (List ℕ × List ℕ)) (asides : Asides) (said : List UserEvent) (up down : List ℕ)
    (e : PlainHostEndpoint) (g : PlainTermEndpoint)
    → AreCarried given asides said up down e g → GoOn e g

abbrev pub CarriedAgree : Type 0
CarriedAgree =
    (given : List (List ℕ × List ℕ)) (asides : Asides) (said : List UserEvent) (up down : List ℕ)
    (e : PlainHostEndpoint) (g : PlainTermEndpoint)
    → AreCarried given asides said up down e g → IsAllCarried up down e g → AreAgreed e g

-- whichever such run led here
abbrev pub JoinedAreAsIfLocal : Type 0
JoinedAreAsIfLocal =
    (given : List (List ℕ × List ℕ)) (asides : Asides) (said : List UserEvent) (up down : List ℕ)
    (e : PlainHostEndpoint) (g : PlainTermEndpoint)
    → AreCarried given asides said up down e g → (run : AreOneRun given asides said up down e g)
    → AreAsIfLocal run

-- where all is carried and the terminal can't act, which each call that ends well leaves so, all is done
abbrev pub NeverStuck : Type 0
NeverStuck =
    (given : List (List ℕ × List ℕ)) (asides : Asides) (said : List UserEvent) (up down : List ℕ)
    (e : PlainHostEndpoint) (g : PlainTermEndpoint)
    → AreCarried given asides said up down e g → IsAllCarried up down e g
    → IsQuiet g.term → HasRoom (both e g) → IsDone (both e g)
