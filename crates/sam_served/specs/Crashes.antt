-- A session whose host may crash: what a crash leaves of the calls of its link, what the host goes on from, and what may go out before it
-- is
-- durable.
use Rattle.std.specs.Prelude.{◌≡◌, ◌⊎◌, ℕ, zero, suc, ◌≤◌, List, [], ◌∷◌, ◌++◌, length, flat_map, true, Ok, Err}
use Rattle.sam_link.specs.Calls.{Call, Does, DoesAll}
use Rattle.sam_link.specs.Calls.Call.{Acknowledge, Answer, Ask, Break, Dial, Feed, NextNote, Put, PutNote, TakeIn, TakeOut, Welcome}
use Rattle.sam_link.specs.End.{End, ended, fresh, is_up}
use Rattle.sam_link.specs.Meeting.{to_go}
use Rattle.sam_link.specs.Sessions.{Leads, Session, Step, WasCarried, host_did, is_taken, new_session, terminal_did}
use Rattle.sam_link.specs.declared.hello.Id.{Id}
use Rattle.sam_link.specs.declared.phase.Phase.TheVariants.{Down}
use Rattle.sam_link.specs.declared.phase.Role.TheVariants.{Host}
pub use Rattle.sam_server.specs.Servers.{all_given}

-- ## What a crash leaves

-- the call, if it took bytes out: what went out is not called back
abbrev pub went_out : Call → List Call
went_out (TakeOut attempt old (Ok count) new) = TakeOut attempt old (Ok count) new ∷ []
went_out (TakeOut attempt old (Err why) new) = []
went_out (Dial take_over answer) = []
went_out (Answer hello answer) = []
went_out (Welcome hello answer) = []
went_out (Break attempt) = []
went_out (Put bytes answer) = []
went_out (PutNote bytes answer) = []
went_out (Ask answer) = []
went_out (Acknowledge answer) = []
went_out (Feed attempt piece answer) = []
went_out (TakeIn old count new) = []
went_out (NextNote answer) = []

-- a crash leaves the first so many of the calls, and of the others what went out
abbrev pub left : ℕ → List Call → List Call
left n [] = []
left zero (call ∷ calls) = went_out call ++ left zero calls
left (suc n) (call ∷ calls) = call ∷ left n calls

-- ## What the host goes on from

-- The call, if it changed more than what went out on a connection: it stands in the journal, or what stands there decides it. What was
-- refused, what went out and which connection broke doesn't stand there
abbrev pub in_journal : Call → List Call
in_journal (Answer hello (Ok done)) = Answer hello (Ok done) ∷ []
in_journal (Answer hello (Err why)) = []
in_journal (Put bytes (Ok done)) = Put bytes (Ok done) ∷ []
in_journal (Put bytes (Err why)) = []
in_journal (PutNote bytes (Ok done)) = PutNote bytes (Ok done) ∷ []
in_journal (PutNote bytes (Err why)) = []
in_journal (Ask (Ok done)) = Ask (Ok done) ∷ []
in_journal (Ask (Err why)) = []
in_journal (Acknowledge (Ok done)) = Acknowledge (Ok done) ∷ []
in_journal (Acknowledge (Err why)) = []
in_journal (Feed attempt piece (Ok done)) = Feed attempt piece (Ok done) ∷ []
in_journal (Feed attempt piece (Err why)) = []
in_journal (TakeIn old count new) = TakeIn old count new ∷ []
in_journal (NextNote answer) = NextNote answer ∷ []
in_journal (Dial take_over answer) = []
in_journal (Welcome hello answer) = []
in_journal (Break attempt) = []
in_journal (TakeOut attempt old answer new) = []

-- the calls are done again, one after another; before each all that was put counts as given
abbrev pub Repeats : End → List Call → End → Type 0
Repeats e [] n = n ≡ e
Repeats e (call ∷ calls) n = (m : End) × Does (all_given e) call m × Repeats m calls n

-- the end that is made of a journal with these calls: its connection is over
abbrev pub Recovers : Id → List Call → End → Type 0
Recovers id calls h = (e : End) × Repeats (fresh Host id) (flat_map in_journal calls) e × (h ≡ ended e)

-- ## A session with crashes

-- what happens
pub data Event : Type 0 where
  ByTerminal : Call → Event
  ByHost : Call → Event
  Sync : ℕ → Event  -- from now on each crash leaves so many of the host's first calls, or more
  Crash : ℕ → Event  -- the host's process ends, and another goes on from its journal, which has so many of the host's first calls

-- both ends with the calls of the terminal, and those of the host that its crashes left, of which the first so many are durable
pub record DurableSession : Type 0 where
  pub session : Session
  pub durable : ℕ

abbrev pub new_durable_session : Id → DurableSession
new_durable_session id = record { session = new_session id; durable = 0 }

-- the end that these calls lead to
abbrev pub LedTo : Id → List Call → End → Type 0
LedTo id calls e = DoesAll (fresh Host id) calls e

-- Bytes go out only where they are decided: the end that there would be if the durable calls alone had happened, and what went out, has
-- this connection, and as many bytes to go
abbrev pub MayGoOut : Id → DurableSession → Call → Type 0
MayGoOut id w (TakeOut attempt old (Ok count) new) =
    (e : End) × LedTo id (left w.durable w.session.host_calls) e × (is_up e.phase ≡ true) × (attempt ≡ e.attempt) × (length old ≤ to_go e)
MayGoOut id w (TakeOut attempt old (Err why) new) = Unit {0}
MayGoOut id w (Dial take_over answer) = Unit {0}
MayGoOut id w (Answer hello answer) = Unit {0}
MayGoOut id w (Welcome hello answer) = Unit {0}
MayGoOut id w (Break attempt) = Unit {0}
MayGoOut id w (Put bytes answer) = Unit {0}
MayGoOut id w (PutNote bytes answer) = Unit {0}
MayGoOut id w (Ask answer) = Unit {0}
MayGoOut id w (Acknowledge answer) = Unit {0}
MayGoOut id w (Feed attempt piece answer) = Unit {0}
MayGoOut id w (TakeIn old count new) = Unit {0}
MayGoOut id w (NextNote answer) = Unit {0}

-- after a crash, which left these calls
abbrev pub crashed : Session → List Call → End → Session
crashed s calls h = record s { host = h; host_calls = calls ++ Break h.attempt ∷ [] }

-- these events, crashes among them, lead from one session to the next
abbrev pub LeadsOverCrashes : Id → DurableSession → List Event → DurableSession → Type 0
LeadsOverCrashes id w [] z = z ≡ w
LeadsOverCrashes id w (ByTerminal call ∷ events) z =
    (t : End) × Does w.session.terminal call t
    × (is_taken call ≡ true → WasCarried w.session.terminal_calls w.session.host_calls call)
    × LeadsOverCrashes id (record w { session = terminal_did w.session call t }) events z
LeadsOverCrashes id w (ByHost call ∷ events) z =
    (h : End) × Does w.session.host call h × MayGoOut id w call
    × (is_taken call ≡ true → WasCarried w.session.host_calls w.session.terminal_calls call)
    × LeadsOverCrashes id (record w { session = host_did w.session call h }) events z
LeadsOverCrashes id w (Sync n ∷ events) z = (w.durable ≤ n) × LeadsOverCrashes id (record w { durable = n }) events z
LeadsOverCrashes id w (Crash n ∷ events) z =
    (h : End) × (w.durable ≤ n) × Recovers id (left n w.session.host_calls) h
    × LeadsOverCrashes id (record w { session = crashed w.session (left n w.session.host_calls) h }) events z

-- ## The laws

-- what an end is once its connection is over, but for how much went out on it
abbrev pub over : End → End
over e = record e { phase = Down; hello = []; keeps = record e.keeps { sent = 0 } }

-- the ends are one, or neither has a connection, and they differ only in how much went out on the last
abbrev pub AreLike : End → End → Type 0
AreLike a b = (a ≡ b) ⊎ ((over a ≡ over b) × (a.phase ≡ Down) × (b.phase ≡ Down))

-- A session without crashes, in which each crash is a break, leads to the very same calls of both ends and to the same terminal, and to a
-- host that is like this one
abbrev pub CrashesAreBreaks : Type 0
CrashesAreBreaks =
    (id : Id) (events : List Event) (w : DurableSession) → LeadsOverCrashes id (new_durable_session id) events w
    → (steps : List Step) × (h : End) × Leads (new_session id) steps (record w.session { host = h }) × AreLike w.session.host h

-- whatever a crash may leave of the calls, an end is made of the journal
abbrev pub EndsAreMade : Type 0
EndsAreMade =
    (id : Id) (events : List Event) (w : DurableSession) (n : ℕ) → LeadsOverCrashes id (new_durable_session id) events w → w.durable ≤ n
    → (h : End) × Recovers id (left n w.session.host_calls) h
