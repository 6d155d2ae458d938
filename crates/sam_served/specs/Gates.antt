-- How much may go out, counted in bytes.
use Rattle.std.specs.Prelude.{◌≡◌, ℕ, ◌+◌, ◌-◌, ◌≤◌, List, ◌++◌, length, true, Ok}
use Rattle.sam_link.specs.Calls.{Call}
use Rattle.sam_link.specs.Calls.Call.{TakeOut}
use Rattle.sam_link.specs.End.{End, is_up}
use Rattle.sam_link.specs.declared.hello.Id.{Id}
pub use Rattle.sam_server.specs.Gates.{gone_count, put_count}
use Rattle.sam_served.specs.Crashes.{DurableSession, Event, LeadsOverCrashes, LedTo, MayGoOut, new_durable_session}

-- Where the first calls are durable, and the end stood there with the connection that the host has now, it is enough to know how many bytes
-- it had put by then: what is left of the hello may go out, and the stream up to there
abbrev pub GateIsCounted : Type 0
GateIsCounted =
    (id : Id) (events : List Event) (w : DurableSession) (front rest : List Call) (b : End) (attempt count : ℕ) (old new : List ℕ)
    → LeadsOverCrashes id (new_durable_session id) events w → w.session.host_calls ≡ front ++ rest → length front ≡ w.durable
    → LedTo id front b → is_up w.session.host.phase ≡ true → b.attempt ≡ w.session.host.attempt → attempt ≡ w.session.host.attempt
    → length old ≤ length w.session.host.hello + (put_count b - gone_count w.session.host)
    → MayGoOut id w (TakeOut attempt old (Ok count) new)
