-- What a crash leaves of a journal's file is read, and is a crash of the session's program.
use Rattle.std.proofs.Common.{ℕ, List, [], ◌∷◌, ◌++◌, refl, subst}
use Rattle.sam_link.specs.declared.hello.Id.{Id}
use Rattle.sam_server.specs.Servers.{new_server}
use Rattle.sam_served.specs.Programs.Act.{Crash}
use Rattle.sam_served.specs.Recoveries.{RetakesAll}
use Rattle.sam_served.proofs.Journals.{goes_on_from}
use Rattle.sam_end_to_end.specs.Journals.{JournalsAreCrashes, session_on}
use Rattle.sam_end_to_end.specs.Sessions.{ByClient, ByProgram, Event, Leads, Session, new_session}

events_lead_on : (id : Id) (events more : List Event) (s m z : Session) → Leads id s events m → Leads id m more z → Leads id s (events ++ more) z
events_lead_on id [] more s m z is last = subst (λ (x : Session). Leads id x more z) is last
events_lead_on id (ByClient act ∷ events) more s m z (n, does, going, brought, rest) last =
    (n, does, going, brought, events_lead_on id events more _ m z rest last)
events_lead_on id (ByProgram act ∷ events) more s m z (p, fit, leads, rest) last =
    (p, fit, leads, events_lead_on id events more _ m z rest last)

pub journals_are_crashes : JournalsAreCrashes
journals_are_crashes id take_over now events s random es durable n answer leads of left reads =
    let x = goes_on_from s.program random es durable n answer of left reads in
    record {
      count = x.count;
      read = x.read;
      is = λ m. record { is = (x.is m).is; bodies = (x.is m).bodies };
      leads = λ m retakes.
          events_lead_on id events (ByProgram (Crash x.count) ∷ []) (new_session id take_over now) s (session_on s x.count m) leads (
            (session_on s x.count m).program,
            tt,
            (m, x.said, x.got, subst (λ (l : List (List ℕ)). RetakesAll (new_server id) l m) x.bodies retakes, refl),
            refl,
          );
    }
