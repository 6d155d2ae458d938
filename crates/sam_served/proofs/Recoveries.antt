-- What is made of bodies is made of their records.
use Rattle.std.proofs.Common.{◌≡◌, ℕ, ◌≤◌, List, [], ◌∷◌, ◌++◌, take, Err, refl, subst}
use Rattle.sam_link.specs.declared.hello.Id.{Id}
use Rattle.sam_server.specs.Records.{PlainRecord, Spells}
use Rattle.sam_server.specs.Recovering.{Retakes}
use Rattle.sam_server.specs.Servers.{Makes, Server, Takes, given, new_server}
use Rattle.sam_server.specs.declared.recovery.RecoveryFault.{RecoveryFault}
use Rattle.sam_server.specs.declared.recovery.RecoveryFault.TheVariants.{NoRecord, NotTaken, OutOfMemory}
use Rattle.sam_server.proofs.OneMade.{one_is_made}
use Rattle.sam_server.proofs.Records.{one_record}
use Rattle.sam_served.specs.Recoveries.{RecoveriesAreCrashes, RecoveriesGoOn, RetakesAll, SpellAll}
use Rattle.sam_served.specs.Serving.{ByTerminal, Crash, Do, Event, LeadsServed, Served, Sync, Take, crashed, new_served, records_in}
use Rattle.sam_served.proofs.Serving.{served_are_made}

pub made_of : (records : List PlainRecord) (bodies : List (List ℕ)) (s z : Server) → SpellAll records bodies → RetakesAll s bodies z
    → Makes s records z
made_of [] [] s z spell again = again
made_of [] (body ∷ bodies) s z spell again = absurd spell
made_of (r ∷ records) [] s z spell again = absurd spell
made_of (r ∷ records) (body ∷ bodies) s z (spells, spell) (m, (x, spells_too, takes), again) = (
  m,
  subst (λ (y : PlainRecord). Takes (given s) y m) (one_record x r body spells_too spells) takes,
  made_of records bodies m z spell again,
)

-- these events, and one crash more
crashes_more : (id : Id) (events : List Event) (v w : Served) (n : ℕ) (s : Server) → LeadsServed id v events w → w.durable ≤ n
    → Makes (new_server id) (take n (records_in w.log)) s → LeadsServed id v (events ++ Crash n ∷ []) (crashed w n s)
crashes_more id [] v w n s leads less makes =
    subst (λ (x : Served). LeadsServed id x (Crash n ∷ []) (crashed w n s)) leads (s, less, makes, refl)
crashes_more id (ByTerminal call ∷ events) v w n s (t, does, carried, rest) less makes =
    (t, does, carried, crashes_more id events _ w n s rest less makes)
crashes_more id (Take r ∷ events) v w n s (t, takes, brought, rest) less makes =
    (t, takes, brought, crashes_more id events _ w n s rest less makes)
crashes_more id (Do call ∷ events) v w n s (l, does, may, rest) less makes =
    (l, does, may, crashes_more id events _ w n s rest less makes)
crashes_more id (Sync k ∷ events) v w n s (more, rest) less makes = (more, crashes_more id events _ w n s rest less makes)
crashes_more id (Crash k ∷ events) v w n s (m, more, made, rest) less makes =
    (m, more, made, crashes_more id events _ w n s rest less makes)

pub recoveries_are_crashes : RecoveriesAreCrashes
recoveries_are_crashes id events w n bodies s leads less spell again =
    let makes = made_of (take n (records_in w.log)) bodies (new_server id) s spell again in
    (crashes_more id events (new_served id) w n s leads less makes, refl, (s, makes, refl, refl))

-- what is made of some records was made of the first of them, and then of the others
made_on : (front rest : List PlainRecord) (s z : Server) → Makes s (front ++ rest) z
    → (m : Server) × Makes s front m × Makes m rest z
made_on [] rest s z makes = (s, refl, makes)
made_on (r ∷ front) rest s z (m, takes, makes) =
    let (k, first, others) = made_on front rest m z makes in (k, (m, takes, first), others)

refused_for : (s z : Server) (r : PlainRecord) (body : List ℕ) (why : RecoveryFault) → Spells r body → Takes (given s) r z
    → Retakes s body (Err why) → why ≡ OutOfMemory
refused_for s z r body NoRecord spells takes not = absurd (not r spells)
refused_for s z r body NotTaken spells takes (x, spells_too, never) =
    absurd (never z (subst (λ (y : PlainRecord). Takes (given s) y z) (one_record r x body spells spells_too) takes))
refused_for s z r body OutOfMemory spells takes not = refl

pub recoveries_go_on : RecoveriesGoOn
recoveries_go_on id events w n front rest r bodies body s why leads less is spell spells again not =
    let (z, all) = served_are_made id events w n leads less in
    let (m, first, (k, takes, others)) =
    made_on front (r ∷ rest) (new_server id) z (subst (λ (l : List PlainRecord). Makes (new_server id) l z) is all) in
    let same : m ≡ s = one_is_made id front m s first (made_of front bodies (new_server id) s spell again) in
    refused_for s k r body why spells (subst (λ (x : Server). Takes (given x) r k) same takes) not
