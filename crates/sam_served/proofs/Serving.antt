-- A session whose host is a server that crashes is a session without crashes.
use Rattle.std.proofs.Common.{◌≡◌, inl, inr, ℕ, ◌+◌, ◌-◌, ◌<◌, ◌≤◌, suc, length, List, [], ◌∷◌, ◌++◌, take, take_all, drop, Bool, true, false, true≢false, None, Some, Ok, Err, refl, sym, ap, ◌∙◌, subst, append-nil, append_assoc, arith}
use Rattle.std.proofs.lemmas.Bool.Decides.{eqb_tells}
use Rattle.std.proofs.lemmas.Grind.{flat_map-append}
use Rattle.std.proofs.lemmas.List.{map-append}
use Rattle.std.specs.Prelude.{◌==◌, if◌then◌else◌}
use Rattle.sam_link.specs.Calls.{Call, Does, DoesAll, fed, out}
use Rattle.sam_link.specs.Calls.Call.{Acknowledge, Answer, Ask, Break, Dial, Feed, NextNote, Put, PutNote, TakeIn, TakeOut, Welcome}
use Rattle.sam_link.specs.End.{End, broken, ended, fresh, is_up}
use Rattle.sam_link.specs.Inbox.{Waiting}
use Rattle.sam_link.specs.Packets.{Packet}
use Rattle.sam_link.specs.Sessions.{IsFrom, StartsWith, WasCarried, host_did, is_taken}
use Rattle.sam_link.specs.declared.hello.Id.{Id}
use Rattle.sam_link.specs.declared.phase.Phase.TheVariants.{Down}
use Rattle.sam_link.specs.declared.phase.Role.TheVariants.{Host}
use Rattle.sam_endpoint.specs.HostEndpoints.{Adds, Marks, PlainHostEndpoint}
use Rattle.sam_endpoint.specs.HostRuns.{Runs, begun_with}
use Rattle.sam_host.specs.Host.{new_host}
use Rattle.sam_server.specs.Gates.{PlainGate}
use Rattle.sam_served.specs.Crashes.{AreLike, LedTo, MayGoOut, DurableSession, left, over}
use Rattle.sam_served.specs.Gates.{gone_count, put_count}
use Rattle.sam_server.specs.Servers.{Acknowledged, Asked, Called, Came, Done, Effect, Handles, Joined, Makes, Marked, Pauses, PlainRecord, Said, Server, Takes, new_server, waits_for}
use Rattle.sam_served.specs.Serving.{ByTerminal, Crash, Did, Do, Entry, Event, LeadsServed, MadeOf, MayDo, Served, ServedAreMade, ServedAreSessions, Sync, Take, Took, WasBrought, calls_in, came, left_of, new_served, records_in, asides_by_records}
use Rattle.sam_served.specs.Marks.{GatesKeepTheRule, MarksAreRight, StandsAt}
use Rattle.sam_served.specs.Turns.{IsSettled}
use Rattle.sam_served.proofs.Crashing.{Stands, by_crash, by_host, by_sync, by_terminal, like_role, made_of, over_at_once, with_host}
use Rattle.sam_served.proofs.Counting.{up_is_one}
use Rattle.sam_served.proofs.Entries.{Alt, DidIs, Logged, Turned, Went, all_calls, all_hosts, alt_left, calls_left, calls_of, did_break, did_out, entry, log_left, log_of, logged_does, logged_fed, logged_asides, logged_on, logged_out, logged_put, logged_runs, logged_took, size, size_all, size_grows, size_left, size_more, size_whole, turn_is}
use Rattle.sam_served.proofs.Gates.{Fine, all_fine, fronts_ahead, none_out}
use Rattle.sam_served.proofs.Lefts.{TookNone, carried_left, left_all}
use Rattle.sam_served.proofs.Likes.{like_follows, may_not}
use Rattle.sam_server.proofs.One.{one_end}
use Rattle.sam_server.proofs.OneMade.{one_is_made}
use Rattle.sam_served.proofs.Remaking.{Fronted, Same, front}
use Rattle.sam_served.proofs.Repeating.{first_fine}
use Rattle.sam_served.proofs.Turning.{AllQuiet, IsFirst, turns}

-- ## A server that is like another takes the same records

record TakesAlike (r : PlainRecord) (t z : Server) : Type 0 where
  to : Server
  takes : Takes t r to
  like : AreLike z.link to.link
  host : z.host ≡ to.host
  effect : z.effect ≡ to.effect

linked_alike : (r : PlainRecord) (s t z : Server) (l k : End) → s.host ≡ t.host → s.effect ≡ t.effect → Takes t r (record t { link = k })
    → AreLike l k → z ≡ record s { link = l } → TakesAlike r t z
linked_alike r s t z l k host effect takes like is =
    subst (λ x. TakesAlike r t x) (sym is)
    (record { to = record t { link = k }; takes = takes; like = like; host = host; effect = effect })

-- what waits behind an effect is handled alike
done_alike : (ending : ℕ) (s t z : Server) (e : Effect) → s.link.role ≡ Host
    → (over s.link ≡ over t.link) × (s.link.phase ≡ Down) × (t.link.phase ≡ Down) → s.host ≡ t.host → s.effect ≡ t.effect
    → s.effect ≡ Some e → Handles s.link s.host None z → TakesAlike (Done ending) t z
done_alike ending s t z e role o host effect was (m, pauses, (n, puts, is)) =
    let packets : s.link.waiting.packets ≡ t.link.waiting.packets = ap (λ (k : End). k.waiting.packets) o.0 in
    let like : AreLike (waits_for s.link m.packets) (waits_for t.link m.packets) =
    inr (ap (λ (k : End). over (waits_for k m.packets)) o.0, o.1, o.2) in
    let f = like_follows (Put m.host.pending_bytes (Ok tt)) (waits_for s.link m.packets) (waits_for t.link m.packets) n role like puts in
    subst (λ x. TakesAlike (Done ending) t x) (sym is)
    (record {
      to = record { link = f.to; host = record m.host { pending_bytes = [] }; effect = m.effect };
      takes = (
        e,
        sym effect ∙ was,
        (
          m,
          subst (λ (ps : List Packet). Pauses (record { packets = ps; host = t.host; effect = None }) m) packets
              (subst (λ (h : PlainHostEndpoint). Pauses (record { packets = s.link.waiting.packets; host = h; effect = None }) m) host pauses),
          (f.to, f.does, refl),
        ),
      );
      like = f.like;
      host = refl;
      effect = refl;
    })

takes_alike : (r : PlainRecord) (s t z : Server) → s.link.role ≡ Host → AreLike s.link t.link → s.host ≡ t.host → s.effect ≡ t.effect
    → Takes s r z → TakesAlike r t z
takes_alike r s t z role (inl same) host effect takes =
    let all : s ≡ t = λ i. record { link = same i; host = host i; effect = effect i } in
    record { to = z; takes = subst (λ k. Takes k r z) all takes; like = inl refl; host = refl; effect = refl }
takes_alike (Joined name text) s t z role (inr o) host effect (tag, k, adds, is) =
    subst (λ x. TakesAlike (Joined name text) t x) (sym is)
    (record {
      to = record t { host = k };
      takes = (tag, k, subst (λ h. Adds h name text (Ok tag) k) host adds, refl);
      like = inr o;
      host = refl;
      effect = effect;
    })
takes_alike (Marked f) s t z role (inr o) host effect (k, marks, (l, does, is)) =
    let g = like_follows (Put k.pending_bytes (Ok tt)) s.link t.link l role (inr o) does in
    subst (λ x. TakesAlike (Marked f) t x) (sym is)
    (record {
      to = record t { link = g.to; host = record k { pending_bytes = [] } };
      takes = (k, subst (λ h. Marks h f (Ok tt) k) host marks, (g.to, g.does, refl));
      like = g.like;
      host = refl;
      effect = effect;
    })
takes_alike (Called hello) s t z role (inr o) host effect (l, does, is) =
    let f = like_follows (Answer hello (Ok tt)) s.link t.link l role (inr o) does in
    linked_alike (Called hello) s t z l f.to host effect (f.to, f.does, refl) f.like is
takes_alike (Came attempt piece) s t z role (inr o) host effect (l, does, handles) = absurd (may_not s.link attempt o.1 does.2.0)
takes_alike (Said bytes) s t z role (inr o) host effect (l, does, is) =
    let f = like_follows (PutNote bytes (Ok tt)) s.link t.link l role (inr o) does in
    linked_alike (Said bytes) s t z l f.to host effect (f.to, f.does, refl) f.like is
takes_alike Acknowledged s t z role (inr o) host effect (l, does, is) =
    let f = like_follows (Acknowledge (Ok tt)) s.link t.link l role (inr o) does in
    linked_alike Acknowledged s t z l f.to host effect (f.to, f.does, refl) f.like is
takes_alike Asked s t z role (inr o) host effect (l, does, is) =
    let f = like_follows (Ask (Ok tt)) s.link t.link l role (inr o) does in
    linked_alike Asked s t z l f.to host effect (f.to, f.does, refl) f.like is
takes_alike (Done ending) s t z role (inr o) host effect (e, was, handles) = done_alike ending s t z e role o host effect was handles

-- ## Calls of a turn

-- the world with other calls of the host
abbrev host_at : DurableSession → List Call → End → DurableSession
host_at w calls e = record w { session = record w.session { host = e; host_calls = calls } }

may_none : (id : Id) (w : DurableSession) (c : Call) → TookNone c → MayGoOut id w c
may_none id w (TakeOut attempt old (Ok count) new) x = absurd (none_out (TakeOut attempt old (Ok count) new) x.goes)
may_none id w (TakeOut attempt old (Err why) new) x = tt
may_none id w (Dial take_over answer) x = tt
may_none id w (Answer hello answer) x = tt
may_none id w (Welcome hello answer) x = tt
may_none id w (Break attempt) x = tt
may_none id w (Put bytes answer) x = tt
may_none id w (PutNote bytes answer) x = tt
may_none id w (Ask answer) x = tt
may_none id w (Acknowledge answer) x = tt
may_none id w (Feed attempt piece answer) x = tt
may_none id w (TakeIn old count new) x = tt
may_none id w (NextNote answer) x = tt

quiet_hosts : (cs : List Call) (id : Id) (w : DurableSession) (e : End) → Stands id w → AllQuiet cs → DoesAll w.session.host cs e
    → Stands id (host_at w (w.session.host_calls ++ cs) e)
quiet_hosts [] id w e x quiet is =
    subst (λ l. Stands id (host_at w l e)) (sym (append-nil w.session.host_calls))
    (subst (λ k. Stands id (host_at w w.session.host_calls k)) (sym is) x)
quiet_hosts (c ∷ cs) id w e x quiet (m, does, rest) =
    let next =
    by_host id w x c m does (may_none id w c quiet.0.none) (λ taken. quiet.0.carried w.session.host_calls w.session.terminal_calls) in
    subst (λ l. Stands id (host_at w l e)) (append_assoc w.session.host_calls (c ∷ []) cs)
    (quiet_hosts cs id (record w { session = host_did w.session c m }) e next quiet.1 rest)

single : (id : Id) (w : DurableSession) (c : Call) (first : List Call) (e : End) → Stands id w → first ≡ c ∷ []
    → DoesAll w.session.host first e
    → MayGoOut id w c
    → WasCarried w.session.host_calls w.session.terminal_calls c → Stands id (host_at w (w.session.host_calls ++ first) e)
single id w c first e x is all may carried =
    let mine = subst (λ l. DoesAll w.session.host l e) is all in
    let here = subst (λ k. Does w.session.host c k) (sym mine.2) mine.1 in
    subst (λ l. Stands id (host_at w (w.session.host_calls ++ l) e)) (sym is) (by_host id w x c e here may (λ taken. carried))

nothing_first : (id : Id) (w : DurableSession) (first : List Call) (e : End) → Stands id w → first ≡ [] → DoesAll w.session.host first e
    → Stands id (host_at w (w.session.host_calls ++ first) e)
nothing_first id w first e x is all =
    let mine : e ≡ w.session.host = subst (λ l. DoesAll w.session.host l e) is all in
    subst (λ l. Stands id (host_at w (w.session.host_calls ++ l) e)) (sym is)
    (subst (λ l. Stands id (host_at w l e)) (sym (append-nil w.session.host_calls))
    (subst (λ k. Stands id (host_at w w.session.host_calls k)) (sym mine) x))

abbrev Brings : List Call → List Call → PlainRecord → Type 0
Brings mine theirs (Marked f) = Unit {0}
Brings mine theirs (Called hello) = IsFrom theirs hello
Brings mine theirs (Came attempt piece) = StartsWith (drop 42 (out attempt theirs)) (fed attempt mine ++ piece)
Brings mine theirs (Joined name text) = Unit {0}
Brings mine theirs (Said bytes) = Unit {0}
Brings mine theirs Acknowledged = Unit {0}
Brings mine theirs Asked = Unit {0}
Brings mine theirs (Done ending) = Unit {0}

first_hosts : (r : PlainRecord) (id : Id) (w : DurableSession) (first : List Call) (e : End) → Stands id w → IsFirst r first
    → DoesAll w.session.host first e
    → Brings w.session.host_calls w.session.terminal_calls r → Stands id (host_at w (w.session.host_calls ++ first) e)
first_hosts (Joined name text) id w first e x is all brings = nothing_first id w first e x is all
first_hosts (Marked f) id w first e x is all brings = nothing_first id w first e x is all
first_hosts (Called hello) id w first e x is all brings = single id w (Answer hello (Ok tt)) first e x is all tt brings
first_hosts (Came attempt piece) id w first e x is all brings = single id w (Feed attempt piece (Ok tt)) first e x is all tt brings
first_hosts (Said bytes) id w first e x is all brings = single id w (PutNote bytes (Ok tt)) first e x is all tt tt
first_hosts Acknowledged id w first e x is all brings = single id w (Acknowledge (Ok tt)) first e x is all tt tt
first_hosts Asked id w first e x is all brings = single id w (Ask (Ok tt)) first e x is all tt tt
first_hosts (Done ending) id w first e x is all brings = nothing_first id w first e x is all

brings_by : (r : PlainRecord) (mine theirs : List Call) (records : List PlainRecord) → ((a : ℕ) → fed a mine ≡ came a records)
    → WasBrought records theirs r → Brings mine theirs r
brings_by (Marked f) mine theirs records same x = tt
brings_by (Called hello) mine theirs records same x = x
brings_by (Came attempt piece) mine theirs records same x =
    subst (λ l. StartsWith (drop 42 (out attempt theirs)) (l ++ piece)) (sym (same attempt)) x
brings_by (Joined name text) mine theirs records same x = tt
brings_by (Said bytes) mine theirs records same x = tt
brings_by Acknowledged mine theirs records same x = tt
brings_by Asked mine theirs records same x = tt
brings_by (Done ending) mine theirs records same x = tt

-- ## What holds

abbrev durable_session_of : Served → List Alt → Server → DurableSession
durable_session_of w xs alt = record {
  session = record { terminal = w.terminal; host = alt.link; terminal_calls = w.terminal_calls; host_calls = all_calls xs };
  durable = size w.durable xs;
}

record Holds (id : Id) (w : Served) : Type 0 where
  xs : List Alt
  alt : Server
  log_is : log_of xs ≡ w.log
  logged : Logged (new_server id) xs alt
  like : AreLike w.server.link alt.link
  host : w.server.host ≡ alt.host
  effect : w.server.effect ≡ alt.effect
  settled : IsSettled alt
  stands : Stands id (durable_session_of w xs alt)

settled_all : (xs : List Alt) (s z : Server) → IsSettled s → Logged s xs z → IsSettled z
settled_all [] s z settled is = subst IsSettled (sym is) settled
settled_all (Turned r cs hs ∷ xs) s z settled (m, turn, rest) = settled_all xs m z (turns s m r settled turn.takes).1 rest
settled_all (Went c ∷ xs) s z settled (l, does, did, rest) =
    settled_all xs (record s { link = l }) z
    (record {
      part = ap (λ (v : Waiting). v.part) (did.waits s.link l does) ∙ settled.part;
      answers = settled.answers;
      writes = settled.writes;
    }) rest

new_settled : (id : Id) → IsSettled (new_server id)
new_settled id = record { part = refl; answers = refl; writes = refl }

new_same : (id : Id) → Same (new_server id) (new_server id)
new_same id = record { back = record { same = refl; open_too = λ up. up }; host = refl; effect = refl }

one_more : (xs : List Alt) (x : Alt) → all_calls (xs ++ x ∷ []) ≡ all_calls xs ++ calls_of x
one_more xs x = flat_map-append calls_of xs (x ∷ []) ∙ ap (λ (l : List Call). all_calls xs ++ l) (append-nil (calls_of x))

log_more : (xs : List Alt) (x : Alt) (log : List Entry) → log_of xs ≡ log → log_of (xs ++ x ∷ []) ≡ log ++ entry x ∷ []
log_more xs x log is = map-append entry xs (x ∷ []) ∙ ap (λ (l : List Entry). l ++ entry x ∷ []) is

module _ (id : Id) (w : Served) (x : Holds id w) where
  abbrev ours : DurableSession
  ours = durable_session_of w x.xs x.alt

  alt_fine : Fine x.alt.link
  alt_fine = all_fine (all_calls x.xs) (fresh Host id) x.alt.link (first_fine id) (logged_does x.xs (new_server id) x.alt x.logged)

  role : w.server.link.role ≡ Host
  role = like_role w.server.link x.alt.link x.like ∙ alt_fine.role

  terminal_holds : (c : Call) (t : End) → Does w.terminal c t → (is_taken c ≡ true → WasCarried w.terminal_calls (calls_in w.log) c)
      → Holds id (record w { terminal = t; terminal_calls = w.terminal_calls ++ c ∷ [] })
  terminal_holds c t does carried = record {
    xs = x.xs;
    alt = x.alt;
    log_is = x.log_is;
    logged = x.logged;
    like = x.like;
    host = x.host;
    effect = x.effect;
    settled = x.settled;
    stands = by_terminal id ours x.stands c t does (λ taken. carried_left w.terminal_calls (calls_in w.log) (all_calls x.xs) c
        (λ m. ap (λ (l : List Entry). out m (calls_in l)) (sym x.log_is) ∙ sym (logged_out m x.xs (new_server id) x.alt x.logged))
        (carried taken));
  }

  take_holds : (r : PlainRecord) (z : Server) → Takes w.server r z → WasBrought (records_in w.log) w.terminal_calls r
      → Holds id (record w { server = z; log = w.log ++ Took r ∷ [] })
  take_holds r z takes brought =
      let a = takes_alike r w.server x.alt z role x.like x.host x.effect takes in
      let t = turns x.alt a.to r x.settled a.takes in
      let b = t.0 in
      let cs = b.first ++ b.rest.calls in
      let brings = brings_by r (all_calls x.xs) w.terminal_calls (records_in w.log)
      (λ n. logged_fed n x.xs (new_server id) x.alt x.logged ∙ ap (λ (l : List Entry). came n (records_in l)) x.log_is) brought in
      let first = first_hosts r id ours b.first b.middle.link x.stands b.is_first b.does_first brings in
      let all =
      quiet_hosts b.rest.calls id (host_at ours (all_calls x.xs ++ b.first) b.middle.link) a.to.link first b.rest.quiet b.rest.does in
      let here : Stands id (host_at ours (all_calls (x.xs ++ Turned r (b.first ++ b.rest.calls) (b.first_hosts ++ b.rest.host_calls) ∷ []))
      a.to.link) =
      subst (λ l. Stands id (host_at ours l a.to.link))
      (append_assoc (all_calls x.xs) b.first b.rest.calls
      ∙ sym (one_more x.xs (Turned r (b.first ++ b.rest.calls) (b.first_hosts ++ b.rest.host_calls)))) all in
      record {
        xs = x.xs ++ Turned r (b.first ++ b.rest.calls) (b.first_hosts ++ b.rest.host_calls) ∷ [];
        alt = a.to;
        log_is = log_more x.xs (Turned r (b.first ++ b.rest.calls) (b.first_hosts ++ b.rest.host_calls)) w.log x.log_is;
        logged =
            logged_on x.xs (Turned r (b.first ++ b.rest.calls) (b.first_hosts ++ b.rest.host_calls) ∷ []) (new_server id) x.alt a.to
            x.logged (a.to, turn_is r x.alt a.to b a.takes, refl);
        like = a.like;
        host = a.host;
        effect = a.effect;
        settled = t.1;
        stands = by_sync id _ here (size w.durable (x.xs ++ Turned r (b.first ++ b.rest.calls) (b.first_hosts ++ b.rest.host_calls) ∷ []))
            (size_more w.durable x.xs (Turned r (b.first ++ b.rest.calls) (b.first_hosts ++ b.rest.host_calls) ∷ []));
      }

  -- the end that a crash now would leave, and what would be made of the records
  fronted : (n : ℕ) (e : End) → LedTo id (left (size n x.xs) (all_calls x.xs)) e → Fronted n x.xs (new_server id) (new_server id) x.alt e
  fronted n e made = front n x.xs (new_server id) (new_server id) x.alt e (first_fine id) (new_same id) x.logged
      (subst (λ l. DoesAll (fresh Host id) l e) (sym (calls_left n x.xs (new_server id) x.alt x.logged)) made)

  is_made : (n : ℕ) (e : End) (m : Server) (made : LedTo id (left (size n x.xs) (all_calls x.xs)) e) → MadeOf id n w.log m
      → (fronted n e made).made ≡ m
  is_made n e m made makes = one_is_made id (take n (records_in (log_of x.xs))) (fronted n e made).made m (fronted n e made).makes
      (subst (λ l. Makes (new_server id) (take n (records_in l)) m) (sym x.log_is) makes)

  gate : (attempt count : ℕ) (old new : List ℕ) (a : End) → LedTo id (left (size w.durable x.xs) (all_calls x.xs)) a
      → is_up x.alt.link.phase ≡ true → a.attempt ≡ x.alt.link.attempt
      → attempt ≡ x.alt.link.attempt → length old ≤ length x.alt.link.hello + (put_count a - gone_count x.alt.link)
      → MayGoOut id ours (TakeOut attempt old (Ok count) new)
  gate attempt count old new a made up here number room =
      let calls = all_calls x.xs in
      let all : LedTo id (left (length calls) calls) x.alt.link =
      subst (λ l. LedTo id l x.alt.link) (sym (left_all (length calls) calls (omega arith)))
      (logged_does x.xs (new_server id) x.alt x.logged) in
      let k = (fronts_ahead (size w.durable x.xs) (length calls) calls (fresh Host id) a x.alt.link (size_all w.durable x.xs)
      (first_fine id) made all).alike here up in (
        a,
        made,
        ap is_up k.phase ∙ up,
        number ∙ sym here,
        omega (
          arith,
          room,
          k.place,
          ap length k.hello,
          (all_fine (left (size w.durable x.xs) calls) (fresh Host id) a (first_fine id) made).inside,
        ),
      )

  may_go : (c : Call) (l : End) → Does w.server.link c l → MayDo id w c → MayGoOut id ours c
  may_go (TakeOut attempt old (Ok count) new) l does (m, makes, here, room) =
      let one = up_is_one w.server.link x.alt.link x.like does.0 in
      let f = x.stands.fronts (size w.durable x.xs) (omega arith) in
      let made = made_of id (with_host ours.session (left (size w.durable x.xs) (all_calls x.xs)) f.host) f.steps f.leads in
      let r = fronted w.durable f.host made in
      let same : over f.host ≡ over m.link =
      ap over (sym r.link_is) ∙ r.same.back.same ∙ ap (λ (s : Server). over s.link) (is_made w.durable f.host m made makes) in
      let number : f.host.attempt ≡ m.link.attempt = ap (λ (e : End). e.attempt) same in
      let counts : put_count f.host ≡ put_count m.link = ap put_count same in
      gate attempt count old new f.host made (ap (λ (e : End). is_up e.phase) (sym one) ∙ does.0)
      (number ∙ here ∙ does.1 ∙ ap (λ (e : End). e.attempt) one) (does.1 ∙ ap (λ (e : End). e.attempt) one)
      (subst (λ e. length old ≤ length e.hello + (put_count f.host - gone_count e)) one
      (subst (λ n. length old ≤ length w.server.link.hello + (n - gone_count w.server.link)) (sym counts) room))
  may_go (TakeOut attempt old (Err why) new) l does may = tt
  may_go (Break attempt) l does may = tt
  may_go (Dial take_over answer) l does may = tt
  may_go (Answer hello answer) l does may = tt
  may_go (Welcome hello answer) l does may = tt
  may_go (Put bytes answer) l does may = tt
  may_go (PutNote bytes answer) l does may = tt
  may_go (Ask answer) l does may = tt
  may_go (Acknowledge answer) l does may = tt
  may_go (Feed attempt piece answer) l does may = tt
  may_go (TakeIn old count new) l does may = tt
  may_go (NextNote answer) l does may = tt

  did_may : (c : Call) → MayDo id w c → DidIs c
  did_may (TakeOut attempt old answer new) may = did_out attempt old new answer
  did_may (Break attempt) may = did_break attempt
  did_may (Dial take_over answer) may = absurd may
  did_may (Answer hello answer) may = absurd may
  did_may (Welcome hello answer) may = absurd may
  did_may (Put bytes answer) may = absurd may
  did_may (PutNote bytes answer) may = absurd may
  did_may (Ask answer) may = absurd may
  did_may (Acknowledge answer) may = absurd may
  did_may (Feed attempt piece answer) may = absurd may
  did_may (TakeIn old count new) may = absurd may
  did_may (NextNote answer) may = absurd may

  do_holds : (c : Call) (l : End) → Does w.server.link c l → MayDo id w c
      → Holds id (record w { server = record w.server { link = l }; log = w.log ++ Did c ∷ [] })
  do_holds c l does may =
      let did = did_may c may in
      let f = like_follows c w.server.link x.alt.link l role x.like does in
      let next = by_host id ours x.stands c f.to f.does (may_go c l does may) (λ taken. did.carried (all_calls x.xs) w.terminal_calls) in
      let here : Stands id (host_at ours (all_calls (x.xs ++ Went c ∷ [])) f.to) =
      subst (λ k. Stands id (host_at ours k f.to)) (sym (one_more x.xs (Went c))) next in
      record {
        xs = x.xs ++ Went c ∷ [];
        alt = record x.alt { link = f.to };
        log_is = log_more x.xs (Went c) w.log x.log_is;
        logged = logged_on x.xs (Went c ∷ []) (new_server id) x.alt (record x.alt { link = f.to }) x.logged (f.to, f.does, did, refl);
        like = f.like;
        host = x.host;
        effect = x.effect;
        settled =
            record {
              part = ap (λ (v : Waiting). v.part) (did.waits x.alt.link f.to f.does) ∙ x.settled.part;
              answers = x.settled.answers;
              writes = x.settled.writes;
            };
        stands = by_sync id _ here (size w.durable (x.xs ++ Went c ∷ [])) (size_more w.durable x.xs (Went c ∷ []));
      }

  sync_holds : (n : ℕ) → w.durable ≤ n → Holds id (record w { durable = n })
  sync_holds n less = record {
    xs = x.xs;
    alt = x.alt;
    log_is = x.log_is;
    logged = x.logged;
    like = x.like;
    host = x.host;
    effect = x.effect;
    settled = x.settled;
    stands = by_sync id ours x.stands (size n x.xs) (size_grows w.durable n x.xs less);
  }

  crash_holds : (n : ℕ) (m : Server) → w.durable ≤ n → MadeOf id n w.log m
      → Holds id (record w { server = record m { link = ended m.link }; log = left_of n w.log ++ Did (Break m.link.attempt) ∷ [] })
  crash_holds n m less makes =
      let k = size n x.xs in
      let fewer = size_grows w.durable n x.xs less in
      let f = x.stands.fronts k fewer in
      let made = made_of id (with_host ours.session (left k (all_calls x.xs)) f.host) f.steps f.leads in
      let r = fronted n f.host made in
      let one : r.made ≡ m = is_made n f.host m made makes in
      let same : over r.alt.link ≡ over m.link = r.same.back.same ∙ ap (λ (s : Server). over s.link) one in
      let number : m.link.attempt ≡ r.alt.link.attempt = ap (λ (e : End). e.attempt) (sym same) in
      let breaks : ended r.alt.link ≡ broken r.alt.link m.link.attempt =
      subst (λ a. ended r.alt.link ≡ broken r.alt.link a) (sym number) (over_at_once r.alt.link) in
      let last = by_crash id ours x.stands k f.host fewer made in
      let numbered : Stands id (host_at ours (left k (all_calls x.xs) ++ Break m.link.attempt ∷ []) (ended f.host)) =
      subst (λ a. Stands id (host_at ours (left k (all_calls x.xs) ++ Break a ∷ []) (ended f.host)))
      (ap (λ (e : End). e.attempt) (sym r.link_is) ∙ sym number) last in
      let called : Stands id (host_at ours (all_calls (alt_left n x.xs ++ Went (Break m.link.attempt) ∷ [])) (ended f.host)) =
      subst (λ l. Stands id (host_at ours l (ended f.host)))
      (ap (λ (l : List Call). l ++ Break m.link.attempt ∷ []) (sym (calls_left n x.xs (new_server id) x.alt x.logged))
      ∙ sym (one_more (alt_left n x.xs) (Went (Break m.link.attempt)))) numbered in
      let here : Stands id (host_at ours (all_calls (alt_left n x.xs ++ Went (Break m.link.attempt) ∷ [])) (ended r.alt.link)) =
      subst (λ e. Stands id (host_at ours (all_calls (alt_left n x.xs ++ Went (Break m.link.attempt) ∷ [])) (ended e))) (sym r.link_is)
      called in
      record {
        xs = alt_left n x.xs ++ Went (Break m.link.attempt) ∷ [];
        alt = record r.alt { link = ended r.alt.link };
        log_is = log_more (alt_left n x.xs) (Went (Break m.link.attempt)) (left_of n w.log) (log_left n x.xs ∙ ap (left_of n) x.log_is);
        logged =
            logged_on (alt_left n x.xs) (Went (Break m.link.attempt) ∷ []) (new_server id) r.alt (record r.alt { link = ended r.alt.link })
            r.logged
            (ended r.alt.link, breaks, did_break m.link.attempt, refl);
        like = inr (sym same, refl, refl);
        host = sym (r.same.host ∙ ap (λ (s : Server). s.host) one);
        effect = sym (r.same.effect ∙ ap (λ (s : Server). s.effect) one);
        settled =
            let s = settled_all (alt_left n x.xs) (new_server id) r.alt (new_settled id) r.logged in
            record { part = s.part; answers = s.answers; writes = s.writes };
        stands =
            by_sync id _ here (size w.durable (alt_left n x.xs ++ Went (Break m.link.attempt) ∷ []))
            (size_left w.durable n x.xs (Went (Break m.link.attempt) ∷ []) less);
      }

-- ## Whatever happens

all_holds : (id : Id) (events : List Event) (w z : Served) → Holds id w → LeadsServed id w events z → Holds id z
all_holds id [] w z x leads = subst (λ k. Holds id k) (sym leads) x
all_holds id (ByTerminal c ∷ events) w z x (t, does, carried, rest) = all_holds id events _ z (terminal_holds id w x c t does carried) rest
all_holds id (Take r ∷ events) w z x (s, takes, brought, rest) = all_holds id events _ z (take_holds id w x r s takes brought) rest
all_holds id (Do c ∷ events) w z x (l, does, may, rest) = all_holds id events _ z (do_holds id w x c l does may) rest
all_holds id (Sync n ∷ events) w z x (less, rest) = all_holds id events _ z (sync_holds id w x n less) rest
all_holds id (Crash n ∷ events) w z x (m, less, makes, rest) = all_holds id events _ z (crash_holds id w x n m less makes) rest

first_holds : (id : Id) → Holds id (new_served id)
first_holds id = record {
  xs = [];
  alt = new_server id;
  log_is = refl;
  logged = refl;
  like = inl refl;
  host = refl;
  effect = refl;
  settled = new_settled id;
  stands = record { steps = []; leads = refl; fronts = λ n less. record { steps = []; host = fresh Host id; leads = refl } };
}

pub served_are_sessions : ServedAreSessions
served_are_sessions id events w leads =
    let x = all_holds id events (new_served id) w (first_holds id) leads in
    record {
      steps = x.stands.steps;
      host = x.alt.link;
      host_calls = all_calls x.xs;
      leads = x.stands.leads;
      like = x.like;
      outs = λ attempt. logged_out attempt x.xs (new_server id) x.alt x.logged ∙ ap (λ (l : List Entry). out attempt (calls_in l)) x.log_is;
      answers = all_hosts x.xs;
      runs = subst (λ h. Runs (begun_with (new_host [])) (all_hosts x.xs) h) (sym x.host) (logged_runs x.xs (new_server id) x.alt x.logged);
      took = logged_took x.xs (new_server id) x.alt x.logged;
      put_all = logged_put x.xs (new_server id) x.alt x.logged;
      asides = logged_asides x.xs (new_server id) x.alt x.logged ∙ ap (λ (l : List Entry). asides_by_records (records_in l)) x.log_is;
    }

pub served_role : (id : Id) (events : List Event) (w : Served) → LeadsServed id (new_served id) events w → w.server.link.role ≡ Host
served_role id events w leads = role id w (all_holds id events (new_served id) w (first_holds id) leads)

pub served_are_made : ServedAreMade
served_are_made id events w n leads less =
    let x = all_holds id events (new_served id) w (first_holds id) leads in
    let f = x.stands.fronts (size n x.xs) (size_grows w.durable n x.xs less) in
    let made =
    made_of id (with_host (durable_session_of w x.xs x.alt).session (left (size n x.xs) (all_calls x.xs)) f.host) f.steps f.leads in
    let r = fronted id w x n f.host made in
    (r.made, subst (λ l. Makes (new_server id) (take n (records_in l)) r.made) x.log_is r.makes)

-- ## Marks

like_over : (a b : End) → AreLike a b → over a ≡ over b
like_over a b (inl same) = ap over same
like_over a b (inr o) = o.0

pub marks_are_right : MarksAreRight
marks_are_right id events w mark leads attempt put =
    let x = all_holds id events (new_served id) w (first_holds id) leads in
    let all = records_in w.log in
    let n = suc (length all) + w.durable in
    let fewer : length (records_in (log_of x.xs)) < n = omega (arith, ap (λ (l : List Entry). length (records_in l)) x.log_is) in
    let f = x.stands.fronts (size n x.xs) (size_grows w.durable n x.xs (omega arith)) in
    let made =
    made_of id (with_host (durable_session_of w x.xs x.alt).session (left (size n x.xs) (all_calls x.xs)) f.host) f.steps f.leads in
    let r = fronted id w x n f.host made in
    let whole : left (size n x.xs) (all_calls x.xs) ≡ all_calls x.xs =
    left_all (size n x.xs) (all_calls x.xs) (omega (arith, size_whole n x.xs fewer)) in
    let one : f.host ≡ x.alt.link =
    one_end (all_calls x.xs) (fresh Host id) f.host x.alt.link (subst (λ l. LedTo id l f.host) whole made)
    (logged_does x.xs (new_server id) x.alt x.logged) in
    let same : over w.server.link ≡ over r.made.link =
    like_over w.server.link x.alt.link x.like ∙ ap over (sym one ∙ sym r.link_is) ∙ r.same.back.same in
    let makes : Makes (new_server id) (take n all) r.made = subst (λ l. Makes (new_server id) (take n (records_in l)) r.made) x.log_is
    r.makes in (
      r.made,
      subst (λ l. Makes (new_server id) l r.made) (take_all n all (omega arith)) makes,
      attempt ∙ ap (λ (e : End). e.attempt) same,
      put ∙ ap put_count same,
    )

-- and it has its effect
pub effect_stands : (id : Id) (events : List Event) (w : Served) → LeadsServed id (new_served id) events w
    → (m : Server) × Makes (new_server id) (records_in w.log) m × (m.effect ≡ w.server.effect)
effect_stands id events w leads =
    let x = all_holds id events (new_served id) w (first_holds id) leads in
    let all = records_in w.log in
    let n = suc (length all) + w.durable in
    let fewer : length (records_in (log_of x.xs)) < n = omega (arith, ap (λ (l : List Entry). length (records_in l)) x.log_is) in
    let f = x.stands.fronts (size n x.xs) (size_grows w.durable n x.xs (omega arith)) in
    let made =
    made_of id (with_host (durable_session_of w x.xs x.alt).session (left (size n x.xs) (all_calls x.xs)) f.host) f.steps f.leads in
    let r = fronted id w x n f.host made in
    let makes : Makes (new_server id) (take n all) r.made = subst (λ l. Makes (new_server id) (take n (records_in l)) r.made) x.log_is
    r.makes in (
      r.made,
      subst (λ l. Makes (new_server id) l r.made) (take_all n all (omega arith)) makes,
      sym r.same.effect ∙ ap (λ (s : Server). s.effect) (r.whole fewer) ∙ sym x.effect,
    )

pub is_one_connection : (a b : ℕ) → (a == b) ≡ true → a ≡ b
is_one_connection a b same = elim (eqb_tells a b) [ inl one ↦ one.1 | inr other ↦ absurd (true≢false (sym same ∙ other.0)) ]

kept_by : (id : Id) (w : Served) (gate : PlainGate) (is_one : Bool) (attempt count hello gone : ℕ) (old new : List ℕ)
    → (gate.base.attempt == attempt) ≡ is_one → StandsAt id (take w.durable (records_in w.log)) gate.base → 0 < length old
    → hello ≡ length w.server.link.hello → gone ≡ gone_count w.server.link
    → length old ≤ (if is_one then hello + (gate.base.put - gone) else 0) → MayDo id w (TakeOut attempt old (Ok count) new)
kept_by id w gate false attempt count hello gone old new here stands some hello_is gone_is room = absurd (omega (arith, some, room))
kept_by id w gate true attempt count hello gone old new here (m, makes, number, put) some hello_is gone_is room = (
  m,
  makes,
  sym number ∙ is_one_connection gate.base.attempt attempt here,
  omega (arith, room, put, hello_is, gone_is),
)

pub gates_keep_the_rule : GatesKeepTheRule
gates_keep_the_rule id w gate attempt count old new stands some room =
    kept_by id w gate (gate.base.attempt == attempt) attempt count (length w.server.link.hello) (gone_count w.server.link) old new refl
    stands
    some refl refl room
