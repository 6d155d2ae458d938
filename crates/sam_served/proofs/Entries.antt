-- What happened at a server, with the calls that it was.
use Rattle.std.proofs.Common.{◌≡◌, ℕ, zero, suc, ◌+◌, ◌<◌, ◌≤◌, length, List, [], ◌∷◌, ◌++◌, map, flat_map, Bool, true, false, Result, Ok, Err, refl, sym, ap, ◌∙◌, subst, append-nil, arith, length-append}
use Rattle.std.proofs.lemmas.Grind.{flat_map-append}
use Rattle.std.proofs.lemmas.List.{map-append}
use Rattle.std.specs.Prelude.{◌==◌, if◌then◌else◌}
use Rattle.sam_link.specs.Calls.{Call, Does, DoesAll, byte_of, bytes_of, fed, fed_by, handed, handed_by, out, out_by, put, put_by}
use Rattle.sam_link.specs.Calls.Call.{Acknowledge, Answer, Ask, Break, Feed, PutNote, TakeOut}
use Rattle.sam_link.specs.End.{End, TakesOut, ended}
use Rattle.sam_link.specs.Sessions.{WasCarried}
use Rattle.sam_link.specs.declared.fault.NotOpen.{NotOpen}
use Rattle.sam_host.specs.Asides.{Aside}
use Rattle.sam_endpoint.specs.HostRuns.{Runs, came_in, asides_by}
use Rattle.sam_endpoint.specs.HostRuns.{Call as HostCall, went_out as answered_by}
use Rattle.sam_served.specs.Crashes.{in_journal, left, went_out}
use Rattle.sam_server.specs.Servers.{Acknowledged, Asked, Called, Came, Done, Joined, Marked, PlainRecord, Said, Server, Takes}
use Rattle.sam_served.specs.Serving.{Did, Entry, Took, came, calls_in, left_of, piece_of, records_in, aside_of, asides_by_records, asides_by_calls}
use Rattle.sam_served.proofs.Lefts.{TookNone}
use Rattle.sam_served.proofs.Turning.{AllQuiet, IsFirst, TurnBy, does_on, runs_on, put_both, took_both}

pub data Alt : Type 0 where
  Turned : PlainRecord → List Call → List HostCall → Alt
  Went : Call → Alt

abbrev pub entry : Alt → Entry
entry (Turned r cs hs) = Took r
entry (Went c) = Did c

abbrev pub calls_of : Alt → List Call
calls_of (Turned r cs hs) = cs
calls_of (Went c) = c ∷ []

abbrev pub hosts_of : Alt → List HostCall
hosts_of (Turned r cs hs) = hs
hosts_of (Went c) = []

abbrev pub log_of : List Alt → List Entry
log_of xs = map entry xs

abbrev pub all_calls : List Alt → List Call
all_calls xs = flat_map calls_of xs

abbrev pub all_hosts : List Alt → List HostCall
all_hosts xs = flat_map hosts_of xs

-- ## Calls that a program makes between records

pub record DidIs (c : Call) : Type 0 where
  pub none : in_journal c ≡ []
  pub unfed : (a : ℕ) → fed_by a c ≡ []
  pub unhanded : handed_by c ≡ []
  pub unput : put_by c ≡ []
  pub carried : (mine theirs : List Call) → WasCarried mine theirs c
  pub waits : (e n : End) → Does e c n → n.waiting ≡ e.waiting

out_waits : (e n : End) (attempt : ℕ) (old new : List ℕ) (answer : Result ℕ NotOpen) → TakesOut e attempt old answer new n
    → n.waiting ≡ e.waiting
out_waits e n attempt old new (Ok count) x = ap (λ (k : End). k.waiting) x.4
out_waits e n attempt old new (Err why) x = ap (λ (k : End). k.waiting) x.2

pub did_out : (attempt : ℕ) (old new : List ℕ) (answer : Result ℕ NotOpen) → DidIs (TakeOut attempt old answer new)
did_out attempt old new answer = record {
  none = refl;
  unfed = λ a. refl;
  unhanded = refl;
  unput = refl;
  carried = λ mine theirs. tt;
  waits = λ e n x. out_waits e n attempt old new answer x;
}

break_waits : (t : Bool) (e n : End) → n ≡ (if t then ended e else e) → n.waiting ≡ e.waiting
break_waits true e n is = ap (λ (k : End). k.waiting) is
break_waits false e n is = ap (λ (k : End). k.waiting) is

pub did_break : (attempt : ℕ) → DidIs (Break attempt)
did_break attempt = record {
  none = refl;
  unfed = λ a. refl;
  unhanded = refl;
  unput = refl;
  carried = λ mine theirs. tt;
  waits = λ e n x. break_waits (attempt == e.attempt) e n x;
}

-- ## Turns

abbrev pub AllNone : List Call → Type 0
AllNone [] = Unit {0}
AllNone (c ∷ cs) = TookNone c × AllNone cs

pub record TurnIs (r : PlainRecord) (s m : Server) (cs : List Call) (hs : List HostCall) : Type 0 where
  pub takes : Takes s r m
  pub does : DoesAll s.link cs m.link
  pub runs : Runs s.host hs m.host
  pub took : flat_map came_in hs ≡ bytes_of (handed cs)
  pub put_all : bytes_of (put cs) ≡ flat_map answered_by hs
  pub fed_is : (a : ℕ) → fed a cs ≡ piece_of a r
  pub none : AllNone cs
  pub asides : asides_by_calls hs ≡ aside_of r

none_on : (a b : List Call) → AllNone a → AllNone b → AllNone (a ++ b)
none_on [] b x y = y
none_on (c ∷ a) b x y = (x.0, none_on a b x.1 y)

none_quiet : (cs : List Call) → AllQuiet cs → AllNone cs
none_quiet [] q = tt
none_quiet (c ∷ cs) q = (q.0.none, none_quiet cs q.1)

fed_quiet : (a : ℕ) (cs : List Call) → AllQuiet cs → fed a cs ≡ []
fed_quiet a [] q = refl
fed_quiet a (c ∷ cs) q = ap (λ (l : List ℕ). l ++ fed a cs) (q.0.unfed a) ∙ fed_quiet a cs q.1

took_none : (c : Call) → went_out c ≡ [] → ((m : ℕ) → out_by m c ≡ []) → AllNone (c ∷ [])
took_none c goes silent = (record { goes = goes; silent = silent }, tt)

first_none : (r : PlainRecord) (first : List Call) → IsFirst r first → AllNone first
first_none (Joined name text) first is = subst AllNone (sym is) tt
first_none (Marked f) first is = subst AllNone (sym is) tt
first_none (Called hello) first is = subst AllNone (sym is) (took_none (Answer hello (Ok tt)) refl (λ m. refl))
first_none (Came attempt piece) first is = subst AllNone (sym is) (took_none (Feed attempt piece (Ok tt)) refl (λ m. refl))
first_none (Said bytes) first is = subst AllNone (sym is) (took_none (PutNote bytes (Ok tt)) refl (λ m. refl))
first_none Acknowledged first is = subst AllNone (sym is) (took_none (Acknowledge (Ok tt)) refl (λ m. refl))
first_none Asked first is = subst AllNone (sym is) (took_none (Ask (Ok tt)) refl (λ m. refl))
first_none (Done ending) first is = subst AllNone (sym is) tt

first_fed : (a : ℕ) (r : PlainRecord) (first : List Call) → IsFirst r first → fed a first ≡ piece_of a r
first_fed a (Joined name text) first is = ap (fed a) is
first_fed a (Marked f) first is = ap (fed a) is
first_fed a (Called hello) first is = ap (fed a) is
first_fed a (Came attempt piece) first is = ap (fed a) is ∙ append-nil (if attempt == a then piece else [])
first_fed a (Said bytes) first is = ap (fed a) is
first_fed a Acknowledged first is = ap (fed a) is
first_fed a Asked first is = ap (fed a) is
first_fed a (Done ending) first is = ap (fed a) is

asides_more : (a b : List HostCall) → asides_by_calls (a ++ b) ≡ asides_by_calls a ++ asides_by_calls b
asides_more a b =
    ap (map (λ (aside : ℕ × Aside). aside.1)) (flat_map-append asides_by a b)
    ∙ map-append (λ (aside : ℕ × Aside). aside.1) (flat_map asides_by a) (flat_map asides_by b)

pub turn_is : (r : PlainRecord) (s m : Server) (b : TurnBy r s m) → Takes s r m
    → TurnIs r s m (b.first ++ b.rest.calls) (b.first_hosts ++ b.rest.host_calls)
turn_is r s m b takes = record {
  takes = takes;
  does = does_on b.first b.rest.calls s.link b.middle.link m.link b.does_first b.rest.does;
  runs = runs_on b.first_hosts b.rest.host_calls s.host b.middle.host m.host b.runs_first b.rest.runs;
  took = took_both r s m b;
  put_all = put_both r s m b;
  fed_is =
      λ a. flat_map-append (fed_by a) b.first b.rest.calls ∙ ap (λ (l : List ℕ). fed a b.first ++ l) (fed_quiet a b.rest.calls b.rest.quiet)
      ∙ append-nil (fed a b.first) ∙ first_fed a r b.first b.is_first;
  none = none_on b.first b.rest.calls (first_none r b.first b.is_first) (none_quiet b.rest.calls b.rest.quiet);
  asides = asides_more b.first_hosts b.rest.host_calls
      ∙ ap (λ (l : List (ℕ × Aside)). asides_by_calls b.first_hosts ++ map (λ (aside : ℕ × Aside). aside.1) l)
      b.rest.none_aside
      ∙ append-nil (asides_by_calls b.first_hosts) ∙ b.asides;
}

-- ## What happened, one thing after another

abbrev pub Logged : Server → List Alt → Server → Type 0
Logged s [] z = z ≡ s
Logged s (Turned r cs hs ∷ xs) z = (m : Server) × TurnIs r s m cs hs × Logged m xs z
Logged s (Went c ∷ xs) z = (l : End) × Does s.link c l × DidIs c × Logged (record s { link = l }) xs z

pub logged_on : (xs ys : List Alt) (s m z : Server) → Logged s xs m → Logged m ys z → Logged s (xs ++ ys) z
logged_on [] ys s m z x y = subst (λ k. Logged k ys z) x y
logged_on (Turned r cs hs ∷ xs) ys s m z (k, turn, rest) y = (k, turn, logged_on xs ys k m z rest y)
logged_on (Went c ∷ xs) ys s m z (l, does, did, rest) y = (l, does, did, logged_on xs ys (record s { link = l }) m z rest y)

pub logged_does : (xs : List Alt) (s z : Server) → Logged s xs z → DoesAll s.link (all_calls xs) z.link
logged_does [] s z is = ap (λ (k : Server). k.link) is
logged_does (Turned r cs hs ∷ xs) s z (m, turn, rest) = does_on cs (all_calls xs) s.link m.link z.link turn.does (logged_does xs m z rest)
logged_does (Went c ∷ xs) s z (l, does, did, rest) = (l, does, logged_does xs (record s { link = l }) z rest)

pub logged_runs : (xs : List Alt) (s z : Server) → Logged s xs z → Runs s.host (all_hosts xs) z.host
logged_runs [] s z is = ap (λ (k : Server). k.host) is
logged_runs (Turned r cs hs ∷ xs) s z (m, turn, rest) = runs_on hs (all_hosts xs) s.host m.host z.host turn.runs (logged_runs xs m z rest)
logged_runs (Went c ∷ xs) s z (l, does, did, rest) = logged_runs xs (record s { link = l }) z rest

pub logged_took : (xs : List Alt) (s z : Server) → Logged s xs z → flat_map came_in (all_hosts xs) ≡ bytes_of (handed (all_calls xs))
logged_took [] s z is = refl
logged_took (Turned r cs hs ∷ xs) s z (m, turn, rest) =
    flat_map-append came_in hs (all_hosts xs) ∙ ap (λ (l : List ℕ). l ++ flat_map came_in (all_hosts xs)) turn.took
    ∙ ap (λ (l : List ℕ). bytes_of (handed cs) ++ l) (logged_took xs m z rest)
    ∙ sym (ap bytes_of (flat_map-append handed_by cs (all_calls xs)) ∙ flat_map-append byte_of (handed cs) (handed (all_calls xs)))
logged_took (Went c ∷ xs) s z (l, does, did, rest) =
    logged_took xs (record s { link = l }) z rest ∙ sym (ap (λ (x : List _). bytes_of (x ++ handed (all_calls xs))) did.unhanded)

pub logged_put : (xs : List Alt) (s z : Server) → Logged s xs z → bytes_of (put (all_calls xs)) ≡ flat_map answered_by (all_hosts xs)
logged_put [] s z is = refl
logged_put (Turned r cs hs ∷ xs) s z (m, turn, rest) =
    ap bytes_of (flat_map-append put_by cs (all_calls xs)) ∙ flat_map-append byte_of (put cs) (put (all_calls xs))
    ∙ ap (λ (l : List ℕ). l ++ bytes_of (put (all_calls xs))) turn.put_all
    ∙ ap (λ (l : List ℕ). flat_map answered_by hs ++ l) (logged_put xs m z rest)
    ∙ sym (flat_map-append answered_by hs (all_hosts xs))
logged_put (Went c ∷ xs) s z (l, does, did, rest) =
    ap (λ (x : List _). bytes_of (x ++ put (all_calls xs))) did.unput ∙ logged_put xs (record s { link = l }) z rest

pub logged_asides : (xs : List Alt) (s z : Server) → Logged s xs z
    → asides_by_calls (all_hosts xs) ≡ asides_by_records (records_in (log_of xs))
logged_asides [] s z is = refl
logged_asides (Turned r cs hs ∷ xs) s z (m, turn, rest) =
    asides_more hs (all_hosts xs) ∙ ap (λ (l : List Aside). l ++ asides_by_calls (all_hosts xs)) turn.asides
    ∙ ap (λ (l : List Aside). aside_of r ++ l) (logged_asides xs m z rest)
logged_asides (Went c ∷ xs) s z (l, does, did, rest) = logged_asides xs (record s { link = l }) z rest

pub logged_fed : (a : ℕ) (xs : List Alt) (s z : Server) → Logged s xs z → fed a (all_calls xs) ≡ came a (records_in (log_of xs))
logged_fed a [] s z is = refl
logged_fed a (Turned r cs hs ∷ xs) s z (m, turn, rest) =
    flat_map-append (fed_by a) cs (all_calls xs) ∙ ap (λ (l : List ℕ). l ++ fed a (all_calls xs)) (turn.fed_is a)
    ∙ ap (λ (l : List ℕ). piece_of a r ++ l) (logged_fed a xs m z rest)
logged_fed a (Went c ∷ xs) s z (l, does, did, rest) =
    ap (λ (x : List ℕ). x ++ fed a (all_calls xs)) (did.unfed a) ∙ logged_fed a xs (record s { link = l }) z rest

none_out : (a : ℕ) (cs : List Call) → AllNone cs → out a cs ≡ []
none_out a [] none = refl
none_out a (c ∷ cs) none = ap (λ (l : List ℕ). l ++ out a cs) (none.0.silent a) ∙ none_out a cs none.1

pub logged_out : (a : ℕ) (xs : List Alt) (s z : Server) → Logged s xs z → out a (all_calls xs) ≡ out a (calls_in (log_of xs))
logged_out a [] s z is = refl
logged_out a (Turned r cs hs ∷ xs) s z (m, turn, rest) =
    flat_map-append (out_by a) cs (all_calls xs) ∙ ap (λ (l : List ℕ). l ++ out a (all_calls xs)) (none_out a cs turn.none)
    ∙ logged_out a xs m z rest
logged_out a (Went c ∷ xs) s z (l, does, did, rest) = ap (λ (x : List ℕ). out_by a c ++ x) (logged_out a xs (record s { link = l }) z rest)

-- ## What a crash leaves

abbrev pub alt_left : ℕ → List Alt → List Alt
alt_left n [] = []
alt_left zero (Turned r cs hs ∷ xs) = alt_left zero xs
alt_left zero (Went c ∷ xs) = map Went (went_out c) ++ alt_left zero xs
alt_left (suc n) (Turned r cs hs ∷ xs) = Turned r cs hs ∷ alt_left n xs
alt_left (suc n) (Went c ∷ xs) = Went c ∷ alt_left (suc n) xs

entries : (cs : List Call) → map entry (map Went cs) ≡ map Did cs
entries [] = refl
entries (c ∷ cs) = ap (λ (l : List Entry). Did c ∷ l) (entries cs)

pub log_left : (n : ℕ) (xs : List Alt) → log_of (alt_left n xs) ≡ left_of n (log_of xs)
log_left n [] = refl
log_left zero (Turned r cs hs ∷ xs) = log_left zero xs
log_left zero (Went c ∷ xs) =
    map-append entry (map Went (went_out c)) (alt_left zero xs)
    ∙ ap (λ (l : List Entry). l ++ log_of (alt_left zero xs)) (entries (went_out c))
    ∙ ap (λ (l : List Entry). map Did (went_out c) ++ l) (log_left zero xs)
log_left (suc n) (Turned r cs hs ∷ xs) = ap (λ (l : List Entry). Took r ∷ l) (log_left n xs)
log_left (suc n) (Went c ∷ xs) = ap (λ (l : List Entry). Did c ∷ l) (log_left (suc n) xs)

-- how many calls that is
abbrev pub size : ℕ → List Alt → ℕ
size zero xs = zero
size (suc n) [] = zero
size (suc n) (Turned r cs hs ∷ xs) = length cs + size n xs
size (suc n) (Went c ∷ xs) = suc (size (suc n) xs)

wents : (cs : List Call) → flat_map calls_of (map Went cs) ≡ cs
wents [] = refl
wents (c ∷ cs) = ap (λ (l : List Call). c ∷ l) (wents cs)

left_quiet : (cs ds : List Call) → AllNone cs → left zero (cs ++ ds) ≡ left zero ds
left_quiet [] ds none = refl
left_quiet (c ∷ cs) ds none = ap (λ (l : List Call). l ++ left zero (cs ++ ds)) none.0.goes ∙ left_quiet cs ds none.1

left_past : (n m : ℕ) (cs ds : List Call) → n ≡ length cs + m → left n (cs ++ ds) ≡ cs ++ left m ds
left_past n m [] ds is = let same : n ≡ m = omega (arith, is) in ap (λ (k : ℕ). left k ds) same
left_past zero m (c ∷ cs) ds is = absurd (omega (arith, is))
left_past (suc n) m (c ∷ cs) ds is = ap (λ (l : List Call). c ∷ l) (left_past n m cs ds (omega (arith, is)))

calls_left_none : (xs : List Alt) (s z : Server) → Logged s xs z → all_calls (alt_left zero xs) ≡ left zero (all_calls xs)
calls_left_none [] s z is = refl
calls_left_none (Turned r cs hs ∷ xs) s z (m, turn, rest) = calls_left_none xs m z rest ∙ sym (left_quiet cs (all_calls xs) turn.none)
calls_left_none (Went c ∷ xs) s z (l, does, did, rest) =
    flat_map-append calls_of (map Went (went_out c)) (alt_left zero xs)
    ∙ ap (λ (x : List Call). x ++ all_calls (alt_left zero xs)) (wents (went_out c))
    ∙ ap (λ (x : List Call). went_out c ++ x) (calls_left_none xs (record s { link = l }) z rest)

pub calls_left : (n : ℕ) (xs : List Alt) (s z : Server) → Logged s xs z → all_calls (alt_left n xs) ≡ left (size n xs) (all_calls xs)
calls_left zero xs s z logged = calls_left_none xs s z logged
calls_left (suc n) [] s z is = refl
calls_left (suc n) (Turned r cs hs ∷ xs) s z (m, turn, rest) =
    ap (λ (x : List Call). cs ++ x) (calls_left n xs m z rest) ∙ sym (left_past (length cs + size n xs) (size n xs) cs (all_calls xs) refl)
calls_left (suc n) (Went c ∷ xs) s z (l, does, did, rest) =
    ap (λ (x : List Call). c ∷ x) (calls_left (suc n) xs (record s { link = l }) z rest)

pub size_more : (n : ℕ) (xs ys : List Alt) → size n xs ≤ size n (xs ++ ys)
size_more zero xs ys = omega arith
size_more (suc n) [] ys = omega arith
size_more (suc n) (Turned r cs hs ∷ xs) ys = omega (arith, size_more n xs ys)
size_more (suc n) (Went c ∷ xs) ys = omega (arith, size_more (suc n) xs ys)

pub size_grows : (d n : ℕ) (xs : List Alt) → d ≤ n → size d xs ≤ size n xs
size_grows zero n xs less = omega arith
size_grows (suc d) zero xs less = absurd (omega (arith, less))
size_grows (suc d) (suc n) [] less = omega arith
size_grows (suc d) (suc n) (Turned r cs hs ∷ xs) less = omega (arith, size_grows d n xs (omega (arith, less)))
size_grows (suc d) (suc n) (Went c ∷ xs) less = omega (arith, size_grows (suc d) (suc n) xs less)

pub size_left : (d n : ℕ) (xs ys : List Alt) → d ≤ n → size d xs ≤ size d (alt_left n xs ++ ys)
size_left zero n xs ys less = omega arith
size_left (suc d) zero xs ys less = absurd (omega (arith, less))
size_left (suc d) (suc n) [] ys less = omega arith
size_left (suc d) (suc n) (Turned r cs hs ∷ xs) ys less = omega (arith, size_left d n xs ys (omega (arith, less)))
size_left (suc d) (suc n) (Went c ∷ xs) ys less = omega (arith, size_left (suc d) (suc n) xs ys less)

pub size_all : (n : ℕ) (xs : List Alt) → size n xs ≤ length (all_calls xs)
size_all zero xs = omega arith
size_all (suc n) [] = omega arith
size_all (suc n) (Turned r cs hs ∷ xs) = omega (arith, size_all n xs, length-append cs (all_calls xs))
size_all (suc n) (Went c ∷ xs) = omega (arith, size_all (suc n) xs)

-- all of them, where there are fewer records
pub size_whole : (n : ℕ) (xs : List Alt) → length (records_in (log_of xs)) < n → size n xs ≡ length (all_calls xs)
size_whole zero xs fewer = absurd (omega (arith, fewer))
size_whole (suc n) [] fewer = refl
size_whole (suc n) (Turned r cs hs ∷ xs) fewer =
    ap (λ (k : ℕ). length cs + k) (size_whole n xs (omega (arith, fewer))) ∙ sym (length-append cs (all_calls xs))
size_whole (suc n) (Went c ∷ xs) fewer = ap suc (size_whole (suc n) xs fewer)
