-- What a server does with a record is calls of its link and of its endpoint.
use Rattle.std.proofs.Common.{◌≡◌, ◌⊎◌, inl, inr, ℕ, zero, suc, length, List, [], ◌∷◌, ◌++◌, map, take, drop, flat_map, Option, None, Some, Ok, refl, sym, ap, ◌∙◌, subst, append-nil, arith}
use Rattle.std.proofs.lemmas.Grind.{flat_map-append}
use Rattle.std.proofs.Math.Seq.{drop-length}
use Rattle.std.specs.Prelude.{slice_get}
use Rattle.sam_link.specs.Calls.{Byte, Call, Does, DoesAll, byte_of, bytes_of, handed, handed_by, put, put_by}
use Rattle.sam_link.specs.Calls.{Call as link}
use Rattle.sam_link.specs.End.{AnswersBy, End}
use Rattle.sam_link.specs.Feeding.{Feeds as FeedsLink}
use Rattle.sam_link.specs.Inbox.{Waiting}
use Rattle.sam_link.specs.declared.hello.Hello.{Hello}
use Rattle.sam_link.specs.declared.phase.Role.{Role}
use Rattle.sam_link.specs.declared.phase.Role.TheVariants.{Terminal, Host}
use Rattle.sam_link.specs.Packets.{Packet}
use Rattle.sam_link.specs.Packets.{Packet as packet}
use Rattle.sam_host.specs.Asides.{Aside}
use Rattle.sam_endpoint.specs.HostEndpoints.{Adds, Marks, PlainHostEndpoint}
use Rattle.sam_endpoint.specs.HostStepping.{BringsIn, Steps}
use Rattle.sam_endpoint.specs.declared.step.HostStep.{HostStep}
use Rattle.sam_endpoint.specs.HostRuns.{AddFile, Bring, Feed, MakeStep, MarkDirty, NextWritten, Runs, TakeOut, came_in, went_out, asides_by}
use Rattle.sam_endpoint.specs.HostRuns.{Call as HostCall}
use Rattle.sam_server.specs.Servers.{Acknowledged, Asked, Called, Came, Done, Effect, Handles, HandsOn, Hear, Joined, Marked, PausesBy, PlainRecord, PutsAnswers, Said, Server, StepsOn, Takes, Work, next_effect, with_work}
use Rattle.sam_server.proofs.Pauses.{pause_quiet}
use Rattle.sam_link.specs.Calls.{fed_by}
use Rattle.sam_link.specs.Sessions.{WasCarried}
use Rattle.sam_served.proofs.Lefts.{TookNone}
use Rattle.sam_served.specs.Serving.{aside_of, asides_by_calls}
use Rattle.sam_served.specs.Turns.{IsSettled, TurnsAreCalls}

-- ## Calls that neither bring anything nor let anything out

pub record Quiet (c : Call) : Type 0 where
  pub none : TookNone c
  pub carried : (mine theirs : List Call) → WasCarried mine theirs c
  pub unfed : (attempt : ℕ) → fed_by attempt c ≡ []

abbrev pub AllQuiet : List Call → Type 0
AllQuiet [] = Unit {0}
AllQuiet (c ∷ cs) = Quiet c × AllQuiet cs

pub quiet_on : (a b : List Call) → AllQuiet a → AllQuiet b → AllQuiet (a ++ b)
quiet_on [] b x y = y
quiet_on (c ∷ a) b x y = (x.0, quiet_on a b x.1 y)

pub record Turn (s z : Server) : Type 0 where
  pub calls : List Call
  pub host_calls : List HostCall
  pub does : DoesAll s.link calls z.link
  pub runs : Runs s.host host_calls z.host
  pub took : flat_map came_in host_calls ≡ bytes_of (handed calls)
  pub put_all : bytes_of (put calls) ≡ flat_map went_out host_calls
  pub quiet : AllQuiet calls
  pub none_aside : flat_map asides_by host_calls ≡ []

-- the record's own call comes first, if it has one
abbrev pub IsFirst : PlainRecord → List Call → Type 0
IsFirst (Joined name text) first = first ≡ []
IsFirst (Marked f) first = first ≡ []
IsFirst (Called hello) first = first ≡ link.Answer hello (Ok tt) ∷ []
IsFirst (Came attempt piece) first = first ≡ link.Feed attempt piece (Ok tt) ∷ []
IsFirst (Said bytes) first = first ≡ link.PutNote bytes (Ok tt) ∷ []
IsFirst Acknowledged first = first ≡ link.Acknowledge (Ok tt) ∷ []
IsFirst Asked first = first ≡ link.Ask (Ok tt) ∷ []
IsFirst (Done ending) first = first ≡ []

pub record TurnBy (r : PlainRecord) (s z : Server) : Type 0 where
  pub middle : Server
  pub first : List Call
  pub is_first : IsFirst r first
  pub does_first : DoesAll s.link first middle.link
  pub first_hosts : List HostCall
  pub runs_first : Runs s.host first_hosts middle.host
  pub none_came : flat_map came_in first_hosts ≡ []
  pub none_answered : flat_map went_out first_hosts ≡ []
  pub asides : asides_by_calls first_hosts ≡ aside_of r
  pub none_handed : bytes_of (handed first) ≡ []
  pub none_put : bytes_of (put first) ≡ []
  pub rest : Turn middle z

-- ## Turns one after another

pub does_on : (a b : List Call) (e m n : End) → DoesAll e a m → DoesAll m b n → DoesAll e (a ++ b) n
does_on [] b e m n x y = subst (λ k. DoesAll k b n) x y
does_on (c ∷ a) b e m n (k, does, rest) y = (k, does, does_on a b k m n rest y)

pub runs_on : (a b : List HostCall) (e m n : PlainHostEndpoint) → Runs e a m → Runs m b n → Runs e (a ++ b) n
runs_on [] b e m n x y = subst (λ k. Runs k b n) x y
runs_on (Feed piece answer ∷ a) b e m n (k, feeds, goes, rest) y = (k, feeds, goes, runs_on a b k m n rest y)
runs_on (Bring piece answer ∷ a) b e m n (k, brings, rest) y = (k, brings, runs_on a b k m n rest y)
runs_on (MakeStep answer ∷ a) b e m n (k, steps, goes, rest) y = (k, steps, goes, runs_on a b k m n rest y)
runs_on (AddFile count name text answer ∷ a) b e m n (k, taken, adds, rest) y = (k, taken, adds, runs_on a b k m n rest y)
runs_on (MarkDirty count f answer ∷ a) b e m n (k, taken, marks, rest) y = (k, taken, marks, runs_on a b k m n rest y)
runs_on (TakeOut bytes ∷ a) b e m n (r, is, rest) y = (r, is, runs_on a b (record e { pending_bytes = r }) m n rest y)
runs_on (NextWritten tag ∷ a) b e m n (is, rest) y = (is, runs_on a b (record e { writes = drop 1 e.writes }) m n rest y)

no_turn : (s z : Server) → z.link ≡ s.link → z.host ≡ s.host → Turn s z
no_turn s z link host =
    record { calls = []; host_calls = []; does = link; runs = host; took = refl; put_all = refl; quiet = tt; none_aside = refl }

turn_on : (s m z : Server) → Turn s m → Turn m z → Turn s z
turn_on s m z x y = record {
  calls = x.calls ++ y.calls;
  host_calls = x.host_calls ++ y.host_calls;
  does = does_on x.calls y.calls s.link m.link z.link x.does y.does;
  runs = runs_on x.host_calls y.host_calls s.host m.host z.host x.runs y.runs;
  took =
      flat_map-append came_in x.host_calls y.host_calls ∙ ap (λ (l : List ℕ). l ++ flat_map came_in y.host_calls) x.took
      ∙ ap (λ (l : List ℕ). bytes_of (handed x.calls) ++ l) y.took
      ∙ sym (flat_map-append byte_of (handed x.calls) (handed y.calls)) ∙ ap bytes_of (sym (flat_map-append handed_by x.calls y.calls));
  put_all = ap bytes_of (flat_map-append put_by x.calls y.calls) ∙ flat_map-append byte_of (put x.calls) (put y.calls)
      ∙ ap (λ (l : List ℕ). l ++ bytes_of (put y.calls)) x.put_all ∙ ap (λ (l : List ℕ). flat_map went_out x.host_calls ++ l) y.put_all
      ∙ sym (flat_map-append went_out x.host_calls y.host_calls);
  quiet = quiet_on x.calls y.calls x.quiet y.quiet;
  none_aside =
      flat_map-append asides_by x.host_calls y.host_calls
      ∙ ap (λ (l : List (ℕ × Aside)). l ++ flat_map asides_by y.host_calls) x.none_aside ∙ y.none_aside;
}

-- ## Bytes between them

are_bytes : (bytes : List ℕ) → bytes_of (map Byte bytes) ≡ bytes
are_bytes [] = refl
are_bytes (b ∷ bytes) = ap (λ (l : List ℕ). b ∷ l) (are_bytes bytes)

-- all tags to write are asked for
written_turn : (writes : List ℕ) (s : Server) → s.host.writes ≡ writes → Turn s (record s { host = record s.host { writes = [] } })
written_turn [] s is =
    no_turn s (record s { host = record s.host { writes = [] } }) refl (ap (λ (l : List ℕ). record s.host { writes = l }) (sym is))
written_turn (w ∷ ws) s is =
    turn_on s (record s { host = record s.host { writes = ws } }) (record s { host = record s.host { writes = [] } })
    (record {
      calls = [];
      host_calls = NextWritten (Some w) ∷ [];
      does = refl;
      runs = (ap (λ (l : List ℕ). slice_get l 0) (sym is), ap (λ (l : List ℕ). record s.host { writes = drop 1 l }) (sym is));
      took = refl;
      put_all = refl;
      quiet = tt;
      none_aside = refl;
    })
    (written_turn ws (record s { host = record s.host { writes = ws } }) refl)

answers_turn : (s z : Server) → PutsAnswers s z → Turn s z
answers_turn s z (l, does, is) = subst (λ k. Turn s k) (sym is) (record {
  calls = link.Put s.host.pending_bytes (Ok tt) ∷ [];
  host_calls = TakeOut s.host.pending_bytes ∷ [];
  does = (l, does, refl);
  runs = ([], sym (append-nil s.host.pending_bytes), refl);
  took = refl;
  put_all =
      ap bytes_of (append-nil (map Byte s.host.pending_bytes)) ∙ are_bytes s.host.pending_bytes ∙ sym (append-nil s.host.pending_bytes);
  quiet = (record { none = record { goes = refl; silent = λ m. refl }; carried = λ mine theirs. tt; unfed = λ m. refl }, tt);
  none_aside = refl;
})

-- what is to be done is no matter of link and endpoint
effect_turn : (s z : Server) (x y : Option Effect) → Turn s z → Turn (record s { effect = x }) (record z { effect = y })
effect_turn s z x y t =
    record {
      calls = t.calls;
      host_calls = t.host_calls;
      does = t.does;
      runs = t.runs;
      took = t.took;
      put_all = t.put_all;
      quiet = t.quiet;
      none_aside = t.none_aside;
    }

-- ## What waits is handled

-- a server of which this is left of a packet
abbrev pub left_at : End → List ℕ → List Packet → PlainHostEndpoint → Option Effect → Server
left_at l part ps h effect =
    record { link = record l { waiting = record { part = part; packets = ps } }; host = h; effect = effect }

all_taken : (bytes : List ℕ) → take (length bytes) bytes ≡ bytes
all_taken [] = refl
all_taken (b ∷ bytes) = ap (λ (l : List ℕ). b ∷ l) (all_taken bytes)

data_turn : (l : End) (h k : PlainHostEndpoint) (effect : Option Effect) (bytes : List ℕ) (ps : List Packet)
    → BringsIn h bytes (Ok tt) k → Turn (left_at l [] (packet.Data bytes ∷ ps) h effect) (left_at l [] ps k None)
data_turn l h k effect bytes ps brings = record {
  calls = link.TakeIn bytes (length bytes) bytes ∷ [];
  host_calls = Bring bytes (Ok tt) ∷ [];
  does = (
    record l { waiting = record { part = []; packets = ps } },
    (
      omega arith,
      sym (ap (λ (l : List ℕ). l ++ drop (length bytes) bytes) (all_taken bytes) ∙ ap (λ (l : List ℕ). bytes ++ l) (drop-length bytes)
          ∙ append-nil bytes),
      ap (λ (p : List ℕ). record l { waiting = record { part = p; packets = ps } }) (sym (drop-length bytes)),
    ),
    refl,
  );
  runs = (k, brings, refl);
  took =
      append-nil bytes
      ∙ sym (ap bytes_of (append-nil (map Byte (take (length bytes) bytes))) ∙ are_bytes (take (length bytes) bytes) ∙ all_taken bytes);
  put_all = refl;
  quiet = (record { none = record { goes = refl; silent = λ m. refl }; carried = λ mine theirs. tt; unfed = λ m. refl }, tt);
  none_aside = refl;
}

note_turn : (l : End) (h : PlainHostEndpoint) (effect : Option Effect) (bytes : List ℕ) (ps : List Packet)
    → Turn (left_at l [] (packet.Note bytes ∷ ps) h effect) (left_at l [] ps h (Some (Hear bytes)))
note_turn l h effect bytes ps = record {
  calls = link.NextNote (Some bytes) ∷ [];
  host_calls = [];
  does = (record l { waiting = record { part = []; packets = ps } }, ((refl, refl), refl), refl);
  runs = refl;
  took = refl;
  put_all = refl;
  quiet = (record { none = record { goes = refl; silent = λ m. refl }; carried = λ mine theirs. tt; unfed = λ m. refl }, tt);
  none_aside = refl;
}

step_turn : (l : End) (ps : List Packet) (h k : PlainHostEndpoint) (effect : Option Effect) (step : HostStep) → Steps h (Ok step) k
    → Turn (left_at l [] ps h effect) (left_at l [] ps (record k { writes = [] }) (next_effect h))
step_turn l ps h k effect step does =
    effect_turn (left_at l [] ps h effect) (left_at l [] ps (record k { writes = [] }) effect) effect (next_effect h)
    (turn_on (left_at l [] ps h effect) (left_at l [] ps k effect) (left_at l [] ps (record k { writes = [] }) effect)
    (record {
      calls = [];
      host_calls = MakeStep (Ok step) ∷ [];
      does = refl;
      runs = (k, does, tt, refl);
      took = refl;
      put_all = refl;
      quiet = tt;
      none_aside = refl;
    })
    (written_turn k.writes (left_at l [] ps k effect) refl))

move_turn : (l : End) (ps : List Packet) (h : PlainHostEndpoint) (effect : Option Effect) (v : Work)
    → StepsOn (record { packets = ps; host = h; effect = effect }) v ⊎ HandsOn (record { packets = ps; host = h; effect = effect }) ps v
    → Turn (left_at l [] ps h effect) (left_at l [] v.packets v.host v.effect)
move_turn l ps h effect v (inl (step, k, some, does, is)) =
    subst (λ (x : Work). Turn (left_at l [] ps h effect) (left_at l [] x.packets x.host x.effect)) (sym is)
    (step_turn l ps h k effect step does)
move_turn l [] h effect v (inr hands) = absurd hands
move_turn l (packet.Data bytes ∷ ps) h effect v (inr (k, brings, is)) =
    subst (λ (x : Work). Turn (left_at l [] (packet.Data bytes ∷ ps) h effect) (left_at l [] x.packets x.host x.effect)) (sym is)
    (data_turn l h k effect bytes ps brings)
move_turn l (packet.Note bytes ∷ ps) h effect v (inr (ready, is)) =
    subst (λ (x : Work). Turn (left_at l [] (packet.Note bytes ∷ ps) h effect) (left_at l [] x.packets x.host x.effect)) (sym is)
    (note_turn l h effect bytes ps)
move_turn l (packet.Acknowledge count ∷ ps) h effect v (inr hands) = absurd hands
move_turn l (packet.Ask ∷ ps) h effect v (inr hands) = absurd hands

pauses_turn : (n : ℕ) (l : End) (w v : Work) → PausesBy n w v
    → Turn (left_at l [] w.packets w.host w.effect) (left_at l [] v.packets v.host v.effect)
pauses_turn zero l w v (paused, is) =
    no_turn (left_at l [] w.packets w.host w.effect) (left_at l [] v.packets v.host v.effect)
    (ap (λ (x : Work). record l { waiting = record { part = []; packets = x.packets } }) is) (ap (λ (x : Work). x.host) is)
pauses_turn (suc n) l w v (none, m, move, more) =
    turn_on (left_at l [] w.packets w.host w.effect) (left_at l [] m.packets m.host m.effect) (left_at l [] v.packets v.host v.effect)
    (move_turn l w.packets w.host w.effect m move) (pauses_turn n l m v more)

handles_turn : (l : End) (host : PlainHostEndpoint) (effect : Option Effect) (z : Server) → l.waiting.part ≡ []
    → Handles l host effect z → Turn (record { link = l; host = host; effect = effect }) z
handles_turn l host effect z none (m, (n, pauses), answers) =
    turn_on (record { link = l; host = host; effect = effect }) (with_work l m) z
    (subst (λ (p : List ℕ). Turn (left_at l p l.waiting.packets host effect) (left_at l p m.packets m.host m.effect)) (sym none)
    (pauses_turn n l (record { packets = l.waiting.packets; host = host; effect = effect }) m pauses))
    (answers_turn (with_work l m) z answers)

handles_settled : (l : End) (host : PlainHostEndpoint) (effect : Option Effect) (z : Server) → l.waiting.part ≡ [] → host.writes ≡ []
    → Handles l host effect z → IsSettled z
handles_settled l host effect z none quiet (m, (n, pauses), (k, does, is)) = record {
  part = ap (λ (x : Server). x.link.waiting.part) is ∙ ap (λ (e : End). e.waiting.part) does.1 ∙ none;
  answers = ap (λ (x : Server). x.host.pending_bytes) is;
  writes =
      ap (λ (x : Server). x.host.writes) is
      ∙ pause_quiet n (record { packets = l.waiting.packets; host = host; effect = effect }) m quiet pauses;
}

-- ## Any record

answer_waits : (role : Role) (e n : End) (h : Hello) → AnswersBy role e h (Ok tt) n → n.waiting ≡ e.waiting
answer_waits Host e n h x = ap (λ (k : End). k.waiting) x.1
answer_waits Terminal e n h x = absurd x

feed_part : (e n : End) (attempt : ℕ) (piece : List ℕ) → FeedsLink e attempt piece (Ok tt) n → n.waiting.part ≡ e.waiting.part
feed_part e n attempt piece x = ap (λ (k : End). k.waiting.part) x.6

came_turn : (s z : Server) (attempt : ℕ) (piece : List ℕ) (l : End) → IsSettled s
    → Does s.link (link.Feed attempt piece (Ok tt)) l → Handles l s.host s.effect z → TurnBy (Came attempt piece) s z × IsSettled z
came_turn s z attempt piece l settled does handles =
    let part : l.waiting.part ≡ [] = feed_part s.link l attempt piece does ∙ settled.part in (
      record {
        middle = record s { link = l };
        first = link.Feed attempt piece (Ok tt) ∷ [];
        is_first = refl;
        does_first = (l, does, refl);
        first_hosts = [];
        runs_first = refl;
        none_came = refl;
        none_answered = refl;
        asides = refl;
        none_handed = refl;
        none_put = refl;
        rest = handles_turn l s.host s.effect z part handles;
      },
      handles_settled l s.host s.effect z part settled.writes handles,
    )

settled_by : (s z : Server) (l : End) → IsSettled s → l.waiting ≡ s.link.waiting → z ≡ record s { link = l } → IsSettled z
settled_by s z l settled same is =
    subst IsSettled (sym is)
    (record { part = ap (λ (w : Waiting). w.part) same ∙ settled.part; answers = settled.answers; writes = settled.writes })

joined_turn : (s z : Server) (k : PlainHostEndpoint) (name text : List ℕ) (tag : ℕ) → Adds s.host name text (Ok tag) k
    → z ≡ record s { host = k } → TurnBy (Joined name text) s z
joined_turn s z k name text tag adds is = record {
  middle = record s { host = k };
  first = [];
  is_first = refl;
  does_first = refl;
  first_hosts = AddFile s.host.host.taken name text (Ok tag) ∷ [];
  runs_first = (k, refl, adds, refl);
  none_came = refl;
  none_answered = refl;
  asides = refl;
  none_handed = refl;
  none_put = refl;
  rest = no_turn (record s { host = k }) z (ap (λ (x : Server). x.link) is) (ap (λ (x : Server). x.host) is);
}

marked_turn : (s z : Server) (k : PlainHostEndpoint) (f : ℕ) → Marks s.host f (Ok tt) k → PutsAnswers (record s { host = k }) z
    → TurnBy (Marked f) s z
marked_turn s z k f marks answers = record {
  middle = record s { host = k };
  first = [];
  is_first = refl;
  does_first = refl;
  first_hosts = MarkDirty s.host.host.taken f (Ok tt) ∷ [];
  runs_first = (k, refl, marks, refl);
  none_came = refl;
  none_answered = refl;
  asides = refl;
  none_handed = refl;
  none_put = refl;
  rest = answers_turn (record s { host = k }) z answers;
}

linked_by : (r : PlainRecord) (s z : Server) (c : Call) (l : End) → [] ≡ aside_of r → IsFirst r (c ∷ []) → Does s.link c l
    → handed_by c ≡ []
    → bytes_of (put_by c) ≡ [] → z ≡ record s { link = l } → TurnBy r s z
linked_by r s z c l asides first does none silent is = record {
  middle = record s { link = l };
  first = c ∷ [];
  is_first = first;
  does_first = (l, does, refl);
  first_hosts = [];
  runs_first = refl;
  none_came = refl;
  none_answered = refl;
  asides = asides;
  none_handed = ap bytes_of (append-nil (handed_by c) ∙ none);
  none_put = ap bytes_of (append-nil (put_by c)) ∙ silent;
  rest = no_turn (record s { link = l }) z (ap (λ (k : Server). k.link) is) (ap (λ (k : Server). k.host) is);
}

unlinked_by : (r : PlainRecord) (s z : Server) → [] ≡ aside_of r → IsFirst r [] → Turn s z → TurnBy r s z
unlinked_by r s z asides first t = record {
  middle = s;
  first = [];
  is_first = first;
  does_first = refl;
  first_hosts = [];
  runs_first = refl;
  none_came = refl;
  none_answered = refl;
  asides = asides;
  none_handed = refl;
  none_put = refl;
  rest = t;
}

pub took_both : (r : PlainRecord) (s z : Server) (b : TurnBy r s z)
    → flat_map came_in (b.first_hosts ++ b.rest.host_calls) ≡ bytes_of (handed (b.first ++ b.rest.calls))
took_both r s z b =
    flat_map-append came_in b.first_hosts b.rest.host_calls ∙ ap (λ (l : List ℕ). l ++ flat_map came_in b.rest.host_calls) b.none_came
    ∙ b.rest.took
    ∙ sym (ap bytes_of (flat_map-append handed_by b.first b.rest.calls) ∙ flat_map-append byte_of (handed b.first) (handed b.rest.calls)
    ∙ ap (λ (l : List ℕ). l ++ bytes_of (handed b.rest.calls)) b.none_handed)

pub put_both : (r : PlainRecord) (s z : Server) (b : TurnBy r s z)
    → bytes_of (put (b.first ++ b.rest.calls)) ≡ flat_map went_out (b.first_hosts ++ b.rest.host_calls)
put_both r s z b =
    ap bytes_of (flat_map-append put_by b.first b.rest.calls) ∙ flat_map-append byte_of (put b.first) (put b.rest.calls)
    ∙ ap (λ (l : List ℕ). l ++ bytes_of (put b.rest.calls)) b.none_put ∙ b.rest.put_all
    ∙ sym (flat_map-append went_out b.first_hosts b.rest.host_calls
    ∙ ap (λ (l : List ℕ). l ++ flat_map went_out b.rest.host_calls) b.none_answered)

pub turns : (s z : Server) (r : PlainRecord) → IsSettled s → Takes s r z → TurnBy r s z × IsSettled z
turns s z (Joined name text) settled (tag, k, adds, is) = (
  joined_turn s z k name text tag adds is,
  subst IsSettled (sym is) (record {
    part = settled.part;
    answers = ap (λ (e : PlainHostEndpoint). e.pending_bytes) adds.2 ∙ settled.answers;
    writes = ap (λ (e : PlainHostEndpoint). e.writes) adds.2 ∙ settled.writes;
  }),
)
turns s z (Marked f) settled (k, marks, answers) = (
  marked_turn s z k f marks answers,
  record {
    part =
        ap (λ (x : Server). x.link.waiting.part) answers.2 ∙ ap (λ (e : End). e.waiting.part) answers.1.1 ∙ settled.part;
    answers = ap (λ (x : Server). x.host.pending_bytes) answers.2;
    writes = ap (λ (x : Server). x.host.writes) answers.2 ∙ ap (λ (e : PlainHostEndpoint). e.writes) marks.2 ∙ settled.writes;
  },
)
turns s z (Called hello) settled (l, does, is) = (
  linked_by (Called hello) s z (link.Answer hello (Ok tt)) l refl refl does refl refl is,
  settled_by s z l settled (answer_waits s.link.role s.link l hello does) is,
)
turns s z (Came attempt piece) settled (l, does, handles) = came_turn s z attempt piece l settled does handles
turns s z (Said bytes) settled (l, does, is) = (
  linked_by (Said bytes) s z (link.PutNote bytes (Ok tt)) l refl refl does refl refl is,
  settled_by s z l settled (ap (λ (k : End). k.waiting) does.1) is,
)
turns s z Acknowledged settled (l, does, is) = (
  linked_by Acknowledged s z (link.Acknowledge (Ok tt)) l refl refl does refl refl is,
  settled_by s z l settled (ap (λ (k : End). k.waiting) does.1) is,
)
turns s z Asked settled (l, does, is) = (
  linked_by Asked s z (link.Ask (Ok tt)) l refl refl does refl refl is,
  settled_by s z l settled (ap (λ (k : End). k.waiting) does.1) is,
)
turns s z (Done ending) settled (e, was, handles) = (
  unlinked_by (Done ending) s z refl refl
      (effect_turn (record s { effect = None }) z s.effect z.effect (handles_turn s.link s.host None z settled.part handles)),
  handles_settled s.link s.host None z settled.part settled.writes handles,
)

pub turns_are_calls : TurnsAreCalls
turns_are_calls s z r settled takes =
    let t = turns s z r settled takes in
    let b = t.0 in (
      record {
        calls = b.first ++ b.rest.calls;
        host_calls = b.first_hosts ++ b.rest.host_calls;
        does = does_on b.first b.rest.calls s.link b.middle.link z.link b.does_first b.rest.does;
        runs = runs_on b.first_hosts b.rest.host_calls s.host b.middle.host z.host b.runs_first b.rest.runs;
        took = took_both r s z b;
        put_all = put_both r s z b;
      },
      t.1,
    )
