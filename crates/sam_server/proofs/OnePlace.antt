-- Whatever moves are made, work pauses where it would have; and where it stops it pauses nowhere.
use Rattle.std.proofs.Common.{◌≡◌, ◌≢◌, ◌⊎◌, inl, inr, ℕ, zero, suc, ◌<◌, length, List, [], ◌∷◌, ◌++◌, drop, map, Option, None, Some, Ok, Err, refl, sym, ap, ◌∙◌, subst, append-nil, append_assoc, arith}
use Rattle.std.proofs.lemmas.List.Elements.{All-cons, All-head, All-nil, All-tail}
use Rattle.sam_mesg.specs.HostKinds.{FitsH}
use Rattle.sam_mesg.specs.TerminalKinds.{kind_t}
use Rattle.sam_mesg.specs.declared.tmesg.Tmesg.{Tmesg}
use Rattle.sam_mesg.specs.declared.hmesg.HFrame.{HFrame}
use Rattle.sam_host.specs.Host.{PlainHost, answer}
use Rattle.sam_host.specs.declared.fault.HostFault.{HostFault}
use Rattle.sam_endpoint.specs.HostEndpoints.{Answered, PlainHostEndpoint, Serves, writes_of}
use Rattle.sam_endpoint.specs.HostSteps.{AnswersFirst, written}
use Rattle.sam_endpoint.specs.HostStepping.{BringsIn, IsReady, Steps}
use Rattle.sam_endpoint.specs.Naming.{file_of_t}
use Rattle.sam_endpoint.specs.Streams.{FitFrames}
use Rattle.sam_endpoint.specs.declared.fault.EndpointFault.TheVariants as endpoint
use Rattle.sam_endpoint.specs.declared.fault.HostStop.{HostStop}
use Rattle.sam_endpoint.specs.declared.fault.HostStop.TheVariants as stop
use Rattle.sam_endpoint.specs.declared.step.HostStep.{HostStep}
use Rattle.sam_endpoint.specs.declared.step.HostStep.TheVariants as steps
use Rattle.sam_link.specs.Packets.{Packet}
use Rattle.sam_link.specs.Packets.{Packet as packet}
use Rattle.sam_server.specs.Servers.{Effect, HandsOn, IsPausedAt, Pauses, PausesBy, StepsOn, Work, effect_of, next_effect, step_effect}
use Rattle.sam_server.proofs.Pauses.{After, Phase, Quietly, Readied, Silent, Told, after_same, all_answered, answered_effect, at, begun, goes_at, not_both, one_after, one_answer, one_front, one_ready, one_told, quiet_on, same_head, serves_quietly, stands, takes_in_one, told_at, told_by, told_to}

-- ## What is left to answer

fit_first : (a b : List HFrame) → FitFrames (a ++ b) → FitFrames a
fit_first [] b fit = All-nil (FitsH 2)
fit_first (f ∷ a) b fit = All-cons (FitsH 2) f a (All-head (FitsH 2) f (a ++ b) fit) (fit_first a b (All-tail (FitsH 2) f (a ++ b) fit))

fit_rest : (a b : List HFrame) → FitFrames (a ++ b) → FitFrames b
fit_rest [] b fit = fit
fit_rest (f ∷ a) b fit = fit_rest a b (All-tail (FitsH 2) f (a ++ b) fit)

-- a host answers these messages, and the program has nothing to do
record Serving (h : PlainHost) (ms : List Tmesg) (g : PlainHost) : Type 0 where
  frames : List HFrame
  writes : List ℕ
  serves : Serves h (map Answered ms) frames writes g
  fit : FitFrames frames
  silent : Silent h ms

-- of all messages, those behind these
serves_rest : (xs ms ws : List Tmesg) (h g z : PlainHost) (fx fm : List HFrame) (wx wm : List ℕ) → ms ≡ xs ++ ws
    → Serves h (map Answered xs) fx wx g → Serves h (map Answered ms) fm wm z → FitFrames fm → Silent h ms → Serving g ws z
serves_rest [] ms ws h g z fx fm wx wm is x y fit silent = record {
  frames = fm;
  writes = wm;
  serves =
      subst (λ (l : List Tmesg). Serves g (map Answered l) fm wm z) is
      (subst (λ (p : PlainHost). Serves p (map Answered ms) fm wm z) (sym x.2) y);
  fit = fit;
  silent = subst (λ (l : List Tmesg). Silent g l) is (subst (λ (p : PlainHost). Silent p ms) (sym x.2) silent);
}
serves_rest (a ∷ xs) [] ws h g z fx fm wx wm is x y fit silent = absurd (cc)
serves_rest (a ∷ xs) (n ∷ ms) ws h g z fx fm wx wm is (k, f1, f2, more, answered, frames, writes, serves) (j, g1, g2, others, answered_too, frames_too, writes_too, serves_too) fit silent =
    let head : n ≡ a = same_head n a ms (xs ++ ws) is in
    let one = one_answer h k j a n f1 g1 (sym head) answered answered_too in
    serves_rest xs ms ws k g z f2 g2 more others (ap (drop 1) is) serves
    (subst (λ p. Serves p (map Answered ms) g2 others z) (sym one.0) serves_too) (fit_rest g1 g2 (subst FitFrames frames_too fit))
    (silent.1 k f1 (ap (answer h) head ∙ answered))

-- of the messages before the first that is not silent, those behind these
record Before (xs ys : List Tmesg) (k g : PlainHost) : Type 0 where
  rest : List Tmesg
  front : xs ≡ ys ++ rest
  serving : Serving k rest g

serves_before : (xs ys : List Tmesg) (m : Tmesg) (r s : List Tmesg) (h g k : PlainHost) (fx fy : List HFrame) (wx wy : List ℕ)
    → xs ++ m ∷ r ≡ ys ++ s → Serves h (map Answered xs) fx wx g → Serves h (map Answered ys) fy wy k → (effect_of g m ≡ None → ⊥)
    → FitFrames fx → Silent h xs → Silent h ys → Before xs ys k g
serves_before xs [] m r s h g k fx fy wx wy same x y some fit silent silent_too = record {
  rest = xs;
  front = refl;
  serving = record {
    frames = fx;
    writes = wx;
    serves = subst (λ (p : PlainHost). Serves p (map Answered xs) fx wx g) (sym y.2) x;
    fit = fit;
    silent = subst (λ (p : PlainHost). Silent p xs) (sym y.2) silent;
  };
}
serves_before [] (b ∷ ys) m r s h g k fx fy wx wy same x y some fit silent silent_too =
    let head : m ≡ b = same_head m b r (ys ++ s) same in
    absurd (some (ap (λ (p : PlainHost). effect_of p m) x.2 ∙ ap (effect_of h) head ∙ silent_too.0))
serves_before (a ∷ xs) (b ∷ ys) m r s h g k fx fy wx wy same (j, f1, f2, more, answered, frames, writes, serves) (i, g1, g2, others, answered_too, frames_too, writes_too, serves_too) some fit silent silent_too =
    let head : a ≡ b = same_head a b (xs ++ m ∷ r) (ys ++ s) same in
    let one = one_answer h j i a b f1 g1 head answered answered_too in
    let x =
    serves_before xs ys m r s j g k f2 g2 more others (ap (drop 1) same) serves
    (subst (λ p. Serves p (map Answered ys) g2 others k) (sym one.0) serves_too) some (fit_rest f1 f2 (subst FitFrames frames fit))
    (silent.1 j f1 answered) (silent_too.1 j f1 (ap (answer h) (sym head) ∙ answered)) in
    record { rest = x.rest; front = λ t. head t ∷ x.front t; serving = x.serving }

-- ## It goes on by steps

-- a step that has the program do nothing
steps_first : (ps : List Packet) (l k : PlainHostEndpoint) (step : HostStep) (v : Work) → step ≢ steps.Idle → Steps l (Ok step) k
    → k.writes ≡ [] → next_effect l ≡ None → Pauses (at ps k None) v → Pauses (at ps l None) v
steps_first ps l k step v some does quiet none (n, x) =
    let is : at ps k None ≡ at ps (record k { writes = [] }) (next_effect l) = λ i. at ps (record k { writes = quiet i }) (sym none i) in
    (suc n, (refl, at ps k None, inl (step, k, some, does, is), x))

-- what goes on from an end that went on, with nothing unwritten
abbrev GoesOnFrom : List Packet → PlainHostEndpoint → List Tmesg → PlainHost → Work → Type 0
GoesOnFrom ps e rest g v =
    (k : PlainHostEndpoint) → Quietly e k → k.waiting ≡ rest → k.host ≡ g → k.unwritten ≡ [] → Pauses (at ps k None) v

writes_first : (frames : List HFrame) (ps : List Packet) (e l : PlainHostEndpoint) (v : Work) → l.unwritten ≡ frames → Quietly e l
    → GoesOnFrom ps e l.waiting l.host v → Pauses (at ps l None) v
writes_first [] ps e l v is q so = so l q refl refl is
writes_first (f ∷ fs) ps e l v is q so =
    let does : Steps l (Ok steps.Wrote) (written l) =
    (q.went.goes, subst (λ (u : List HFrame). 0 < length u) (sym is) (omega arith), refl) in
    let none : next_effect l ≡ None = ap (λ (u : List HFrame). step_effect u l.host l.waiting) is in
    let still : Quietly e (written l) = quiet_on e l (written l) steps.Wrote q does none in
    steps_first ps l (written l) steps.Wrote v (λ e. cc) does q.quiet none (so (written l) still refl refl refl)

-- it answers these messages one by one
goes_by : (ms : List Tmesg) (ps : List Packet) (e l : PlainHostEndpoint) (rest : List Tmesg) (g : PlainHost) (v : Work) → Quietly e l
    → l.waiting ≡ ms ++ rest → Serving l.host ms g → GoesOnFrom ps e rest g v → Pauses (at ps l None) v
goes_by [] ps e l rest g v q is serving so =
    writes_first l.unwritten ps e l v refl q
    (λ k still waits host none. so k still (waits ∙ is) (host ∙ sym serving.serves.2) none)
goes_by (m ∷ ms) ps e l rest g v q is serving so =
    let (h, first, others, more, answered, frames, writes, serves) = serving.serves in
    writes_first l.unwritten ps e l v refl q
    (λ k still waits host none.
    let n : PlainHostEndpoint =
    record k { host = h; waiting = ms ++ rest; unwritten = first; writes = k.writes ++ writes_of k.host m } in
    let one : AnswersFirst k n = record {
      message = m;
      rest = ms ++ rest;
      host = h;
      frames = first;
      waited = waits ∙ is;
      answered = subst (λ (p : PlainHost). answer p m ≡ Ok (h, first)) (sym host) answered;
      frames_fit = fit_first first others (subst FitFrames frames serving.fit);
      after = refl;
    } in
    let step = steps.Answered (kind_t m) (file_of_t m) in
    let does : Steps k (Ok step) n = ((still.went.goes, none), record { first = one; kind_is = refl; named = refl }) in
    let silent : next_effect k ≡ None =
    answered_effect k n one none ∙ ap (λ (p : PlainHost). effect_of p m) host ∙ serving.silent.0 in
    let quiet : Quietly e n = quiet_on e k n step still does silent in
    steps_first ps k n step v (λ e. cc) does quiet.quiet silent
    (goes_by ms ps e n rest g v quiet refl
    (record {
      frames = others;
      writes = more;
      serves = serves;
      fit = fit_rest first others (subst FitFrames frames serving.fit);
      silent = serving.silent.1 h first answered;
    }) so))

-- ## It pauses where it would have

after_pauses : (ps : List Packet) (l : PlainHostEndpoint) (v : Work) → IsReady l → After ps l v → Pauses (at ps l None) v
after_pauses ps l v ready (inl (none, is)) = (0, ((ready, none), is))
after_pauses ps l v ready (inr (m, hands, (n, more))) = (suc n, (refl, m, inr hands, more))

told_pauses : (f : Effect) (v : Work) → v.effect ≡ Some f → IsPausedAt v.effect v
told_pauses f v is = subst (λ x. IsPausedAt x v) (sym is) tt

ready_from : (ps : List Packet) (e l k : PlainHostEndpoint) (v : Work) → Quietly e k → Readied e l → After ps l v
    → Pauses (at ps k None) v
ready_from ps e l k v q x rest =
    let serving : Serving k.host k.waiting l.host =
    serves_rest q.went.messages x.quietly.went.messages k.waiting e.host k.host l.host q.went.answers.frames x.quietly.went.answers.frames
    [] [] (sym (all_answered e l x) ∙ q.went.answers.waiting)
    (serves_quietly e k q)
    (serves_quietly e l x.quietly) x.quietly.went.answers.frames_fit x.quietly.silent in
    goes_by k.waiting ps e k [] l.host v q (sym (append-nil k.waiting)) serving
    (λ j still waits host none.
    let ready : IsReady j = (
      still.went.goes,
      (
        record { waiting = waits; unwritten = none },
        still.went.answers.broken_by ∙ sym x.quietly.went.answers.broken_by ∙ x.ready.1.1,
      ),
    ) in
    let y : Readied e j = record { quietly = still; ready = ready } in
    after_pauses ps j v ready (subst (λ (p : PlainHostEndpoint). After ps p v) (one_ready e l j x y) rest))

told_from : (ps : List Packet) (e j k : PlainHostEndpoint) (f : Effect) (v : Work) → Quietly e k → Told e j f
    → v ≡ at ps (record j { writes = [] }) (Some f) → Pauses (at ps k None) v
told_from ps e j k f v q x is =
    let m = x.first.message in
    let r = x.first.rest in
    let t =
    serves_before x.quietly.went.messages q.went.messages m r k.waiting e.host x.middle.host k.host x.quietly.went.answers.frames
    q.went.answers.frames [] [] (sym (told_at e j f x) ∙ q.went.answers.waiting) (serves_quietly e x.middle x.quietly)
    (serves_quietly e k q) (told_by e j f x) x.quietly.went.answers.frames_fit x.quietly.silent q.silent in
    let waits : k.waiting ≡ t.rest ++ m ∷ r =
    after_same q.went.messages k.waiting (t.rest ++ m ∷ r)
    (sym q.went.answers.waiting ∙ told_at e j f x ∙ ap (λ (l : List Tmesg). l ++ m ∷ r) t.front
    ∙ append_assoc q.went.messages t.rest (m ∷ r)) in
    goes_by t.rest ps e k (m ∷ r) x.middle.host v q waits t.serving
    (λ l still left host none.
    let told : effect_of l.host m ≡ None → ⊥ = λ silent. told_by e j f x (ap (λ (p : PlainHost). effect_of p m) (sym host) ∙ silent) in
    let front : x.quietly.went.messages ≡ still.went.messages =
    one_front x.quietly.went.messages still.went.messages m m r r e.host x.middle.host l.host x.quietly.went.answers.frames
    still.went.answers.frames [] []
    (sym (told_at e j f x) ∙ still.went.answers.waiting ∙ ap (λ (w : List Tmesg). still.went.messages ++ w) left)
    (serves_quietly e x.middle x.quietly) (serves_quietly e l still) x.quietly.silent still.silent (told_by e j f x) told in
    let same : x.middle ≡ l =
    one_after e x.middle l still.went.messages
    (subst (λ (ms : List Tmesg). Rattle.sam_endpoint.specs.HostEndpoints.Answers e ms x.middle) front x.quietly.went.answers)
    still.went.answers x.written none x.quietly.went.goes still.went.goes in
    let does : Steps x.middle (Ok (steps.Answered (kind_t m) (file_of_t m))) j =
    ((x.quietly.went.goes, x.written), record { first = x.first; kind_is = refl; named = refl }) in
    let effect : Some f ≡ next_effect x.middle = sym (answered_effect x.middle j x.first x.written ∙ x.tells) in
    let at_it : v ≡ at ps (record j { writes = [] }) (next_effect x.middle) =
    is ∙ ap (λ (o : Option Effect). at ps (record j { writes = [] }) o) effect in
    let paused : IsPausedAt v.effect v = told_pauses f v (ap (λ (w : Work). w.effect) is) in
    subst (λ (p : PlainHostEndpoint). Pauses (at ps p None) v) same
    (1, (refl, v, inl (steps.Answered (kind_t m) (file_of_t m), j, (λ e. cc), does, at_it), (paused, refl))))

pauses_from : (ps : List Packet) (e k : PlainHostEndpoint) (v : Work) → Quietly e k → Phase ps e v → Pauses (at ps k None) v
pauses_from ps e k v q (inl (l, x, rest)) = ready_from ps e l k v q x rest
pauses_from ps e k v q (inr (j, f, x, is)) = told_from ps e j k f v q x is

stepped_by : (effect : Option Effect) (ps : List Packet) (e k : PlainHostEndpoint) (step : HostStep) (v : Work) → next_effect e ≡ effect
    → e.stop ≡ None → e.writes ≡ [] → step ≢ steps.Idle → Steps e (Ok step) k → Phase ps e v
    → Pauses (at ps (record k { writes = [] }) effect) v
stepped_by None ps e k step v none goes quiet some does phase =
    let q : Quietly e k = quiet_on e e k step (stands e goes quiet) does none in
    subst (λ (w : List ℕ). Pauses (at ps (record k { writes = w }) None) v) q.quiet (pauses_from ps e k v q phase)
stepped_by (Some f) ps e k step v told goes quiet some does (inl (l, x, rest)) =
    absurd (not_both e l k f x (told_to e e k step f (stands e goes quiet) some does told))
stepped_by (Some f) ps e k step v told goes quiet some does (inr (j, g, x, is)) =
    let one = one_told e j k g f x (told_to e e k step f (stands e goes quiet) some does told) in
    (0, (tt, is ∙ (λ i. at ps (record (one.0 i) { writes = [] }) (Some (one.1 i)))))

steps_back : (ps : List Packet) (e : PlainHostEndpoint) (m v : Work) → e.writes ≡ [] → StepsOn (at ps e None) m
    → Pauses (at ps e None) v → Pauses m v
steps_back ps e m v quiet (step, k, some, does, is) pauses =
    let phase = begun ps e v quiet pauses in
    let goes = goes_at pauses.0 ps e v pauses.1 in
    subst (λ (w : Work). Pauses w v) (sym is) (stepped_by (next_effect e) ps e k step v refl goes quiet some does phase)

some_messages : (ms rest : List Tmesg) → 0 < length ms → [] ≡ ms ++ rest → ⊥
some_messages [] rest some is = omega (arith, some)
some_messages (m ∷ ms) rest some is = cc

-- an endpoint that is ready makes no step
pub no_step : (e k : PlainHostEndpoint) (step : HostStep) → IsReady e → step ≢ steps.Idle → Steps e (Ok step) k → ⊥
no_step e k steps.Idle ready some does = some refl
no_step e k steps.Wrote ready some (going, waits, is) = omega (arith, waits, ap length ready.1.0.unwritten)
no_step e k (steps.Edited tag count) ready some (written, took) =
    some_messages took.edits.messages took.edits.rest took.edits.some (sym ready.1.0.waiting ∙ took.edits.waited)
no_step e k (steps.Answered kind tag) ready some (written, did) =
    some_messages (did.first.message ∷ []) did.first.rest (omega arith) (sym ready.1.0.waiting ∙ did.first.waited)

some_packet : (p : Packet) (ps : List Packet) → p ∷ ps ≡ [] → ⊥
some_packet p ps is = cc

hands_back : (ps : List Packet) (n : ℕ) (e : PlainHostEndpoint) (m v : Work) → HandsOn (at ps e None) ps m
    → PausesBy n (at ps e None) v → Pauses m v
hands_back [] n e m v hands x = absurd hands
hands_back (packet.Data bytes ∷ ps) zero e m v hands (paused, is) = absurd (some_packet (packet.Data bytes) ps paused.1)
hands_back (packet.Data bytes ∷ ps) (suc n) e m v (k, brings, is) (none, w, inl (step, j, some, does, at_it), more) =
    absurd (no_step e j step brings.0 some does)
hands_back (packet.Data bytes ∷ ps) (suc n) e m v (k, brings, is) (none, w, inr (j, brings_too, is_too), more) =
    let same : j ≡ k = takes_in_one e j k bytes brings_too.1 brings.1 in
    (n, subst (λ (x : Work). PausesBy n x v) (is_too ∙ ap (λ (p : PlainHostEndpoint). at ps p None) same ∙ sym is) more)
hands_back (packet.Note bytes ∷ ps) zero e m v hands (paused, is) = absurd (some_packet (packet.Note bytes) ps paused.1)
hands_back (packet.Note bytes ∷ ps) (suc n) e m v (ready, is) (none, w, inl (step, j, some, does, at_it), more) =
    absurd (no_step e j step ready some does)
hands_back (packet.Note bytes ∷ ps) (suc n) e m v (ready, is) (none, w, inr (ready_too, is_too), more) =
    (n, subst (λ (x : Work). PausesBy n x v) (is_too ∙ sym is) more)
hands_back (packet.Acknowledge count ∷ ps) n e m v hands x = absurd hands
hands_back (packet.Ask ∷ ps) n e m v hands x = absurd hands

-- after any move it pauses where it would have
pub moved_back : (ps : List Packet) (e : PlainHostEndpoint) (m v : Work) → e.writes ≡ []
    → StepsOn (at ps e None) m ⊎ HandsOn (at ps e None) ps m → Pauses (at ps e None) v → Pauses m v
moved_back ps e m v quiet (inl does) pauses = steps_back ps e m v quiet does pauses
moved_back ps e m v quiet (inr hands) pauses = hands_back ps pauses.0 e m v hands pauses.1

-- ## Where it stops it pauses nowhere

ok_or_err : (h : PlainHost) (m n : Tmesg) (k : PlainHost) (frames : List HFrame) (why : HostFault) → m ≡ n → answer h m ≡ Ok (k, frames)
    → answer h n ≡ Err why → ⊥
ok_or_err h m n k frames why same is is_too = grind arith

-- the host answers these messages, so it doesn't refuse the first
first_refused : (ms rest : List Tmesg) (m : Tmesg) (h g : PlainHost) (frames : List HFrame) (writes : List ℕ) (why : HostFault)
    → ms ≡ m ∷ rest → Serves h (map Answered ms) frames writes g → answer h m ≡ Err why → ⊥
first_refused [] rest m h g frames writes why is serves refused = cc
first_refused (n ∷ ms) rest m h g frames writes why is (k, first, others, more, answered, at_it, tells, serves) refused =
    ok_or_err h n m k first why (same_head n m ms rest is) answered refused

told_refused : (xs r rest : List Tmesg) (n m : Tmesg) (h g k : PlainHost) (fx frames : List HFrame) (why : HostFault)
    → xs ++ n ∷ r ≡ m ∷ rest → Serves h (map Answered xs) fx [] g → answer g n ≡ Ok (k, frames) → answer h m ≡ Err why → ⊥
told_refused [] r rest n m h g k fx frames why is serves answered refused =
    ok_or_err h n m k frames why (same_head n m r rest is)
    (subst (λ (p : PlainHost). answer p n ≡ Ok (k, frames)) serves.2 answered) refused
told_refused (x ∷ xs) r rest n m h g k fx frames why is (j, first, others, more, answered_too, at_it, tells, serves) answered refused =
    ok_or_err h x m j first why (same_head x m (xs ++ n ∷ r) rest is) answered_too refused

none_waits : (xs r : List Tmesg) (m : Tmesg) → xs ++ m ∷ r ≡ [] → ⊥
none_waits [] r m is = cc
none_waits (x ∷ xs) r m is = cc

stops_not : (ps : List Packet) (e k : PlainHostEndpoint) (why : HostStop) (v : Work) → e.stop ≡ None
    → Steps e (Err (endpoint.Stopped why)) k → Phase ps e v → ⊥
stops_not ps e k why v goes (inl (stops, is)) phase = cc (sym goes ∙ stops)
stops_not ps e k (stop.Stream why) v goes (inr (written, (none, shows, is))) (inl (l, x, rest)) =
    cc (sym shows ∙ sym x.quietly.went.answers.broken_by ∙ x.ready.1.1)
stops_not ps e k (stop.Stream why) v goes (inr (written, (none, shows, is))) (inr (j, f, x, at_it)) =
    none_waits x.quietly.went.messages x.first.rest x.first.message (sym (told_at e j f x) ∙ none)
stops_not ps e k (stop.Refused why) v goes (inr (written, (m, rest, waits, refused, is))) (inl (l, x, after)) =
    first_refused x.quietly.went.messages rest m e.host l.host x.quietly.went.answers.frames [] why
    (sym (all_answered e l x) ∙ waits)
    (serves_quietly e l x.quietly) refused
stops_not ps e k (stop.Refused why) v goes (inr (written, (m, rest, waits, refused, is))) (inr (j, f, x, at_it)) =
    told_refused x.quietly.went.messages x.first.rest rest x.first.message m e.host x.middle.host x.first.host
    x.quietly.went.answers.frames x.first.frames why
    (sym (told_at e j f x) ∙ waits)
    (serves_quietly e x.middle x.quietly) x.first.answered refused

-- no work pauses whose endpoint stops at its next step
pub stops_nowhere : (ps : List Packet) (e k : PlainHostEndpoint) (why : HostStop) (v : Work) → e.writes ≡ []
    → Steps e (Err (endpoint.Stopped why)) k → Pauses (at ps e None) v → ⊥
stops_nowhere ps e k why v quiet does pauses =
    stops_not ps e k why v (goes_at pauses.0 ps e v pauses.1) does (begun ps e v quiet pauses)

-- where the endpoint may never have the piece that is next, none does either
pub brings_nowhere : (n : ℕ) (piece : List ℕ) (ps : List Packet) (e : PlainHostEndpoint) (v : Work) → IsReady e
    → ((j : PlainHostEndpoint) → BringsIn e piece (Ok tt) j → ⊥) → PausesBy n (at (packet.Data piece ∷ ps) e None) v → ⊥
brings_nowhere zero piece ps e v ready never (paused, is) = some_packet (packet.Data piece) ps paused.1
brings_nowhere (suc n) piece ps e v ready never (none, w, inl (step, j, some, does, at_it), more) = no_step e j step ready some does
brings_nowhere (suc n) piece ps e v ready never (none, w, inr (j, brings, is), more) = never j brings
