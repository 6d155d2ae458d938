-- What is kept of the terminal's worker, step by step.
use Rattle.sam_term_worker.proofs.Common.{◌≡◌, ◌⊎◌, ◌∙◌, ap, subst, sym, refl, inl, inr, flat_map-append, ℕ, Bool, true, false, List, [], ◌∷◌, ◌++◌, Option, Some, None, Ok, Err, is_some, append_assoc, append-nil, arith, MatchBool, Vec, HFrame, FitsT, Tmesg, terminal, stream_of, stream_of-append, new_terminal, UserEvent, Exit, TermLog, TermRuns, term_more, each_append, Entry, IsEnded, has_left, TakeView, PostView, CanBeFull, closed_post, new_take, new_post, at_work, frames_in, users_in, CanGoOn, LoggedView, Did, IsPutOn, SideView, SoFar, Ran, Goes, IsDone, IsQuiet, IsFound, PutSome, Input, Stop, TermTold, WentOn, bytes_left}
use Rattle.sam_sides.specs.Logs.{logged_users}
use Rattle.sam_term.specs.Term.{PlainTerminal}
use Rattle.sam_endpoint.specs.TermEndpoints.{PlainTermEndpoint, new_term_endpoint}
use Rattle.sam_term_worker.proofs.TermSteps.{did_nothing}
use Rattle.sam_term_worker.specs.declared.term_side.Found.{Found}
use Rattle.std.specs.Prelude.{if◌then◌else◌}
use Rattle.sam_ends.specs.Gates.{LetOn, TermHandled, TermLetOn}
use Rattle.sam_ends.specs.Inputs.{bytes_of}
use Rattle.sam_ends.specs.WorkerEnds.{IsFullUp, RefusesFrame}
use Rattle.sam_ends.specs.declared.ends.TermEnd.{TermEnd}
use Rattle.sam_ends.proofs.GateLaws.{let_on_from}
use Rattle.sam_ends.specs.declared.stop.Stop.TheVariants as stop

-- ## Logs that grow

users_append : (es fs : List TermLog) → logged_users (es ++ fs) ≡ logged_users es ++ logged_users fs
users_append [] fs = refl
users_append (e ∷ es) fs = grind (arith, (users_append es fs))

-- the run with what the logged did after it
pub runs_on : (v : SideView) (logged : LoggedView) (events : List UserEvent) (frames : List HFrame) (r : Ran v) → (d : Did v.logged logged events frames)
    → TermRuns at_work new_terminal logged.log (frames_in r.handled ++ frames) (r.composed ++ d.composed) logged.end.term
runs_on v logged events frames r d = grind (
  arith,
  (term_more at_work v.logged.log new_terminal v.logged.end.term logged.end.term (frames_in r.handled) r.composed d.entries frames d.composed r.runs d.runs),
)

pub users_on : (v : SideView) (logged : LoggedView) (events : List UserEvent) (frames : List HFrame) (r : Ran v) → Did v.logged logged events frames
    → logged_users logged.log ≡ (users_in r.handled ++ r.own) ++ events
users_on v logged events frames r d = grind (arith, users_append)

pub none_of : (o : Option Stop) → is_some o ≡ false → o ≡ None
none_of o e = grind arith

-- ## What was put

-- nothing is dropped where nothing has stopped it, and its end can go on
pub whole : (v : SideView) (r : Ran v) → v.stop ≡ None → (r.dropped ≡ []) × CanGoOn v.logged.end
whole v r e = grind arith

pub can_go_on : (v : SideView) → Ran v → is_some v.stop ≡ false → CanGoOn v.logged.end
can_go_on v r running = (whole v r (none_of v.stop running)).1

pub all_handled : (v : SideView) (r : Ran v) → v.stop ≡ None → v.take.taken ≡ r.handled
all_handled v r e = grind (arith, whole, append-nil)

-- the frames of more messages after those of the others
pub sent_on : (put before after : List ℕ) (composed ms : List Tmesg) → put ++ before ≡ stream_of terminal composed → after ≡ before ++ stream_of terminal ms
    → put ++ after ≡ stream_of terminal (composed ++ ms)
sent_on put before after composed ms sent grown = grind (arith, append_assoc, stream_of-append)

-- ## Acting, flushing

-- what the logged did without an event or a frame
kept_step : (v : SideView) (logged : LoggedView) (why : Option Stop) → Ran v → v.stop ≡ None → Did v.logged logged [] [] → SoFar logged.end [] why
    → (why ≡ Some stop.PeerGone → has_left 2 v.take.taken ≡ true)
    → Ran (record { take = v.take; post = v.post; logged = logged; keyboard_left = v.keyboard_left; mouse_left = v.mouse_left; exit_put = v.exit_put; steps = v.steps; stop = why })
kept_step v logged why r running d so_far gone = record {
  handled = r.handled;
  dropped = [];
  composed = r.composed ++ d.composed;
  own = r.own;
  number = r.number;
  senders = r.senders;
  took = all_handled v r running ∙ sym (append-nil r.handled);
  runs = subst (λ (fs : List HFrame). TermRuns at_work new_terminal logged.log fs (r.composed ++ d.composed) logged.end.term) (append-nil (frames_in r.handled)) (runs_on v logged [] [] r d);
  users = users_on v logged [] [] r d ∙ append-nil (users_in r.handled ++ r.own);
  own_is = r.own_is;
  all_left = r.all_left;
  keyboard = r.keyboard;
  mouse = r.mouse;
  fit = each_append (FitsT 2) r.composed d.composed r.fit d.fit;
  sent = sent_on (bytes_of v.post.put) (bytes_left v.logged) (bytes_left logged) r.composed d.composed r.sent d.bytes;
  so_far = so_far;
  gone = λ is. subst (λ (h : List (Entry Input)). has_left 2 h ≡ true) (all_handled v r running) (gone is);
  counted = r.counted;
}

none_gone : (h : List (Entry Input)) → None ≡ Some stop.PeerGone → has_left 2 h ≡ true
none_gone h is = grind arith

pub kept_went : {A : Type 0} (v : SideView) (logged : LoggedView) (done : A) → Ran v → is_some v.stop ≡ false → WentOn v.logged (Ok done) logged
    → Ran (record { take = v.take; post = v.post; logged = logged; keyboard_left = v.keyboard_left; mouse_left = v.mouse_left; exit_put = v.exit_put; steps = v.steps; stop = v.stop })
kept_went v logged done r running went =
    let none = none_of v.stop running in
    subst
    (λ (o : Option Stop). Ran (record { take = v.take; post = v.post; logged = logged; keyboard_left = v.keyboard_left; mouse_left = v.mouse_left; exit_put = v.exit_put; steps = v.steps; stop = o }))
    (sym none)
    (kept_step v logged None r none went.0 (refl, went.1) (none_gone v.take.taken))

kept_memory : (e : PlainTermEndpoint) (why : Stop) → (why ≡ stop.Memory) ⊎ ((why ≡ stop.Term 8) × IsFullUp e.term) → SoFar e [] (Some why)
kept_memory e why (inl memory) = subst (λ (s : Stop). SoFar e [] (Some s)) (sym memory) tt
kept_memory e why (inr (full, is)) = subst (λ (s : Stop). SoFar e [] (Some s)) (sym full) (inl (refl, is))

stays_here : (t : PlainTerminal) (why : Stop) (h : List (Entry Input)) → (why ≡ stop.Memory) ⊎ ((why ≡ stop.Term 8) × IsFullUp t) → Some why ≡ Some stop.PeerGone → has_left 2 h ≡ true
stays_here t why h is gone = grind arith

pub kept_stopped : (A : Type 0) (v : SideView) (logged : LoggedView) (why : Stop) → Ran v → is_some v.stop ≡ false → WentOn {A = A} v.logged (Err why) logged
    → Ran (record { take = v.take; post = v.post; logged = logged; keyboard_left = v.keyboard_left; mouse_left = v.mouse_left; exit_put = v.exit_put; steps = v.steps; stop = Some why })
kept_stopped A v logged why r running (still, is) =
    kept_step v logged (Some why) r (none_of v.stop running) (did_nothing v.logged logged still) (kept_memory logged.end why is) (stays_here logged.end.term why v.take.taken is)

-- no gate stops it there
pub goes_kept : (A : Type 0) (a b : LoggedView) (why : Stop) → WentOn {A = A} a (Err why) b → why ≡ stop.Gate → ⊥
goes_kept A a b why (still, is) gate = grind arith

-- what a side rests on that makes a step or composes
pub ruleset steps_kept = (can_go_on, kept_went, kept_stopped, goes_kept)

left_last : (h : List (Entry Input)) → IsEnded 3 h → has_left 2 h ≡ true
left_last h ended = grind arith

-- the host reader is gone, and the session not over
pub kept_lost : (v : SideView) → Ran v → is_some v.stop ≡ false → IsEnded 3 v.take.taken → v.logged.end.term.has_exited ≡ false
    → Ran (record v { stop = Some stop.PeerGone })
kept_lost v r running ended e =
    kept_step v v.logged (Some stop.PeerGone) r (none_of v.stop running) (did_nothing v.logged v.logged (record { term = refl; log = refl; bytes = refl })) e (λ is. left_last v.take.taken ended)

-- ## Its own Exit

pub kept_exit : (v : SideView) (logged : LoggedView) → Ran v → is_some v.stop ≡ false → Did v.logged logged (Exit ∷ []) [] → CanGoOn logged.end → v.exit_put ≡ false
    → v.keyboard_left ≡ true → v.mouse_left ≡ true
    → Ran (record { take = v.take; post = v.post; logged = logged; keyboard_left = v.keyboard_left; mouse_left = v.mouse_left; exit_put = true; steps = v.steps; stop = v.stop })
kept_exit v logged r running d on none k m =
    let ran = runs_on v logged (Exit ∷ []) [] r d in
    let said = users_on v logged (Exit ∷ []) [] r d in
    let none_of_its_own : r.own ≡ [] = r.own_is ∙ ap (λ (b : Bool). if b then Exit ∷ [] else []) none in
    record {
      handled = r.handled;
      dropped = r.dropped;
      composed = r.composed ++ d.composed;
      own = Exit ∷ [];
      number = r.number;
      senders = r.senders;
      took = r.took;
      runs = subst (λ (fs : List HFrame). TermRuns at_work new_terminal logged.log fs (r.composed ++ d.composed) logged.end.term) (append-nil (frames_in r.handled)) ran;
      users = said ∙ (ap (λ (us : List UserEvent). (users_in r.handled ++ us) ++ Exit ∷ []) none_of_its_own ∙ ap (λ (us : List UserEvent). us ++ Exit ∷ []) (append-nil (users_in r.handled)));
      own_is = refl;
      all_left = λ is. (k, m);
      keyboard = r.keyboard;
      mouse = r.mouse;
      fit = each_append (FitsT 2) r.composed d.composed r.fit d.fit;
      sent = sent_on (bytes_of v.post.put) (bytes_left v.logged) (bytes_left logged) r.composed d.composed r.sent d.bytes;
      so_far = subst (λ (o : Option Stop). SoFar logged.end r.dropped o) (sym (none_of v.stop running)) ((whole v r (none_of v.stop running)).0, on);
      gone = r.gone;
      counted = r.counted;
    }

-- ## Its line

-- what stopped the worker is so whatever was put
so_far_put : (e g : PlainTermEndpoint) (dropped : List (Entry Input)) (why : Option Stop) → g ≡ record e { pending_bytes = g.pending_bytes } → SoFar e dropped why → SoFar g dropped why
so_far_put e g dropped None same (none, on) = (
  none,
  record {
    goes = ap (λ (x : PlainTermEndpoint). x.stop) same ∙ on.goes;
    none_waits = ap (λ (x : PlainTermEndpoint). x.waiting) same ∙ on.none_waits;
    reads = ap (λ (x : PlainTermEndpoint). x.broken_by) same ∙ on.reads;
  },
)
so_far_put e g dropped (Some (stop.Frame n)) same is = is
so_far_put e g dropped (Some (stop.Host n)) same is = is
so_far_put e g dropped (Some (stop.Term n)) same is =
    subst (λ (t : PlainTerminal). ((n ≡ 8) × IsFullUp t) ⊎ RefusesFrame t dropped n) (sym (ap (λ (x : PlainTermEndpoint). x.term) same)) is
so_far_put e g dropped (Some stop.PeerGone) same is = ap (λ (x : PlainTermEndpoint). x.term.has_exited) same ∙ is
so_far_put e g dropped (Some stop.Gate) same is = tt
so_far_put e g dropped (Some stop.Memory) same is = tt

sent_put : (most : ℕ) (a b : PostView (Vec ℕ)) (bytes rest all : List ℕ) → PutSome most a b bytes rest → bytes_of a.put ++ bytes ≡ all → bytes_of b.put ++ rest ≡ all
sent_put most a b bytes rest all p sent = grind (arith, flat_map-append, append_assoc)

number_put : (most : ℕ) (a b : PostView (Vec ℕ)) (bytes rest : List ℕ) → PutSome most a b bytes rest → b.number ≡ a.number
number_put most a b bytes rest p = grind arith

-- pieces were put
pub kept_pieces : (v : SideView) (post : PostView (Vec ℕ)) (logged : LoggedView) (most : ℕ) → Ran v → PutSome most v.post post (bytes_left v.logged) (bytes_left logged)
    → IsPutOn v.logged logged
    → Ran (record { take = v.take; post = post; logged = logged; keyboard_left = v.keyboard_left; mouse_left = v.mouse_left; exit_put = v.exit_put; steps = v.steps; stop = v.stop })
kept_pieces v post logged most r p on = record {
  handled = r.handled;
  dropped = r.dropped;
  composed = r.composed;
  own = r.own;
  number = number_put most v.post post (bytes_left v.logged) (bytes_left logged) p ∙ r.number;
  senders = r.senders;
  took = r.took;
  runs = subst (λ (x : LoggedView). TermRuns at_work new_terminal x.log (frames_in r.handled) r.composed x.end.term) (sym on) r.runs;
  users = ap (λ (x : LoggedView). logged_users x.log) on ∙ r.users;
  own_is = r.own_is;
  all_left = r.all_left;
  keyboard = r.keyboard;
  mouse = r.mouse;
  fit = r.fit;
  sent = sent_put most v.post post (bytes_left v.logged) (bytes_left logged) (stream_of terminal r.composed) p r.sent;
  so_far = so_far_put v.logged.end logged.end r.dropped v.stop (ap (λ (x : LoggedView). x.end) on) r.so_far;
  gone = r.gone;
  counted = r.counted;
}

pub goes_put : (most : ℕ) (a b : PostView (Vec ℕ)) (bytes rest : List ℕ) → PutSome most a b bytes rest → b.line ≡ a.line
goes_put most a b bytes rest p = grind arith

-- no memory for the next piece
pub kept_short : (v : SideView) (post : PostView (Vec ℕ)) (logged : LoggedView) (most : ℕ) → Ran v → is_some v.stop ≡ false
    → PutSome most v.post post (bytes_left v.logged) (bytes_left logged) → IsPutOn v.logged logged
    → Ran (record { take = v.take; post = post; logged = logged; keyboard_left = v.keyboard_left; mouse_left = v.mouse_left; exit_put = v.exit_put; steps = v.steps; stop = Some stop.Memory })
kept_short v post logged most r running p on = grind (arith, (kept_pieces v post logged most r p on))

pub kept_closed : (v : SideView) (post : PostView (Vec ℕ)) (b : Bool) → Ran v → MatchBool b (post ≡ closed_post v.post) ((post ≡ v.post) × (v.post.closed ≡ false) × CanBeFull v.post)
    → Ran (record { take = v.take; post = post; logged = v.logged; keyboard_left = v.keyboard_left; mouse_left = v.mouse_left; exit_put = v.exit_put; steps = v.steps; stop = v.stop })
kept_closed v post b e u = grind arith

-- ## From one moment to another

pub goes_on : (a b c : SideView) → Goes a b → Goes b c → Goes a c
goes_on a b c p q = grind arith

pub found_still : (a b : SideView) (f : Found) → Goes a b → IsFound a f → IsFound b f
found_still a b f e u = grind arith

pub done_stopped : (v : SideView) → is_some v.stop ≡ true → IsEnded 3 v.take.taken → IsDone (record v { post = closed_post v.post })
done_stopped v stopped ended = grind arith

pub done_quiet : (v : SideView) → IsQuiet v → IsEnded 3 v.take.taken → IsDone (record v { post = closed_post v.post })
done_quiet v q ended = grind arith

pub kept_new : (line : TakeView Input) (post : PostView (Vec ℕ)) (logged : LoggedView) (most : ℕ) (why : Option Stop)
    → line ≡ new_take line.line → line.line.senders ≡ 3 → post ≡ new_post post.line 0
    → logged ≡ record { end = new_term_endpoint; log = []; most = most } → (why ≡ None) ⊎ (why ≡ Some stop.Gate)
    → Ran (record { take = line; post = post; logged = logged; keyboard_left = false; mouse_left = false; exit_put = false; steps = 0; stop = why })
kept_new line post logged most why fresh three first laid is = record {
  handled = [];
  dropped = [];
  composed = [];
  own = [];
  number = grind arith;
  senders = three;
  took = grind arith;
  runs = grind arith;
  users = grind arith;
  own_is = refl;
  all_left = grind arith;
  keyboard = grind arith;
  mouse = grind arith;
  fit = tt;
  sent = grind arith;
  so_far = grind arith;
  gone = grind arith;
  counted = grind arith;
}

-- what a side rests on that puts a piece
pub ruleset pieces_kept = (kept_pieces, kept_short, goes_put)

-- what the worker tells of its end
pub told : (v : SideView) (term : PlainTerminal) (log : Vec TermLog) (passed : Bool) → Ran v → IsDone v → term ≡ v.logged.end.term → log.items ≡ v.logged.log
    → TermTold v.take.line v.post.line (record { take = v.take; post = v.post; term = term; log = log; passed = passed; stop = v.stop })
told v term log passed r d same logged = grind arith

pub told_handled : (v : SideView) (term : PlainTerminal) (log : Vec TermLog) (passed : Bool) → Ran v → term ≡ v.logged.end.term → log.items ≡ v.logged.log
    → TermHandled v.steps (record { take = v.take; post = v.post; term = term; log = log; passed = passed; stop = v.stop })
told_handled v term log passed r same logged = grind arith

-- ## Its gate

pub term_let_on : (must : Option ℕ → Type 0) (v w : SideView) (e : TermEnd) → v.steps ≡ 0 → LetOn must v.steps w.steps → TermHandled w.steps e → TermLetOn must e
term_let_on must v w e none first handled = record { many = w.steps; handled = handled; let_on = let_on_from must v.steps w.steps none first }
