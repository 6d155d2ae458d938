-- The host's worker from one call of its endpoint to the next.
use Rattle.sam_workers.proofs.Common.{flat_map-append, ◌≡◌, ◌∙◌, ap, subst, inl, inr, ℕ, List, [], ◌∷◌, ◌++◌, Option, None, Some, Result, Ok, Err, refl, sym, append_assoc, append-nil, arith, length, Vec, PostView, bytes_of, PutSome, Calls, Causes, Halts, IsGoing, IsQuiet, StepsDown, TakesPiece, stop_of, to_do, Stop}
use Rattle.std.proofs.Common.{◌<◌, Bool, false, true}
use Rattle.std.specs.Prelude.{flat_map}
use Rattle.std.specs.Result.{IsErrAnd}
use Rattle.sam_host.proofs.SoundLaws.{answers_are_counted}
use Rattle.sam_host.specs.declared.fault.HostFault.TheVariants as refusal
use Rattle.sam_endpoint.specs.declared.fault.EndpointFault.{EndpointFault}
use Rattle.sam_endpoint.specs.declared.fault.EndpointFault.TheVariants as fault
use Rattle.sam_endpoint.specs.declared.fault.HostStop.{HostStop}
use Rattle.sam_endpoint.specs.declared.fault.HostStop.TheVariants as halt
use Rattle.sam_endpoint.specs.declared.step.HostStep.{HostStep}
use Rattle.sam_endpoint.specs.declared.step.HostStep.TheVariants as step
use Rattle.sam_endpoint.specs.HostEndpoints.{PlainHostEndpoint, TakesIn}
use Rattle.sam_endpoint.specs.HostStepping.{Steps}
use Rattle.sam_endpoint.specs.HostRuns.{AddFile, Bring, Call, Feed, MakeStep, MarkDirty, NextWritten, Runs, TakeOut, asides_by, came_in, went_out}
use Rattle.sam_ends.specs.Gates.{LetOn}
use Rattle.sam_ends.proofs.GateLaws.{let_on_at, let_on_none, let_on_to}
use Rattle.sam_ends.specs.declared.stop.Stop.TheVariants as stop

-- ## Calls one after another

runs_then : (xs ys : List Call) (e k g : PlainHostEndpoint) → Runs e xs k → Runs k ys g → Runs e (xs ++ ys) g
runs_then [] ys e k g is runs = subst (λ (x : PlainHostEndpoint). Runs x ys g) is runs
runs_then (Feed piece answer ∷ xs) ys e k g (m, feeds, goes, more) runs = (m, feeds, goes, runs_then xs ys m k g more runs)
runs_then (Bring piece result ∷ xs) ys e k g (m, brings, more) runs = (m, brings, runs_then xs ys m k g more runs)
runs_then (MakeStep result ∷ xs) ys e k g (m, steps, goes, more) runs = (m, steps, goes, runs_then xs ys m k g more runs)
runs_then (AddFile count name text result ∷ xs) ys e k g (m, then, adds, more) runs = (m, then, adds, runs_then xs ys m k g more runs)
runs_then (MarkDirty count f result ∷ xs) ys e k g (m, then, marks, more) runs = (m, then, marks, runs_then xs ys m k g more runs)
runs_then (TakeOut bytes ∷ xs) ys e k g (rest, is, more) runs = (rest, is, runs_then xs ys _ k g more runs)
runs_then (NextWritten tag ∷ xs) ys e k g (is, more) runs = (is, runs_then xs ys _ k g more runs)

put_none : (a last : List ℕ) → last ≡ [] → a ++ [] ≡ (a ++ []) ++ last
put_none a last none = grind (arith, append-nil)

pub no_calls : (e : PlainHostEndpoint) (p : PostView (Vec ℕ)) → e.pending_bytes ≡ [] → Calls e e p p [] []
no_calls e p none = record {
  calls = [];
  runs = refl;
  came_is = refl;
  no_aside = refl;
  put = put_none (bytes_of p.put) e.pending_bytes none;
  line = refl;
  number = refl;
  closed = refl;
}

put_then : (a b c out more middle last unput : List ℕ) → middle ≡ [] → b ++ [] ≡ (a ++ out) ++ middle → c ++ unput ≡ (b ++ more) ++ last → c ++ unput ≡ (a ++ (out ++ more)) ++ last
put_then a b c out more middle last unput none first second = grind (arith, append-nil, append_assoc)

pub calls_then : (e k g : PlainHostEndpoint) (p q r : PostView (Vec ℕ)) (came more unput : List ℕ) → k.pending_bytes ≡ []
    → Calls e k p q came [] → Calls k g q r more unput → Calls e g p r (came ++ more) unput
calls_then e k g p q r came more unput none a b = record {
  calls = a.calls ++ b.calls;
  runs = runs_then a.calls b.calls e k g a.runs b.runs;
  came_is = grind (arith, (flat_map-append came_in a.calls b.calls));
  no_aside = grind (arith, (flat_map-append asides_by a.calls b.calls));
  put = put_then (bytes_of p.put) (bytes_of q.put) (bytes_of r.put) (flat_map went_out a.calls) (flat_map went_out b.calls) k.pending_bytes g.pending_bytes unput none a.put b.put
      ∙ ap (λ (x : List ℕ). (bytes_of p.put ++ x) ++ g.pending_bytes) (sym (flat_map-append went_out a.calls b.calls));
  line = b.line ∙ a.line;
  number = b.number ∙ a.number;
  closed = b.closed ∙ a.closed;
}

-- with which no more of the stream came in
pub calls_on : (e k g : PlainHostEndpoint) (p q r : PostView (Vec ℕ)) (came : List ℕ) → k.pending_bytes ≡ [] → Calls e k p q came [] → Calls k g q r [] []
    → Calls e g p r came []
calls_on e k g p q r came none a b = subst (λ (x : List ℕ). Calls e g p r x []) (append-nil came) (calls_then e k g p q r came [] [] none a b)

pub halts_after : (refuses : Type 0) (e k g : PlainHostEndpoint) (p q r : PostView (Vec ℕ)) (came bytes : List ℕ) (why : Stop) → k.pending_bytes ≡ []
    → Calls e k p q came [] → Halts refuses k g q r bytes why → Halts refuses e g p r (came ++ bytes) why
halts_after refuses e k g p q r came bytes why none a h = record {
  last = h.last;
  came = came ++ h.came;
  rest = h.rest;
  unput = h.unput;
  whole = ap (λ (x : List ℕ). came ++ x) h.whole ∙ sym (append_assoc came h.came h.rest);
  made = calls_then e k h.last p q r came h.came h.unput none a h.made;
  host_is = h.host_is;
  cause = h.cause;
}

-- it stops where it stands
pub halts_here : (refuses : Type 0) (e g : PlainHostEndpoint) (p q : PostView (Vec ℕ)) (bytes : List ℕ) (why : Stop) → e.pending_bytes ≡ [] → q ≡ p → g.host ≡ e.host
    → Causes refuses e bytes why → Halts refuses e g p q bytes why
halts_here refuses e g p q bytes why none same host_is cause = record {
  last = e;
  came = [];
  rest = bytes;
  unput = [];
  whole = refl;
  made = subst (λ (x : PostView (Vec ℕ)). Calls e e p x [] []) (sym same) (no_calls e p none);
  host_is = host_is;
  cause = cause;
}

-- a cause without a gate
pub causes_any : (refuses : Type 0) (e : PlainHostEndpoint) (rest : List ℕ) (why : Stop) → Causes ⊥ e rest why → Causes refuses e rest why
causes_any refuses e rest stop.Gate cause = absurd cause
causes_any refuses e rest why cause = cause

-- ## One step

-- what a step is that takes no edits at once
abbrev pub IsSingle : Result HostStep (EndpointFault HostStop) → Type 0
IsSingle result = (tag count : ℕ) → result ≡ Ok (step.Edited tag count) → ⊥

pub record Moved (e k : PlainHostEndpoint) : Type 0 where
  pub goes : k.stop ≡ None
  pub less : to_do k < to_do e

pub moved : (e k : PlainHostEndpoint) (done : HostStep) → Steps e (Ok done) k → (done ≡ step.Idle → ⊥) → IsSingle (Ok done) → Moved e k
moved e k step.Idle steps works single = absurd (works refl)
moved e k step.Wrote (goes, some, is) works single = grind arith
moved e k (step.Edited tag count) steps works single = absurd (single tag count refl)
moved e k (step.Answered kind tag) (is, first) works single = let a = first.first in grind arith

-- the step was made, and all that was then pending is put
pub step_put : (most : ℕ) (e k g : PlainHostEndpoint) (done : HostStep) (p q : PostView (Vec ℕ)) → Steps e (Ok done) k → g ≡ record k { pending_bytes = [] }
    → PutSome most p q k.pending_bytes [] → Calls e g p q [] []
step_put most e k g done p q steps is put = record {
  calls = MakeStep (Ok done) ∷ TakeOut k.pending_bytes ∷ [];
  runs = (k, steps, tt, ([], sym (append-nil k.pending_bytes), is));
  came_is = refl;
  no_aside = refl;
  put = grind (arith, append-nil, append_assoc, (flat_map-append (λ (v : Vec ℕ). v.items) p.put put.pieces));
  line = grind arith;
  number = grind arith;
  closed = grind arith;
}

-- the gate was asked where the host took a message
pub step_let_on : (must : Option ℕ → Type 0) (e k : PlainHostEndpoint) (done : HostStep) → Steps e (Ok done) k → IsSingle (Ok done)
    → (e.unwritten ≡ [] → 0 < length e.waiting → must (Some e.host.taken) → ⊥) → LetOn must e.host.taken k.host.taken
step_let_on must e k step.Idle (ready, same) single asked = let_on_to must _ _ _ (let_on_none must e.host.taken) (ap (λ (x : PlainHostEndpoint). x.host.taken) same)
step_let_on must e k step.Wrote (goes, some, is) single asked = let_on_to must _ _ _ (let_on_none must e.host.taken) (ap (λ (x : PlainHostEndpoint). x.host.taken) is)
step_let_on must e k (step.Edited tag count) steps single asked = absurd (single tag count refl)
step_let_on must e k (step.Answered kind tag) (is, answered) single asked =
    let a = answered.first in
    let one = (answers_are_counted e.host a.host a.message a.frames a.answered).0 in
    let some : 0 < length e.waiting = grind arith in
    let_on_at must e.host.taken e.host.taken k.host.taken e.host.taken (let_on_none must e.host.taken) refl (asked is.1 some)
    (omega (arith, one, ap (λ (x : PlainHostEndpoint). x.host.taken) a.after))

-- and not all of it
pub step_cut : (refuses : Type 0) (must : Option ℕ → Type 0) (most : ℕ) (e k g : PlainHostEndpoint) (done : HostStep) (p q : PostView (Vec ℕ)) → Steps e (Ok done) k
    → IsSingle (Ok done) → (e.unwritten ≡ [] → 0 < length e.waiting → must (Some e.host.taken) → ⊥) → g ≡ k → (unput : List ℕ) × PutSome most p q k.pending_bytes unput
    → Halts refuses e g p q [] stop.Memory × LetOn must e.host.taken g.host.taken
step_cut refuses must most e k g done p q steps single asked is (unput, put) = (
  record {
    last = k;
    came = [];
    rest = [];
    unput = unput;
    whole = refl;
    made = record {
      calls = MakeStep (Ok done) ∷ [];
      runs = (k, steps, tt, refl);
      came_is = refl;
      no_aside = refl;
      put = grind (arith, append-nil, append_assoc, (flat_map-append (λ (v : Vec ℕ). v.items) p.put put.pieces));
      line = grind arith;
      number = grind arith;
      closed = grind arith;
    };
    host_is = ap (λ (x : PlainHostEndpoint). x.host) is;
    cause = tt;
  },
  subst (λ (x : PlainHostEndpoint). LetOn must e.host.taken x.host.taken) (sym is) (step_let_on must e k done steps single asked),
)

pub step_done : (must : Option ℕ → Type 0) (most : ℕ) (e k g : PlainHostEndpoint) (done : HostStep) (p q : PostView (Vec ℕ)) → Steps e (Ok done) k → (done ≡ step.Idle → ⊥)
    → IsSingle (Ok done) → (e.unwritten ≡ [] → 0 < length e.waiting → must (Some e.host.taken) → ⊥) → g ≡ record k { pending_bytes = [] } → PutSome most p q k.pending_bytes []
    → Calls e g p q [] [] × IsGoing g × (to_do g < to_do e) × LetOn must e.host.taken g.host.taken
step_done must most e k g done p q steps works single asked is put =
    let m = moved e k done steps works single in (
      step_put most e k g done p q steps is put,
      (ap (λ (x : PlainHostEndpoint). x.stop) is ∙ m.goes, ap (λ (x : PlainHostEndpoint). x.pending_bytes) is),
      subst (λ (x : PlainHostEndpoint). to_do x < to_do e) (sym is) m.less,
      subst (λ (x : PlainHostEndpoint). LetOn must e.host.taken x.host.taken) (sym is) (step_let_on must e k done steps single asked),
    )

-- no step could be made
pub step_halts : (refuses : Type 0) (e g : PlainHostEndpoint) (why : EndpointFault HostStop) (p : PostView (Vec ℕ)) → IsGoing e → Steps e (Err why) g
    → Halts refuses e g p p [] (stop_of why)
step_halts refuses e g fault.Unfinished p (goes, none) (going, waits, same) =
    halts_here refuses e g p p [] stop.Memory none refl (ap (λ (x : PlainHostEndpoint). x.host) same) tt
step_halts refuses e g (fault.Stopped why) p (goes, none) (inl (stops, same)) = absurd (grind arith)
step_halts refuses e g (fault.Stopped (halt.Stream why)) p (goes, none) (inr (is, (waits, broken_by, stops))) =
    halts_here refuses e g p p [] (stop_of (fault.Stopped (halt.Stream why))) none refl (ap (λ (x : PlainHostEndpoint). x.host) stops)
    (inr (why, (record { waiting = waits; unwritten = is.1 }, broken_by), refl))
step_halts refuses e g (fault.Stopped (halt.Refused refusal.OutOfMemory)) p (goes, none) (inr (is, (m, rest, waits, answered, stops))) =
    halts_here refuses e g p p [] stop.Memory none refl (ap (λ (x : PlainHostEndpoint). x.host) stops) tt
step_halts refuses e g (fault.Stopped (halt.Refused why)) p (goes, none) (inr (is, (m, rest, waits, answered, stops))) =
    halts_here refuses e g p p [] (stop_of (fault.Stopped (halt.Refused why))) none refl (ap (λ (x : PlainHostEndpoint). x.host) stops)
    (why, (m, rest, waits, answered, is.1), refl)
step_halts refuses e g fault.OutOfMemory p going u = absurd u
step_halts refuses e g fault.CountFull p going u = absurd u

-- ## One piece

-- the piece is brought, and no message is handled as yet
pub piece_begins : (must : Option ℕ → Type 0) (e g : PlainHostEndpoint) (p q : PostView (Vec ℕ)) (piece : List ℕ) → IsQuiet e → q ≡ p → TakesIn e piece g
    → Calls e g p q piece [] × IsGoing g × LetOn must e.host.taken g.host.taken
piece_begins must e g p q piece (ready, none) same takes =
    let pending : g.pending_bytes ≡ [] = ap (λ (x : PlainHostEndpoint). x.pending_bytes) takes.4 ∙ none in
    let made : Calls e g p p piece [] = record {
      calls = Bring piece (Ok tt) ∷ [];
      runs = (g, (ready, takes), refl);
      came_is = append-nil piece;
      no_aside = refl;
      put = put_none (bytes_of p.put) g.pending_bytes pending;
      line = refl;
      number = refl;
      closed = refl;
    } in (
      subst (λ (x : PostView (Vec ℕ)). Calls e g p x piece []) (sym same) made,
      (ap (λ (x : PlainHostEndpoint). x.stop) takes.4 ∙ ready.0, pending),
      let_on_to must _ _ _ (let_on_none must e.host.taken) (ap (λ (x : PlainHostEndpoint). x.host.taken) takes.4),
    )

-- it is not brought
pub piece_refused : (refuses : Type 0) (e g : PlainHostEndpoint) (p q : PostView (Vec ℕ)) (piece : List ℕ) (why : Stop) (r : Result (Unit {0}) Stop) → IsQuiet e → q ≡ p
    → Causes ⊥ e piece why × (g ≡ e) → IsErrAnd r (λ x. x ≡ why) → TakesPiece refuses e g p q piece r
piece_refused refuses e g p q piece why (Err other) quiet same (cause, is) told =
    subst (λ (x : Stop). Halts refuses e g p q piece x) (sym told)
    (halts_here refuses e g p q piece why quiet.1 same (ap (λ (x : PlainHostEndpoint). x.host) is) (causes_any refuses e piece why cause))
piece_refused refuses e g p q piece why (Ok done) quiet same cause told = absurd told

-- a step stopped the worker
pub piece_stops : (refuses : Type 0) (e k g : PlainHostEndpoint) (p q r : PostView (Vec ℕ)) (piece : List ℕ) (why : Stop) (result : Result (Unit {0}) Stop) → IsGoing k
    → Calls e k p q piece [] → Halts refuses k g q r [] why → IsErrAnd result (λ x. x ≡ why) → TakesPiece refuses e g p r piece result
piece_stops refuses e k g p q r piece why (Err other) going made halts told =
    subst (λ (x : Stop). Halts refuses e g p r piece x) (sym told)
    (subst (λ (x : List ℕ). Halts refuses e g p r x why) (append-nil piece) (halts_after refuses e k g p q r piece [] why going.1 made halts))
piece_stops refuses e k g p q r piece why (Ok done) going made halts told = absurd told

-- a step did something
pub piece_more : (refuses : Type 0) (e k g : PlainHostEndpoint) (p q r : PostView (Vec ℕ)) (piece : List ℕ) (more : Bool) → more ≡ true → StepsDown refuses k g q r (Ok more)
    → Calls e k p q piece [] → IsGoing k → Calls e g p r piece [] × IsGoing g × (to_do g < to_do k)
piece_more refuses e k g p q r piece true is (step, next, less) made going = (calls_on e k g p q r piece going.1 made step, next, less)
piece_more refuses e k g p q r piece false is steps made going = absurd (cc)

-- nothing was left to do
pub piece_ends : (refuses : Type 0) (e k g : PlainHostEndpoint) (p q r : PostView (Vec ℕ)) (piece : List ℕ) (more : Bool) → more ≡ false → StepsDown refuses k g q r (Ok more)
    → Calls e k p q piece [] → Calls e g p r piece [] × IsQuiet g
piece_ends refuses e k g p q r piece true is steps made = absurd (cc)
piece_ends refuses e k g p q r piece false is (quiet, same, still) made =
    subst (λ (x : PlainHostEndpoint). Calls e x p r piece [] × IsQuiet x) (sym same)
    (subst (λ (x : PostView (Vec ℕ)). Calls e k p x piece [] × IsQuiet k) (sym still) (made, quiet))
