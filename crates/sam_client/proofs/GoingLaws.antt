-- What each part of going on answers.
use Rattle.std.proofs.Common.{◌≡◌, ◌⊎◌, inl, inr, ℕ, ◌<◌, ◌≤◌, List, [], ◌∷◌, true, false, Option, Some, None, Result, Ok, Err, refl, sym, ap, subst, ◌∙◌, arith, if◌then◌else◌}
use Rattle.std.proofs.Common.{◌+◌, ◌^◌, ◌||◌, not, nat_lt, ltb-true, ltb-false}
use Rattle.std.specs.Prelude.{option_map}
use Rattle.sam_link.specs.declared.keeping.PutFault.{PutFault as SendFault}
use Rattle.sam_runes.specs.Texts.{is_empty, max_runes}
use Rattle.sam_pending.specs.Cells.{resting}
use Rattle.sam_pending.specs.Groups.{IsPutUpTo}
use Rattle.sam_pending.specs.Layers.{cells_over, next_made, rasp_length}
use Rattle.sam_term.specs.declared.event.UserEvent.{UserEvent}
use Rattle.sam_term.specs.declared.fault.Refusal.{Refusal}
use Rattle.sam_term.specs.Term.{rasp_at, window_at}
use Rattle.sam_endpoint.specs.TermEndpoints.{IsDone, PlainTermEndpoint}
use Rattle.sam_endpoint.specs.declared.fault.EndpointFault.{EndpointFault}
use Rattle.sam_endpoint.specs.declared.fault.TermStop.{TermStop}
use Rattle.sam_endpoint.specs.declared.step.BringFault.{BringFault}
use Rattle.sam_endpoint.specs.declared.step.TermStep.{TermStep}
use Rattle.sam_endpoint.specs.declared.step.TermStep.TheVariants.{Acted, Idle, Locked, Received, Refused, Wrote}
use Rattle.sam_overlay.specs.Calls.{CanAct, IsBehind, IsFree, IsReady, PlainOverlay, cells_at}
use Rattle.sam_overlay.specs.Outcomes.{NoneKept, cells_in}
use Rattle.sam_overlay.specs.Requests.{put_limit}
use Rattle.sam_overlay.specs.declared.fault.PutFault.{PutFault}
use Rattle.sam_overlay.specs.declared.ordered.OrderedOverlay.{OrderedOverlay}
use Rattle.sam_overlay.specs.declared.request.Request.{Request}
use Rattle.sam_overlay.specs.declared.shown_change.OverlayStep.{OverlayStep}
use Rattle.sam_overlay.specs.declared.shown_change.Put.{Put as Became}
use Rattle.sam_overlay.specs.declared.shown_change.Put.TheVariants as put
use Rattle.sam_overlay.specs.declared.shown_change.Turn.{Turn}
use Rattle.sam_overlay.specs.declared.shown_change.Turn.TheVariants as turn
use Rattle.sam_client.specs.Clients.{Does, with_ordered, with_overlay}
use Rattle.sam_client.specs.Clients.Act.{ActNext, AskHost, Bring, Fetch, FetchNote, PutEdit, Send, Step, TellRefusal}
use Rattle.sam_client.specs.Going.{AllPut, EditIdle, EditsIdle, EndIdle, EndRests, GoesOn, IfIdle, InIdle, IsAllPut, IsPut, Moves, NoneActs, OutIdle, RequestsIdle, Rests, Still, event_of, is_told, is_work_of_end, step_event, tells, work_in}
use Rattle.sam_client.specs.Faults.{act_fault, bring_fault, put_fault, send_fault, step_fault}
use Rattle.sam_client.specs.declared.client.Client.{Client}
use Rattle.sam_client.specs.declared.event.Event.{Event}
use Rattle.sam_client.specs.declared.event.Event.TheVariants as tell
use Rattle.sam_client.specs.declared.fault.GoOnFault.{GoOnFault}
use Rattle.sam_client.proofs.Moves.{goes_busy, goes_fails, goes_idle, goes_told, moves_none, moves_one, moves_then, went_idle}

-- ## The terminal's end

step_tells : (x : OverlayStep) (s : TermStep) → x.step ≡ s → tells (Step (Ok x)) ≡ (if is_told s then Some (Ok (tell.Stepped x)) else None)
step_tells x s is = ap (λ (t : TermStep). if is_told t then Some (Ok (tell.Stepped x)) else None) is

step_works : (x : OverlayStep) (s : TermStep) → x.step ≡ s → work_in (Step (Ok x) ∷ []) ≡ (if is_work_of_end s then 1 else 0) + 0
step_works x s is = ap (λ (t : TermStep). (if is_work_of_end t then 1 else 0) + 0) is

quiet_step : (now work : ℕ) (c m n : Client) (x : OverlayStep) → Moves now 0 c m → tells (Step (Ok x)) ≡ None → work_in (Step (Ok x) ∷ []) ≡ work
    → Does m (Step (Ok x)) n → Moves now (0 + work) c n
quiet_step now work c m n x moves none works does = moves_then now 0 work c m n moves (moves_one now work m n (Step (Ok x)) tt none works does)

goes_stepped : (now : ℕ) (c m n : Client) (x : OverlayStep) (s : TermStep) → Moves now 0 c m → x.step ≡ s → Does m (Step (Ok x)) n
    → GoesOn now 1 c (Ok (event_of s x)) n
goes_stepped now c m n x Idle moves is does = goes_idle now c n (quiet_step now 0 c m n x moves (step_tells x Idle is) (step_works x Idle is) does)
goes_stepped now c m n x Locked moves is does = goes_idle now c n (quiet_step now 0 c m n x moves (step_tells x Locked is) (step_works x Locked is) does)
goes_stepped now c m n x Wrote moves is does = goes_busy now 1 c n (quiet_step now 1 c m n x moves (step_tells x Wrote is) (step_works x Wrote is) does)
goes_stepped now c m n x (Received kind tag change) moves is does =
    goes_told now c m n (Step (Ok x)) (Ok (tell.Stepped x)) tt moves tt (step_tells x (Received kind tag change) is) does
goes_stepped now c m n x (Acted number tag change) moves is does =
    goes_told now c m n (Step (Ok x)) (Ok (tell.Stepped x)) tt moves tt (step_tells x (Acted number tag change) is) does
goes_stepped now c m n x (Refused number why) moves is does =
    goes_busy now 1 c n (quiet_step now 1 c m n x moves (step_tells x (Refused number why) is) (step_works x (Refused number why) is) does)

-- the end was asked for a refusal, told none, and made a step
pub end_goes : (now : ℕ) (c m n : Client) (x : OverlayStep) → Does c (TellRefusal None) m → Does m (Step (Ok x)) n → GoesOn now 1 c (Ok (step_event x)) n
end_goes now c m n x none does = goes_stepped now c m n x x.step (moves_one now 0 c m (TellRefusal None) tt refl refl none) refl does

-- ## Edits that wait

pub put_still : (o n : OrderedOverlay) (f : ℕ) → Still o n → IsPut o f → IsPut n f
put_still o n f still (inl all) =
    inl (still.cells f ∙ all ∙ ap (λ (e : PlainTermEndpoint). resting (rasp_at e.term f)) (sym still.end))
put_still o n f still (inr (inl (l, cells, full))) =
    inr (inl (
      l,
      still.cells f ∙ cells ∙ ap (λ (e : PlainTermEndpoint). cells_over (rasp_at e.term f) l) (sym still.end),
      subst (λ (q : List Request). max_runes < rasp_length (next_made (put_limit q f) l)) (sym still.queue) full,
    ))
put_still o n f still (inr (inr (g, limit, done))) =
    inr (inr (g, ap (λ (q : List Request). put_limit q f) still.queue ∙ limit, subst (IsPutUpTo g) (sym (still.cells f)) done))

still_same : (o n : OrderedOverlay) → n ≡ o → Still o n
still_same o n same = record {
  end = ap (λ (x : OrderedOverlay). x.overlay.end) same;
  putting = ap (λ (x : OrderedOverlay). x.overlay.putting) same;
  cells = λ f. ap (λ (x : OrderedOverlay). cells_at x.overlay f) same;
  queue = ap (λ (x : OrderedOverlay). x.queue) same;
}

pub still_then : (o m n : OrderedOverlay) → Still o m → Still m n → Still o n
still_then o m n first more = record {
  end = more.end ∙ first.end;
  putting = more.putting ∙ first.putting;
  cells = λ f. more.cells f ∙ first.cells f;
  queue = more.queue ∙ first.queue;
}

-- the queue and the end of a client whose overlay alone changed
queue_of : (c n : Client) → n ≡ with_overlay c n.ordered.overlay → n.ordered.queue ≡ c.ordered.queue
queue_of c n same = ap (λ (x : Client). x.ordered.queue) same

still_overlay : (c n : Client) → n ≡ with_overlay c n.ordered.overlay → n.ordered.overlay ≡ c.ordered.overlay → Still c.ordered n.ordered
still_overlay c n others same = record {
  end = ap (λ (x : PlainOverlay). x.end) same;
  putting = ap (λ (x : PlainOverlay). x.putting) same;
  cells = λ f. ap (λ (x : PlainOverlay). cells_at x f) same;
  queue = queue_of c n others;
}

-- nothing waits over the file
pub edit_nothing : (c n : Client) (f : ℕ) → Does c (PutEdit f (Ok put.Nothing)) n → EditIdle f c n
edit_nothing c n f ((rests, end, putting, none, cells), others) = record {
  still = record { end = end; putting = putting; cells = cells; queue = queue_of c n others };
  put = λ no free. inl (ap (cells_in (rasp_at n.ordered.overlay.end.term f)) none);
}

-- all that waits stands behind a request, or nothing can be put now
behind : (o : OrderedOverlay) (f : ℕ) (m : Option ℕ) → put_limit o.queue f ≡ m → IsBehind m o.overlay f → IsPut o f
behind o f None is not = absurd not
behind o f (Some g) is (some, done) = inr (inr (g, is, done))

pub edit_not_free : (c n : Client) (f : ℕ) → Does c (PutEdit f (Ok put.NotFree)) n → EditIdle f c n
edit_not_free c n f ((same, not), others) =
    let still = still_overlay c n others same in record {
      still = still;
      put = λ no free.
          put_still c.ordered n.ordered f still
          (behind c.ordered f (put_limit c.ordered.queue f) refl
          (not (sym still.putting ∙ no) (subst (λ (e : PlainTermEndpoint). IsFree e f) still.end free)));
    }

-- ## Requests

ready_still : (o n : PlainOverlay) (f g : ℕ) → n.end ≡ o.end → cells_at n f ≡ cells_at o f → IsReady n f g → IsReady o f g
ready_still o n f g end cells ready = record {
  clear = subst (IsPutUpTo g) cells ready.clear;
  free = ap (λ (e : PlainTermEndpoint). e.term.command_lock || nat_lt 0 (window_at e.term f).locks) (sym end) ∙ ready.free;
}

can_still : (o n : OrderedOverlay) (event : UserEvent) (g : ℕ) → Still o n → CanAct n.overlay event g → CanAct o.overlay event g
can_still o n event g still can = record {
  idle = record {
    putting = sym still.putting ∙ can.idle.putting;
    going = ap (λ (e : PlainTermEndpoint). e.stop) (sym still.end) ∙ can.idle.going;
    done = subst IsDone still.end can.idle.done;
    none_held = ap (λ (e : PlainTermEndpoint). e.term.held) (sym still.end) ∙ can.idle.none_held;
  };
  unlocked = ap (λ (e : PlainTermEndpoint). e.term.command_lock) (sym still.end) ∙ can.unlocked;
  ready = λ f tag concerned. ready_still o.overlay n.overlay f g still.end (still.cells f) (can.ready f tag concerned);
}

none_still : (o n : OrderedOverlay) → Still o n → NoneActs o → NoneActs n
none_still o n still (inl none) = inl (still.queue ∙ none)
none_still o n still (inr yet) = inr (record {
  request = yet.request;
  rest = yet.rest;
  old = still.queue ∙ yet.old;
  not = λ can. yet.not (can_still o n yet.request.event yet.request.group still can);
})

-- none waits, or the oldest can't act yet
pub requests_none : (c n : Client) → Does c (ActNext (Ok turn.Nothing)) n → RequestsIdle c n
requests_none c n ((none, same), others) =
    record { same = others ∙ ap (with_ordered c) same; none = inl none }

pub requests_wait : (c n : Client) → Does c (ActNext (Ok turn.NotYet)) n → RequestsIdle c n
requests_wait c n ((yet, same), others) =
    record { same = others ∙ ap (with_ordered c) same; none = inr yet }

-- ## All tags

lt-or-eq : (f n : ℕ) → f < n + 1 → (f < n) ⊎ (f ≡ n)
lt-or-eq f n below = elim (nat_lt f n) as (λ b. nat_lt f n ≡ b → (f < n) ⊎ (f ≡ n)) [
  | true ↦ λ is. inl (ltb-true f n is)
  | false ↦ λ is. inr (omega (arith, below, ltb-false f n is))
] refl

lt-or-le : (f n : ℕ) → (f < n) ⊎ (n ≤ f)
lt-or-le f n = elim (nat_lt f n) as (λ b. nat_lt f n ≡ b → (f < n) ⊎ (n ≤ f)) [
  | true ↦ λ is. inl (ltb-true f n is)
  | false ↦ λ is. inr (ltb-false f n is)
] refl

-- where no list of edits is kept, what is shown is the rasp
pub all_show : (o : OrderedOverlay) (from to : ℕ) → NoneKept o.overlay.layers from to → (f : ℕ) → from ≤ f → f < to → IsPut o f
all_show o from to none f least below = inl (ap (cells_in (rasp_at o.overlay.end.term f)) (none f least below))

-- the first so many files were looked at
pub record EditsSoFar (c n : Client) (count : ℕ) : Type 0 where
  pub moves : (now : ℕ) → Moves now 0 c n
  pub still : Still c.ordered n.ordered
  pub put : (f : ℕ) → f < count → n.ordered.overlay.putting ≡ None → IsFree n.ordered.overlay.end f → IsPut n.ordered f

pub none_so_far : (c : Client) → EditsSoFar c c 0
none_so_far c = record {
  moves = λ now. moves_none now c;
  still = still_same c.ordered c.ordered refl;
  put = λ f below none free. absurd (omega (arith, below));
}

-- one more has nothing that can be put
pub one_more_so_far : (c m n : Client) (index : ℕ) → EditsSoFar c m index → ((now : ℕ) → GoesOn now 1 m (Ok tell.Idle) n) → EditIdle index m n
    → EditsSoFar c n (index + 1)
one_more_so_far c m n index before goes now_idle = record {
  moves = λ now. moves_then now 0 0 c m n (before.moves now) (went_idle now m n (goes now));
  still = still_then c.ordered m.ordered n.ordered before.still now_idle.still;
  put = λ f below none free.
      elim (lt-or-eq f index below) [
        | inl less ↦ put_still m.ordered n.ordered f now_idle.still (before.put f less (sym now_idle.still.putting ∙ none)
            (subst (λ (e : PlainTermEndpoint). IsFree e f) now_idle.still.end free))
        | inr same ↦ subst (IsPut n.ordered) (sym same) (now_idle.put none (subst (IsFree n.ordered.overlay.end) same free))
      ];
}

-- and those up to a later one have no edit
pub more_so_far : (c n : Client) (count more : ℕ) → EditsSoFar c n count → ((f : ℕ) → count ≤ f → f < more → IsPut n.ordered f) → EditsSoFar c n more
more_so_far c n count more before put = record {
  moves = before.moves;
  still = before.still;
  put = λ f below none free.
      elim (lt-or-le f count) [
        | inl less ↦ before.put f less none free
        | inr least ↦ put f least below
      ];
}

-- each tag is put
pub all_so_far : (c n : Client) (count : ℕ) → 2 ^ 16 ≤ count → EditsSoFar c n count → IsAllPut n.ordered.overlay 0 → EditsIdle c n
all_so_far c n count done all command =
    record { still = all.still; put = λ none f tag free. all.put f (omega (arith, done, tag)) none free; command = command }

-- ## All together

pub all_rest : (b r e o n : Client) → EndIdle b → RequestsIdle b r → EditsIdle r e → OutIdle e o → InIdle o n → Rests n
all_rest b r e o n end requests edits out ins =
    let same : n.ordered ≡ e.ordered = ins.ordered ∙ ap (λ (x : Client). x.ordered) out.same in
    let begun : r.ordered ≡ b.ordered = ap (λ (x : Client). x.ordered) requests.same in
    let still : Still b.ordered n.ordered = still_then b.ordered r.ordered n.ordered (still_same b.ordered r.ordered begun)
    (still_then r.ordered e.ordered n.ordered edits.still (still_same e.ordered n.ordered same)) in
    let putting : n.ordered.overlay.putting ≡ None = still.putting ∙ end.putting in
    record {
      end = subst EndRests (sym still.end) end.rests;
      putting = putting;
      acts = none_still b.ordered n.ordered still requests.none;
      put = subst AllPut (sym same) (edits.put (ap (λ (x : OrderedOverlay). x.overlay.putting) (sym same) ∙ putting));
      command = subst (λ (o : OrderedOverlay). IsAllPut o.overlay 0) (sym same) edits.command;
      sent = ap (λ (x : OrderedOverlay). x.overlay.end.pending_bytes) same ∙ out.sent;
      received = ins.received;
      bytes = ins.bytes;
      notes = ins.notes;
    }

-- ## What each part answers

pub end_refused : (now : ℕ) (c m : Client) (number : ℕ) (why : Refusal) → Does c (TellRefusal (Some (number, why))) m
    → GoesOn now 1 c (Ok (tell.Refused number why)) m
end_refused now c m number why does =
    goes_told now c c m (TellRefusal (Some (number, why))) (Ok (tell.Refused number why)) tt (moves_none now c) tt refl does

pub end_fails : (now : ℕ) (c m n : Client) (why : EndpointFault TermStop) → Does c (TellRefusal None) m → Does m (Step (Err why)) n
    → GoesOn now 1 c (Err (step_fault why)) n
end_fails now c m n why none does =
    goes_told now c m n (Step (Err why)) (Err (step_fault why)) tt (moves_one now 0 c m (TellRefusal None) tt refl refl none) tt refl does

pub request_goes : (now : ℕ) (c n : Client) → Does c (ActNext (Ok turn.Request)) n → GoesOn now 1 c (Ok tell.Busy) n
request_goes now c n does = goes_busy now 1 c n (moves_one now 1 c n (ActNext (Ok turn.Request)) tt refl refl does)

pub request_rests : (now : ℕ) (c n : Client) (answer : Turn) → work_in (ActNext (Ok answer) ∷ []) ≡ 0 → Does c (ActNext (Ok answer)) n
    → GoesOn now 1 c (Ok tell.Idle) n
request_rests now c n answer idle does = goes_idle now c n (moves_one now 0 c n (ActNext (Ok answer)) tt refl idle does)

pub request_fails : (now : ℕ) (c n : Client) (why : PutFault) → Does c (ActNext (Err why)) n → GoesOn now 1 c (Err (act_fault why)) n
request_fails now c n why does = goes_fails now c n (ActNext (Err why)) (act_fault why) tt refl does

pub edit_goes : (now : ℕ) (c n : Client) (f : ℕ) → Does c (PutEdit f (Ok put.Edit)) n → GoesOn now 1 c (Ok tell.Busy) n
edit_goes now c n f does = goes_busy now 1 c n (moves_one now 1 c n (PutEdit f (Ok put.Edit)) tt refl refl does)

pub edit_rests : (now : ℕ) (c n : Client) (f : ℕ) (answer : Result Became PutFault) → tells (PutEdit f answer) ≡ None
    → work_in (PutEdit f answer ∷ []) ≡ 0 → Does c (PutEdit f answer) n → GoesOn now 1 c (Ok tell.Idle) n
edit_rests now c n f answer none idle does = goes_idle now c n (moves_one now 0 c n (PutEdit f answer) tt none idle does)

pub edit_fails : (now : ℕ) (c n : Client) (f : ℕ) (why : PutFault) (fault : GoOnFault) → put_fault why ≡ Some fault
    → Does c (PutEdit f (Err why)) n → GoesOn now 1 c (Err fault) n
edit_fails now c n f why fault is does = goes_fails now c n (PutEdit f (Err why)) fault tt (ap (option_map Err) is) does

is_some_work : (bytes : List ℕ) → (bytes ≡ [] → ⊥) → (if not (is_empty bytes) then 1 else 0) + 0 ≡ 1
is_some_work [] some = absurd (some refl)
is_some_work (byte ∷ bytes) some = refl

is_no_work : (bytes : List ℕ) → bytes ≡ [] → (if not (is_empty bytes) then 1 else 0) + 0 ≡ 0
is_no_work bytes none = ap (λ (b : List ℕ). (if not (is_empty b) then 1 else 0) + 0) none

pub out_goes : (now : ℕ) (c n : Client) (bytes : List ℕ) → (bytes ≡ [] → ⊥) → Does c (Send bytes now (Ok tt)) n → GoesOn now 1 c (Ok tell.Busy) n
out_goes now c n bytes some does = goes_busy now 1 c n (moves_one now 1 c n (Send bytes now (Ok tt)) refl refl (is_some_work bytes some) does)

pub out_fails : (now : ℕ) (c n : Client) (bytes : List ℕ) (why : SendFault) → Does c (Send bytes now (Err why)) n
    → GoesOn now 1 c (Err (send_fault why)) n
out_fails now c n bytes why does = goes_fails now c n (Send bytes now (Err why)) (send_fault why) refl refl does

pub bring_goes : (now : ℕ) (c n : Client) (bytes : List ℕ) → (bytes ≡ [] → ⊥) → Does c (Bring bytes (Ok tt)) n → GoesOn now 1 c (Ok tell.Busy) n
bring_goes now c n bytes some does = goes_busy now 1 c n (moves_one now 1 c n (Bring bytes (Ok tt)) tt refl (is_some_work bytes some) does)

pub bring_fails : (now : ℕ) (c n : Client) (bytes : List ℕ) (why : BringFault TermStop) → Does c (Bring bytes (Err why)) n
    → GoesOn now 1 c (Err (bring_fault why)) n
bring_fails now c n bytes why does = goes_fails now c n (Bring bytes (Err why)) (bring_fault why) tt refl does

pub fetch_goes : (now : ℕ) (c n : Client) (bytes : List ℕ) → (bytes ≡ [] → ⊥) → Does c (Fetch bytes) n → GoesOn now 1 c (Ok tell.Busy) n
fetch_goes now c n bytes some does = goes_busy now 1 c n (moves_one now 1 c n (Fetch bytes) tt refl (is_some_work bytes some) does)

no_bytes : (now : ℕ) (c k : Client) (bytes : List ℕ) → bytes ≡ [] → Does c (Fetch bytes) k → Moves now 0 c k
no_bytes now c k bytes none fetch = moves_one now 0 c k (Fetch bytes) tt refl (is_no_work bytes none) fetch

pub note_goes : (now : ℕ) (c k n : Client) (bytes note : List ℕ) → bytes ≡ [] → Does c (Fetch bytes) k → Does k (FetchNote (Some note)) n
    → GoesOn now 1 c (Ok tell.Note) n
note_goes now c k n bytes note none fetch does =
    goes_told now c k n (FetchNote (Some note)) (Ok tell.Note) tt (no_bytes now c k bytes none fetch) tt refl does

ask_after : (now : ℕ) (c k m : Client) (bytes : List ℕ) → bytes ≡ [] → Does c (Fetch bytes) k → Does k (FetchNote None) m → Moves now 0 c m
ask_after now c k m bytes none fetch note =
    moves_then now 0 0 c k m (no_bytes now c k bytes none fetch) (moves_one now 0 k m (FetchNote None) tt refl refl note)

pub ask_goes : (now : ℕ) (c k m n : Client) (bytes : List ℕ) → bytes ≡ [] → Does c (Fetch bytes) k → Does k (FetchNote None) m
    → Does m (AskHost now (Ok tt)) n → GoesOn now 1 c (Ok tell.Idle) n
ask_goes now c k m n bytes none fetch note does =
    goes_idle now c n
    (moves_then now 0 0 c m n (ask_after now c k m bytes none fetch note) (moves_one now 0 m n (AskHost now (Ok tt)) refl refl refl does))

pub ask_fails : (now : ℕ) (c k m n : Client) (bytes : List ℕ) (why : SendFault) → bytes ≡ [] → Does c (Fetch bytes) k → Does k (FetchNote None) m
    → Does m (AskHost now (Err why)) n → GoesOn now 1 c (Err (send_fault why)) n
ask_fails now c k m n bytes why none fetch note does =
    goes_told now c m n (AskHost now (Err why)) (Err (send_fault why)) tt (ask_after now c k m bytes none fetch note) refl refl does

-- ## What an event says

pub not_idle : (event : Event) (p : Type 0) → (event ≡ tell.Idle → ⊥) → IfIdle (Ok event) p
not_idle tell.Idle p none = absurd (none refl)
not_idle tell.Busy p none = tt
not_idle tell.Note p none = tt
not_idle (tell.Refused number why) p none = tt
not_idle (tell.Stepped x) p none = tt

pub idle_then : (answer : Result Event GoOnFault) (p q : Type 0) → (p → q) → IfIdle answer p → IfIdle answer q
idle_then (Ok tell.Idle) p q next holds = next holds
idle_then (Ok tell.Busy) p q next holds = tt
idle_then (Ok tell.Note) p q next holds = tt
idle_then (Ok (tell.Refused number why)) p q next holds = tt
idle_then (Ok (tell.Stepped x)) p q next holds = tt
idle_then (Err why) p q next holds = tt

pub at_idle : (event : Event) (p : Type 0) → event ≡ tell.Idle → IfIdle (Ok event) p → p
at_idle event p is holds = subst (λ (e : Event). IfIdle (Ok e) p) is holds

pub goes_at : (now : ℕ) (c n : Client) (event other : Event) → event ≡ other → GoesOn now 1 c (Ok event) n → GoesOn now 1 c (Ok other) n
goes_at now c n event other is goes = subst (λ (e : Event). GoesOn now 1 c (Ok e) n) is goes
