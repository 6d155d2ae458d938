-- What the parts of a turn do, and where what is left leads.
use Rattle.std.proofs.Common.{◌≡◌, ◌≢◌, ◌⊎◌, inl, inr, ℕ, zero, suc, ◌+◌, ◌*◌, ◌^◌, ◌<◌, ◌≤◌, List, [], ◌∷◌, ◌++◌, length, take, drop, Bool, true, false, true≢false, None, Some, Option, Result, Ok, Err, refl, sym, ap, ◌∙◌, subst, arith, length-append}
use Rattle.std.proofs.lemmas.List.{drop_all}
use Rattle.std.specs.Prelude.{if◌then◌else◌, is_some, option_map}
use Rattle.sam_mesg.specs.declared.tmesg.Tmesg.{Tmesg}
use Rattle.sam_mesg.specs.declared.tmesg.Tmesg.TheVariants.{Twrite}
use Rattle.sam_mesg.specs.declared.hmesg.HFrame.{HFrame}
use Rattle.sam_link.specs.Calls.{Does}
use Rattle.sam_link.specs.Calls.Call.{Put}
use Rattle.sam_link.specs.End.{End}
use Rattle.sam_link.specs.Inbox.{Waiting}
use Rattle.sam_frame.specs.Direction.{terminal}
use Rattle.sam_frame.specs.Framing.{HasRoom, Held}
use Rattle.sam_endpoint.specs.Streams.{Gives}
use Rattle.sam_endpoint.specs.declared.fault.StreamFault.{StreamFault}
use Rattle.sam_link.specs.Packets.{Packet}
use Rattle.sam_link.specs.Packets.{Packet as packet}
use Rattle.sam_host.specs.Host.{PlainHost}
use Rattle.sam_host.specs.declared.fault.MarkFault.{MarkFault}
use Rattle.sam_endpoint.specs.declared.fault.AddFault.{AddFault}
use Rattle.sam_endpoint.specs.HostEndpoints.{Adds, Marks, PlainHostEndpoint, writes_of}
use Rattle.sam_endpoint.specs.HostStepping.{BringsIn, IsReady, Steps}
use Rattle.sam_endpoint.specs.declared.fault.EndpointFault.{EndpointFault}
use Rattle.sam_endpoint.specs.declared.fault.EndpointFault.TheVariants as endpoint
use Rattle.sam_endpoint.specs.declared.fault.HostStop.{HostStop}
use Rattle.sam_endpoint.specs.declared.step.BringFault.{BringFault}
use Rattle.sam_endpoint.specs.declared.step.BringFault.TheVariants as bring
use Rattle.sam_endpoint.specs.declared.step.HostStep.{HostStep}
use Rattle.sam_endpoint.specs.declared.step.HostStep.TheVariants as steps
use Rattle.sam_server.specs.HostLinks.{HandsOut}
use Rattle.sam_server.specs.Servers.{Effect, HandsOn, Hear, IsPausedAt, Pauses, PausesBy, PutsAnswers, Server, StepsOn, Work, next_effect, step_effect, waits_for, with_work}
use Rattle.sam_server.specs.Turns.{BreaksOff, Brought, Fetched, Finished, Finishes, GoesOn, Handed, HandedNext, IsHanded, IsHolding, IsResting, IsStill, IsStillAt, Nears, PlainTurn, Stepped, held_in, hosted, left_in, plain_effect, some_left, steps_left, told_of_bring, told_of_step, work_of}
use Rattle.sam_server.specs.declared.turn.Stop.TheVariants as stop
use Rattle.sam_server.specs.declared.turn.TurnFault.{TurnFault}
use Rattle.sam_server.specs.declared.turn.TurnFault.TheVariants as fault
use Rattle.sam_server.specs.declared.effect.Effect as declared
use Rattle.sam_server.specs.declared.host_link.Next.{Next}
use Rattle.sam_server.specs.declared.host_link.Next.TheVariants as next
use Rattle.sam_server.proofs.OnePlace.{brings_nowhere, moved_back, no_step, stops_nowhere}

pub nears_itself : (t : PlainTurn) → Nears t t
nears_itself t = record { leads = λ z ends. ends; back = λ z ends. ends }

pub nears_then : (t u v : PlainTurn) → Nears t u → Nears u v → Nears t v
nears_then t u v first second = record {
  leads = λ z ends. first.leads z (second.leads z ends);
  back = λ z ends. second.back z (first.back z ends);
}

-- where it breaks off later
pub breaks_then : (t u v : PlainTurn) (why : TurnFault) → Nears t u → BreaksOff u why v → BreaksOff t why v
breaks_then t u v fault.OutOfMemory near breaks = nears_then t u v near breaks
breaks_then t u v (fault.Stopped why) near breaks = λ z ends. breaks z (near.back z ends)

pub goes_nowhere : (t : PlainTurn) → GoesOn t t
goes_nowhere t = record { near = nears_itself t; link = refl; held = refl }

pub goes_then : (t u v : PlainTurn) → GoesOn t u → GoesOn u v → GoesOn t v
goes_then t u v first second =
    record { near = nears_then t u v first.near second.near; link = second.link ∙ first.link; held = second.held ∙ first.held }

pub goes_breaks : (t u v : PlainTurn) (why : TurnFault) → GoesOn t u → BreaksOff u why v → BreaksOff t why v
goes_breaks t u v why goes breaks = breaks_then t u v why goes.near breaks

pub goes_held : (t u : PlainTurn) → GoesOn t u → t.held ≡ [] → u.held ≡ []
goes_held t u goes none = goes.held ∙ none

pub ruleset goes_facts = (goes_nowhere, goes_then, goes_breaks, goes_held)

-- ## Moves

-- the same work is left, and its packets would wait in the same link
pub same_work : (t u : PlainTurn) → work_of u ≡ work_of t → ((ps : List Packet) → waits_for u.server.link ps ≡ waits_for t.server.link ps)
    → Nears t u
same_work t u work link = record {
  leads = λ z (ends : Finishes u z). (
    ends.0,
    subst (λ (w : Work). Pauses w ends.0) work ends.1,
    subst (λ (l : End). PutsAnswers (record { link = l; host = ends.0.host; effect = ends.0.effect }) z) (link ends.0.packets) ends.2,
  );
  back = λ z (ends : Finishes t z). (
    ends.0,
    subst (λ (w : Work). Pauses w ends.0) (sym work) ends.1,
    subst (λ (l : End). PutsAnswers (record { link = l; host = ends.0.host; effect = ends.0.effect }) z) (sym (link ends.0.packets)) ends.2,
  );
}

pauses_back : (t u : PlainTurn) (m : Work) → t.server.effect ≡ None → t.server.host.writes ≡ []
    → StepsOn (work_of t) (work_of u) ⊎ HandsOn (work_of t) (left_in t) (work_of u) → Pauses (work_of t) m → Pauses (work_of u) m
pauses_back t u m none quiet move pauses =
    let here : work_of t ≡ record { packets = left_in t; host = t.server.host; effect = None } =
    ap (λ (x : Option Effect). record { packets = left_in t; host = t.server.host; effect = x }) none in
    moved_back (left_in t) t.server.host (work_of u) m quiet
    (subst (λ (w : Work). StepsOn w (work_of u) ⊎ HandsOn w (left_in t) (work_of u)) here move)
    (subst (λ (w : Work). Pauses w m) here pauses)

-- one move is made
pub moved : (t u : PlainTurn) → t.server.effect ≡ None → t.server.host.writes ≡ []
    → StepsOn (work_of t) (work_of u) ⊎ HandsOn (work_of t) (left_in t) (work_of u)
    → ((ps : List Packet) → waits_for u.server.link ps ≡ waits_for t.server.link ps) → Nears t u
moved t u none quiet move link = record {
  leads = λ z (ends : Finishes u z). (
    ends.0,
    (suc ends.1.0, (none, work_of u, move, ends.1.1)),
    subst (λ (l : End). PutsAnswers (record { link = l; host = ends.0.host; effect = ends.0.effect }) z) (link ends.0.packets) ends.2,
  );
  back = λ z (ends : Finishes t z). (
    ends.0,
    pauses_back t u ends.0 none quiet move ends.1,
    subst (λ (l : End). PutsAnswers (record { link = l; host = ends.0.host; effect = ends.0.effect }) z) (sym (link ends.0.packets)) ends.2,
  );
}

-- ## Steps of the endpoint

less_left : (before after : List Tmesg) (first : List Tmesg) (frames : List HFrame) → 0 < length first → before ≡ first ++ after
    → 2 * length after + some_left frames < 2 * length before
less_left before after first [] some is = omega (arith, some, ap length is, length-append first after)
less_left before after first (f ∷ fs) some is = omega (arith, some, ap length is, length-append first after)

none_written : (frames : List HFrame) → 0 < length frames → some_left frames ≡ 1
none_written [] some = absurd (omega (arith, some))
none_written (f ∷ fs) some = refl

steps_less : (e k : PlainHostEndpoint) (step : HostStep) → step ≢ steps.Idle → Steps e (Ok step) k → steps_left k < steps_left e
steps_less e k steps.Idle some does = absurd (some refl)
steps_less e k steps.Wrote some (going, waits, is) =
    subst (λ (x : PlainHostEndpoint). steps_left x < steps_left e) (sym is) (omega (arith, none_written e.unwritten waits))
steps_less e k (steps.Edited tag count) some (written, took) =
    subst (λ (x : PlainHostEndpoint). steps_left x < steps_left e) (sym took.edits.after)
    (omega (arith, less_left e.waiting took.edits.rest took.edits.messages took.edits.frames took.edits.some took.edits.waited))
steps_less e k (steps.Answered kind tag) some (written, did) =
    subst (λ (x : PlainHostEndpoint). steps_left x < steps_left e) (sym did.first.after)
    (omega (arith, less_left e.waiting did.first.rest (did.first.message ∷ []) did.first.frames (omega arith) did.first.waited))

one_at_most : (b : Bool) (f : ℕ) → drop 1 (if b then [] else f ∷ []) ≡ []
one_at_most true f = refl
one_at_most false f = refl

-- a message has one file written at most
one_write : (h : PlainHost) (m : Tmesg) → drop 1 (writes_of h m) ≡ []
one_write h (Twrite f) = one_at_most h.is_done f
one_write h _ = refl

-- and so has a step
one_written : (e k : PlainHostEndpoint) (step : HostStep) → e.writes ≡ [] → Steps e (Ok step) k → drop 1 k.writes ≡ []
one_written e k steps.Idle none does = ap (λ (x : PlainHostEndpoint). drop 1 x.writes) does.1 ∙ ap (drop 1) none
one_written e k steps.Wrote none (going, waits, is) = ap (λ (x : PlainHostEndpoint). drop 1 x.writes) is ∙ ap (drop 1) none
one_written e k (steps.Edited tag count) none (written, took) =
    ap (λ (x : PlainHostEndpoint). drop 1 x.writes) took.edits.after ∙ ap (drop 1) none
one_written e k (steps.Answered kind tag) none (written, did) =
    ap (λ (x : PlainHostEndpoint). drop 1 x.writes) did.first.after
    ∙ ap (λ (l : List ℕ). drop 1 (l ++ writes_of e.host did.first.message)) none ∙ one_write e.host did.first.message

-- how a step leaves a turn
abbrev pub stepped : PlainTurn → PlainHostEndpoint → Option Effect → PlainTurn
stepped t k effect = record t { server = record t.server { host = record k { writes = drop 1 k.writes }; effect = effect } }

stepped_on : (t : PlainTurn) (step : HostStep) (k : PlainHostEndpoint) (effect : Option Effect) → t.server.effect ≡ None
    → t.server.host.writes ≡ [] → step ≢ steps.Idle → Steps t.server.host (Ok step) k → effect ≡ next_effect t.server.host
    → Stepped t (Ok true) (stepped t k effect)
stepped_on t step k effect none quiet some does is =
    let rest : drop 1 k.writes ≡ [] = one_written t.server.host k step quiet does in
    let work : work_of (stepped t k effect)
    ≡ record { packets = left_in t; host = record k { writes = [] }; effect = next_effect t.server.host } =
    λ i. record { packets = left_in t; host = record k { writes = rest i }; effect = is i } in (
      record {
        near = moved t (stepped t k effect) none quiet (inl (step, k, some, does, work)) (λ ps. refl);
        link = refl;
        held = refl;
      },
      steps_less t.server.host k step some does,
    )

ok_same : (a b : Bool) (r : Result Bool TurnFault) → r ≡ Ok a → r ≡ Ok b → a ≡ b
ok_same a b r is is_too = cc

err_same : (a b : TurnFault) (r : Result Bool TurnFault) → r ≡ Err a → r ≡ Err b → a ≡ b
err_same a b r is is_too = cc

never : (b : Bool) (why : TurnFault) (r : Result Bool TurnFault) → r ≡ Ok b → r ≡ Err why → ⊥
never b why r is is_too = cc

-- what a step says
pub step_told : (t : PlainTurn) (r : Result HostStep (EndpointFault HostStop)) (k : PlainHostEndpoint) (did : Bool) (effect : Option Effect)
    → t.server.effect ≡ None → t.server.host.writes ≡ [] → Steps t.server.host r k → told_of_step r ≡ Ok did → effect ≡ next_effect t.server.host
    → Stepped t (Ok did) (stepped t k effect)
step_told t (Ok steps.Idle) k did effect none quiet does told is =
    let same : t.server.host ≡ record k { writes = drop 1 k.writes } =
    ap (λ (l : List ℕ). record t.server.host { writes = l }) (quiet ∙ sym (ap (drop 1) quiet))
    ∙ ap (λ (x : PlainHostEndpoint). record x { writes = drop 1 x.writes }) (sym does.1) in
    let idle : next_effect t.server.host ≡ None = λ i. step_effect (does.0.1.0.unwritten i) t.server.host.host (does.0.1.0.waiting i) in
    let writes : effect ≡ t.server.effect = is ∙ idle ∙ sym none in
    subst (λ (b : Bool). Stepped t (Ok b) (stepped t k effect)) (ok_same false did (told_of_step (Ok steps.Idle)) refl told) (
      (λ i. record t { server = record t.server { host = sym same i; effect = writes i } }),
      subst (λ (x : Option Effect). IsStillAt x t.server.host) (sym none) does.0,
    )
step_told t (Ok steps.Wrote) k did effect none quiet does told is =
    subst (λ (b : Bool). Stepped t (Ok b) (stepped t k effect)) (ok_same true did (told_of_step (Ok steps.Wrote)) refl told)
    (stepped_on t steps.Wrote k effect none quiet (λ e. cc) does is)
step_told t (Ok (steps.Edited tag count)) k did effect none quiet does told is =
    subst (λ (b : Bool). Stepped t (Ok b) (stepped t k effect)) (ok_same true did (told_of_step (Ok (steps.Edited tag count))) refl told)
    (stepped_on t (steps.Edited tag count) k effect none quiet (λ e. cc) does is)
step_told t (Ok (steps.Answered kind tag)) k did effect none quiet does told is =
    subst (λ (b : Bool). Stepped t (Ok b) (stepped t k effect)) (ok_same true did (told_of_step (Ok (steps.Answered kind tag))) refl told)
    (stepped_on t (steps.Answered kind tag) k effect none quiet (λ e. cc) does is)
step_told t (Err (endpoint.Stopped why)) k did effect none quiet does told is =
    absurd (never did (fault.Stopped (stop.Endpoint why)) (told_of_step (Err (endpoint.Stopped why))) told refl)
step_told t (Err endpoint.Unfinished) k did effect none quiet does told is =
    absurd (never did fault.OutOfMemory (told_of_step (Err endpoint.Unfinished)) told refl)
step_told t (Err endpoint.OutOfMemory) k did effect none quiet does told is = absurd does
step_told t (Err endpoint.CountFull) k did effect none quiet does told is = absurd does

-- what a step says that was not made
pub step_broke : (t : PlainTurn) (r : Result HostStep (EndpointFault HostStop)) (k : PlainHostEndpoint) (why : TurnFault)
    → t.server.effect ≡ None → t.server.host.writes ≡ [] → Steps t.server.host r k → told_of_step r ≡ Err why → BreaksOff t why (hosted t k)
step_broke t (Ok steps.Idle) k why none quiet does told = absurd (never false why (told_of_step (Ok steps.Idle)) refl told)
step_broke t (Ok steps.Wrote) k why none quiet does told = absurd (never true why (told_of_step (Ok steps.Wrote)) refl told)
step_broke t (Ok (steps.Edited tag count)) k why none quiet does told =
    absurd (never true why (told_of_step (Ok (steps.Edited tag count))) refl told)
step_broke t (Ok (steps.Answered kind tag)) k why none quiet does told =
    absurd (never true why (told_of_step (Ok (steps.Answered kind tag))) refl told)
step_broke t (Err (endpoint.Stopped stopped)) k why none quiet does told =
    subst (λ (w : TurnFault). BreaksOff t w (hosted t k))
    (err_same (fault.Stopped (stop.Endpoint stopped)) why (told_of_step (Err (endpoint.Stopped stopped))) refl told)
    (λ z (ends : Finishes t z).
    stops_nowhere (left_in t) t.server.host k stopped ends.0 quiet does
    (subst (λ (x : Option Effect). Pauses (record { packets = left_in t; host = t.server.host; effect = x }) ends.0) none ends.1))
step_broke t (Err endpoint.Unfinished) k why none quiet does told =
    subst (λ (w : TurnFault). BreaksOff t w (hosted t k))
    (err_same fault.OutOfMemory why (told_of_step (Err endpoint.Unfinished)) refl told)
    (subst (λ (x : PlainHostEndpoint). Nears t (hosted t x)) (sym does.2) (nears_itself t))
step_broke t (Err endpoint.OutOfMemory) k why none quiet does told = absurd does
step_broke t (Err endpoint.CountFull) k why none quiet does told = absurd does

-- ## A packet leaves the link

-- what the turn is after the link handed out what is next
abbrev pub fetched_by : PlainTurn → End → List Packet → PlainTurn
fetched_by t l held = record { server = record t.server { link = l }; held = held }

-- whether there was one
abbrev pub FetchedAs : Next → PlainTurn → PlainTurn → Type 0
FetchedAs (next.Data count) t u = Fetched t (Ok true) u
FetchedAs (next.Note count) t u = Fetched t (Ok true) u
FetchedAs next.Nothing t u = Fetched t (Ok false) u

ready_at : (t : PlainTurn) → t.server.effect ≡ None → IsStill t → IsReady t.server.host
ready_at t none still = subst (λ (x : Option Effect). IsStillAt x t.server.host) none still

held_out : (t u : PlainTurn) (p : Packet) (rest : List Packet) (l : End) → GoesOn t u → t.held ≡ [] → IsStill u → u.server.effect ≡ None
    → u.server.link.waiting.packets ≡ p ∷ rest → l ≡ waits_for u.server.link rest → Fetched t (Ok true) (fetched_by u l (p ∷ []))
held_out t u p rest l goes none still quiet was is =
    let packets : p ∷ l.waiting.packets ≡ u.held ++ u.server.link.waiting.packets =
    ap (λ (m : End). p ∷ m.waiting.packets) is ∙ sym was
    ∙ ap (λ (h : List Packet). h ++ u.server.link.waiting.packets) (sym (goes.held ∙ none)) in (
      nears_then t u (fetched_by u l (p ∷ [])) goes.near
          (same_work u (fetched_by u l (p ∷ []))
          (ap (λ (ps : List Packet). record { packets = ps; host = u.server.host; effect = u.server.effect }) packets)
          (λ ps. ap (λ (m : End). waits_for m ps) is)),
      record { some = λ e. cc; ready = ready_at u quiet still; none = quiet },
      packets ∙ ap (λ (h : List Packet). h ++ u.server.link.waiting.packets) goes.held
          ∙ ap (λ (m : End). t.held ++ m.waiting.packets) goes.link,
    )

pub fetches : (t u : PlainTurn) (l : End) (what : Next) (buffer : List ℕ) → GoesOn t u → t.held ≡ [] → IsStill u → u.server.effect ≡ None
    → HandsOut u.server.link what buffer l → FetchedAs what t (fetched_by u l (held_in what buffer))
fetches t u l (next.Data count) buffer goes none still quiet (rest, some, brief, was, is) =
    held_out t u (packet.Data (take count buffer)) rest l goes none still quiet was is
fetches t u l (next.Note count) buffer goes none still quiet (rest, brief, was, is) =
    held_out t u (packet.Note (take count buffer)) rest l goes none still quiet was is
fetches t u l next.Nothing buffer goes none still quiet (empty, is) =
    let left : u.held ≡ [] = goes.held ∙ none in
    let packets : l.waiting.packets ≡ [] = ap (λ (m : End). m.waiting.packets) is ∙ ap (λ (w : Waiting). w.packets) empty in (
      nears_then t u (fetched_by u l []) goes.near
          (same_work u (fetched_by u l [])
          (ap (λ (ps : List Packet). record { packets = ps; host = u.server.host; effect = u.server.effect })
          (ap (λ (m : End). m.waiting.packets) is ∙ ap (λ (h : List Packet). h ++ u.server.link.waiting.packets) (sym left)))
          (λ ps. ap (λ (m : End). waits_for m ps) is)),
      record {
        held = refl;
        paused =
            subst (λ (x : Option Effect). IsPausedAt x (work_of (fetched_by u l []))) (sym quiet) (ready_at u quiet still, packets);
      },
    )

pub no_effect : (x : Option declared.Effect) → false ≡ is_some x → option_map plain_effect x ≡ None
no_effect None none = refl
no_effect (Some e) none = absurd (cc)

-- ## An endpoint that holds a packet stays ready

pub ready_on : (e k : PlainHostEndpoint) → k.stop ≡ e.stop → k.waiting ≡ e.waiting → (e.unwritten ≡ [] → k.unwritten ≡ [])
    → k.broken_by ≡ e.broken_by → IsReady e → IsReady k
ready_on e k stop waiting unwritten broken_by ready = (
  stop ∙ ready.0,
  (
    record { waiting = waiting ∙ ready.1.0.waiting; unwritten = unwritten ready.1.0.unwritten },
    broken_by ∙ ready.1.1,
  ),
)

pub ready_joined : (e k : PlainHostEndpoint) (name text : List ℕ) (r : Result ℕ AddFault) → Adds e name text r k → IsReady e → IsReady k
ready_joined e k name text (Ok tag) adds ready =
    subst IsReady (sym adds.2) (ready_on e _ refl refl (λ none. none) refl ready)
ready_joined e k name text (Err why) adds ready = subst IsReady (sym adds.1) ready

pub ready_marked : (e k : PlainHostEndpoint) (f : ℕ) (r : Result (Unit {0}) MarkFault) → Marks e f r k → IsReady e → IsReady k
ready_marked e k f (Ok done) marks ready =
    subst IsReady (sym marks.2) (ready_on e _ refl refl (λ none. refl) refl ready)
ready_marked e k f (Err why) marks ready = subst IsReady (sym marks.1) ready

pub ready_taken : (e : PlainHostEndpoint) (bytes : List ℕ) → IsReady e → IsReady (record e { pending_bytes = bytes })
ready_taken e bytes ready = ready_on e (record e { pending_bytes = bytes }) refl refl (λ none. none) refl ready

-- ## It is handed on

gives_room : (h k : Held) (piece : List ℕ) (ms : List Tmesg) (fault : Option StreamFault) → Gives terminal h piece ms fault k
    → HasRoom h piece
gives_room h k piece ms None gives = gives.gave.room
gives_room h k piece ms (Some f) gives = gives.1.gave.room

stops_bringing : (e j : PlainHostEndpoint) (piece : List ℕ) (why : HostStop) → e.stop ≡ Some why → BringsIn e piece (Ok tt) j → ⊥
stops_bringing e j piece why stops brings = cc (sym stops ∙ brings.0.0)

full_bringing : (e j : PlainHostEndpoint) (piece : List ℕ) → 2 ^ 64 ≤ e.framer.offset + length e.framer.bytes + length piece
    → BringsIn e piece (Ok tt) j → ⊥
full_bringing e j piece full (ready, (ms, fault, rest, gives, is)) = omega (arith, full, gives_room e.framer rest piece ms fault gives)

pub brought_told : (e k : PlainHostEndpoint) (piece : List ℕ) (r : Result (Unit {0}) (BringFault HostStop)) → BringsIn e piece r k
    → Brought e piece (told_of_bring r) k
brought_told e k piece (Ok done) does = does
brought_told e k piece (Err (bring.Stopped why)) does = ((λ j brings. stops_bringing e j piece why does.0 brings), does.1)
brought_told e k piece (Err bring.CountFull) does = ((λ j brings. full_bringing e j piece does.1 brings), does.2)
brought_told e k piece (Err bring.Waiting) does = does.2
brought_told e k piece (Err bring.OutOfMemory) does = does.2

-- a piece that is not brought leaves the endpoint as it was
pub brought_stays : (e k : PlainHostEndpoint) (piece : List ℕ) (why : TurnFault) → Brought e piece (Err why) k → k ≡ e
brought_stays e k piece fault.OutOfMemory is = is
brought_stays e k piece (fault.Stopped why) is = is.1

-- the endpoint has not got what was held
pub bring_broke : (t : PlainTurn) (k : PlainHostEndpoint) (why : TurnFault) (piece : List ℕ) → IsReady t.server.host
    → t.server.effect ≡ None → t.held ≡ packet.Data piece ∷ [] → Brought t.server.host piece (Err why) k → BreaksOff t why (hosted t k)
bring_broke t k fault.OutOfMemory piece ready none held same =
    subst (λ (x : PlainHostEndpoint). Nears t (hosted t x)) (sym same) (nears_itself t)
bring_broke t k (fault.Stopped why) piece ready none held (never, same) =
    λ z (ends : Finishes t z).
    let here : work_of t
    ≡ record { packets = packet.Data piece ∷ t.server.link.waiting.packets; host = t.server.host; effect = None } =
    λ i. record { packets = held i ++ t.server.link.waiting.packets; host = t.server.host; effect = none i } in
    brings_nowhere ends.1.0 piece t.server.link.waiting.packets t.server.host ends.0 ready never
    (subst (λ (w : Work). PausesBy ends.1.0 w ends.0) here ends.1.1)

-- a packet that was held is handed on
abbrev pub handed_on : PlainTurn → PlainHostEndpoint → Option Effect → PlainTurn
handed_on t k effect = record { server = record t.server { host = k; effect = effect }; held = [] }

fewer : (t : PlainTurn) (p : Packet) → t.held ≡ p ∷ [] → length t.server.link.waiting.packets < length (left_in t)
fewer t p held =
    subst (λ (h : List Packet). length t.server.link.waiting.packets < length (h ++ t.server.link.waiting.packets)) (sym held)
    (omega arith)

pub bring_told : (t : PlainTurn) (k : PlainHostEndpoint) (effect : Option Effect) (piece : List ℕ) → t.server.effect ≡ None
    → t.server.host.writes ≡ [] → effect ≡ t.server.effect → t.held ≡ packet.Data piece ∷ [] → BringsIn t.server.host piece (Ok tt) k
    → Handed t (Ok tt) (handed_on t k effect)
bring_told t k effect piece none quiet same held brings =
    let rest = t.server.link.waiting.packets in
    let work : work_of (handed_on t k effect) ≡ record { packets = rest; host = k; effect = None } =
    ap (λ (x : Option Effect). record { packets = rest; host = k; effect = x }) (same ∙ none) in (
      moved t (handed_on t k effect) none quiet
          (inr (subst (λ (h : List Packet). HandsOn (work_of t) (h ++ rest) (work_of (handed_on t k effect))) (sym held) (k, brings, work)))
          (λ ps. refl),
      fewer t (packet.Data piece) held,
    )

pub hear_told : (t : PlainTurn) (effect : Option Effect) (message : List ℕ) → IsReady t.server.host → t.server.effect ≡ None
    → t.server.host.writes ≡ [] → effect ≡ Some (Hear message) → t.held ≡ packet.Note message ∷ []
    → Handed t (Ok tt) (handed_on t t.server.host effect)
hear_told t effect message ready none quiet is held =
    let rest = t.server.link.waiting.packets in
    let work : work_of (handed_on t t.server.host effect) ≡ record { packets = rest; host = t.server.host; effect = Some (Hear message) } =
    ap (λ (x : Option Effect). record { packets = rest; host = t.server.host; effect = x }) is in (
      moved t (handed_on t t.server.host effect) none quiet
          (inr (subst (λ (h : List Packet). HandsOn (work_of t) (h ++ rest) (work_of (handed_on t t.server.host effect))) (sym held) (ready, work)))
          (λ ps. refl),
      fewer t (packet.Note message) held,
    )

pub next_handed : (t u v : PlainTurn) (b : Bool) → b ≡ true → Fetched t (Ok b) u → Handed u (Ok tt) v → HandedNext t (Ok true) v
next_handed t u v true is (near, holding, same) (more, less) =
    (nears_then t u v near more, subst (λ (l : List Packet). length (left_in v) < length l) same less)
next_handed t u v false is fetched handed = absurd (true≢false (sym is))

pub next_none : (t u : PlainTurn) (b : Bool) → b ≡ false → Fetched t (Ok b) u → HandedNext t (Ok false) u
next_none t u true is fetched = absurd (true≢false is)
next_none t u false is fetched = fetched

pub next_broke : (t u v : PlainTurn) (b : Bool) (why : TurnFault) → b ≡ true → Fetched t (Ok b) u → Handed u (Err why) v
    → BreaksOff t why v
next_broke t u v true why is (near, holding, same) breaks = breaks_then t u v why near breaks
next_broke t u v false why is fetched breaks = absurd (true≢false (sym is))

pub next_holding : (t u : PlainTurn) (b : Bool) → b ≡ true → Fetched t (Ok b) u → IsHolding u
next_holding t u true is fetched = fetched.1
next_holding t u false is fetched = absurd (true≢false (sym is))

pub ruleset next_facts = (next_handed, next_none, next_broke, next_holding)

-- ## All answers are put

-- a server that pauses does so with another endpoint that is ready where that was, and where the same packets wait
pub paused_on : (effect : Option Effect) (w v : Work) → IsPausedAt effect w → v.packets ≡ w.packets → (IsReady w.host → IsReady v.host)
    → IsPausedAt effect v
paused_on None w v paused packets ready = (ready paused.0, packets ∙ paused.1)
paused_on (Some effect) w v paused packets ready = tt

-- what pauses stays so
pub paused_stays : (n : ℕ) (w m : Work) → IsPausedAt w.effect w → PausesBy n w m → m ≡ w
paused_stays zero w m paused x = x.1
paused_stays (suc n) w m paused (none, v, inl (step, k, some, does, is), more) =
    absurd (no_step w.host k step (subst (λ (x : Option Effect). IsPausedAt x w) none paused).0 some does)
paused_stays (suc n) w m paused (none, v, inr hands, more) =
    absurd (subst (λ (ps : List Packet). HandsOn w ps v) (subst (λ (x : Option Effect). IsPausedAt x w) none paused).1 hands)

abbrev pub answers_put : PlainTurn → End → PlainTurn
answers_put t l = record t { server = record t.server { link = l; host = record t.server.host { pending_bytes = [] } } }

-- what is left is what the server has
pub whole : (t : PlainTurn) → t.held ≡ [] → with_work t.server.link (work_of t) ≡ t.server
whole t none =
    ap (λ (h : List Packet). record t.server { link = waits_for t.server.link (h ++ t.server.link.waiting.packets) }) none

put_ends : (t : PlainTurn) (l : End) → IsHanded t → Does t.server.link (Put t.server.host.pending_bytes (Ok tt)) l
    → Finishes t (answers_put t l).server
put_ends t l handed does = (
  work_of t,
  (0, (handed.paused, refl)),
  subst (λ (s : Server). PutsAnswers s (answers_put t l).server) (sym (whole t handed.held)) (l, does, refl),
)

put_rests : (t : PlainTurn) (l : End) → IsHanded t → Does t.server.link (Put t.server.host.pending_bytes (Ok tt)) l
    → IsResting (answers_put t l)
put_rests t l handed does = record {
  handed = record {
    held = handed.held;
    paused =
        paused_on t.server.effect (work_of t) (work_of (answers_put t l)) handed.paused
        (ap (λ (e : End). t.held ++ e.waiting.packets) does.1) (ready_taken t.server.host []);
  };
  answers = refl;
}

-- the answers are put, and wait at the endpoint no more
pub put_told : (t : PlainTurn) (l : End) (k : PlainHostEndpoint) (bytes : List ℕ) (count : ℕ) → IsHanded t
    → bytes ≡ t.server.host.pending_bytes → count ≡ length t.server.host.pending_bytes → Does t.server.link (Put bytes (Ok tt)) l
    → k ≡ record t.server.host { pending_bytes = drop count t.server.host.pending_bytes }
    → Finished t (Ok tt) (record t { server = record t.server { link = l; host = k } })
put_told t l k bytes count handed all long does host =
    let none : drop count t.server.host.pending_bytes ≡ [] = drop_all count t.server.host.pending_bytes (omega (arith, long)) in
    let same : k ≡ record t.server.host { pending_bytes = [] } =
    host ∙ ap (λ (l : List ℕ). record t.server.host { pending_bytes = l }) none in
    let put : Does t.server.link (Put t.server.host.pending_bytes (Ok tt)) l =
    subst (λ (b : List ℕ). Does t.server.link (Put b (Ok tt)) l) all does in
    subst (λ (x : PlainHostEndpoint). Finished t (Ok tt) (record t { server = record t.server { link = l; host = x } })) (sym same)
    (put_ends t l handed put, put_rests t l handed put)

finished_near : (t v w : PlainTurn) (r : Result (Unit {0}) TurnFault) → Nears t v → Finished v r w → Finished t r w
finished_near t v w (Ok done) near ends = (near.leads w.server ends.0, ends.1)
finished_near t v w (Err why) near breaks = breaks_then t v w why near breaks

-- all is handed on, and then the answers are put
pub finish_told : (t u v w : PlainTurn) (b : Bool) (r : Result (Unit {0}) TurnFault) → Nears t u → b ≡ false → HandedNext u (Ok b) v
    → Finished v r w → Finished t r w
finish_told t u v w true r near none handed ends = absurd (true≢false none)
finish_told t u v w false r near none handed ends = finished_near t v w r (nears_then t u v near handed.0) ends

pub ruleset finish_facts = (nears_then, nears_itself, breaks_then)
