-- What a server takes, and where what is left of it leads.
use Rattle.std.proofs.Common.{◌≡◌, ◌≢◌, ℕ, List, [], ◌++◌, Bool, true, false, true≢false, inl, inr, None, Some, Option, Result, Ok, Err, refl, sym, ap, ◌∙◌, subst}
use Rattle.std.proofs.lemmas.List.{map-append}
use Rattle.std.specs.Prelude.{◌==◌, if◌then◌else◌}
use Rattle.sam_link.specs.Calls.{Does}
use Rattle.sam_link.specs.Calls.Call.{Acknowledge, Answer, Ask, Feed, PutNote}
use Rattle.sam_link.specs.End.{End, AnswersBy, broken, ended}
use Rattle.sam_link.specs.Inbox.{Waiting}
use Rattle.sam_link.specs.Packets.{Packet}
use Rattle.sam_link.specs.declared.fault.FeedFault.{FeedFault}
use Rattle.sam_link.specs.declared.fault.FeedFault.TheVariants as feeds
use Rattle.sam_link.specs.declared.hello.Hello.{Hello}
use Rattle.sam_link.specs.declared.hello.Id.{Id}
use Rattle.sam_link.specs.declared.phase.Role.{Role}
use Rattle.sam_link.specs.declared.phase.Role.TheVariants.{Host, Terminal}
use Rattle.sam_server.specs.Records.{Called, Came, Done, Marked, PlainRecord, record_bytes}
use Rattle.sam_endpoint.specs.HostEndpoints.{Adds, Marks, PlainHostEndpoint, with_file}
use Rattle.sam_server.specs.Servers.{Effect, Handles, IsPausedAt, Pauses, PutsAnswers, Server, Takes, Work, with_work}
use Rattle.sam_server.specs.DurableServers.{Finishing, GoesOn, GoesOnNow, IsOwing, IsWell, Leads, LeadsNowhereBy, Left, LeftAt, PlainDurableServer, RefusesPiece, TakesRecord, begun, due_before, gone_to, recorded, told_of_feed}
use Rattle.sam_server.specs.Servers.{new_server}
use Rattle.sam_server.specs.Turns.{DroppedEffect, Finishes, IsResting, Nears, PlainTurn, hosted, linked, with_effect, work_of}
use Rattle.sam_server.specs.declared.fault.CallFault.{CallFault}
use Rattle.sam_server.specs.declared.fault.CallFault.TheVariants as fault
use Rattle.sam_server.specs.declared.fault.GoOnFault.{GoOnFault}
use Rattle.sam_server.specs.declared.fault.GoOnFault.TheVariants as go_on
use Rattle.sam_server.specs.declared.server.Stage.{Stage}
use Rattle.sam_server.specs.declared.server.Stage.TheVariants.{Answering, Recording, Settled, Stopped}
use Rattle.sam_server.specs.declared.turn.Stop.{Stop}
use Rattle.sam_server.proofs.One.{one_does}
use Rattle.sam_server.proofs.Turns.{paused_on, paused_stays, ready_joined, ready_marked, whole}

-- what is left to work on, where nothing is held
abbrev rest_of : PlainTurn → End → List Packet → Option Effect → Work
rest_of t l held effect = record { packets = held ++ l.waiting.packets; host = t.server.host; effect = effect }

handles_left : (t : PlainTurn) (l : End) (effect : Option Effect) (z : Server) → t.held ≡ []
    → Finishes (with_effect (linked t l) effect) z → Handles l t.server.host effect z
handles_left t l effect z none (m, pauses, puts) =
    (m, subst (λ (h : List Packet). Pauses (rest_of t l h effect) m) none pauses, puts)

-- what is left of a piece that was fed leads where its record leads
pub came_leads : (t : PlainTurn) (l : End) (attempt : ℕ) (piece : List ℕ) (z : Server) → IsResting t
    → Does t.server.link (Feed attempt piece (Ok tt)) l → Finishes (linked t l) z → Takes t.server (Came attempt piece) z
came_leads t l attempt piece z rests does ends =
    (l, does, handles_left t l t.server.effect z rests.handed.held ends)

-- and all that its record leads to is left
pub came_back : (t : PlainTurn) (l : End) (attempt : ℕ) (piece : List ℕ) (z : Server) → IsResting t
    → Does t.server.link (Feed attempt piece (Ok tt)) l → Takes t.server (Came attempt piece) z → Finishes (linked t l) z
came_back t l attempt piece z rests does (k, does_too, (m, pauses, puts)) =
    let same : k ≡ l = one_does (Feed attempt piece (Ok tt)) t.server.link k l does_too does in (
      m,
      subst (λ (h : List Packet). Pauses (rest_of t l h t.server.effect) m) (sym rests.handed.held)
          (subst (λ (x : End). Pauses (rest_of t x [] t.server.effect) m) same pauses),
      subst (λ (x : End). PutsAnswers (with_work x m) z) same puts,
    )

effect_of : (x : Option Effect) → x ≢ None → (e : Effect) × (x ≡ Some e)
effect_of None some = absurd (some refl)
effect_of (Some e) some = (e, refl)

-- what is left behind an effect that is done leads where its record leads
pub done_leads : (t u : PlainTurn) (ending : ℕ) (z : Server) → IsResting t → DroppedEffect t true u → Finishes u z
    → Takes t.server (Done ending) z
done_leads t u ending z rests (some, is) ends =
    let x = effect_of t.server.effect some in
    (x.0, x.1, handles_left t t.server.link None z rests.handed.held (subst (λ (y : PlainTurn). Finishes y z) is ends))

pub done_back : (t u : PlainTurn) (ending : ℕ) (z : Server) → IsResting t → DroppedEffect t true u → Takes t.server (Done ending) z
    → Finishes u z
done_back t u ending z rests (some, is) (e, effect, (m, pauses, puts)) =
    subst (λ (y : PlainTurn). Finishes y z) (sym is) (
      m,
      subst (λ (h : List Packet). Pauses (rest_of t t.server.link h None) m) (sym rests.handed.held) pauses,
      puts,
    )

-- ## What is left

pub owing_at : (stage : Stage) → stage ≡ Recording → IsOwing stage
owing_at stage is = subst IsOwing (sym is) tt

pub owing_answers : (stage : Stage) → stage ≡ Answering → IsOwing stage
owing_answers stage is = subst IsOwing (sym is) tt

pub leads_itself : (d : PlainDurableServer) → Leads d d
leads_itself d = record { leads = λ z left. left }

pub left_recording : (d : PlainDurableServer) → d.stage ≡ Recording → Left d d.turn.server
left_recording d is = subst (λ (s : Stage). LeftAt s d.turn d.turn.server) (sym is) refl

pub rests_at : (stage : Stage) (t : PlainTurn) → stage ≡ Recording → IsWell stage t → IsResting t
rests_at stage t is well = subst (λ (s : Stage). IsWell s t) is well

pub ruleset record_facts = (owing_at, leads_itself, left_recording, map-append, rests_at)

pub ruleset finish_facts = (owing_answers)

-- it goes on with the rest of the turn, and memory is refused
near_leads : (d e : PlainDurableServer) → d.stage ≡ Answering → e.stage ≡ Answering → Nears d.turn e.turn → Leads d e
near_leads d e is is_too near = record {
  leads = λ z left.
      subst (λ (s : Stage). LeftAt s d.turn z) (sym is) (near.leads z (subst (λ (s : Stage). LeftAt s e.turn z) is_too left));
}

settled_not : (A : Type 0) (stage : Stage) → IsOwing stage → stage ≡ Settled → A
settled_not A stage owing is = absurd (subst IsOwing is owing)

stopped_not : (A : Type 0) (stage : Stage) (why : Stop) → IsOwing stage → stage ≡ Stopped why → A
stopped_not A stage why owing is = absurd (subst IsOwing is owing)

finished_leads : (d m e : PlainDurableServer) → d.stage ≡ Answering → m.stage ≡ Recording → Finishes d.turn m.turn.server → Leads m e
    → Leads d e
finished_leads d m e is is_too ends more = record {
  leads = λ z left.
      let same : z ≡ m.turn.server = subst (λ (s : Stage). LeftAt s m.turn z) is_too (more.leads z left) in
      subst (λ (s : Stage). LeftAt s d.turn z) (sym is) (subst (λ (x : Server). Finishes d.turn x) (sym same) ends);
}

finished_left : (d m : PlainDurableServer) (z : Server) → d.stage ≡ Answering → m.stage ≡ Recording → Finishes d.turn m.turn.server
    → Left m z → Left d z
finished_left d m z is is_too ends left =
    let same : z ≡ m.turn.server = subst (λ (s : Stage). LeftAt s m.turn z) is_too left in
    subst (λ (s : Stage). LeftAt s d.turn z) (sym is) (subst (λ (x : Server). Finishes d.turn x) (sym same) ends)

-- the turn is finished, and then recorded
pub finished_then : (d m e : PlainDurableServer) (r : Result (Unit {0}) GoOnFault) → d.stage ≡ Answering → Finishing d (Ok tt) m
    → GoesOn m r e → GoesOn d r e
finished_then d m e (Ok done) is (ends, at) (inl (settled, same)) =
    settled_not _ m.stage (subst IsOwing (sym (ap (λ (x : PlainDurableServer). x.stage) at)) tt) settled
finished_then d m e (Ok done) is (ends, at) (inr (owing, left, same)) =
    let stage : m.stage ≡ Recording = ap (λ (x : PlainDurableServer). x.stage) at in
    inr (
      owing_answers d.stage is,
      finished_left d m e.turn.server is stage ends left,
      same ∙ ap (λ (x : PlainDurableServer). recorded x e.turn x.owed) at,
    )
finished_then d m e (Err go_on.Unfinished) is (ends, at) (owing, still, leads, same) =
    let stage : m.stage ≡ Recording = ap (λ (x : PlainDurableServer). x.stage) at in (
      owing_answers d.stage is,
      still,
      finished_leads d m e is stage ends leads,
      same ∙ ap (λ (x : PlainDurableServer). gone_to x e.turn e.stage x.owed) at,
    )
finished_then d m e (Err (go_on.Stopped why)) is (ends, at) (inl (stops, same)) =
    stopped_not _ m.stage why (subst IsOwing (sym (ap (λ (x : PlainDurableServer). x.stage) at)) tt) stops
finished_then d m e (Err (go_on.Stopped why)) is (ends, at) (inr (owing, nowhere, same)) =
    absurd (nowhere m.turn.server (left_recording m (ap (λ (x : PlainDurableServer). x.stage) at)))

pub finished_not : (d e : PlainDurableServer) (why : GoOnFault) → d.stage ≡ Answering → Finishing d (Err why) e → GoesOn d (Err why) e
finished_not d e go_on.Unfinished is (near, at) =
    let stage : e.stage ≡ Answering = ap (λ (x : PlainDurableServer). x.stage) at in (
      owing_answers d.stage is,
      owing_answers e.stage stage,
      near_leads d e is stage near,
      at ∙ ap (λ (s : Stage). gone_to d e.turn s d.owed) (sym stage),
    )
finished_not d e (go_on.Stopped why) is (nowhere, at) =
    inr (owing_answers d.stage is, (λ z left. nowhere z (subst (λ (s : Stage). LeftAt s d.turn z) is left)), at)

pub stage_of : (d m : PlainDurableServer) → Finishing d (Ok tt) m → m.stage ≡ Recording
stage_of d m (ends, at) = ap (λ (x : PlainDurableServer). x.stage) at

pub ruleset finished_facts = (finished_then, finished_not, stage_of)

pub goes_nowhere : (d : PlainDurableServer) → d.stage ≡ Settled → GoesOn d (Ok tt) d
goes_nowhere d is = inl (is, refl)

pub stays_stopped : (d : PlainDurableServer) (why : Stop) → d.stage ≡ Stopped why → GoesOn d (Err (go_on.Stopped why)) d
stays_stopped d why is = inl (is, refl)

pub ruleset nothing_facts = (goes_nowhere, stays_stopped)

-- ## A call takes a record

-- the call is made, and its record is owed
pub taken : {F : Type 0} (d m e : PlainDurableServer) (t : PlainTurn) (stage : Stage) (r : PlainRecord)
    (refuses : F → PlainDurableServer → Type 0) (result : Result (Unit {0}) (CallFault F)) → d.stage ≡ Settled
    → m ≡ gone_to (begun d r) t stage (record_bytes r) → IsOwing stage → ((z : Server) → LeftAt stage t z → Takes d.turn.server r z)
    → (((z : Server) → LeftAt stage t z → ⊥) → LeadsNowhereBy d.turn.server r) → GoesOnNow m result e → TakesRecord d r refuses result e
taken d m e t stage r refuses (Ok done) settled at owing leads stops (inl (is, same)) =
    settled_not _ m.stage (subst IsOwing (sym (ap (λ (x : PlainDurableServer). x.stage) at)) owing) is
taken d m e t stage r refuses (Ok done) settled at owing leads stops (inr (still, left, same)) = (
  settled,
  leads e.turn.server (subst (λ (x : PlainDurableServer). Left x e.turn.server) at left),
  same ∙ ap (λ (x : PlainDurableServer). recorded x e.turn x.owed) at,
)
taken d m e t stage r refuses (Err fault.Unfinished) settled at owing leads stops (was, still, more, same) = (
  settled,
  still,
  record { leads = λ z left. leads z (subst (λ (x : PlainDurableServer). Left x z) at (more.leads z left)) },
  same ∙ ap (λ (x : PlainDurableServer). gone_to x e.turn e.stage x.owed) at,
)
taken d m e t stage r refuses (Err (fault.Stopped why)) settled at owing leads stops (inl (is, same)) =
    stopped_not _ m.stage why (subst IsOwing (sym (ap (λ (x : PlainDurableServer). x.stage) at)) owing) is
taken d m e t stage r refuses (Err (fault.Stopped why)) settled at owing leads stops (inr (was, nowhere, same)) =
    inr (
      settled,
      stops (λ z left. nowhere z (subst (λ (x : PlainDurableServer). Left x z) (sym at) left)),
      same ∙ ap (λ (x : PlainDurableServer). gone_to x e.turn (Stopped why) x.owed) at,
    )
taken d m e t stage r refuses (Err fault.Waiting) settled at owing leads stops goes = absurd goes
taken d m e t stage r refuses (Err fault.OutOfMemory) settled at owing leads stops goes = absurd goes
taken d m e t stage r refuses (Err (fault.Refused why)) settled at owing leads stops goes = absurd goes

pub new_rests : (id : Id) → IsResting (record { server = new_server id; held = [] })
new_rests id = record {
  handed = record {
    held = refl;
    paused = ((refl, (record { waiting = refl; unwritten = refl }, refl)), refl);
  };
  answers = refl;
}

-- a link that waits for as much as before leaves the turn done
pub linked_rests : (t : PlainTurn) (l : End) → l.waiting ≡ t.server.link.waiting → IsResting t → IsResting (linked t l)
linked_rests t l same rests = record {
  handed = record {
    held = rests.handed.held;
    paused =
        paused_on t.server.effect (work_of t) (work_of (linked t l)) rests.handed.paused
        (ap (λ (w : Waiting). t.held ++ w.packets) same) (λ ready. ready);
  };
  answers = rests.answers;
}

linked_well : (stage : Stage) (t : PlainTurn) (l : End) → l.waiting ≡ t.server.link.waiting → IsWell stage t → IsWell stage (linked t l)
linked_well Settled t l same well = linked_rests t l same well
linked_well Recording t l same well = linked_rests t l same well
linked_well Answering t l same well = tt
linked_well (Stopped why) t l same well = tt

broken_waits : (b : Bool) (e : End) → (if b then ended e else e).waiting ≡ e.waiting
broken_waits true e = refl
broken_waits false e = refl

pub broken_well : (stage : Stage) (t : PlainTurn) (attempt : ℕ) → IsWell stage t → IsWell stage (linked t (broken t.server.link attempt))
broken_well stage t attempt well =
    linked_well stage t (broken t.server.link attempt) (broken_waits (attempt == t.server.link.attempt) t.server.link) well

pub answered_waits : (role : Role) (e n : End) (h : Hello) → AnswersBy role e h (Ok tt) n → n.waiting ≡ e.waiting
answered_waits Host e n h x = ap (λ (k : End). k.waiting) x.1
answered_waits Terminal e n h x = absurd x

resting : (stage : Stage) (t : PlainTurn) → stage ≡ Settled → IsWell stage t → IsResting t
resting stage t is well = subst (λ (s : Stage). IsWell s t) is well

pub accept_well : (d : PlainDurableServer) (t : PlainTurn) (h : Hello) → d.stage ≡ Settled → IsWell d.stage d.turn
    → t ≡ linked d.turn t.server.link → Does d.turn.server.link (Answer h (Ok tt)) t.server.link → IsResting t
accept_well d t h settled well is does =
    subst IsResting (sym is)
    (linked_rests d.turn t.server.link (answered_waits d.turn.server.link.role d.turn.server.link t.server.link h does)
    (resting d.stage d.turn settled well))

pub accept_takes : {F : Type 0} (d e : PlainDurableServer) (t : PlainTurn) (h : Hello) (body : List ℕ)
    (refuses : F → PlainDurableServer → Type 0) (result : Result (Unit {0}) (CallFault F)) → d.stage ≡ Settled
    → body ≡ record_bytes (Called h) → t ≡ linked d.turn t.server.link → Does d.turn.server.link (Answer h (Ok tt)) t.server.link
    → GoesOnNow (gone_to d t Recording body) result e → TakesRecord d (Called h) refuses result e
accept_takes d e t h body refuses result settled body_is is does goes =
    taken d (gone_to d t Recording body) e t Recording (Called h) refuses result settled
    (ap (λ (b : List ℕ). gone_to d t Recording b) body_is) tt
    (λ z left. (t.server.link, does, left ∙ ap (λ (x : PlainTurn). x.server) is)) (λ nowhere. absurd (nowhere t.server refl)) goes

pub receive_takes : {F : Type 0} (d e : PlainDurableServer) (t : PlainTurn) (attempt : ℕ) (piece body : List ℕ)
    (refuses : F → PlainDurableServer → Type 0) (result : Result (Unit {0}) (CallFault F)) → d.stage ≡ Settled → IsWell d.stage d.turn
    → body ≡ record_bytes (Came attempt piece) → t ≡ linked d.turn t.server.link
    → Does d.turn.server.link (Feed attempt piece (Ok tt)) t.server.link
    → GoesOnNow (gone_to d t Answering body) result e → TakesRecord d (Came attempt piece) refuses result e
receive_takes d e t attempt piece body refuses result settled well body_is is does goes =
    taken d (gone_to d t Answering body) e t Answering (Came attempt piece) refuses result settled
    (ap (λ (b : List ℕ). gone_to d t Answering b) body_is) tt
    (λ z left. came_leads d.turn t.server.link attempt piece z (resting d.stage d.turn settled well) does
    (subst (λ (x : PlainTurn). Finishes x z) is left))
    (λ nowhere z takes. nowhere z (subst (λ (x : PlainTurn). Finishes x z) (sym is)
    (came_back d.turn t.server.link attempt piece z (resting d.stage d.turn settled well) does takes))) goes

-- the piece is not taken
pub refuses_piece : (d : PlainDurableServer) (t : PlainTurn) (attempt : ℕ) (piece : List ℕ) (why : FeedFault) → d.stage ≡ Settled
    → t ≡ linked d.turn t.server.link → Does d.turn.server.link (Feed attempt piece (Err why)) t.server.link
    → TakesRecord {A = Unit {0}} d (Came attempt piece) (RefusesPiece d attempt piece) (Err (told_of_feed why)) (record d { turn = t })
refuses_piece d t attempt piece feeds.OutOfMemory settled is does =
    (settled, ap (λ (x : PlainTurn). record d { turn = x }) (is ∙ ap (λ (l : End). linked d.turn l) does.1))
refuses_piece d t attempt piece feeds.NotOpen settled is does =
    (settled, (t.server.link, (λ e. cc), does, ap (λ (x : PlainTurn). record d { turn = x }) is))
refuses_piece d t attempt piece feeds.CountFull settled is does =
    (settled, (t.server.link, (λ e. cc), does, ap (λ (x : PlainTurn). record d { turn = x }) is))
refuses_piece d t attempt piece (feeds.Wrong why) settled is does =
    (settled, (t.server.link, (λ e. cc), does, ap (λ (x : PlainTurn). record d { turn = x }) is))
refuses_piece d t attempt piece feeds.AckAhead settled is does =
    (settled, (t.server.link, (λ e. cc), does, ap (λ (x : PlainTurn). record d { turn = x }) is))

-- a record that is done at once
pub single_takes : {F : Type 0} (d e : PlainDurableServer) (t : PlainTurn) (r : PlainRecord) (body : List ℕ)
    (refuses : F → PlainDurableServer → Type 0) (result : Result (Unit {0}) (CallFault F)) → d.stage ≡ Settled → due_before r d.due ≡ d.due
    → body ≡ record_bytes r → Takes d.turn.server r t.server
    → GoesOnNow (gone_to d t Recording body) result e → TakesRecord d r refuses result e
single_takes d e t r body refuses result settled due body_is takes goes =
    taken d (gone_to d t Recording body) e t Recording r refuses result settled
    (λ i. gone_to (record d { due = sym due i }) t Recording (body_is i)) tt
    (λ z left. subst (λ (x : Server). Takes d.turn.server r x) (sym left) takes) (λ nowhere. absurd (nowhere t.server refl)) goes

pub joined_rests : (t u : PlainTurn) (name text : List ℕ) (tag : ℕ) → IsResting t → u ≡ hosted t u.server.host
    → Adds t.server.host name text (Ok tag) u.server.host → IsResting u
joined_rests t u name text tag rests is adds =
    let shape : u ≡ hosted t (with_file t.server.host name text) = is ∙ ap (hosted t) adds.2 in
    subst IsResting (sym shape) (record {
      handed = record {
        held = rests.handed.held;
        paused =
            paused_on t.server.effect (work_of t) (work_of (hosted t (with_file t.server.host name text))) rests.handed.paused refl
            (ready_joined t.server.host (with_file t.server.host name text) name text (Ok tag) (adds.0, adds.1, refl));
      };
      answers = rests.answers;
    })

pub joined_well : (d : PlainDurableServer) (u : PlainTurn) (name text : List ℕ) (tag : ℕ) → d.stage ≡ Settled → IsWell d.stage d.turn
    → u ≡ hosted d.turn u.server.host → Adds d.turn.server.host name text (Ok tag) u.server.host → IsResting u
joined_well d u name text tag settled well is adds = joined_rests d.turn u name text tag (resting d.stage d.turn settled well) is adds

pub said_well : (d : PlainDurableServer) (u : PlainTurn) (message : List ℕ) → d.stage ≡ Settled → IsWell d.stage d.turn
    → u ≡ linked d.turn u.server.link → Does d.turn.server.link (PutNote message (Ok tt)) u.server.link → IsResting u
said_well d u message settled well is does =
    subst IsResting (sym is)
    (linked_rests d.turn u.server.link (ap (λ (l : End). l.waiting) does.1) (resting d.stage d.turn settled well))

-- an effect is done, and what is behind it is handled
pub done_takes : {F : Type 0} (d e : PlainDurableServer) (t : PlainTurn) (ending : ℕ) (b : Bool) (body : List ℕ)
    (refuses : F → PlainDurableServer → Type 0) (result : Result (Unit {0}) (CallFault F)) → d.stage ≡ Settled → IsWell d.stage d.turn
    → body ≡ record_bytes (Done ending) → b ≡ true → DroppedEffect d.turn b t
    → GoesOnNow (gone_to (record d { due = None }) t Answering body) result e → TakesRecord d (Done ending) refuses result e
done_takes d e t ending true body refuses result settled well body_is some dropped goes =
    taken d (gone_to (record d { due = None }) t Answering body) e t Answering (Done ending) refuses result settled
    (ap (λ (x : List ℕ). gone_to (record d { due = None }) t Answering x) body_is) tt
    (λ z left. done_leads d.turn t ending z (resting d.stage d.turn settled well) dropped left)
    (λ nowhere z takes. nowhere z (done_back d.turn t ending z (resting d.stage d.turn settled well) dropped takes)) goes
done_takes d e t ending false body refuses result settled well body_is some dropped goes = absurd (true≢false (sym some))

-- ## The terminal is told

pub asked_well : (d : PlainDurableServer) (u : PlainTurn) → d.stage ≡ Settled → IsWell d.stage d.turn
    → u ≡ linked d.turn u.server.link → Does d.turn.server.link (Ask (Ok tt)) u.server.link → IsResting u
asked_well d u settled well is does =
    subst IsResting (sym is)
    (linked_rests d.turn u.server.link (ap (λ (l : End). l.waiting) does.1) (resting d.stage d.turn settled well))

pub acknowledged_well : (d : PlainDurableServer) (u : PlainTurn) → d.stage ≡ Settled → IsWell d.stage d.turn
    → u ≡ linked d.turn u.server.link → Does d.turn.server.link (Acknowledge (Ok tt)) u.server.link → IsResting u
acknowledged_well d u settled well is does =
    subst IsResting (sym is)
    (linked_rests d.turn u.server.link (ap (λ (l : End). l.waiting) does.1) (resting d.stage d.turn settled well))

pub marked_leads : (t : PlainTurn) (k : PlainHostEndpoint) (f : ℕ) (z : Server) → IsResting t → Marks t.server.host f (Ok tt) k
    → Finishes (hosted t k) z → Takes t.server (Marked f) z
marked_leads t k f z rests marks (m, (n, pauses), puts) =
    let still : IsPausedAt t.server.effect (work_of (hosted t k)) =
    paused_on t.server.effect (work_of t) (work_of (hosted t k)) rests.handed.paused refl (ready_marked t.server.host k f (Ok tt) marks) in
    let same : m ≡ work_of (hosted t k) = paused_stays n (work_of (hosted t k)) m still pauses in (
      k,
      marks,
      subst (λ (s : Server). PutsAnswers s z) (whole (hosted t k) rests.handed.held)
          (subst (λ (w : Work). PutsAnswers (with_work t.server.link w) z) same puts),
    )

pub marked_back : (t : PlainTurn) (k : PlainHostEndpoint) (f : ℕ) (z : Server) → IsResting t → Marks t.server.host f (Ok tt) k
    → Takes t.server (Marked f) z → Finishes (hosted t k) z
marked_back t k f z rests marks (j, marks_too, puts) =
    let still : IsPausedAt t.server.effect (work_of (hosted t k)) =
    paused_on t.server.effect (work_of t) (work_of (hosted t k)) rests.handed.paused refl (ready_marked t.server.host k f (Ok tt) marks) in
    let same : j ≡ k = marks_too.2 ∙ sym marks.2 in (
      work_of (hosted t k),
      (0, (still, refl)),
      subst (λ (s : Server). PutsAnswers s z) (sym (whole (hosted t k) rests.handed.held))
          (subst (λ (x : PlainHostEndpoint). PutsAnswers (record t.server { host = x }) z) same puts),
    )

-- a file is marked, and the answers are put
pub marked_takes : {F : Type 0} (d e : PlainDurableServer) (u : PlainTurn) (f : ℕ) (body : List ℕ)
    (refuses : F → PlainDurableServer → Type 0) (result : Result (Unit {0}) (CallFault F)) → d.stage ≡ Settled → IsWell d.stage d.turn
    → body ≡ record_bytes (Marked f) → u ≡ hosted d.turn u.server.host → Marks d.turn.server.host f (Ok tt) u.server.host
    → GoesOnNow (gone_to d u Answering body) result e → TakesRecord d (Marked f) refuses result e
marked_takes d e u f body refuses result settled well body_is is marks goes =
    taken d (gone_to d u Answering body) e u Answering (Marked f) refuses result settled
    (ap (λ (b : List ℕ). gone_to d u Answering b) body_is) tt
    (λ z left. marked_leads d.turn u.server.host f z (resting d.stage d.turn settled well) marks
    (subst (λ (x : PlainTurn). Finishes x z) is left))
    (λ nowhere z takes. nowhere z (subst (λ (x : PlainTurn). Finishes x z) (sym is)
    (marked_back d.turn u.server.host f z (resting d.stage d.turn settled well) marks takes))) goes
