-- Where a program's connection breaks, it takes a record or goes on, a session of the definition does so.
use Rattle.std.proofs.Common.{◌≡◌, ◌≢◌, ◌⊎◌, inl, inr, ℕ, zero, suc, ◌+◌, ◌<◌, ◌≤◌, length, take, List, [], ◌∷◌, ◌++◌, Bool, true, false, Option, None, Some, Result, Ok, Err, refl, sym, ap, ◌∙◌, subst, append-nil, append_assoc, arith, length-append, take_all}
use Rattle.std.proofs.lemmas.List.{take-append-le}
use Rattle.std.specs.Prelude.{if◌then◌else◌}
use Rattle.sam_link.specs.Calls.{Call, out}
use Rattle.sam_link.specs.Calls.Call.{Break}
use Rattle.sam_link.specs.End.{End, ended}
use Rattle.sam_link.specs.declared.fault.FeedFault.{FeedFault}
use Rattle.sam_link.specs.declared.fault.FeedFault.TheVariants as feeds
use Rattle.sam_link.specs.declared.fault.NotOpen.{NotOpen}
use Rattle.sam_link.specs.declared.hello.Id.{Id}
use Rattle.sam_server.specs.DurableServers.{due_before, due_behind, GoesOn, IsOwing, LeadsBy, LeftAt, PlainDurableServer, RefusesAcknowledge, RefusesAsk, RefusesEffect, RefusesFile, RefusesHello, RefusesMark, RefusesNote, RefusesPiece, TakesRecord, begun, gone_to, mark_of, recorded, with_link}
use Rattle.sam_server.specs.Gates.{PlainGate, put_count}
use Rattle.sam_server.specs.Records.{Acknowledged, Asked, Called, Came, Done, Joined, Marked, NumbersFit, PlainRecord, Said, Spells, record_bytes}
use Rattle.sam_server.specs.Servers.{Effect, Makes, PausesBy, PutsAnswers, Server, Takes, Work, new_server, with_work}
use Rattle.sam_server.specs.Turns.{PlainTurn, linked}
use Rattle.sam_server.specs.declared.fault.CallFault.{CallFault}
use Rattle.sam_server.specs.declared.fault.CallFault.TheVariants as fault
use Rattle.sam_server.specs.declared.fault.GoOnFault.{GoOnFault}
use Rattle.sam_server.specs.declared.fault.GoOnFault.TheVariants as go_on
use Rattle.sam_server.specs.declared.gate.Mark.{Mark}
use Rattle.sam_server.specs.declared.server.Stage.{Stage}
use Rattle.sam_server.specs.declared.server.Stage.TheVariants.{Answering, Recording, Settled, Stopped}
use Rattle.sam_server.specs.declared.turn.Stop.{Stop}
use Rattle.sam_served.specs.Marks.{StandsAt}
use Rattle.sam_served.specs.Programs.{Accept, Acknowledge, AddFile, Ask, EffectDone, IsDone, IsNothing, MarkDirty, Program, Progress, Receive, Say, Taking, Waits, after_going_on, after_take, progress, progress_by, record_of}
use Rattle.sam_served.specs.Programs as program
use Rattle.sam_served.specs.Recoveries.{SpellAll}
use Rattle.sam_served.specs.Serving.{Did, Do, LeadsServed, Take, Took, WasBrought, calls_in, new_served, records_in}
use Rattle.sam_served.proofs.Serving.{effect_stands, marks_are_right}
use Rattle.sam_served.proofs.Crashing.{over_at_once}
use Rattle.sam_served.proofs.ProgramStates.{leads_on, records_did, records_took, calls_did, calls_took, out_more, spell_more, Marks, marks_long, marks_more, IsBrokenOf, Owing, At, served_of, DueAt, BegunDue, Tied}

-- ## A connection breaks

-- what a link puts it puts over a broken connection, too
puts_broken : (s z : Server) → PutsAnswers (record s { link = ended s.link }) z
    → (m : Server) × PutsAnswers s m × (z ≡ record m { link = ended m.link })
puts_broken s z (l, (puts, is), at_it) =
    let n : End = record s.link { keeps = l.keeps } in (
      record s { link = n; host = record s.host { pending_bytes = [] } },
      (n, (puts, refl), refl),
      at_it ∙ ap (λ (k : End). record s { link = k; host = record s.host { pending_bytes = [] } }) is,
    )

left_broken : (stage : Stage) (t : PlainTurn) (z : Server) → LeftAt stage (linked t (ended t.server.link)) z
    → (m : Server) × LeftAt stage t m × (z ≡ record m { link = ended m.link })
left_broken Settled t z left = absurd left
left_broken (Stopped why) t z left = absurd left
left_broken Recording t z left = (t.server, refl, left)
left_broken Answering t z (m, pauses, puts) =
    let (k, puts_too, is) = puts_broken (with_work t.server.link m) z puts in (k, (m, pauses, puts_too), is)

broken_again : (m y z : Server) → IsBrokenOf m y → z ≡ record y { link = ended y.link } → IsBrokenOf m z
broken_again m y z (inl same) is = inr (is ∙ ap (λ (x : Server). record x { link = ended x.link }) same)
broken_again m y z (inr same) is = inr (is ∙ ap (λ (x : Server). record x { link = ended x.link }) same)

owing_broken : (stage : Stage) (t : PlainTurn) (owed : List ℕ) (begun : List PlainRecord) (s : Server) (taken : List PlainRecord)
    (calls : List Call) → Owing stage t owed begun s taken calls → Owing stage (linked t (ended t.server.link)) owed begun s taken calls
owing_broken stage t owed begun s taken calls o = record {
  r = o.r;
  begun_is = o.begun_is;
  spells = o.spells;
  brought = o.brought;
  leads = λ z left.
      let (y, before, is) = left_broken stage t z left in
      let (m, takes, from) = o.leads y before in
      (m, takes, broken_again m y z from is);
}

-- the connection is the newest, and is over
abbrev over_now : Program → Program
over_now p = record p { server = with_link p.server (ended p.server.turn.server.link) }

-- where it waits, or has stopped, nothing happened at the server of the definition yet
over_then : (id : Id) (p : Program) (x : Tied id p)
    → At p.server.stage (linked p.server.turn (ended p.server.turn.server.link)) p.server.owed p.begun x.server p.taken p.terminal_calls
    → Tied id (over_now p)
over_then id p x now = record {
  events = x.events;
  server = x.server;
  log = x.log;
  durable = x.durable;
  leads = x.leads;
  outs = x.outs;
  records = x.records;
  bodies = x.bodies;
  base = x.base;
  marks = x.marks;
  stage = now;
  due = x.due;
  waits = x.waits;
}

over_settled : (id : Id) (p : Program) (x : Tied id p) → p.server.stage ≡ Settled → x.server ≡ p.server.turn.server → p.begun ≡ []
    → Tied id (over_now p)
over_settled id p x settled same none =
    let l = x.server.link in
    let s : Server = record x.server { link = ended l } in
    let log = x.log ++ Did (Break l.attempt) ∷ [] in
    record {
      events = x.events ++ Do (Break l.attempt) ∷ [];
      server = s;
      log = log;
      durable = x.durable;
      leads =
          leads_on id x.events (Do (Break l.attempt) ∷ []) (new_served id) (served_of p x.server x.log x.durable)
          (served_of (over_now p) s log x.durable) x.leads (ended l, over_at_once l, tt, refl);
      outs = λ m. x.outs m ∙ sym (append-nil (out m (calls_in x.log))) ∙ sym (out_more m (calls_in x.log) (Break l.attempt))
          ∙ ap (out m) (sym (calls_did x.log (Break l.attempt)));
      records = records_did x.log (Break l.attempt) ∙ x.records;
      bodies = x.bodies;
      base = x.base;
      marks = x.marks;
      stage =
          subst (λ (g : Stage). At g (linked p.server.turn (ended p.server.turn.server.link)) p.server.owed p.begun s p.taken p.terminal_calls)
          (sym settled) (ap (λ (y : Server). record y { link = ended y.link }) same, none);
      due = x.due;
      waits = x.waits;
    }

over_by : (stage : Stage) (id : Id) (p : Program) (x : Tied id p) → p.server.stage ≡ stage
    → At stage p.server.turn p.server.owed p.begun x.server p.taken p.terminal_calls → Tied id (over_now p)
over_by Settled id p x is here = over_settled id p x is here.0 here.1
over_by Answering id p x is here =
    over_then id p x (subst (λ (g : Stage). At g (linked p.server.turn (ended p.server.turn.server.link)) p.server.owed p.begun x.server p.taken p.terminal_calls)
    (sym is) (owing_broken Answering p.server.turn p.server.owed p.begun x.server p.taken p.terminal_calls here))
over_by Recording id p x is here =
    over_then id p x (subst (λ (g : Stage). At g (linked p.server.turn (ended p.server.turn.server.link)) p.server.owed p.begun x.server p.taken p.terminal_calls)
    (sym is) (owing_broken Recording p.server.turn p.server.owed p.begun x.server p.taken p.terminal_calls here))
over_by (Stopped why) id p x is here =
    over_then id p x (subst (λ (g : Stage). At g (linked p.server.turn (ended p.server.turn.server.link)) p.server.owed p.begun x.server p.taken p.terminal_calls)
    (sym is) tt)

is_over : (id : Id) (p : Program) → Tied id p → Tied id (over_now p)
is_over id p x = over_by p.server.stage id p x refl x.stage

pub by_break : (newest : Bool) (id : Id) (p : Program) → Tied id p
    → Tied id (record p { server = with_link p.server (if newest then ended p.server.turn.server.link else p.server.turn.server.link) })
by_break true id p x = is_over id p x
by_break false id p x = x

-- ## A record is taken

paused_effect : (n : ℕ) (w v : Work) (f : Effect) → w.effect ≡ Some f → PausesBy n w v → v.effect ≡ Some f
paused_effect zero w v f is (paused, same) = ap (λ (x : Work). x.effect) same ∙ is
paused_effect (suc n) w v f is (none, x, move, more) = absurd (cc (sym is ∙ none))

-- an effect that waits stays until it is done
keeps_effect : (r : PlainRecord) (s m : Server) (f : Effect) (k : ℕ) → s.effect ≡ Some f → Some k ≡ due_before r (Some k) → Takes s r m
    → m.effect ≡ Some f
keeps_effect (Done ending) s m f k is waits takes = absurd (cc)
keeps_effect (Joined name text) s m f k is waits (tag, host, adds, at_it) = ap (λ (x : Server). x.effect) at_it ∙ is
keeps_effect (Marked tag) s m f k is waits (host, marks, (l, does, at_it)) = ap (λ (x : Server). x.effect) at_it ∙ is
keeps_effect (Called hello) s m f k is waits (l, does, at_it) = ap (λ (x : Server). x.effect) at_it ∙ is
keeps_effect (Came attempt piece) s m f k is waits (l, does, (w, (n, pauses), (e, puts, at_it))) =
    ap (λ (x : Server). x.effect) at_it
    ∙ paused_effect n (record { packets = l.waiting.packets; host = s.host; effect = s.effect }) w f is pauses
keeps_effect (Said bytes) s m f k is waits (l, does, at_it) = ap (λ (x : Server). x.effect) at_it ∙ is
keeps_effect Acknowledged s m f k is waits (l, does, at_it) = ap (λ (x : Server). x.effect) at_it ∙ is
keeps_effect Asked s m f k is waits (l, does, at_it) = ap (λ (x : Server). x.effect) at_it ∙ is

less_or_more : (j n : ℕ) → (j ≤ n) ⊎ (n < j)
less_or_more zero n = inl (omega arith)
less_or_more (suc j) zero = inr (omega arith)
less_or_more (suc j) (suc n) = elim (less_or_more j n) [ inl less ↦ inl (omega (arith, less)) | inr more ↦ inr (omega (arith, more)) ]

-- what is made of all records, or of fewer
made_front : (id : Id) (taken : List PlainRecord) (r : PlainRecord) (f : Effect) (j : ℕ) → (j ≤ length taken) ⊎ (length taken < j)
    → (j ≤ length taken → (m : Server) × Makes (new_server id) (take j taken) m × (m.effect ≡ Some f))
    → ((m : Server) × Makes (new_server id) (taken ++ r ∷ []) m × (m.effect ≡ Some f))
    → (m : Server) × Makes (new_server id) (take j (taken ++ r ∷ [])) m × (m.effect ≡ Some f)
made_front id taken r f j (inl less) before all =
    subst (λ (l : List PlainRecord). (m : Server) × Makes (new_server id) l m × (m.effect ≡ Some f))
    (sym (take-append-le j taken (r ∷ []) less)) (before less)
made_front id taken r f j (inr more) before all =
    subst (λ (l : List PlainRecord). (m : Server) × Makes (new_server id) l m × (m.effect ≡ Some f))
    (sym (take_all j (taken ++ r ∷ []) (omega (arith, more, length-append taken (r ∷ []))))) all

due_recorded : (id : Id) (n : ℕ) (taken : List PlainRecord) (due : Option ℕ) (r : PlainRecord) (s m : Server) (effect : Option Effect)
    (count : ℕ) → length taken ≡ n + count → DueAt id n taken due s.effect → due ≡ due_before r due → Takes s r m → effect ≡ m.effect
    → ((k : Server) × Makes (new_server id) (taken ++ r ∷ []) k × (k.effect ≡ m.effect))
    → DueAt id n (taken ++ r ∷ []) (due_behind due effect (count + 1)) m.effect
due_recorded id n taken None r s m None count long due_at due_is takes same all = tt
due_recorded id n taken None r s m (Some f) count long due_at due_is takes same (k, makes, effect) = (
  f,
  sym same,
  (λ j low high. (
    k,
    subst (λ (l : List PlainRecord). Makes (new_server id) l k)
        (sym (take_all j (taken ++ r ∷ []) (omega (arith, low, long, length-append taken (r ∷ []))))) makes,
    effect ∙ sym same,
  )),
)
due_recorded id n taken (Some c) r s m effect count long (f, is, before) due_is takes same (k, makes, at_it) =
    let kept : m.effect ≡ Some f = keeps_effect r s m f c is due_is takes in (
      f,
      kept,
      (λ j low high. made_front id taken r f j (less_or_more j (length taken)) (λ less. before j low less) (k, makes, at_it ∙ kept)),
    )

-- a turn is done, and its record stands behind the others
record_here : (id : Id) (p : Program) (x : Tied id p) (r : PlainRecord) (d : PlainDurableServer) (t : PlainTurn) (bytes : List ℕ) (m : Server)
    → d.records ≡ p.server.records → d.gate ≡ p.server.gate → Spells r bytes → WasBrought p.taken p.terminal_calls r
    → Takes x.server r m → DueAt id x.durable p.taken d.due x.server.effect → d.due ≡ due_before r d.due → t.server ≡ m
    → Tied id (record p { server = recorded d t bytes; taken = p.taken ++ r ∷ []; begun = [] })
record_here id p x r d t bytes m records gate spells brought takes due_at due_is same =
    let q : Program = record p { server = recorded d t bytes; taken = p.taken ++ r ∷ []; begun = [] } in
    let log = x.log ++ Took r ∷ [] in
    let events = x.events ++ Take r ∷ [] in
    let w = served_of q m log x.durable in
    let leads : LeadsServed id (new_served id) events w =
    leads_on id x.events (Take r ∷ []) (new_served id) (served_of p x.server x.log x.durable) w x.leads
    (m, takes, subst (λ (l : List PlainRecord). WasBrought l p.terminal_calls r) (sym x.records) brought, refl) in
    let all : records_in log ≡ p.taken ++ r ∷ [] = records_took x.log r ∙ ap (λ (l : List PlainRecord). l ++ r ∷ []) x.records in
    let mark : Mark = mark_of t.server.link in
    let stands : StandsAt id (p.taken ++ r ∷ []) mark =
    subst (λ (l : List PlainRecord). StandsAt id l mark) all
    (marks_are_right id events w mark leads (ap (λ (s : Server). s.link.attempt) same) (ap (λ (s : Server). put_count s.link) same)) in
    record {
      events = events;
      server = m;
      log = log;
      durable = x.durable;
      leads = leads;
      outs = λ k. x.outs k ∙ ap (out k) (sym (calls_took x.log r));
      records = all;
      bodies =
          subst (λ (l : List (List ℕ)). SpellAll (p.taken ++ r ∷ []) l)
          (append_assoc p.journal p.server.records (bytes ∷ []) ∙ ap (λ (l : List (List ℕ)). p.journal ++ (l ++ bytes ∷ [])) (sym records))
          (spell_more p.taken (p.journal ++ p.server.records) r bytes x.bodies spells);
      base =
          subst (λ (g : PlainGate). StandsAt id (take x.durable (p.taken ++ r ∷ [])) g.base) (sym gate)
          (subst (λ (l : List PlainRecord). StandsAt id l p.server.gate.base)
          (sym (take-append-le x.durable p.taken (r ∷ []) (omega (arith, marks_long id x.durable p.taken p.server.gate.waiting x.marks)))) x.base);
      marks =
          subst (λ (g : PlainGate). Marks id x.durable (p.taken ++ r ∷ []) (g.waiting ++ mark ∷ [])) (sym gate)
          (marks_more id x.durable p.taken p.server.gate.waiting r mark x.marks stands);
      stage = (sym same, refl);
      due =
          due_recorded id x.durable p.taken d.due r x.server m t.server.effect (length d.gate.waiting)
          (marks_long id x.durable p.taken p.server.gate.waiting x.marks ∙ ap (λ (g : PlainGate). x.durable + length g.waiting) (sym gate))
          due_at due_is takes (ap (λ (y : Server). y.effect) same)
          (subst (λ (l : List PlainRecord). (k : Server) × Makes (new_server id) l k × (k.effect ≡ m.effect)) all (effect_stands id events w leads));
      waits = tt;
    }

-- and its connection may have broken meanwhile
by_record : (id : Id) (p : Program) (x : Tied id p) (r : PlainRecord) (d : PlainDurableServer) (t : PlainTurn) (bytes : List ℕ) (m : Server)
    → d.records ≡ p.server.records → d.gate ≡ p.server.gate → Spells r bytes → WasBrought p.taken p.terminal_calls r
    → Takes x.server r m → DueAt id x.durable p.taken d.due x.server.effect → d.due ≡ due_before r d.due → IsBrokenOf m t.server
    → Tied id (record p { server = recorded d t bytes; taken = p.taken ++ r ∷ []; begun = [] })
by_record id p x r d t bytes m records gate spells brought takes due_at due_is (inl same) =
    record_here id p x r d t bytes m records gate spells brought takes due_at due_is same
by_record id p x r d t bytes m records gate spells brought takes due_at due_is (inr same) =
    let u : PlainTurn = record t { server = m } in
    let y = record_here id p x r d u bytes m records gate spells brought takes due_at due_is refl in
    let q : Program = record p { server = recorded d u bytes; taken = p.taken ++ r ∷ []; begun = [] } in
    let z : Tied id (over_now q) = is_over id q y in
    subst (λ (s : Server). Tied id (record p { server = recorded d (record t { server = s }) bytes; taken = p.taken ++ r ∷ []; begun = [] }))
    (sym same) z

-- what a call has done with its record
abbrev Comes : PlainDurableServer → PlainRecord → Progress → PlainDurableServer → Type 0
Comes d r IsDone e = (d.stage ≡ Settled) × Takes d.turn.server r e.turn.server × (e ≡ recorded (begun d r) e.turn (record_bytes r))
Comes d r Waits e =
    (d.stage ≡ Settled) × IsOwing e.stage × LeadsBy d.turn.server r e × (e ≡ gone_to (begun d r) e.turn e.stage (record_bytes r))
Comes d r IsNothing e =
    (e ≡ d)
    ⊎ (((d.stage ≡ Settled) × (why : Stop) × (e ≡ gone_to (begun d r) e.turn (Stopped why) (record_bytes r)))
    ⊎ (e ≡ with_link d (ended d.turn.server.link)))

did_by : {A F : Type 0} (d e : PlainDurableServer) (r : PlainRecord) (refuses : F → PlainDurableServer → Type 0) (result : Result A (CallFault F))
    → ((why : F) → refuses why e → Comes d r IsNothing e) → TakesRecord d r refuses result e → Comes d r (progress_by result) e
did_by d e r refuses (Ok done) so x = x
did_by d e r refuses (Err fault.Unfinished) so x = x
did_by d e r refuses (Err (fault.Stopped why)) so (inl x) = inl x.1
did_by d e r refuses (Err (fault.Stopped why)) so (inr x) = inr (inl (x.0, why, x.2))
did_by d e r refuses (Err fault.Waiting) so x = inl x.1
did_by d e r refuses (Err fault.OutOfMemory) so x = inl x.1
did_by d e r refuses (Err (fault.Refused why)) so x = so why x.1

piece_refused : (d e : PlainDurableServer) (attempt : ℕ) (piece : List ℕ) (why : FeedFault) → RefusesPiece d attempt piece why e
    → Comes d (Came attempt piece) IsNothing e
piece_refused d e attempt piece feeds.NotOpen (l, some, is, at_it) = inl (at_it ∙ ap (λ (k : End). with_link d k) is.1)
piece_refused d e attempt piece feeds.CountFull (l, some, is, at_it) = inl (at_it ∙ ap (λ (k : End). with_link d k) is.2)
piece_refused d e attempt piece feeds.OutOfMemory (l, some, is, at_it) = absurd (some refl)
piece_refused d e attempt piece (feeds.Wrong why) (l, some, is, at_it) = inr (inr (at_it ∙ ap (λ (k : End). with_link d k) is.5))
piece_refused d e attempt piece feeds.AckAhead (l, some, is, at_it) = inr (inr (at_it ∙ ap (λ (k : End). with_link d k) is.6))

pub did_all : (d e : PlainDurableServer) (t : Taking) → program.Takes d t e → Comes d (record_of t) (progress t) e
did_all d e (Accept hello answer) x = did_by d e (Called hello) (RefusesHello d hello) answer (λ why no. inl no.1) x
did_all d e (Receive attempt piece answer) x = did_by d e (Came attempt piece) (RefusesPiece d attempt piece) answer (λ why no. piece_refused d e attempt piece why no) x
did_all d e (AddFile name text answer) x = did_by d e (Joined name text) (RefusesFile d name text) answer (λ why no. inl no.1) x
did_all d e (Say message answer) x = did_by d e (Said message) (RefusesNote d message) answer (λ why no. inl no.1) x
did_all d e (Acknowledge answer) x = did_by d e Acknowledged (RefusesAcknowledge d) answer (λ why no. inl no.1) x
did_all d e (Ask answer) x = did_by d e Asked (RefusesAsk d) answer (λ why no. inl no.1) x
did_all d e (MarkDirty tag answer) x = did_by d e (Marked tag) (RefusesMark d tag) answer (λ why no. inl no.1) x
did_all d e (EffectDone ending answer) x = did_by d e (Done ending) (RefusesEffect d) answer (λ why no. inl no.1) x

-- nothing waits, and the server is that of the definition
pub record Rests (id : Id) (p : Program) (x : Tied id p) : Type 0 where
  pub same : x.server ≡ p.server.turn.server
  pub none : p.begun ≡ []

pub rests_by : (stage : Stage) (id : Id) (p : Program) (x : Tied id p) → stage ≡ Settled
    → At stage p.server.turn p.server.owed p.begun x.server p.taken p.terminal_calls → Rests id p x
rests_by Settled id p x is here = record { same = here.0; none = here.1 }
rests_by Answering id p x is here = absurd (cc)
rests_by Recording id p x is here = absurd (cc)
rests_by (Stopped why) id p x is here = absurd (cc)

at_owing : (stage : Stage) (t : PlainTurn) (owed : List ℕ) (begun : List PlainRecord) (s : Server) (taken : List PlainRecord)
    (calls : List Call) → IsOwing stage → Owing stage t owed begun s taken calls → At stage t owed begun s taken calls
at_owing Settled t owed begun s taken calls owing o = absurd owing
at_owing Answering t owed begun s taken calls owing o = o
at_owing Recording t owed begun s taken calls owing o = o
at_owing (Stopped why) t owed begun s taken calls owing o = absurd owing

owing_at : (stage : Stage) (t : PlainTurn) (owed : List ℕ) (begun : List PlainRecord) (s : Server) (taken : List PlainRecord)
    (calls : List Call) → IsOwing stage → At stage t owed begun s taken calls → Owing stage t owed begun s taken calls
owing_at Settled t owed begun s taken calls owing o = absurd owing
owing_at Answering t owed begun s taken calls owing o = o
owing_at Recording t owed begun s taken calls owing o = o
owing_at (Stopped why) t owed begun s taken calls owing o = absurd owing

spells_by : (r : PlainRecord) → NumbersFit r → Spells r (record_bytes r)
spells_by r fits = record { fits = fits; bytes_are = refl }

-- only the turn has gone on, and so far nothing happened at the server of the definition
abbrev gone_on : Program → PlainDurableServer → PlainTurn → Stage → List ℕ → List PlainRecord → Program
gone_on p d t stage owed begun = record p { server = gone_to d t stage owed; begun = begun }

by_going : (id : Id) (p : Program) (x : Tied id p) (d : PlainDurableServer) (t : PlainTurn) (stage : Stage) (owed : List ℕ)
    (begun : List PlainRecord) → d.records ≡ p.server.records → d.gate ≡ p.server.gate
    → DueAt id x.durable p.taken d.due x.server.effect → BegunDue d.due begun
    → At stage t owed begun x.server p.taken p.terminal_calls → Tied id (gone_on p d t stage owed begun)
by_going id p x d t stage owed begun records gate due_at waits here = record {
  events = x.events;
  server = x.server;
  log = x.log;
  durable = x.durable;
  leads = x.leads;
  outs = x.outs;
  records = x.records;
  bodies = subst (λ (l : List (List ℕ)). SpellAll p.taken (p.journal ++ l)) (sym records) x.bodies;
  base = subst (λ (g : PlainGate). StandsAt id (take x.durable p.taken) g.base) (sym gate) x.base;
  marks = subst (λ (g : PlainGate). Marks id x.durable p.taken g.waiting) (sym gate) x.marks;
  stage = here;
  due = due_at;
  waits = waits;
}

due_begun : (r : PlainRecord) (id : Id) (n : ℕ) (taken : List PlainRecord) (due : Option ℕ) (effect : Option Effect)
    → DueAt id n taken due effect → DueAt id n taken (due_before r due) effect
due_begun (Done ending) id n taken due effect x = tt
due_begun r id n taken due effect x = x

before_twice : (r : PlainRecord) (due : Option ℕ) → due_before r due ≡ due_before r (due_before r due)
before_twice (Done ending) due = refl
before_twice r due = refl

pub by_take : (progress : Progress) (id : Id) (p : Program) (x : Tied id p) (r : PlainRecord) (e : PlainDurableServer) → NumbersFit r
    → (progress ≢ IsNothing → WasBrought p.taken p.terminal_calls r) → Comes p.server r progress e → Tied id (after_take progress p r e)
by_take IsDone id p x r e fits brought (settled, takes, is) =
    let here = rests_by p.server.stage id p x settled x.stage in
    let y =
    by_record id p x r (begun p.server r) e.turn (record_bytes r) e.turn.server refl refl (spells_by r fits) (brought (λ same. cc))
    (subst (λ (s : Server). Takes s r e.turn.server) (sym here.same) takes)
    (due_begun r id x.durable p.taken p.server.due x.server.effect x.due) (before_twice r p.server.due) (inl refl) in
    let q : Tied id (record p { server = e; taken = p.taken ++ r ∷ []; begun = [] }) =
    subst (λ (f : PlainDurableServer). Tied id (record p { server = f; taken = p.taken ++ r ∷ []; begun = [] })) (sym is) y in
    subst (λ (b : List PlainRecord). Tied id (record p { server = e; taken = p.taken ++ r ∷ []; begun = b })) (sym here.none) q
by_take Waits id p x r e fits brought (settled, owing, by, is) =
    let here = rests_by p.server.stage id p x settled x.stage in
    let o : Owing e.stage e.turn (record_bytes r) (r ∷ []) x.server p.taken p.terminal_calls = record {
      r = r;
      begun_is = refl;
      spells = spells_by r fits;
      brought = brought (λ same. cc);
      leads = λ z left. (z, subst (λ (s : Server). Takes s r z) (sym here.same) (by.leads z left), inl refl);
    } in
    let y =
    by_going id p x (begun p.server r) e.turn e.stage (record_bytes r) (r ∷ []) refl refl
    (due_begun r id x.durable p.taken p.server.due x.server.effect x.due) (before_twice r p.server.due)
    (at_owing e.stage e.turn (record_bytes r) (r ∷ []) x.server p.taken p.terminal_calls owing o) in
    subst (λ (f : PlainDurableServer). Tied id (record p { server = f; begun = r ∷ [] })) (sym is) y
by_take IsNothing id p x r e fits brought (inl same) =
    subst (λ (f : PlainDurableServer). Tied id (record p { server = f })) (sym same) x
by_take IsNothing id p x r e fits brought (inr (inl (settled, why, is))) =
    subst (λ (f : PlainDurableServer). Tied id (record p { server = f })) (sym is)
    (by_going id p x (begun p.server r) e.turn (Stopped why) (record_bytes r) p.begun refl refl
    (due_begun r id x.durable p.taken p.server.due x.server.effect x.due)
    (subst (λ (b : List PlainRecord). BegunDue (due_before r p.server.due) b) (sym (rests_by p.server.stage id p x settled x.stage).none) tt)
    tt)
by_take IsNothing id p x r e fits brought (inr (inr is)) =
    subst (λ (f : PlainDurableServer). Tied id (record p { server = f })) (sym is) (is_over id p x)

-- ## It goes on

pub by_going_on : (answer : Result (Unit {0}) GoOnFault) (id : Id) (p : Program) (x : Tied id p) (e : PlainDurableServer)
    → GoesOn p.server answer e → Tied id (after_going_on answer p e)
by_going_on (Ok done) id p x e (inl (settled, same)) =
    let here = rests_by p.server.stage id p x settled x.stage in
    subst (λ (q : Program). Tied id q)
    (λ i. record p {
      server = sym same i;
      taken = (sym (append-nil p.taken) ∙ ap (λ (b : List PlainRecord). p.taken ++ b) (sym here.none)) i;
      begun = here.none i;
    }) x
by_going_on (Ok done) id p x e (inr (owing, left, is)) =
    let o = owing_at p.server.stage p.server.turn p.server.owed p.begun x.server p.taken p.terminal_calls owing x.stage in
    let (m, takes, from) = o.leads e.turn.server left in
    let y = by_record id p x o.r p.server e.turn p.server.owed m refl refl o.spells o.brought takes x.due
    (subst (λ (b : List PlainRecord). BegunDue p.server.due b) o.begun_is x.waits) from in
    subst (λ (b : List PlainRecord). Tied id (record p { server = e; taken = p.taken ++ b; begun = [] })) (sym o.begun_is)
    (subst (λ (f : PlainDurableServer). Tied id (record p { server = f; taken = p.taken ++ o.r ∷ []; begun = [] })) (sym is) y)
by_going_on (Err go_on.Unfinished) id p x e (owing, still, more, is) =
    let o = owing_at p.server.stage p.server.turn p.server.owed p.begun x.server p.taken p.terminal_calls owing x.stage in
    let n : Owing e.stage e.turn p.server.owed p.begun x.server p.taken p.terminal_calls = record {
      r = o.r;
      begun_is = o.begun_is;
      spells = o.spells;
      brought = o.brought;
      leads = λ z left. o.leads z (more.leads z left);
    } in
    subst (λ (f : PlainDurableServer). Tied id (record p { server = f })) (sym is)
    (by_going id p x p.server e.turn e.stage p.server.owed p.begun refl refl x.due x.waits
    (at_owing e.stage e.turn p.server.owed p.begun x.server p.taken p.terminal_calls still n))
by_going_on (Err (go_on.Stopped why)) id p x e (inl (stopped, same)) =
    let y = by_going id p x p.server p.server.turn (Stopped why) p.server.owed [] refl refl x.due tt tt in
    subst (λ (f : PlainDurableServer). Tied id (record p { server = f; begun = [] }))
    (ap (λ (g : Stage). record p.server { stage = g }) (sym stopped) ∙ sym same) y
by_going_on (Err (go_on.Stopped why)) id p x e (inr (owing, nowhere, is)) =
    subst (λ (f : PlainDurableServer). Tied id (record p { server = f; begun = [] })) (sym is)
    (by_going id p x p.server e.turn (Stopped why) p.server.owed [] refl refl x.due tt tt)
