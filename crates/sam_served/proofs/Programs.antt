-- The calls of a program are a session of the definition.
use Rattle.std.proofs.Common.{◌≡◌, ℕ, zero, suc, ◌+◌, ◌≤◌, length, take, drop, List, [], ◌∷◌, ◌++◌, Bool, true, false, true≢false, Option, None, Some, refl, sym, ap, ◌∙◌, subst, append-nil, arith, length-append, take_all}
use Rattle.std.proofs.lemmas.List.{length-take, take-take}
use Rattle.std.specs.Prelude.{option_to_list, slice_get, ◌==◌, if◌then◌else◌}
use Rattle.sam_link.specs.Calls.{Call, Does, out, out_by}
use Rattle.sam_link.specs.Calls.Call.{Break, TakeOut}
use Rattle.sam_link.specs.End.{End, ended}
use Rattle.sam_link.specs.Hellos.{spelled}
use Rattle.sam_link.specs.Sessions.{StartsWith, WasCarried, is_taken}
use Rattle.sam_link.specs.declared.hello.Id.{Id}
use Rattle.sam_link.proofs.Lines.{longer}
use Rattle.sam_server.specs.DurableServers.{due_after, due_before, due_behind, is_due, begun, durable_by, mark_of}
use Rattle.sam_server.specs.Records.{Acknowledged, Asked, Called, Came, Done, Joined, Marked, PlainRecord, Said}
use Rattle.sam_server.specs.Recovering.{recovered}
use Rattle.sam_server.specs.Servers.{Effect, Makes, Server, new_server}
use Rattle.sam_server.specs.Turns.{PlainTurn}
use Rattle.sam_server.specs.declared.server.Stage.{Stage}
use Rattle.sam_server.specs.declared.server.Stage.TheVariants.{Answering, Recording, Settled, Stopped}
use Rattle.sam_served.specs.Marks.{StandsAt}
use Rattle.sam_served.specs.Programs.{Act, LeadsProgram, Program, ProgramsAreServed, new_program, progress, record_of}
use Rattle.sam_served.specs.Programs as program
use Rattle.sam_served.specs.Recoveries.{RetakesAll, SpellAll}
use Rattle.sam_served.specs.Serving.{ByTerminal, Crash, Did, Sync, Take, WasBrought, calls_in, came, left_of, new_served}
use Rattle.sam_served.proofs.Lefts.{carried_left}
use Rattle.sam_served.proofs.Recoveries.{made_of}
use Rattle.sam_served.proofs.Serving.{is_one_connection}
use Rattle.sam_served.proofs.ProgramStates.{leads_on, records_did, calls_did, out_more, records_left, outs_left, spell_take, spell_long, handed_out, marks_long, passes, Owing, At, served_of, DueAt, BegunDue, Tied}
use Rattle.sam_served.proofs.ProgramTakes.{by_break, did_all, rests_by, by_take, by_going_on}
use Rattle.sam_served.proofs.ProgramSends.{by_take_out}

-- ## The terminal

none_in : (front rest : List ℕ) → [] ≡ front ++ rest → front ≡ []
none_in [] rest is = refl
none_in (x ∷ front) rest is = absurd (cc)

starts_later : (n : ℕ) (xs more front : List ℕ) → StartsWith (drop n xs) front → StartsWith (drop n (xs ++ more)) front
starts_later zero xs more front starts = longer xs more front starts
starts_later (suc n) [] more front starts =
    record { rest = drop (suc n) more; is = ap (λ (f : List ℕ). f ++ drop (suc n) more) (sym (none_in front starts.rest starts.is)) }
starts_later (suc n) (x ∷ xs) more front starts = starts_later n xs more front starts

brought_later : (r : PlainRecord) (mine : List PlainRecord) (theirs : List Call) (c : Call) → WasBrought mine theirs r
    → WasBrought mine (theirs ++ c ∷ []) r
brought_later (Called hello) mine theirs c (is, starts) = (
  is,
  subst (λ (l : List ℕ). StartsWith l (spelled hello)) (sym (out_more hello.attempt theirs c))
      (longer (out hello.attempt theirs) (out_by hello.attempt c) (spelled hello) starts),
)
brought_later (Came attempt piece) mine theirs c starts =
    subst (λ (l : List ℕ). StartsWith (drop 42 l) (came attempt mine ++ piece)) (sym (out_more attempt theirs c))
    (starts_later 42 (out attempt theirs) (out_by attempt c) (came attempt mine ++ piece) starts)
brought_later (Joined name text) mine theirs c x = tt
brought_later (Marked f) mine theirs c x = tt
brought_later (Said bytes) mine theirs c x = tt
brought_later Acknowledged mine theirs c x = tt
brought_later Asked mine theirs c x = tt
brought_later (Done ending) mine theirs c x = tt

owing_later : (stage : Stage) (t : PlainTurn) (owed : List ℕ) (begun : List PlainRecord) (s : Server) (taken : List PlainRecord)
    (calls : List Call) (c : Call) → Owing stage t owed begun s taken calls → Owing stage t owed begun s taken (calls ++ c ∷ [])
owing_later stage t owed begun s taken calls c o = record {
  r = o.r;
  begun_is = o.begun_is;
  spells = o.spells;
  brought = brought_later o.r taken calls c o.brought;
  leads = o.leads;
}

at_later : (stage : Stage) (t : PlainTurn) (owed : List ℕ) (begun : List PlainRecord) (s : Server) (taken : List PlainRecord)
    (calls : List Call) (c : Call) → At stage t owed begun s taken calls → At stage t owed begun s taken (calls ++ c ∷ [])
at_later Settled t owed begun s taken calls c x = x
at_later Answering t owed begun s taken calls c o = owing_later Answering t owed begun s taken calls c o
at_later Recording t owed begun s taken calls c o = owing_later Recording t owed begun s taken calls c o
at_later (Stopped why) t owed begun s taken calls c x = x

by_terminal : (id : Id) (p : Program) (call : Call) (t : End) → Tied id p → Does p.terminal call t
    → (is_taken call ≡ true → WasCarried p.terminal_calls p.outs call)
    → Tied id (record p { terminal = t; terminal_calls = p.terminal_calls ++ call ∷ [] })
by_terminal id p call t x does carried =
    let q : Program = record p { terminal = t; terminal_calls = p.terminal_calls ++ call ∷ [] } in
    let v = served_of p x.server x.log x.durable in
    let w = served_of q x.server x.log x.durable in
    record {
      events = x.events ++ ByTerminal call ∷ [];
      server = x.server;
      log = x.log;
      durable = x.durable;
      leads =
          leads_on id x.events (ByTerminal call ∷ []) (new_served id) v w x.leads
          (t, does, (λ yes. carried_left p.terminal_calls p.outs (calls_in x.log) call x.outs (carried yes)), refl);
      outs = x.outs;
      records = x.records;
      bodies = x.bodies;
      base = x.base;
      marks = x.marks;
      stage =
          at_later p.server.stage p.server.turn p.server.owed p.begun x.server p.taken p.terminal_calls call x.stage;
      due = x.due;
      waits = x.waits;
    }

-- ## Records are handed out, and durable

by_next : (id : Id) (p : Program) (body : Option (List ℕ)) → Tied id p → body ≡ slice_get p.server.records 0
    → Tied id (record p { server = record p.server { records = drop 1 p.server.records }; journal = p.journal ++ option_to_list body })
by_next id p body x is = record {
  events = x.events;
  server = x.server;
  log = x.log;
  durable = x.durable;
  leads = x.leads;
  outs = x.outs;
  records = x.records;
  bodies = subst (λ (l : List (List ℕ)). SpellAll p.taken l) (handed_out p.journal p.server.records body is) x.bodies;
  base = x.base;
  marks = x.marks;
  stage = x.stage;
  due = x.due;
  waits = x.waits;
}

due_durable : (count : ℕ) (id : Id) (n : ℕ) (taken : List PlainRecord) (due : Option ℕ) (effect : Option Effect)
    → DueAt id n taken due effect → DueAt id (n + count) taken (due_after count due) effect
due_durable count id n taken None effect x = tt
due_durable count id n taken (Some k) effect (f, is, all) = (f, is, (λ j low high. all j (omega (arith, low)) high))

after_before : (r : PlainRecord) (count : ℕ) (due : Option ℕ) → due ≡ due_before r due → due_after count due ≡ due_before r (due_after count due)
after_before (Done ending) count due is = ap (due_after count) is
after_before r count due is = refl

begun_durable : (count : ℕ) (due : Option ℕ) (begun : List PlainRecord) → BegunDue due begun → BegunDue (due_after count due) begun
begun_durable count due [] x = tt
begun_durable count due (r ∷ records) is = after_before r count due is

by_durable : (id : Id) (p : Program) (count : ℕ) → Tied id p → count + length p.server.records ≤ length p.server.gate.waiting
    → Tied id (record p { server = durable_by p.server count })
by_durable id p count x less =
    let passed_now = passes count id x.durable p.taken p.server.gate.base p.server.gate.waiting (omega (arith, less)) x.base x.marks in
    record {
      events = x.events ++ Sync (x.durable + count) ∷ [];
      server = x.server;
      log = x.log;
      durable = x.durable + count;
      leads =
          leads_on id x.events (Sync (x.durable + count) ∷ []) (new_served id) (served_of p x.server x.log x.durable)
          (served_of p x.server x.log (x.durable + count)) x.leads (omega arith, refl);
      outs = x.outs;
      records = x.records;
      bodies = x.bodies;
      base = passed_now.base;
      marks = passed_now.marks;
      stage = x.stage;
      due = due_durable count id x.durable p.taken p.server.due x.server.effect x.due;
      waits = begun_durable count p.server.due p.begun x.waits;
    }

-- ## A crash

due_recovered : (id : Id) (n : ℕ) (taken : List PlainRecord) (s : Server) (effect : Option Effect) → s.effect ≡ effect
    → Makes (new_server id) (take n taken) s → DueAt id n (take n taken) (due_behind None effect 0) effect
due_recovered id n taken s None is makes = tt
due_recovered id n taken s (Some f) is makes = (
  f,
  refl,
  (λ j low high. (
    s,
    subst (λ (l : List PlainRecord). Makes (new_server id) l s) (sym (take_all j (take n taken) (omega (arith, low, length-take n taken)))) makes,
    is,
  )),
)

by_crash : (id : Id) (p : Program) (x : Tied id p) (n : ℕ) (s : Server) → length p.taken ≤ n + length p.server.gate.waiting
    → n ≤ length p.journal → RetakesAll (new_server id) (take n p.journal) s
    → Tied id (record p { server = recovered s; journal = take n p.journal; taken = take n p.taken; begun = [] })
by_crash id p x n s durable got again =
    let long = marks_long id x.durable p.taken p.server.gate.waiting x.marks in
    let less : x.durable ≤ n = omega (arith, long, durable) in
    let makes : Makes (new_server id) (take n p.taken) s =
    made_of (take n p.taken) (take n p.journal) (new_server id) s (spell_take n p.taken p.journal p.server.records got x.bodies) again in
    let q : Program = record p { server = recovered s; journal = take n p.journal; taken = take n p.taken; begun = [] } in
    let z : Server = record s { link = ended s.link } in
    let log = left_of n x.log ++ Did (Break s.link.attempt) ∷ [] in
    let whole : length p.taken ≡ length p.journal + length p.server.records =
    spell_long p.taken (p.journal ++ p.server.records) x.bodies ∙ length-append p.journal p.server.records in
    record {
      events = x.events ++ Crash n ∷ Sync n ∷ [];
      server = z;
      log = log;
      durable = n;
      leads =
          leads_on id x.events (Crash n ∷ Sync n ∷ []) (new_served id) (served_of p x.server x.log x.durable)
          (served_of q z log n) x.leads
          (s, less, subst (λ (r : List PlainRecord). Makes (new_server id) (take n r) s) (sym x.records) makes, (less, refl));
      outs = λ m.
          x.outs m ∙ sym (outs_left m n x.log) ∙ sym (append-nil (out m (calls_in (left_of n x.log))))
          ∙ sym (out_more m (calls_in (left_of n x.log)) (Break s.link.attempt))
          ∙ ap (out m) (sym (calls_did (left_of n x.log) (Break s.link.attempt)));
      records =
          records_did (left_of n x.log) (Break s.link.attempt) ∙ records_left n x.log
          ∙ ap (λ (r : List PlainRecord). take n r) x.records;
      bodies =
          subst (λ (l : List (List ℕ)). SpellAll (take n p.taken) l) (sym (append-nil (take n p.journal)))
          (spell_take n p.taken p.journal p.server.records got x.bodies);
      base =
          subst (λ (l : List PlainRecord). StandsAt id l (mark_of s.link)) (sym (take-take n n p.taken (omega arith))) (s, makes, refl, refl);
      marks = omega (arith, length-take n p.taken, whole, got);
      stage = (refl, refl);
      due = due_recovered id n p.taken s s.effect refl makes;
      waits = tt;
    }

-- ## Whatever happens

all_tied : (id : Id) (acts : List Act) (p z : Program) → Tied id p → LeadsProgram id p acts z → Tied id z
all_tied id [] p z x leads = subst (λ (q : Program). Tied id q) (sym leads) x
all_tied id (program.ByTerminal c ∷ acts) p z x (t, does, carried, rest) =
    all_tied id acts _ z (by_terminal id p c t x does carried) rest
all_tied id (program.Take taking ∷ acts) p z x (e, takes, fits, brought, rest) =
    all_tied id acts _ z (by_take (progress taking) id p x (record_of taking) e fits brought (did_all p.server e taking takes)) rest
all_tied id (program.GoOn answer ∷ acts) p z x (e, goes, rest) = all_tied id acts _ z (by_going_on answer id p x e goes) rest
all_tied id (program.Break attempt ∷ acts) p z x rest =
    all_tied id acts _ z (by_break (attempt == p.server.turn.server.link.attempt) id p x) rest
all_tied id (program.NextRecord body ∷ acts) p z x (is, rest) = all_tied id acts _ z (by_next id p body x is) rest
all_tied id (program.Durable count ∷ acts) p z x (less, rest) = all_tied id acts _ z (by_durable id p count x less) rest
all_tied id (program.TakeOut attempt old answer new ∷ acts) p z x (e, out_is, rest) =
    all_tied id acts _ z (by_take_out id p x attempt old new answer e out_is) rest
all_tied id (program.Crash n ∷ acts) p z x (s, durable, got, again, rest) =
    all_tied id acts _ z (by_crash id p x n s durable got again) rest

first_tied : (id : Id) → Tied id (new_program id)
first_tied id = record {
  events = [];
  server = new_server id;
  log = [];
  durable = 0;
  leads = refl;
  outs = λ m. refl;
  records = refl;
  bodies = tt;
  base = (new_server id, refl, refl, refl);
  marks = refl;
  stage = (refl, refl);
  due = tt;
  waits = tt;
}

lent_by : (b : Bool) (e : Option Effect) (f : Effect) → (if b then e else None) ≡ Some f → (b ≡ true) × (e ≡ Some f)
lent_by true e f is = (refl, is)
lent_by false e f is = absurd (cc)

-- the effect that is lent is that of whatever a crash leaves
lent_now : (id : Id) (n : ℕ) (taken : List PlainRecord) (due : Option ℕ) (e g : Option Effect) (f : Effect) → DueAt id n taken due e → e ≡ g
    → (if is_due due then g else None) ≡ Some f → (j : ℕ) → n ≤ j → j ≤ length taken
    → (m : Server) × Makes (new_server id) (take j taken) m × (m.effect ≡ Some f)
lent_now id n taken None e g f x same lends j less long = absurd (true≢false (sym (lent_by (is_due None) g f lends).0))
lent_now id n taken (Some k) e g f (h, is, all) same lends j less long =
    let (due, waits) = lent_by (k == 0) g f lends in
    let zero_is : k ≡ 0 = is_one_connection k 0 due in
    let (m, makes, effect) = all j (omega (arith, less, zero_is)) long in (m, makes, effect ∙ sym is ∙ same ∙ waits)

pub programs_are_served : ProgramsAreServed
programs_are_served id acts p leads =
    let x = all_tied id acts (new_program id) p (first_tied id) leads in
    record {
      events = x.events;
      served = served_of p x.server x.log x.durable;
      leads = x.leads;
      terminal = refl;
      terminal_calls = refl;
      outs = x.outs;
      records = x.records;
      server = λ settled. (rests_by p.server.stage id p x settled x.stage).same;
      effect = λ f n settled lends less long.
          lent_now id x.durable p.taken p.server.due x.server.effect p.server.turn.server.effect f x.due
          (ap (λ (y : Server). y.effect) (rests_by p.server.stage id p x settled x.stage).same) lends n less long;
    }
