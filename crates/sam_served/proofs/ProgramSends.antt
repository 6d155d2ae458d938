-- Where bytes of a program go out, they go out of a session of the definition.
use Rattle.std.proofs.Common.{◌≡◌, ℕ, ◌+◌, ◌-◌, ◌<◌, ◌≤◌, length, take, drop, List, [], ◌∷◌, ◌++◌, Bool, true, false, Result, Ok, Err, refl, sym, ap, ◌∙◌, subst, append-nil, arith, length-append}
use Rattle.std.proofs.lemmas.List.{length-drop, length-take, take-append-le}
use Rattle.std.specs.Prelude.{min, ◌==◌, if◌then◌else◌}
use Rattle.sam_link.specs.Calls.{Does, out, out_by}
use Rattle.sam_link.specs.Calls.Call.{TakeOut}
use Rattle.sam_link.specs.End.{End, TakesOut, from_hello, from_kept, going, gone, may_send}
use Rattle.sam_link.specs.declared.fault.NotOpen.{NotOpen}
use Rattle.sam_link.specs.declared.hello.Id.{Id}
use Rattle.sam_server.specs.DurableServers.{PlainDurableServer, TakesOutDurable, begun, out_room, room_at, with_link}
use Rattle.sam_server.specs.Gates.{allowed, gone_count}
use Rattle.sam_server.specs.Records.{PlainRecord}
use Rattle.sam_server.specs.Servers.{Server}
use Rattle.sam_server.specs.Turns.{linked}
use Rattle.sam_server.specs.declared.server.Stage.{Stage}
use Rattle.sam_server.specs.declared.server.Stage.TheVariants.{Answering, Recording, Settled, Stopped}
use Rattle.sam_served.specs.Marks.{StandsAt}
use Rattle.sam_served.specs.Programs.{Program}
use Rattle.sam_served.specs.Serving.{Did, Do, MayDo, calls_in, new_served, records_in}
use Rattle.sam_served.proofs.Serving.{gates_keep_the_rule}
use Rattle.sam_served.proofs.ProgramStates.{leads_on, records_did, calls_did, out_more, At, served_of, Tied}
use Rattle.sam_served.proofs.ProgramTakes.{rests_by}

-- ## Bytes go out

kept_less : (sends : Bool) (a b : ℕ) → (if sends then min a b else 0) ≤ a
kept_less true a b = omega arith
kept_less false a b = omega arith

kept_none : (sends : Bool) (a b : ℕ) → b ≡ 0 → (if sends then min a b else 0) ≡ 0
kept_none true a b none = omega (arith, none)
kept_none false a b none = refl

-- where there is no room nothing goes
hello_none : (e : End) → from_hello e 0 ≡ 0
hello_none e = omega arith

none_kept : (e : End) → from_kept e 0 ≡ 0
none_kept e = kept_none (may_send e.phase e.attempt) (length e.keeps.kept - e.keeps.sent) (0 - from_hello e 0) (omega (arith))

gone_none : (e : End) → gone e 0 ≡ e
gone_none e =
    let sent : e.keeps.sent + from_kept e 0 ≡ e.keeps.sent = omega (arith, none_kept e) in
    λ i. record e { hello = drop (hello_none e i) e.hello; keeps = record e.keeps { sent = sent i } }

none_out : (e : End) (count : ℕ) → count ≡ from_hello e 0 + from_kept e 0 → count ≡ 0
none_out e count is = omega (arith, is, hello_none e, none_kept e)

nothing_by : (here : Bool) (count : ℕ) (new : List ℕ) → count ≡ 0 → (if here then take count new else []) ≡ []
nothing_by true count new none = ap (λ (k : ℕ). take k new) none
nothing_by false count new none = refl

-- what goes out fills the front of the buffer
going_long : (e : End) (room : ℕ) → length (going e room) ≡ from_hello e room + from_kept e room
going_long e room =
    let less = kept_less (may_send e.phase e.attempt) (length e.keeps.kept - e.keeps.sent) (room - from_hello e room) in
    omega (
      arith,
      less,
      length-append (take (from_hello e room) e.hello) (take (from_kept e room) (drop e.keeps.sent e.keeps.kept)),
      length-take (from_hello e room) e.hello,
      length-take (from_kept e room) (drop e.keeps.sent e.keeps.kept),
      length-drop e.keeps.sent e.keeps.kept,
    )

front_long : (e : End) (room count : ℕ) (cut front : List ℕ) → count ≡ from_hello e room + from_kept e room
    → front ≡ going e room ++ drop count cut → count ≤ length front
front_long e room count cut front is front_is =
    omega (arith, is, going_long e room, ap length front_is, length-append (going e room) (drop count cut))

out_same : (here : Bool) (count : ℕ) (front rest new : List ℕ) → count ≤ length front → new ≡ front ++ rest
    → (if here then take count new else []) ≡ (if here then take count front else [])
out_same true count front rest new less is = ap (take count) is ∙ take-append-le count front rest less
out_same false count front rest new less is = refl

-- the program with what it took out
abbrev took_out : Program → PlainDurableServer → ℕ → List ℕ → Result ℕ NotOpen → List ℕ → Program
took_out p e attempt old answer new = record p { server = e; outs = p.outs ++ TakeOut attempt old answer new ∷ [] }

-- nothing went out
out_nothing : (id : Id) (p : Program) (x : Tied id p) (attempt : ℕ) (old new : List ℕ) (answer : Result ℕ NotOpen)
    → ((m : ℕ) → out_by m (TakeOut attempt old answer new) ≡ []) → Tied id (took_out p p.server attempt old answer new)
out_nothing id p x attempt old new answer none = record {
  events = x.events;
  server = x.server;
  log = x.log;
  durable = x.durable;
  leads = x.leads;
  outs = λ m.
      out_more m p.outs (TakeOut attempt old answer new) ∙ ap (λ (l : List ℕ). out m p.outs ++ l) (none m) ∙ append-nil (out m p.outs)
      ∙ x.outs m;
  records = x.records;
  bodies = x.bodies;
  base = x.base;
  marks = x.marks;
  stage = x.stage;
  due = x.due;
  waits = x.waits;
}

-- some may have gone out, where nothing waits
out_some : (id : Id) (p : Program) (x : Tied id p) (attempt count : ℕ) (old new cut front rest : List ℕ) (l : End) → p.server.stage ≡ Settled
    → 0 < length cut → length cut ≤ allowed p.server.gate attempt (length p.server.turn.server.link.hello) (gone_count p.server.turn.server.link)
    → TakesOut p.server.turn.server.link attempt cut (Ok count) front l → new ≡ front ++ rest
    → Tied id (took_out p (with_link p.server l) attempt old (Ok count) new)
out_some id p x attempt count old new cut front rest l settled some less out_is new_is =
    let here = rests_by p.server.stage id p x settled x.stage in
    let s : Server = record x.server { link = l } in
    let call = TakeOut attempt cut (Ok count) front in
    let log = x.log ++ Did call ∷ [] in
    let v = served_of p x.server x.log x.durable in
    let stands : StandsAt id (take x.durable (records_in x.log)) p.server.gate.base =
    subst (λ (r : List PlainRecord). StandsAt id (take x.durable r) p.server.gate.base) (sym x.records) x.base in
    let may : MayDo id v call =
    gates_keep_the_rule id v p.server.gate attempt count cut front stands some
    (subst (λ (y : Server). length cut ≤ allowed p.server.gate attempt (length y.link.hello) (gone_count y.link)) (sym here.same) less) in
    let does : Does x.server.link call l =
    subst (λ (y : Server). TakesOut y.link attempt cut (Ok count) front l) (sym here.same) out_is in
    record {
      events = x.events ++ Do call ∷ [];
      server = s;
      log = log;
      durable = x.durable;
      leads =
          leads_on id x.events (Do call ∷ []) (new_served id) v (served_of p s log x.durable) x.leads (l, does, may, refl);
      outs = λ m.
          out_more m p.outs (TakeOut attempt old (Ok count) new)
          ∙ (λ i. x.outs m i ++ out_same (attempt == m) count front rest new
          (front_long p.server.turn.server.link (length cut) count cut front out_is.2 out_is.3) new_is i)
          ∙ sym (out_more m (calls_in x.log) call) ∙ ap (out m) (sym (calls_did x.log call));
      records = records_did x.log call ∙ x.records;
      bodies = x.bodies;
      base = x.base;
      marks = x.marks;
      stage =
          subst (λ (g : Stage). At g (linked p.server.turn l) p.server.owed p.begun s p.taken p.terminal_calls) (sym settled)
          (ap (λ (y : Server). record y { link = l }) here.same, here.none);
      due = x.due;
      waits = x.waits;
    }

-- there is no room while something waits
no_room : (d : PlainDurableServer) (attempt : ℕ) (old : List ℕ) (byte : ℕ) (bytes : List ℕ) → out_room d attempt ≡ 0
    → take (min (out_room d attempt) (length old)) old ≡ byte ∷ bytes → ⊥
no_room d attempt old byte bytes none cut =
    omega (arith, none, ap length cut, length-take (min (out_room d attempt) (length old)) old)

-- some room is there only where nothing waits
room_none : (stage : Stage) (d : PlainDurableServer) (attempt : ℕ) (old : List ℕ) (byte : ℕ) (bytes : List ℕ) → d.stage ≡ stage
    → take (min (out_room d attempt) (length old)) old ≡ byte ∷ bytes
    → (d.stage ≡ Settled)
    × (length (byte ∷ bytes) ≤ allowed d.gate attempt (length d.turn.server.link.hello) (gone_count d.turn.server.link))
room_none Settled d attempt old byte bytes is cut =
    let link = d.turn.server.link in
    let room : out_room d attempt ≡ allowed d.gate attempt (length link.hello) (gone_count link) =
    ap (λ (g : Stage). room_at g d.gate link attempt) is in
    (is, omega (arith, room, ap length (sym cut), length-take (min (out_room d attempt) (length old)) old))
room_none Answering d attempt old byte bytes is cut = absurd (no_room d attempt old byte bytes
    (ap (λ (g : Stage). room_at g d.gate d.turn.server.link attempt) is) cut)
room_none Recording d attempt old byte bytes is cut = absurd (no_room d attempt old byte bytes
    (ap (λ (g : Stage). room_at g d.gate d.turn.server.link attempt) is) cut)
room_none (Stopped why) d attempt old byte bytes is cut = absurd (no_room d attempt old byte bytes
    (ap (λ (g : Stage). room_at g d.gate d.turn.server.link attempt) is) cut)

by_out : (id : Id) (p : Program) (x : Tied id p) (attempt : ℕ) (old new cut front : List ℕ) (answer : Result ℕ NotOpen) (l : End)
    → take (min (out_room p.server attempt) (length old)) old ≡ cut → TakesOut p.server.turn.server.link attempt cut answer front l
    → new ≡ front ++ drop (min (out_room p.server attempt) (length old)) old
    → Tied id (took_out p (with_link p.server l) attempt old answer new)
by_out id p x attempt old new cut front (Err why) l cut_is (down, same, is) new_is =
    subst (λ (k : End). Tied id (took_out p (with_link p.server k) attempt old (Err why) new)) (sym is)
    (out_nothing id p x attempt old new (Err why) (λ m. refl))
by_out id p x attempt old new [] front (Ok count) l cut_is (up, here, counts, front_is, is) new_is =
    let none = none_out p.server.turn.server.link count counts in
    subst (λ (k : End). Tied id (took_out p (with_link p.server k) attempt old (Ok count) new))
    (sym (is ∙ gone_none p.server.turn.server.link))
    (out_nothing id p x attempt old new (Ok count) (λ m. nothing_by (attempt == m) count new none))
by_out id p x attempt old new (byte ∷ bytes) front (Ok count) l cut_is out_is new_is =
    let (settled, less) = room_none p.server.stage p.server attempt old byte bytes refl cut_is in
    out_some id p x attempt count old new (byte ∷ bytes) front (drop (min (out_room p.server attempt) (length old)) old) l settled
    (omega arith) less out_is new_is

pub by_take_out : (id : Id) (p : Program) (x : Tied id p) (attempt : ℕ) (old new : List ℕ) (answer : Result ℕ NotOpen) (e : PlainDurableServer)
    → TakesOutDurable p.server attempt old answer new e → Tied id (took_out p e attempt old answer new)
by_take_out id p x attempt old new answer e (l, front, out_is, new_is, is) =
    subst (λ (f : PlainDurableServer). Tied id (took_out p f attempt old answer new)) (sym is)
    (by_out id p x attempt old new (take (min (out_room p.server attempt) (length old)) old) front answer l refl out_is new_is)
