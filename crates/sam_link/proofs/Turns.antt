-- Two hellos make a connection, and turns bring all that was put.
use Rattle.std.proofs.Common.{◌≡◌, ℕ, ◌+◌, ◌≤◌, List, [], ◌∷◌, ◌++◌, length, take, drop, Bool, true, Ok, Err, Result, IsOk, refl, sym, ap, ◌∙◌, subst, append-nil, arith, true≢false, length-append, length-take, inl, inr, Some}
use Rattle.std.proofs.lemmas.Bool.Decides.{eqb_tells}
use Rattle.std.proofs.lemmas.List.{take-append-drop, take-append-le}
use Rattle.std.specs.List.{flat_map}
use Rattle.std.specs.Prelude.{Option, ◌==◌, if◌then◌else◌}
use Rattle.sam_frame.specs.Stream.{stream_of}
use Rattle.sam_link.specs.Calls.{Call, Does, Item, handed, items_in, out, out_by, put, waits}
use Rattle.sam_link.specs.Calls.Call.{Answer, Dial, Feed, TakeOut, Welcome}
use Rattle.sam_link.specs.End.{AnswersBy, CallsBy, End, TakesOut, WelcomesBy, from_hello, from_kept, going, gone, is_asking, is_up, may_send}
use Rattle.sam_link.specs.End.{answered as answered_end, called as called_end}
use Rattle.sam_link.specs.Feeding.{is_open}
use Rattle.sam_link.specs.Hellos.{ReadsHello, spelled}
use Rattle.sam_link.specs.Meeting.{HaveMet, IsAllDown, IsAllUp}
use Rattle.sam_link.specs.Packets.{Packet, packets}
use Rattle.sam_link.specs.Sessions.{ByHost, ByTerminal, IsId, Leads, Session, StartsWith, Step, host_did, new_session, terminal_did}
use Rattle.sam_link.specs.Turns.{AnswersGo, CallsGo, HasAnswered, HasCalled, NewConnection, NewConnectionsMeet, HellosAreTaken, IsAnswered, IsOn, IsWelcomed, TurnsDeliver}
use Rattle.sam_link.specs.declared.fault.AnswerFault.{AnswerFault}
use Rattle.sam_link.specs.declared.fault.WelcomeFault.{WelcomeFault}
use Rattle.sam_link.specs.declared.hello.Hello.{Hello}
use Rattle.sam_link.specs.declared.hello.Id.{Id}
use Rattle.sam_link.specs.declared.hello.Refusal.{Refusal}
use Rattle.sam_link.specs.declared.phase.Phase.{Phase}
use Rattle.sam_link.specs.declared.phase.Phase.TheVariants.{Asking, Down, Open}
use Rattle.sam_link.specs.declared.phase.Role.{Role}
use Rattle.sam_link.specs.declared.phase.Role.TheVariants.{Host, Terminal}
use Rattle.sam_link.proofs.HelloLaws.{reads_as}
use Rattle.sam_link.proofs.Lines.{all, starts_on}
use Rattle.sam_link.proofs.Meeting.{good_line_delivers, newer_taken, waited_for}
use Rattle.sam_link.proofs.OwnCalls.{step}
use Rattle.sam_link.proofs.OwnMoves.{with_last}
use Rattle.sam_link.proofs.Packing.{items_more}
use Rattle.sam_link.proofs.SessionLaws.{Holds, packets_front, session_holds}
unfoldable use Rattle.sam_link.proofs.SessionLaws.{host_keeps, terminal_keeps}
use Rattle.sam_link.proofs.Views.{Own}

-- ## Two hellos

-- a hello that went is the first of what went
hello_first : (g : Hello) (went ahead tail : List ℕ) → went ++ ahead ≡ spelled g ++ tail → 42 ≤ length went → went ≡ spelled g ++ drop 42 went
hello_first g went ahead tail e long =
    let front : take 42 went ≡ spelled g = sym (take-append-le 42 went ahead long) ∙ ap (λ l. take 42 l) e in
    sym (take-append-drop 42 went) ∙ ap (λ l. l ++ drop 42 went) front

asks_up : (p : Phase) → is_asking p ≡ true → is_up p ≡ true
asks_up Down e = e
asks_up Asking e = refl
asks_up Open e = absurd (true≢false (sym e))

asks_first : (p : Phase) (n : ℕ) → is_asking p ≡ true → n ≡ 1 → may_send p n ≡ true
asks_first Down n e one = e
asks_first Asking n e one = grind (arith, one)
asks_first Open n e one = absurd (true≢false (sym e))

module _ (id : Id) (s : Session) (x : Holds id s) where
  abbrev bytes_up : List ℕ
  bytes_up = out s.terminal.attempt s.terminal_calls

  called : HasCalled s → bytes_up ≡ spelled x.joint.call ++ drop 42 bytes_up
  called c = elim (eqb_tells s.terminal.attempt 1) [
    | inl first ↦ hello_first x.joint.call bytes_up _ _ (x.joint.sends_t (asks_first s.terminal.phase s.terminal.attempt c.asking first.1)) c.went
    | inr later ↦ hello_first x.joint.call bytes_up s.terminal.hello [] (x.joint.asks c.asking later.1 ∙ sym (append-nil (spelled x.joint.call))) c.went
  ]

  taken_on : (role : Role) (hello : Hello) (answer : Result (Unit {0}) AnswerFault) (n : End) → AnswersBy role s.host hello answer n → IsOk answer
      → hello.attempt ≡ s.terminal.attempt → IsOn s n
  taken_on Host hello (Ok done) n does fine numbered = record {
    opened = ap (λ (e : End). is_open e.phase) does.1;
    is_one = ap (λ (e : End). e.attempt) does.1 ∙ numbered;
  }
  taken_on role hello (Err why) n does fine numbered = absurd (true≢false (sym fine))
  taken_on Terminal hello (Ok done) n does fine numbered = absurd does

  met : (role : Role) (hello : Hello) (answer : Result (Unit {0}) WelcomeFault) (n : End) → WelcomesBy role s.terminal hello answer n → IsOk answer
      → IsOn s s.host → HaveMet (terminal_did s (Welcome hello answer) n)
  met Terminal hello (Ok done) n does fine on = record {
    terminal_open = ap (λ (e : End). is_open e.phase) does.1;
    host_open = on.opened;
    is_one = on.is_one ∙ sym (ap (λ (e : End). e.attempt) does.1);
  }
  met role hello (Err why) n does fine on = absurd (true≢false (sym fine))
  met Host hello (Ok done) n does fine on = absurd does

  answered : HasCalled s → IsAnswered s
  answered c read reads =
      let up = x.joint.call_is (asks_up s.terminal.phase c.asking) in
      let went = called c in
      let numbered : x.joint.call.attempt ≡ s.terminal.attempt = up.1.attempt_is in
      let front : StartsWith (out x.joint.call.attempt s.terminal_calls) (spelled x.joint.call) =
      subst (λ n. StartsWith (out n s.terminal_calls) (spelled x.joint.call)) (sym numbered) (record { rest = drop 42 bytes_up; is = went }) in (
        x.joint.call,
        reads_as x.joint.call bytes_up (drop 42 bytes_up) read up.0 went reads,
        λ answer n does.
            let fine = newer_taken id s x n s.host.role x.joint.call answer refl (omega (arith, c.newer, numbered)) does (up.0, front) in
            (fine, taken_on s.host.role x.joint.call answer n does fine numbered),
      )

  welcomed : HasAnswered s → IsWelcomed s
  welcomed c read reads =
      let here : s.host.attempt ≡ s.terminal.attempt = c.on.is_one in
      let said = x.joint.welcome_is c.on.opened in
      let numbered : x.joint.welcome.attempt ≡ s.terminal.attempt = said.1.attempt_is ∙ here in
      let bytes = out s.terminal.attempt s.host_calls in
      let went : bytes ≡ spelled x.joint.welcome ++ drop 42 bytes = hello_first x.joint.welcome bytes _ _
      (subst (λ n. out n s.host_calls ++ (s.host.hello ++ drop (s.host.keeps.base + s.host.keeps.sent) (stream_of packets x.down_put)) ≡ spelled x.joint.welcome ++ drop x.joint.from (stream_of packets x.down_put))
      here (x.joint.sends_h c.on.opened)) c.went in
      let front : StartsWith (out x.joint.welcome.attempt s.host_calls) (spelled x.joint.welcome) =
      subst (λ n. StartsWith (out n s.host_calls) (spelled x.joint.welcome)) (sym numbered) (record { rest = drop 42 bytes; is = went }) in (
        x.joint.welcome,
        reads_as x.joint.welcome bytes (drop 42 bytes) read said.0 went reads,
        λ answer n does.
            let fine = waited_for id s x n s.terminal.role x.joint.welcome answer refl c.asking numbered does (said.0, front) in
            (fine, met s.terminal.role x.joint.welcome answer n does fine c.on),
      )

-- ## The hello goes

dialled : (role : Role) (e n : End) (take_over : Bool) (attempt : ℕ) → role ≡ Terminal → CallsBy role e take_over (Ok attempt) n → (attempt ≡ e.attempt + 1) × (n ≡ called_end e take_over)
dialled Terminal e n take_over attempt r d = (d.0, d.2)
dialled Host e n take_over attempt r d = absurd d

answered_by : (role : Role) (e n : End) (hello : Hello) → role ≡ Host → AnswersBy role e hello (Ok tt) n → n ≡ answered_end e hello
answered_by Host e n hello r d = d.1
answered_by Terminal e n hello r d = absurd d

same_number : (n : ℕ) (bytes : List ℕ) → (if n == n then bytes else []) ≡ bytes
same_number n bytes = grind arith

-- what is taken out into room for the hello begins with it
hello_goes : (e n : End) (cs : List Call) (attempt count : ℕ) (old new : List ℕ) → length e.hello ≡ 42 → 42 ≤ length old → TakesOut e attempt old (Ok count) new n
    → 42 ≤ length (out attempt (cs ++ TakeOut attempt old (Ok count) new ∷ []))
hello_goes e n cs attempt count old new long room does =
    let kept = take (from_kept e (length old)) (drop e.keeps.sent e.keeps.kept) in
    omega (
      arith,
      long,
      room,
      does.2,
      (ap length does.3),
      (ap length (with_last (out_by attempt) cs (TakeOut attempt old (Ok count) new))),
      (ap length (same_number attempt (take count new))),
      (length-append (out attempt cs) (out_by attempt (TakeOut attempt old (Ok count) new))),
      (length-take count new),
      (length-append (going e (length old)) (drop count old)),
      (length-append (take (from_hello e (length old)) e.hello) kept),
      (length-take (from_hello e (length old)) e.hello),
    )

call_goes : (id : Id) (s : Session) → Holds id s → CallsGo s
call_goes id s x z take_over attempt count old new room (t, dials, one, (u, takes, two, end)) =
    let d = dialled s.terminal.role s.terminal t take_over attempt x.role_t dials in
    subst HasCalled (sym end) (record {
      asking = ap (λ (e : End). is_asking e.phase) (takes.4 ∙ ap (λ (e : End). gone e (length old)) d.1);
      newer = omega (arith, x.joint.order, (ap (λ (e : End). e.attempt) (takes.4 ∙ ap (λ (e : End). gone e (length old)) d.1)));
      went = subst (λ n. 42 ≤ length (out n ((s.terminal_calls ++ Dial take_over (Ok attempt) ∷ []) ++ TakeOut attempt old (Ok count) new ∷ [])))
          (takes.1 ∙ sym (ap (λ (e : End). e.attempt) takes.4))
          (hello_goes t u (s.terminal_calls ++ Dial take_over (Ok attempt) ∷ []) attempt count old new (ap (λ (e : End). length e.hello) d.1) room takes);
    })

answer_goes : (id : Id) (s : Session) → Holds id s → AnswersGo s
answer_goes id s x z hello count old new room asking numbered (h, answers, one, (u, takes, two, end)) =
    let a = answered_by s.host.role s.host h hello x.role_h answers in
    let same : u.attempt ≡ s.terminal.attempt = ap (λ (e : End). e.attempt) (takes.4 ∙ ap (λ (e : End). gone e (length old)) a) ∙ numbered in
    subst HasAnswered (sym end) (record {
      asking = asking;
      on = record { opened = ap (λ (e : End). is_open e.phase) (takes.4 ∙ ap (λ (e : End). gone e (length old)) a); is_one = same };
      went = subst (λ n. 42 ≤ length (out n ((s.host_calls ++ Answer hello (Ok tt) ∷ []) ++ TakeOut hello.attempt old (Ok count) new ∷ []))) numbered
          (hello_goes h u (s.host_calls ++ Answer hello (Ok tt) ∷ []) hello.attempt count old new (ap (λ (e : End). length e.hello) a) room takes);
    })

pub hellos_are_taken : HellosAreTaken
hellos_are_taken id steps s fine leads =
    let x = session_holds id steps s fine leads in (call_goes id s x, answered id s x, answer_goes id s x, welcomed id s x)

-- ## A new connection

-- calls one after another
joined_steps : (first rest : List Step) (s m z : Session) → Leads s first m → Leads m rest z → Leads s (first ++ rest) z
joined_steps [] rest s m z a b = subst (λ k. Leads k rest z) a b
joined_steps (ByTerminal c ∷ first) rest s m z (n, does, carried, a) b = (n, does, carried, joined_steps first rest (terminal_did s c n) m z a b)
joined_steps (ByHost c ∷ first) rest s m z (n, does, carried, a) b = (n, does, carried, joined_steps first rest (host_did s c n) m z a b)

abbrev as_read : Hello → Result (Option Hello) Refusal
as_read hello = Ok (Some hello)

same_read : (a b : Hello) → as_read a ≡ as_read b → a ≡ b
same_read a b e = cc

is_done : (answer : Result (Unit {0}) AnswerFault) → IsOk answer → answer ≡ Ok tt
is_done (Ok done) fine = refl
is_done (Err why) fine = absurd (true≢false (sym fine))

-- the number of the connection is the terminal's newest
called_number : (id : Id) (s z : Session) → Holds id s → (take_over : Bool) (attempt count : ℕ) (old new : List ℕ)
    → Leads s (ByTerminal (Dial take_over (Ok attempt)) ∷ ByTerminal (TakeOut attempt old (Ok count) new) ∷ []) z → attempt ≡ z.terminal.attempt
called_number id s z x take_over attempt count old new (t, dials, one, (u, takes, two, end)) =
    takes.1 ∙ sym (ap (λ (e : End). e.attempt) takes.4) ∙ sym (ap (λ (k : Session). k.terminal.attempt) end)

module _ (id : Id) (fine : IsId id) (steps : List Step) (s z : Session) (leads : Leads (new_session id) steps s) (c : NewConnection s z) where
  calls_led : Leads (new_session id) (steps ++ ByTerminal (Dial c.take_over (Ok c.attempt)) ∷ ByTerminal (TakeOut c.attempt c.up_old (Ok c.up_count) c.up_new) ∷ []) c.called
  calls_led = joined_steps steps _ (new_session id) s c.called leads c.calls

  at_call : Holds id c.called
  at_call = session_holds id _ c.called fine calls_led

  has_called : HasCalled c.called
  has_called = call_goes id s (session_holds id steps s fine leads) c.called c.take_over c.attempt c.up_count c.up_old c.up_new c.room_up c.calls

  number_is : c.attempt ≡ c.called.terminal.attempt
  number_is = called_number id s c.called (session_holds id steps s fine leads) c.take_over c.attempt c.up_count c.up_old c.up_new c.calls

  heard : (hello : Hello) × (as_read c.hello ≡ as_read hello)
      × ((answer : Result (Unit {0}) AnswerFault) (n : End) → Does c.called.host (Answer hello answer) n → IsOk answer × IsOn c.called n)
  heard = answered id c.called at_call has_called (Ok (Some c.hello)) (subst (λ n. ReadsHello (out n c.called.terminal_calls) (Ok (Some c.hello))) number_is c.hello_read)

  taken : (answer : Result (Unit {0}) AnswerFault) (n : End) → Does c.called.host (Answer c.hello answer) n → IsOk answer × IsOn c.called n
  taken answer n does = heard.2 answer n (subst (λ g. Does c.called.host (Answer g answer) n) (same_read c.hello heard.0 heard.1) does)

  -- the host took it, so these are its answers
  answer_is : c.answer ≡ Ok tt
  answer_is = is_done c.answer (taken c.answer c.answers.0 c.answers.1).0

  answers_led : Leads c.called (ByHost (Answer c.hello (Ok tt)) ∷ ByHost (TakeOut c.attempt c.down_old (Ok c.down_count) c.down_new) ∷ []) c.answered
  answers_led = subst (λ a. Leads c.called (ByHost (Answer c.hello a) ∷ ByHost (TakeOut c.attempt c.down_old (Ok c.down_count) c.down_new) ∷ []) c.answered) answer_is c.answers

  numbered : c.hello.attempt ≡ c.attempt
  numbered = sym (ap (λ (e : End). e.attempt) (answered_by c.called.host.role c.called.host answers_led.0 c.hello at_call.role_h answers_led.1))
      ∙ (taken (Ok tt) answers_led.0 answers_led.1).1.is_one ∙ sym number_is

  has_answered : HasAnswered c.answered
  has_answered = answer_goes id c.called at_call c.answered c.hello c.down_count c.down_old c.down_new c.room_down has_called.asking (numbered ∙ number_is)
      (subst (λ n. Leads c.called (ByHost (Answer c.hello (Ok tt)) ∷ ByHost (TakeOut n c.down_old (Ok c.down_count) c.down_new) ∷ []) c.answered) (sym numbered) answers_led)

  at_answer : Holds id c.answered
  at_answer = session_holds id _ c.answered fine (joined_steps (steps ++ ByTerminal (Dial c.take_over (Ok c.attempt)) ∷ ByTerminal (TakeOut c.attempt c.up_old (Ok c.up_count) c.up_new) ∷ [])
      (ByHost (Answer c.hello c.answer) ∷ ByHost (TakeOut c.attempt c.down_old (Ok c.down_count) c.down_new) ∷ []) (new_session id) c.called c.answered calls_led c.answers)

  still : c.answered.terminal.attempt ≡ c.called.terminal.attempt
  still = ap (λ (k : Session). k.terminal.attempt) c.answers.3.3

  greeted : (hello : Hello) × (as_read c.welcome ≡ as_read hello)
      × ((answer : Result (Unit {0}) WelcomeFault) (n : End) → Does c.answered.terminal (Welcome hello answer) n → IsOk answer × HaveMet (terminal_did c.answered (Welcome hello answer) n))
  greeted = welcomed id c.answered at_answer has_answered (Ok (Some c.welcome))
      (subst (λ n. ReadsHello (out n c.answered.host_calls) (Ok (Some c.welcome))) (number_is ∙ sym still) c.welcome_read)

  both_met : HaveMet z
  both_met =
      let same : c.welcome ≡ greeted.0 = same_read c.welcome greeted.0 greeted.1 in
      let there = greeted.2 c.welcomed c.ends.0 (subst (λ g. Does c.answered.terminal (Welcome g c.welcomed) c.ends.0) same c.ends.1) in
      subst HaveMet (sym (c.ends.3 ∙ ap (λ g. terminal_did c.answered (Welcome g c.welcomed) c.ends.0) same)) there.1

pub new_connections_meet : NewConnectionsMeet
new_connections_meet id steps s z fine leads c = both_met id fine steps s z leads c

-- ## Turns

-- what came of the other's packets stays
record Goes (id : Id) (s z : Session) (x : Holds id s) : Type 0 where
  holds : Holds id z
  up : StartsWith holds.up_taken x.up_taken
  down : StartsWith holds.down_taken x.down_taken

goes : (id : Id) (steps : List Step) (s z : Session) → IsId id → (x : Holds id s) → Leads s steps z → Goes id s z x
unfolding terminal_keeps host_keeps
goes id [] s z fine x leads = subst (λ k. Goes id s k x) (sym leads) (record { holds = x; up = all x.up_taken; down = all x.down_taken })
goes id (ByTerminal c ∷ steps) s z fine x (n, does, carried, rest) =
    let st = step c s.terminal n s.terminal_calls x.up_put x.down_taken x.own_t does in
    let y = terminal_keeps id fine s x c n st carried in
    let later = goes id steps (terminal_did s c n) z fine y rest in
    record { holds = later.holds; up = later.up; down = starts_on later.holds.down_taken st.taken_now x.down_taken later.down st.extends }
goes id (ByHost c ∷ steps) s z fine x (n, does, carried, rest) =
    let st = step c s.host n s.host_calls x.down_put x.up_taken x.own_h does in
    let y = host_keeps id fine s x c n st carried in
    let later = goes id steps (host_did s c n) z fine y rest in
    record { holds = later.holds; up = starts_on later.holds.up_taken st.taken_now x.up_taken later.up st.extends; down = later.down }

none_more : (b m : List Item) → length (b ++ m) ≤ length b → m ≡ []
none_more b [] l = refl
none_more b (i ∷ m) l = absurd (omega (arith, l, (length-append b (i ∷ m))))

-- all that was put before is there, and nothing was put since
all_there : (was now before there more rest : List Item) → now ≡ was → was ≡ before → there ≡ before ++ more → now ≡ there ++ rest → now ≡ there
all_there was now before there more rest same all grown front =
    let none : rest ≡ [] = none_more there rest (omega (
      arith,
      (ap length same),
      (ap length all),
      (ap length grown),
      (ap length front),
      (length-append before more),
    )) in
    front ∙ ap (λ l. there ++ l) none ∙ append-nil there

-- of one direction
stays_one : (a b n m : End) (cs ds es fs : List Call) (ps qs rs us : List Packet) (ps2 qs2 rs2 us2 : List Packet) → Own a cs ps qs → Own b ds rs us → Own n es ps2 qs2 → Own m fs rs2 us2
    → StartsWith (stream_of packets ps2) (stream_of packets us2 ++ m.held) → StartsWith us2 us → put es ≡ put cs → put cs ≡ handed ds ++ waits b.waiting
    → put es ≡ handed fs ++ waits m.waiting
stays_one a b n m cs ds es fs ps qs rs us ps2 qs2 rs2 us2 o p o2 p2 came grown same all =
    let front = packets_front n m es fs ps2 qs2 rs2 us2 o2 p2 came in
    all_there (put cs) (put es) (handed ds ++ waits b.waiting) (handed fs ++ waits m.waiting) (flat_map items_in grown.rest) (flat_map items_in front.rest) same all
    (p2.handed ∙ ap (λ l. flat_map items_in l) grown.is ∙ items_more us grown.rest ∙ ap (λ l. l ++ flat_map items_in grown.rest) (sym p.handed))
    (o2.puts ∙ ap (λ l. flat_map items_in l) front.is ∙ items_more us2 front.rest ∙ ap (λ l. l ++ flat_map items_in front.rest) (sym p2.handed))

module _ (id : Id) (s z : Session) (x : Holds id s) (g : Goes id s z x) where
  stays_up : put z.terminal_calls ≡ put s.terminal_calls → IsAllUp s → IsAllUp z
  stays_up same all =
      let y = g.holds in
      stays_one s.terminal s.host z.terminal z.host s.terminal_calls s.host_calls z.terminal_calls z.host_calls
      x.up_put x.down_taken x.down_put x.up_taken y.up_put y.down_taken y.down_put y.up_taken x.own_t x.own_h y.own_t y.own_h y.joint.came_h g.up same all

  stays_down : put z.host_calls ≡ put s.host_calls → IsAllDown s → IsAllDown z
  stays_down same all =
      let y = g.holds in
      stays_one s.host s.terminal z.host z.terminal s.host_calls s.terminal_calls z.host_calls z.terminal_calls
      x.down_put x.up_taken x.up_put x.down_taken y.down_put y.up_taken y.up_put y.down_taken x.own_h x.own_t y.own_h y.own_t y.joint.came_t g.down same all

pub turns_deliver : TurnsDeliver
turns_deliver id steps s z fine leads t =
    let up_steps = ByTerminal (TakeOut t.first.terminal.attempt t.up.old (Ok t.up.count) t.up.new) ∷ ByHost (Feed t.first.host.attempt t.up.piece (Ok tt)) ∷ [] in
    let down_steps = ByHost (TakeOut t.next.host.attempt t.down.old (Ok t.down.count) t.down.new) ∷ ByTerminal (Feed t.next.terminal.attempt t.down.piece (Ok tt)) ∷ [] in
    let at_first = steps ++ t.before in
    let at_up = at_first ++ up_steps in
    let at_next = at_up ++ t.between in
    let at_down = at_next ++ down_steps in
    let to_first = joined_steps steps t.before _ s t.first leads t.begins in
    let to_up = joined_steps at_first up_steps _ t.first t.came_up to_first t.up.leads in
    let to_next = joined_steps at_up t.between _ t.came_up t.next to_up t.goes_on in
    let to_down = joined_steps at_next down_steps _ t.next t.came_down to_next t.down.leads in
    let up = (good_line_delivers id at_first t.first fine to_first t.met_up).0.all_comes t.came_up t.up.old t.up.new t.up.piece t.up.count t.up.room t.up.leads t.up.all in
    let down = (good_line_delivers id at_next t.next fine to_next t.met_down).1.all_comes t.came_down t.down.old t.down.new t.down.piece t.down.count
    t.down.room t.down.leads t.down.all in
    let holds_up = session_holds id at_up t.came_up fine to_up in
    let holds_down = session_holds id at_down t.came_down fine to_down in
    let since_up = joined_steps (t.between ++ down_steps) t.after t.came_up t.came_down z (joined_steps t.between down_steps t.came_up t.next t.came_down t.goes_on t.down.leads) t.ends in (
      stays_up id t.came_up z holds_up (goes id ((t.between ++ down_steps) ++ t.after) t.came_up z fine holds_up since_up) t.none_up up,
      stays_down id t.came_down z holds_down (goes id t.after t.came_down z fine holds_down t.ends) t.none_down down,
    )
