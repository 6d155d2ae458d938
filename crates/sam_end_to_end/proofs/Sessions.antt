-- A client and a program with a durable server are the program beside a link's end, and so one run of a world.
use Rattle.std.proofs.Common.{◌≡◌, ◌⊎◌, inl, inr, ◌≤◌, ℕ, List, [], ◌∷◌, ◌++◌, length, drop, flat_map, Bool, Result, Ok, Err, refl, sym, ap, subst, ◌∙◌, arith, append-nil, append_assoc, length-append}
use Rattle.std.proofs.lemmas.Grind.{flat_map-append}
use Rattle.sam_link.specs.Calls.{Call, DoesAll, Item, bytes_of, fed, handed, out, put, put_by as call_puts}
use Rattle.sam_link.specs.End.{End, fresh}
use Rattle.sam_link.specs.Hellos.{spelled}
use Rattle.sam_link.specs.Sessions.{ByHost, ByTerminal as ByLink, Leads as LinksLead, Session as LinkSession, StartsWith, Step, host_did, terminal_did}
use Rattle.sam_link.specs.declared.hello.Id.{Id}
use Rattle.sam_link.specs.declared.phase.Role.TheVariants.{Terminal}
use Rattle.sam_line.specs.Calls.{LineCall, LineDoes, LineDoesAll, handed_by as line_handed_by, put_by as line_put_by}
use Rattle.sam_line.specs.Calls.LineCall.{Receive}
use Rattle.sam_line.specs.Greeting.{IsBefore}
use Rattle.sam_line.specs.Line.{put_len}
use Rattle.sam_line.specs.Sessions.{LineSession, WasBrought, outs, took}
use Rattle.sam_line.specs.declared.line.Line.{Line}
use Rattle.sam_line.proofs.Carrying.{Tied}
use Rattle.sam_line.proofs.LineLaws.{with_last}
use Rattle.sam_line.proofs.SessionLaws.{Shadow as LineShadow, line_step}
use Rattle.sam_endpoint.specs.HostRuns.{came_in as came_up}
use Rattle.sam_endpoint.specs.TermRuns.{Call as EndCall, MakeStep, came_in, went_out}
use Rattle.sam_endpoint.specs.declared.fault.EndpointFault.TheVariants as ends
use Rattle.sam_joined.proofs.Linking.{no_call_stops_linked_term}
use Rattle.sam_client.specs.Clients.{Act as ClientAct, Does, DoesAll as ClientDoesAll, new_client}
use Rattle.sam_client.specs.declared.client.Client.{Client}
use Rattle.sam_attached.specs.Runs.{AreCalls, AreGoing, IsGoing, line_calls}
use Rattle.sam_attached.proofs.Runs.{clients_are_calls}
use Rattle.sam_server.specs.DurableServers.{PlainDurableServer}
use Rattle.sam_server.specs.Servers.{Acknowledged, Asked, Called, Came, Done, Joined, Marked, PlainRecord, Said, Server}
use Rattle.sam_server.specs.declared.fault.GoOnFault.{GoOnFault}
use Rattle.sam_server.specs.declared.fault.GoOnFault.TheVariants as go_on
use Rattle.sam_served.specs.Programs.{Act as ProgramAct, IsDone, IsNothing, IsServed, LeadsProgram, Program, Progress, Waits, after_going_on, after_take, new_program, progress, record_of}
use Rattle.sam_served.specs.Programs.Act.{Break, ByTerminal, Crash, Durable, GoOn, NextRecord, Take, TakeOut}
use Rattle.sam_served.specs.Serving.{IsSession, WasBrought as ServerWasBrought, asides_by_records, came, session_of}
use Rattle.sam_served.proofs.Following.{served_are_one_run}
use Rattle.sam_served.proofs.Journals.{acts_lead_on}
use Rattle.sam_served.proofs.Lefts.{carried_left}
use Rattle.sam_served.proofs.Programs.{programs_are_served}
use Rattle.sam_served.proofs.Serving.{served_are_sessions}
use Rattle.sam_line.proofs.Owing.{Owes, owes}
use Rattle.sam_end_to_end.specs.Sessions.{AreBrought, ByClient, ByProgram, Event, IsOfProgram, Leads, Session, SessionsAreOneRun, calls_in, hearing, new_session}
use Rattle.sam_end_to_end.specs.Stopping.{ClientsStopForFullCounts}

-- ## The program, beside another terminal

abbrev pub beside : Program → End → List Call → Program
beside b t calls = record b { terminal = t; terminal_calls = calls }

-- what the program takes depends on what went out alone
program_brought : (mine : List PlainRecord) (theirs others : List Call) (r : PlainRecord) → ((k : ℕ) → out k theirs ≡ out k others)
    → ServerWasBrought mine theirs r → ServerWasBrought mine others r
program_brought mine theirs others (Called hello) same is = (is.0, subst (λ o. StartsWith o (spelled hello)) (same hello.attempt) is.1)
program_brought mine theirs others (Came attempt piece) same is =
    subst (λ o. StartsWith (drop 42 o) (came attempt mine ++ piece)) (same attempt) is
program_brought mine theirs others (Joined name text) same is = tt
program_brought mine theirs others (Marked f) same is = tt
program_brought mine theirs others (Said bytes) same is = tt
program_brought mine theirs others Acknowledged same is = tt
program_brought mine theirs others Asked same is = tt
program_brought mine theirs others (Done ending) same is = tt

took_beside : (g : Progress) (b : Program) (t u : End) (cs ds : List Call) (r : PlainRecord) (e : PlainDurableServer)
    → beside (after_take g (beside b t cs) r e) u ds ≡ after_take g (beside b u ds) r e
took_beside IsDone b t u cs ds r e = refl
took_beside Waits b t u cs ds r e = refl
took_beside IsNothing b t u cs ds r e = refl

went_beside : (answer : Result (Unit {0}) GoOnFault) (b : Program) (t u : End) (cs ds : List Call) (e : PlainDurableServer)
    → beside (after_going_on answer (beside b t cs) e) u ds ≡ after_going_on answer (beside b u ds) e
went_beside (Ok done) b t u cs ds e = refl
went_beside (Err go_on.Unfinished) b t u cs ds e = refl
went_beside (Err (go_on.Stopped why)) b t u cs ds e = refl

act_beside : (id : Id) (b q : Program) (t u : End) (cs ds : List Call) (act : ProgramAct) → IsOfProgram act
    → ((k : ℕ) → out k cs ≡ out k ds) → LeadsProgram id (beside b t cs) (act ∷ []) q
    → LeadsProgram id (beside b u ds) (act ∷ []) (beside q u ds)
act_beside id b q t u cs ds (ByTerminal call) fit same leads = absurd fit
act_beside id b q t u cs ds (Take taking) fit same (e, takes, fits, brought, is) = (
  e,
  takes,
  fits,
  (λ some. program_brought b.taken cs ds (record_of taking) same (brought some)),
  ap (λ (p : Program). beside p u ds) is ∙ took_beside (progress taking) b t u cs ds (record_of taking) e,
)
act_beside id b q t u cs ds (GoOn answer) fit same (e, goes, is) =
    (e, goes, ap (λ (p : Program). beside p u ds) is ∙ went_beside answer b t u cs ds e)
act_beside id b q t u cs ds (Break attempt) fit same is = ap (λ (p : Program). beside p u ds) is
act_beside id b q t u cs ds (NextRecord body) fit same (front, is) = (front, ap (λ (p : Program). beside p u ds) is)
act_beside id b q t u cs ds (Durable count) fit same (got, is) = (got, ap (λ (p : Program). beside p u ds) is)
act_beside id b q t u cs ds (TakeOut attempt old answer new) fit same (e, takes, is) = (e, takes, ap (λ (p : Program). beside p u ds) is)
act_beside id b q t u cs ds (Crash n) fit same (s, said, within, retakes, is) =
    (s, said, within, retakes, ap (λ (p : Program). beside p u ds) is)

-- ## Calls of the terminal's link alone

host_grows : (s z : LinkSession) (steps : List Step) → LinksLead s steps z → length s.host_calls ≤ length z.host_calls
host_grows s z [] is = omega (arith, ap (λ (x : LinkSession). length x.host_calls) is)
host_grows s z (ByLink call ∷ steps) (t, does, carried, rest) = host_grows (terminal_did s call t) z steps rest
host_grows s z (ByHost call ∷ steps) (h, does, carried, rest) =
    omega (arith, length-append s.host_calls (call ∷ []), host_grows (host_did s call h) z steps rest)

record Alone (id : Id) (b : Program) (s z : LinkSession) : Type 0 where
  acts : List ProgramAct
  leads : LeadsProgram id (beside b s.terminal s.terminal_calls) acts (beside b z.terminal z.terminal_calls)
  made : List Call
  does : DoesAll s.terminal made z.terminal
  calls_are : z.terminal_calls ≡ s.terminal_calls ++ made

-- where the host did nothing, these are acts beside any program whose servers took out the same
alone : (id : Id) (b : Program) (s z : LinkSession) (steps : List Step) → LinksLead s steps z → length z.host_calls ≡ length s.host_calls
    → ((k : ℕ) → out k s.host_calls ≡ out k b.outs) → Alone id b s z
alone id b s z [] is none same =
    record {
      acts = [];
      leads = ap (λ (x : LinkSession). beside b x.terminal x.terminal_calls) is;
      made = [];
      does = ap (λ (x : LinkSession). x.terminal) is;
      calls_are = ap (λ (x : LinkSession). x.terminal_calls) is ∙ sym (append-nil s.terminal_calls);
    }
alone id b s z (ByLink call ∷ steps) (t, does, carried, rest) none same =
    let more = alone id b (terminal_did s call t) z steps rest none same in
    record {
      acts = ByTerminal call ∷ more.acts;
      leads = (t, does, (λ taken. carried_left s.terminal_calls s.host_calls b.outs call same (carried taken)), more.leads);
      made = call ∷ more.made;
      does = (t, does, more.does);
      calls_are = more.calls_are ∙ append_assoc s.terminal_calls (call ∷ []) more.made;
    }
alone id b s z (ByHost call ∷ steps) (h, does, carried, rest) none same =
    absurd (omega (arith, none, length-append s.host_calls (call ∷ []), host_grows (host_did s call h) z steps rest))

-- ## What is to be acknowledged

does_on : (first more : List Call) (e m n : End) → DoesAll e first m → DoesAll m more n → DoesAll e (first ++ more) n
does_on [] more e m n is does = subst (λ (x : End). DoesAll x more n) is does
does_on (call ∷ first) more e m n (k, is, rest) does = (k, is, does_on first more k m n rest does)

none_more : (a b : List Item) → a ++ b ≡ a → b ≡ []
none_more a [] same = refl
none_more a (x ∷ b) same = absurd (omega (arith, ap length same, length-append a (x ∷ b)))

-- after the first of these calls nothing was put, and no more bytes than were put by then are to be acknowledged
pub record Owed (id : Id) (calls : List Call) (due : ℕ) : Type 0 where
  pub first : List Call
  pub rest : List Call
  pub at : End
  pub whole : calls ≡ first ++ rest
  pub does : DoesAll (fresh Terminal id) first at
  pub none : put rest ≡ []
  pub fewer : put_len at ≤ due

owed_on : (id : Id) (calls made next : List Call) (t : End) (due later : ℕ) (puts : List Item) → Owed id calls due
    → DoesAll (fresh Terminal id) next t → next ≡ calls ++ made → put next ≡ put calls ++ puts
    → ((puts ≡ []) × (later ≡ due)) ⊎ (later ≡ put_len t) → Owed id next later
owed_on id calls made next t due later puts o does is put_is (inl (none, same)) =
    let more : put made ≡ [] =
    none_more (put calls) (put made)
    (sym (flat_map-append call_puts calls made) ∙ ap put (sym is) ∙ put_is ∙ ap (λ (l : List Item). put calls ++ l) none ∙ append-nil (put calls)) in
    record {
      first = o.first;
      rest = o.rest ++ made;
      at = o.at;
      whole = is ∙ ap (λ (l : List Call). l ++ made) o.whole ∙ append_assoc o.first o.rest made;
      does = o.does;
      none = flat_map-append call_puts o.rest made ∙ ap (λ (l : List Item). put o.rest ++ l) more ∙ append-nil (put o.rest) ∙ o.none;
      fewer = omega (arith, same, o.fewer);
    }
owed_on id calls made next t due later puts o does is put_is (inr all) = record {
  first = next;
  rest = [];
  at = t;
  whole = sym (append-nil next);
  does = does;
  none = refl;
  fewer = omega (arith, all);
}

-- ## Calls of the line

-- a link's end that did what the line's link did, beside the program
pub record Shadow (id : Id) (l : Line) (mine : List LineCall) (b : Program) : Type 0 where
  pub acts : List ProgramAct
  pub t : End
  pub calls : List Call
  pub leads : LeadsProgram id (new_program id) acts (beside b t calls)
  pub does : DoesAll (fresh Terminal id) calls t
  pub terminal_is : t ≡ l.link
  pub puts_are : put calls ≡ flat_map line_put_by mine
  pub hands_are : handed calls ≡ flat_map line_handed_by mine
  pub outs_are : (k : ℕ) → out k calls ≡ out k (outs mine)
  pub tied : Tied l (λ k. took k mine) (λ k. fed k calls)
  pub owed : Owed id calls l.question.due

-- what the line takes depends on what went out alone
line_brought : (mine : List LineCall) (theirs others : List Call) (call : LineCall) → ((k : ℕ) → out k theirs ≡ out k others)
    → WasBrought mine theirs call → WasBrought mine others call
line_brought mine theirs others (Receive attempt piece now answer) same is = λ taken.
    let x = is taken in
    record {
      words = x.words;
      behind = subst (λ o. IsBefore (x.words ++ o) (length x.words)) (same attempt) x.behind;
      front = subst (λ o. StartsWith (x.words ++ o) (took attempt mine ++ piece)) (same attempt) x.front;
    }
line_brought mine theirs others _ same is = tt

owing : (l : Line) (call : LineCall) (n : Line) (t : End) → t ≡ n.link → Owes l call n
    → ((line_put_by call ≡ []) × (n.question.due ≡ l.question.due)) ⊎ (n.question.due ≡ put_len t)
owing l call n t is (inl same) = inl same
owing l call n t is (inr all) = inr (all ∙ ap put_len (sym is))

abbrev line_at : Line → List LineCall → End → List Call → LineSession
line_at l mine host host_calls = record { line = l; host = host; line_calls = mine; host_calls = host_calls }

-- the line and the host of a session without crashes that the program is now
abbrev line_shadow : (id : Id) (l : Line) (mine : List LineCall) (b : Program) (sh : Shadow id l mine b) → (x : IsServed id (beside b sh.t sh.calls))
    → (y : IsSession id x.served) → LineShadow id (line_at l mine y.host y.host_calls)
line_shadow id l mine b sh x y = record {
  steps = y.steps;
  t = session_of x.served y.host y.host_calls;
  leads = y.leads;
  terminal_is = x.terminal ∙ sh.terminal_is;
  host_is = refl;
  host_calls_are = refl;
  puts_are = ap put x.terminal_calls ∙ sh.puts_are;
  hands_are = ap handed x.terminal_calls ∙ sh.hands_are;
  outs_are = λ k. ap (out k) x.terminal_calls ∙ sh.outs_are k;
  tied = subst (λ (cs : List Call). Tied l (λ k. took k mine) (λ k. fed k cs)) (sym x.terminal_calls) sh.tied;
}

puts_on : (mine : List LineCall) (call : LineCall) (calls next : List Call) → put calls ≡ flat_map line_put_by mine
    → put next ≡ flat_map line_put_by (mine ++ call ∷ []) → put next ≡ put calls ++ line_put_by call
puts_on mine call calls next are more =
    more ∙ with_last line_put_by mine call ∙ ap (λ (l : List Item). l ++ line_put_by call) (sym are)

line_went : (id : Id) (l n : Line) (mine : List LineCall) (b : Program) (call : LineCall) → Shadow id l mine b → LineDoes l call n
    → WasBrought mine b.outs call → Shadow id n (mine ++ call ∷ []) b
line_went id l n mine b call sh does brought =
    let x = programs_are_served id sh.acts (beside b sh.t sh.calls) sh.leads in
    let y = served_are_sessions id x.events x.served x.leads in
    let w = x.served in
    let goes : (k : ℕ) → out k b.outs ≡ out k y.host_calls = λ k. x.outs k ∙ sym (y.outs k) in
    let later = line_step id (line_at l mine y.host y.host_calls) call n (line_shadow id l mine b sh x y) does
    (line_brought mine b.outs y.host_calls call goes brought) in
    let next = later.next in
    let z = next.t in
    let more = alone id b (session_of w y.host y.host_calls) z later.more later.since (ap length next.host_calls_are) (λ k. sym (goes k)) in
    let here : beside b sh.t sh.calls ≡ beside b w.terminal w.terminal_calls =
    λ i. beside b (sym x.terminal i) (sym x.terminal_calls i) in
    let calls_are : z.terminal_calls ≡ sh.calls ++ more.made = more.calls_are ∙ ap (λ (cs : List Call). cs ++ more.made) x.terminal_calls in
    let all : DoesAll (fresh Terminal id) z.terminal_calls z.terminal =
    subst (λ (cs : List Call). DoesAll (fresh Terminal id) cs z.terminal) (sym calls_are)
    (does_on sh.calls more.made (fresh Terminal id) sh.t z.terminal sh.does
    (subst (λ (e : End). DoesAll e more.made z.terminal) x.terminal more.does)) in
    record {
      acts = sh.acts ++ more.acts;
      t = z.terminal;
      calls = z.terminal_calls;
      leads = acts_lead_on id sh.acts more.acts (new_program id) (beside b w.terminal w.terminal_calls) (beside b z.terminal z.terminal_calls)
          (subst (λ (p : Program). LeadsProgram id (new_program id) sh.acts p) here sh.leads) more.leads;
      does = all;
      terminal_is = next.terminal_is;
      puts_are = next.puts_are;
      hands_are = next.hands_are;
      outs_are = next.outs_are;
      tied = next.tied;
      owed = owed_on id sh.calls more.made z.terminal_calls z.terminal l.question.due n.question.due (line_put_by call) sh.owed all calls_are
          (puts_on mine call sh.calls z.terminal_calls sh.puts_are next.puts_are)
          (owing l call n z.terminal next.terminal_is (owes l call n does));
    }

lines_went : (id : Id) (l n : Line) (mine : List LineCall) (b : Program) (calls : List LineCall) → Shadow id l mine b
    → LineDoesAll l calls n → AreBrought mine b.outs calls → Shadow id n (mine ++ calls) b
lines_went id l n mine b [] sh is brought =
    subst (λ (m : List LineCall). Shadow id n m b) (sym (append-nil mine)) (subst (λ (x : Line). Shadow id x mine b) (sym is) sh)
lines_went id l n mine b (call ∷ calls) sh (m, does, rest) (brought, more) =
    subst (λ (c : List LineCall). Shadow id n c b) (append_assoc mine (call ∷ []) calls)
    (lines_went id m n (mine ++ call ∷ []) b calls (line_went id l m mine b call sh does brought) rest more)

-- ## What happens

does_then : (c m n : Client) (acts : List ClientAct) (act : ClientAct) → ClientDoesAll c acts m → Does m act n
    → ClientDoesAll c (acts ++ act ∷ []) n
does_then c m n [] act same does = subst (λ (x : Client). ClientDoesAll x (act ∷ []) n) same (n, does, refl)
does_then c m n (first ∷ acts) act (k, is, rest) does = (k, is, does_then k m n acts act rest does)

going_then : (acts : List ClientAct) (act : ClientAct) → AreGoing acts → IsGoing act → AreGoing (acts ++ act ∷ [])
going_then [] act going last = (last, tt)
going_then (first ∷ acts) act (going, rest) last = (going, going_then acts act rest last)

record Holds (id : Id) (take_over : Bool) (now : ℕ) (s : Session) : Type 0 where
  does : ClientDoesAll (new_client id take_over now) s.acts s.client
  going : AreGoing s.acts
  shadow : Shadow id s.client.line (calls_in s) s.program

first_holds : (id : Id) (take_over : Bool) (now : ℕ) → Holds id take_over now (new_session id take_over now)
first_holds id take_over now = record {
  does = refl;
  going = tt;
  shadow = record {
    acts = [];
    t = fresh Terminal id;
    calls = [];
    leads = refl;
    does = refl;
    terminal_is = refl;
    puts_are = refl;
    hands_are = refl;
    outs_are = λ k. refl;
    tied = record { newer = λ a more. (refl, refl); stage = refl };
    owed = record { first = []; rest = []; at = fresh Terminal id; whole = refl; does = refl; none = refl; fewer = omega arith };
  };
}

client_holds : (id : Id) (take_over : Bool) (now : ℕ) (s : Session) (act : ClientAct) (n : Client) → Holds id take_over now s
    → Does s.client act n → IsGoing act → AreBrought (calls_in s) s.program.outs (line_calls act)
    → Holds id take_over now (record s { client = n; acts = s.acts ++ act ∷ [] })
client_holds id take_over now s act n x does going brought =
    let calls = clients_are_calls s.client n (act ∷ []) (n, does, refl) (going, tt) in
    let line : LineDoesAll s.client.line (line_calls act) n.line =
    subst (λ (cs : List LineCall). LineDoesAll s.client.line cs n.line) (append-nil (line_calls act)) calls.does in
    record {
      does = does_then (new_client id take_over now) s.client n s.acts act x.does does;
      going = going_then s.acts act x.going going;
      shadow = subst (λ (cs : List LineCall). Shadow id n.line cs s.program) (sym (with_last line_calls s.acts act))
          (lines_went id s.client.line n.line (calls_in s) s.program (line_calls act) x.shadow line brought);
    }

program_holds : (id : Id) (take_over : Bool) (now : ℕ) (s : Session) (act : ProgramAct) (p : Program) → Holds id take_over now s
    → IsOfProgram act → LeadsProgram id (hearing s) (act ∷ []) p → Holds id take_over now (record s { program = p })
program_holds id take_over now s act p x fit leads =
    let sh = x.shadow in
    record {
      does = x.does;
      going = x.going;
      shadow = record {
        acts = sh.acts ++ act ∷ [];
        t = sh.t;
        calls = sh.calls;
        leads = acts_lead_on id sh.acts (act ∷ []) (new_program id) (beside s.program sh.t sh.calls) (beside p sh.t sh.calls) sh.leads
            (act_beside id s.program p s.program.terminal sh.t (outs (calls_in s)) sh.calls act fit (λ k. sym (sh.outs_are k)) leads);
        does = sh.does;
        terminal_is = sh.terminal_is;
        puts_are = sh.puts_are;
        hands_are = sh.hands_are;
        outs_are = sh.outs_are;
        tied = sh.tied;
        owed = sh.owed;
      };
    }

all_holds : (id : Id) (take_over : Bool) (now : ℕ) (s z : Session) (events : List Event) → Holds id take_over now s
    → Leads id s events z → Holds id take_over now z
all_holds id take_over now s z [] x is = subst (λ (k : Session). Holds id take_over now k) (sym is) x
all_holds id take_over now s z (ByClient act ∷ events) x (n, does, going, brought, rest) =
    all_holds id take_over now (record s { client = n; acts = s.acts ++ act ∷ [] }) z events
    (client_holds id take_over now s act n x does going brought) rest
all_holds id take_over now s z (ByProgram act ∷ events) x (p, fit, leads, rest) =
    all_holds id take_over now (record s { program = p }) z events (program_holds id take_over now s act p x fit leads) rest

-- the session of two links that it is, and what went between the client's end and its link
pub record Linked (id : Id) (take_over : Bool) (now : ℕ) (s : Session) : Type 0 where
  pub shadow : Shadow id s.client.line (calls_in s) s.program
  pub calls : AreCalls (new_client id take_over now) s.acts s.client
  pub served : IsServed id (beside s.program shadow.t shadow.calls)
  pub session : IsSession id served.served
  pub went : bytes_of (put served.served.terminal_calls) ≡ flat_map went_out calls.end_calls
  pub came : bytes_of (handed served.served.terminal_calls) ≡ flat_map came_in calls.end_calls ++ s.client.held

pub linked : (id : Id) (take_over : Bool) (now : ℕ) (events : List Event) (s : Session) → Leads id (new_session id take_over now) events s
    → Linked id take_over now s
linked id take_over now events s leads =
    let x = all_holds id take_over now (new_session id take_over now) s events (first_holds id take_over now) leads in
    let sh = x.shadow in
    let calls = clients_are_calls (new_client id take_over now) s.client s.acts x.does x.going in
    let served = programs_are_served id sh.acts (beside s.program sh.t sh.calls) sh.leads in
    record {
      shadow = sh;
      calls = calls;
      served = served;
      session = served_are_sessions id served.events served.served served.leads;
      went = ap bytes_of (ap put served.terminal_calls ∙ sh.puts_are ∙ calls.puts) ∙ sym calls.sent;
      came = ap bytes_of (ap handed served.terminal_calls ∙ sh.hands_are ∙ calls.leaves) ∙ calls.received;
    }

-- ## The laws

pub sessions_are_one_run : SessionsAreOneRun
sessions_are_one_run id take_over now events s fine leads =
    let x = linked id take_over now events s leads in
    let end = s.client.ordered.overlay.end in
    let all = served_are_one_run id x.served.events x.served.served x.calls.end_calls end fine x.served.leads x.calls.runs
    (record { rest = end.pending_bytes; is = ap (λ (l : List ℕ). l ++ end.pending_bytes) (sym x.went) })
    (record { rest = s.client.held; is = x.came }) in
    record {
      calls = x.calls;
      host = x.served.served.server.host;
      host_calls = all.0;
      server = λ settled. ap (λ (k : Server). k.host) (sym (x.served.server settled));
      asides = all.1 ∙ ap asides_by_records x.served.records;
      up = all.2;
      down = all.3;
      carried = all.4;
      run = all.5;
      goes_on = all.6;
      as_if_local = all.7;
    }

without_last : {A B : Type 0} (f : A → List B) (calls : List A) (last : A) → f last ≡ [] → flat_map f (calls ++ last ∷ []) ≡ flat_map f calls
without_last f calls last none = with_last f calls last ∙ ap (λ (l : List _). flat_map f calls ++ l) none ∙ append-nil (flat_map f calls)

pub clients_stop_for_full_counts : ClientsStopForFullCounts
clients_stop_for_full_counts id take_over now events s n why fine leads ((steps, keeps, stops), same) =
    let x = linked id take_over now events s leads in
    let y = x.session in
    let end = n.ordered.overlay.end in
    let last : EndCall = MakeStep (Err (ends.Stopped why)) in
    let all = no_call_stops_linked_term [] id y.steps (session_of x.served.served y.host y.host_calls) y.answers x.calls.end_calls last why
    x.served.served.server.host s.client.ordered.overlay.end end tt y.runs x.calls.runs (steps, refl) fine y.leads
    (record {
      term_puts =
          record {
            rest = end.pending_bytes;
            is = ap (λ (l : List ℕ). l ++ end.pending_bytes) (without_last went_out x.calls.end_calls last refl ∙ sym x.went);
          };
      host_takes = record { rest = []; is = sym y.took ∙ sym (append-nil (flat_map came_up y.answers)) };
      host_puts =
          record {
            rest = x.served.served.server.host.pending_bytes;
            is = ap (λ (l : List ℕ). l ++ x.served.served.server.host.pending_bytes) (sym y.put_all);
          };
      term_takes =
          record {
            rest = s.client.held;
            is = x.came ∙ ap (λ (l : List ℕ). l ++ s.client.held) (sym (without_last came_in x.calls.end_calls last refl));
          };
    }) in
    all.5
