-- A session of a line and a host is one of two links.
use Rattle.std.proofs.Common.{◌≡◌, ℕ, ◌+◌, max, List, [], ◌∷◌, ◌++◌, take, drop, flat_map, Bool, true, false, MatchBool, if◌then◌else◌, None, Some, Result, Ok, Err, is_ok, refl, sym, ap, subst, ◌∙◌, arith}
use Rattle.std.proofs.lemmas.List.{append-nil}
use Rattle.sam_link.specs.Calls.{Call, Does, Item, fed, fed_by, handed, out, out_by, put}
use Rattle.sam_link.specs.Calls as calls
use Rattle.sam_link.specs.Calls.Call.{Acknowledge as LinkAcknowledge, Answer as LinkAnswer, Ask as LinkAsk, Break as LinkBreak, Dial as LinkDial, Feed as LinkFeed, NextNote as LinkNextNote, Put as LinkPut, PutNote as LinkPutNote, TakeIn as LinkTakeIn, TakeOut as LinkTakeOut, Welcome as LinkWelcome}
use Rattle.sam_link.specs.End.{CallsBy, End, ended, is_up}
use Rattle.sam_link.specs.Hellos.{spelled}
use Rattle.sam_link.specs.Sessions.{ByHost as LinkByHost, IsId, Leads, Session, StartsWith, Step, WasCarried, is_taken, new_session}
use Rattle.sam_link.specs.Sessions as sessions
use Rattle.sam_link.specs.declared.fault.CallFault.{CallFault}
use Rattle.sam_link.specs.declared.fault.CallFault.TheVariants as dials
use Rattle.sam_link.specs.declared.fault.NotOpen.{NotOpen}
use Rattle.sam_link.specs.declared.keeping.PutFault.{PutFault}
use Rattle.sam_link.specs.declared.hello.Id.{Id}
use Rattle.sam_link.specs.declared.phase.Phase.{Phase}
use Rattle.sam_link.specs.declared.phase.Role.{Role}
use Rattle.sam_link.specs.declared.phase.Role.TheVariants.{Terminal, Host}
use Rattle.sam_link.proofs.SessionLaws.{links_carry}
use Rattle.sam_line.specs.Calls.{LineCall, LineDoes, handed_by, put_by}
use Rattle.sam_line.specs.Calls.LineCall.{Acknowledge, AddressChanged, Ask, Broken, Connected, Expect, NextNote, NotConnected, Put, PutNote, Receive, TakeIn, TakeOut, TickAt}
use Rattle.sam_line.specs.Clock as clocks
use Rattle.sam_line.specs.Line as lines
use Rattle.sam_line.specs.Sessions.{ByHost, ByLine, IsBrought, LineCarries, LineLeads, LineSession, LineStep, WasBrought, host_did, line_did, new_line_session, out_of, outs, took, took_by}
use Rattle.sam_line.specs.declared.clock.State.{State}
use Rattle.sam_line.specs.declared.clock.State.TheVariants.{Down, Connecting, Open, Late, Lost}
use Rattle.sam_line.specs.declared.clock.Tick.{Tick}
use Rattle.sam_line.specs.declared.clock.Tick.TheVariants as ticks
use Rattle.sam_line.specs.declared.line.Line.{Line}
use Rattle.sam_line.proofs.LineLaws.{with_last, with_list}
use Rattle.sam_line.proofs.Carrying.{Begun, Moved, StageOf, Tied, breaks, kept_stage, leads_on, none, one, same_functions, stays, tied_at, tied_failed}
use Rattle.sam_line.proofs.Pieces.{bytes, fd, receive_taken}

-- ## Each call

record Went (t : Session) (call : LineCall) (n : Line) (tk : ℕ → List ℕ) : Type 0 where
  comes : ℕ → List ℕ
  moved : Moved t n.link (put_by call) (handed_by call) (λ a. out a (out_of call)) comes
  tied : Tied n (λ a. tk a ++ took_by a call) (λ a. fed a t.terminal_calls ++ comes a)

-- a call that takes nothing of a connection
went : (t : Session) (call : LineCall) (n : Line) (tk : ℕ → List ℕ) → ((a : ℕ) → took_by a call ≡ [])
    → Moved t n.link (put_by call) (handed_by call) (λ a. out a (out_of call)) none → Tied n tk (λ a. fed a t.terminal_calls) → Went t call n tk
went t call n tk nothing moved tied =
    record {
      comes = none;
      moved = moved;
      tied = same_functions n tk (λ a. tk a ++ took_by a call) (λ a. fed a t.terminal_calls) (λ a. fed a t.terminal_calls ++ [])
          (λ a. ap (λ x. tk a ++ x) (nothing a) ∙ append-nil (tk a)) (λ a. append-nil (fed a t.terminal_calls)) tied;
    }

-- a link's own call, after which it stands as before
same_stand : (l n : Line) (tk fd : ℕ → List ℕ) (m : Line) → n ≡ m → m.clock.state ≡ l.clock.state → m.link.phase ≡ l.link.phase
    → m.link.attempt ≡ l.link.attempt → m.greeting ≡ l.greeting → Tied l tk fd → Tied n tk fd
same_stand l n tk fd m is state phase attempt greeting tied = tied_at m n tk fd is (kept_stage l m tk fd state phase attempt greeting tied)

dialled : (role : Role) (e m : End) (take_over : Bool) (attempt : ℕ) → CallsBy role e take_over (Ok attempt) m → m.attempt ≡ e.attempt + 1
dialled Terminal e m take_over attempt is = ap (λ (x : End). x.attempt) is.2
dialled Host e m take_over attempt is = absurd is

not_dialled : (role : Role) (e m : End) (take_over : Bool) (why : CallFault) → CallsBy role e take_over (Err why) m → m ≡ e
not_dialled Terminal e m take_over dials.CountFull is = is.1
not_dialled Terminal e m take_over dials.WrongRole is = absurd is
not_dialled Host e m take_over dials.WrongRole is = is
not_dialled Host e m take_over dials.CountFull is = absurd is

-- when a tick says so
connect_is : (s : State) (over : Bool) (phase : Phase) (attempt : ℕ) (greeting : List ℕ) (tk fd : ℕ → List ℕ)
    → ticks.Connect ≡ (if over then clocks.says_in s else ticks.Nothing) → StageOf s phase attempt greeting tk fd → is_up phase ≡ false
connect_is s false phase attempt greeting tk fd is stage = absurd (cc)
connect_is (Down d) true phase attempt greeting tk fd is stage = stage
connect_is (Connecting d) true phase attempt greeting tk fd is stage = absurd (cc)
connect_is Open true phase attempt greeting tk fd is stage = absurd (cc)
connect_is (Late d) true phase attempt greeting tk fd is stage = absurd (cc)
connect_is (Lost why) true phase attempt greeting tk fd is stage = absurd (cc)

ask_is : (s : State) (over : Bool) (phase : Phase) (attempt : ℕ) (greeting : List ℕ) (tk fd : ℕ → List ℕ)
    → ticks.Ask ≡ (if over then clocks.says_in s else ticks.Nothing) → StageOf s phase attempt greeting tk fd → Begun (tk attempt) (fd attempt)
ask_is s false phase attempt greeting tk fd is stage = absurd (cc)
ask_is (Down d) true phase attempt greeting tk fd is stage = absurd (cc)
ask_is (Connecting d) true phase attempt greeting tk fd is stage = absurd (cc)
ask_is Open true phase attempt greeting tk fd is stage = stage
ask_is (Late d) true phase attempt greeting tk fd is stage = absurd (cc)
ask_is (Lost why) true phase attempt greeting tk fd is stage = absurd (cc)

moved_stage : (s : State) (now : ℕ) (phase : Phase) (attempt : ℕ) (greeting : List ℕ) (tk fd : ℕ → List ℕ) → StageOf s phase attempt greeting tk fd
    → StageOf (clocks.moved_in s now) phase attempt greeting tk fd
moved_stage (Down d) now phase attempt greeting tk fd stage = stage
moved_stage (Connecting d) now phase attempt greeting tk fd stage = stage
moved_stage Open now phase attempt greeting tk fd stage = stage
moved_stage (Late d) now phase attempt greeting tk fd stage = stage
moved_stage (Lost why) now phase attempt greeting tk fd stage = stage

module _ (t : Session) (tk : ℕ → List ℕ) (l n : Line) (link : t.terminal ≡ l.link) (tied : Tied l tk (λ a. fed a t.terminal_calls)) where
  abbrev fds : ℕ → List ℕ
  fds a = fed a t.terminal_calls

  here : (call : Call) (m : End) → Does l.link call m → Does t.terminal call m
  here call m does = subst (λ (x : End). Does x call m) (sym link) does

  rests : n.link ≡ l.link → Moved t n.link [] [] none none
  rests same = stays t n.link (link ∙ sym same)

  drops : (m : Line) → m.link ≡ l.link → n ≡ lines.failed m → Moved t n.link [] [] none none × Tied n tk (λ a. fed a t.terminal_calls)
  drops m same is = (
    breaks t n.link (ap (λ (x : Line). x.link) is ∙ ap ended (same ∙ sym link)),
    tied_at (lines.failed m) n tk fds is (tied_failed m l.link.attempt tk fds (ap (λ (x : End). x.attempt) same) tied.newer),
  )

  if_fails : (b : Bool) (m : Line) → m.link ≡ l.link → m.clock.state ≡ l.clock.state → m.greeting ≡ l.greeting
      → n ≡ (if b then lines.failed m else m) → Moved t n.link [] [] none none × Tied n tk (λ a. fed a t.terminal_calls)
  if_fails true m same state greeting is = drops m same is
  if_fails false m same state greeting is = (
    rests (ap (λ (x : Line). x.link) is ∙ same),
    same_stand l n tk fds m is state (ap (λ (x : End). x.phase) same) (ap (λ (x : End). x.attempt) same) greeting tied,
  )

  tick_went : (now : ℕ) (answer : Tick) → answer ≡ clocks.says (lines.at l now).clock (lines.is_due l) → n ≡ lines.after (lines.at l now) answer
      → Went t (TickAt now answer) n tk
  tick_went now ticks.Nothing says is =
      went t (TickAt now ticks.Nothing) n tk (λ a. refl) (rests (ap (λ (x : Line). x.link) is)) (same_stand l n tk fds (lines.at l now) is refl refl refl refl tied)
  tick_went now ticks.Connect says is =
      let down = connect_is l.clock.state (clocks.is_over (clocks.deadline (clocks.at l.clock now) (lines.is_due l)) (max l.clock.time now)) l.link.phase
      l.link.attempt l.greeting tk fds says tied.stage in
      went t (TickAt now ticks.Connect) n tk (λ a. refl) (rests (ap (λ (x : Line). x.link) is))
      (tied_at (lines.after (lines.at l now) ticks.Connect) n tk fds is
      (record { newer = tied.newer; stage = λ up. let no : true ≡ false = sym up ∙ down in absurd (cc) }))
  tick_went now ticks.Drop says is =
      let d = drops (lines.at l now) refl is in went t (TickAt now ticks.Drop) n tk (λ a. refl) d.0 d.1
  tick_went now ticks.Ask says is =
      let begun = ask_is l.clock.state (clocks.is_over (clocks.deadline (clocks.at l.clock now) (lines.is_due l)) (max l.clock.time now)) l.link.phase
      l.link.attempt l.greeting tk fds says tied.stage in
      went t (TickAt now ticks.Ask) n tk (λ a. refl) (rests (ap (λ (x : Line). x.link) is))
      (tied_at (lines.after (lines.at l now) ticks.Ask) n tk fds is (record { newer = tied.newer; stage = begun }))

  connected_went : (now : ℕ) (answer : Result ℕ CallFault) → Does l.link (LinkDial l.take_over answer) n.link
      → n ≡ lines.connected (lines.at l now) (is_ok answer) n.link → Went t (Connected now answer) n tk
  connected_went now (Ok attempt) does is =
      let more : n.link.attempt ≡ l.link.attempt + 1 = dialled l.link.role l.link n.link l.take_over attempt does in
      let new = tied.newer n.link.attempt (omega (arith, more)) in
      went t (Connected now (Ok attempt)) n tk (λ a. refl) (one t (LinkDial l.take_over (Ok attempt)) n.link (here (LinkDial l.take_over (Ok attempt)) n.link does) (λ e. absurd (cc)))
      (tied_at (lines.connected (lines.at l now) true n.link) n tk fds is
      (record { newer = λ a later. tied.newer a (omega (arith, more, later)); stage = λ up. (sym new.0, new.1) }))
  connected_went now (Err why) does is =
      let same : n.link ≡ l.link = not_dialled l.link.role l.link n.link l.take_over why does in
      went t (Connected now (Err why)) n tk (λ a. refl) (one t (LinkDial l.take_over (Err why)) n.link (here (LinkDial l.take_over (Err why)) n.link does) (λ e. absurd (cc)))
      (same_stand l n tk fds (lines.connected (lines.at l now) false n.link) is refl (ap (λ (x : End). x.phase) same) (ap (λ (x : End). x.attempt) same) refl tied)

  put_stand : (did : Bool) (now : ℕ) → n.link.phase ≡ l.link.phase → n.link.attempt ≡ l.link.attempt → n ≡ lines.put_by (lines.at l now) did n.link
      → Tied n tk (λ a. fed a t.terminal_calls)
  put_stand true now phase attempt is = same_stand l n tk fds (lines.put_by (lines.at l now) true n.link) is refl phase attempt refl tied
  put_stand false now phase attempt is = same_stand l n tk fds (lines.put_by (lines.at l now) false n.link) is refl phase attempt refl tied

  ask_stand : (did : Bool) (now : ℕ) → n.link.phase ≡ l.link.phase → n.link.attempt ≡ l.link.attempt → n ≡ lines.asked_by (lines.at l now) did n.link
      → Tied n tk (λ a. fed a t.terminal_calls)
  ask_stand true now phase attempt is = same_stand l n tk fds (lines.asked_by (lines.at l now) true n.link) is refl phase attempt refl tied
  ask_stand false now phase attempt is = same_stand l n tk fds (lines.asked_by (lines.at l now) false n.link) is refl phase attempt refl tied

  ask_went : (ask : Bool) (now : ℕ) (answer : Result (Unit {0}) PutFault)
      → MatchBool ask (Does l.link (LinkAsk answer) n.link × (n ≡ lines.asked_by (lines.at l now) (is_ok answer) n.link)) ((answer ≡ Ok tt) × (n ≡ lines.at l now))
      → Went t (Ask now answer) n tk
  ask_went true now answer d =
      went t (Ask now answer) n tk (λ a. refl) (one t (LinkAsk answer) n.link (here (LinkAsk answer) n.link d.0) (λ e. absurd (cc)))
      (ask_stand (is_ok answer) now (ap (λ (x : End). x.phase) d.0.1) (ap (λ (x : End). x.attempt) d.0.1) d.1)
  ask_went false now answer d =
      went t (Ask now answer) n tk (λ a. refl) (rests (ap (λ (x : Line). x.link) d.1)) (same_stand l n tk fds (lines.at l now) d.1 refl refl refl refl tied)

  -- a call of the link alone
  link_went : (call : LineCall) (made : Call) → ((a : ℕ) → took_by a call ≡ []) → calls.put_by made ≡ put_by call → calls.handed_by made ≡ handed_by call
      → ((a : ℕ) → out_by a made ≡ out a (out_of call)) → ((a : ℕ) → fed_by a made ≡ []) → is_taken made ≡ false → Does l.link made n.link
      → Tied n tk (λ a. fed a t.terminal_calls) → Went t call n tk
  link_went call made nothing puts hands goes comes untaken does stand =
      let moved = one t made n.link (here made n.link does) (λ e. let no : true ≡ false = sym e ∙ untaken in absurd (cc)) in
      let p : (λ a. out_by a made) ≡ (λ a. out a (out_of call)) = λ i a. goes a i in
      let q : (λ a. fed_by a made) ≡ none = λ i a. comes a i in
      went t call n tk nothing
      (subst (λ x. Moved t n.link x (handed_by call) (λ a. out a (out_of call)) none) puts
      (subst (λ x. Moved t n.link (calls.put_by made) x (λ a. out a (out_of call)) none) hands
      (subst (λ x. Moved t n.link (calls.put_by made) (calls.handed_by made) x none) p
      (subst (λ x. Moved t n.link (calls.put_by made) (calls.handed_by made) (λ a. out_by a made) x) q moved)))) stand

  acknowledged_stand : (answer : Result (Unit {0}) PutFault) → Does l.link (LinkAcknowledge answer) n.link → n ≡ record l { link = n.link }
      → Tied n tk (λ a. fed a t.terminal_calls)
  acknowledged_stand (Ok done) does is =
      same_stand l n tk fds (record l { link = n.link }) is refl (ap (λ (x : End). x.phase) does.1) (ap (λ (x : End). x.attempt) does.1) refl tied
  acknowledged_stand (Err why) does is =
      same_stand l n tk fds (record l { link = n.link }) is refl (ap (λ (x : End). x.phase) does.1) (ap (λ (x : End). x.attempt) does.1) refl tied

  out_stand : (attempt : ℕ) (old new : List ℕ) (answer : Result ℕ NotOpen) → Does l.link (LinkTakeOut attempt old answer new) n.link
      → n ≡ record l { link = n.link } → Tied n tk (λ a. fed a t.terminal_calls)
  out_stand attempt old new (Ok count) does is =
      same_stand l n tk fds (record l { link = n.link }) is refl (ap (λ (x : End). x.phase) does.4) (ap (λ (x : End). x.attempt) does.4) refl tied
  out_stand attempt old new (Err why) does is =
      same_stand l n tk fds (record l { link = n.link }) is refl (ap (λ (x : End). x.phase) does.2) (ap (λ (x : End). x.attempt) does.2) refl tied

  call_went : (call : LineCall) (mine : List LineCall) → ((a : ℕ) → tk a ≡ took a mine) → LineDoes l call n → WasBrought mine t.host_calls call → Went t call n tk
  call_went (TickAt now answer) mine same d brought = tick_went now answer d.0 d.1
  call_went (Connected now answer) mine same d brought = connected_went now answer d.0 d.1
  call_went (NotConnected now) mine same d brought =
      let e = if_fails (lines.is_opening (lines.at l now)) (lines.at l now) refl refl refl d in went t (NotConnected now) n tk (λ a. refl) e.0 e.1
  call_went (Broken attempt now) mine same d brought =
      let e = if_fails (lines.is_newest (lines.at l now) attempt) (lines.at l now) refl refl refl d in went t (Broken attempt now) n tk (λ a. refl) e.0 e.1
  call_went (AddressChanged now) mine same d brought =
      went t (AddressChanged now) n tk (λ a. refl) (rests (ap (λ (x : Line). x.link) d))
      (tied_at (lines.moved (lines.at l now)) n tk fds d
      (record { newer = tied.newer; stage = moved_stage l.clock.state (max l.clock.time now) l.link.phase l.link.attempt l.greeting tk fds tied.stage }))
  call_went (Expect expects now) mine same d brought =
      went t (Expect expects now) n tk (λ a. refl) (rests (ap (λ (x : Line). x.link) d))
      (same_stand l n tk fds (lines.expecting (lines.at l now) expects) d refl refl refl refl tied)
  call_went (Receive attempt piece now answer) mine same d brought =
      let a : Line = lines.at l now in
      let w = receive_taken t tk a n attempt piece now answer link (kept_stage l a tk fds refl refl refl refl tied)
      (λ right. subst (λ x. IsBrought t.host_calls attempt (x ++ piece)) (sym (same attempt)) (brought right)) d in
      record { comes = w.comes; moved = w.moved; tied = w.tied }
  call_went (Put bytes now (Ok done)) mine same d brought =
      link_went (Put bytes now (Ok done)) (LinkPut bytes (Ok done)) (λ a. refl) refl refl (λ a. refl) (λ a. refl) refl d.0
      (put_stand true now (ap (λ (x : End). x.phase) d.0.1) (ap (λ (x : End). x.attempt) d.0.1) d.1)
  call_went (Put bytes now (Err why)) mine same d brought =
      link_went (Put bytes now (Err why)) (LinkPut bytes (Err why)) (λ a. refl) refl refl (λ a. refl) (λ a. refl) refl d.0
      (put_stand false now (ap (λ (x : End). x.phase) d.0.1) (ap (λ (x : End). x.attempt) d.0.1) d.1)
  call_went (PutNote bytes now (Ok done)) mine same d brought =
      link_went (PutNote bytes now (Ok done)) (LinkPutNote bytes (Ok done)) (λ a. refl) refl refl (λ a. refl) (λ a. refl) refl d.0
      (put_stand true now (ap (λ (x : End). x.phase) d.0.1) (ap (λ (x : End). x.attempt) d.0.1) d.1)
  call_went (PutNote bytes now (Err why)) mine same d brought =
      link_went (PutNote bytes now (Err why)) (LinkPutNote bytes (Err why)) (λ a. refl) refl refl (λ a. refl) (λ a. refl) refl d.0
      (put_stand false now (ap (λ (x : End). x.phase) d.0.1) (ap (λ (x : End). x.attempt) d.0.1) d.1)
  call_went (Ask now answer) mine same d brought = ask_went (lines.is_to_ask (lines.at l now)) now answer d
  call_went (Acknowledge answer) mine same d brought =
      link_went (Acknowledge answer) (LinkAcknowledge answer) (λ a. refl) refl refl (λ a. refl) (λ a. refl) refl d.0 (acknowledged_stand answer d.0 d.1)
  call_went (TakeOut attempt old answer new) mine same d brought =
      link_went (TakeOut attempt old answer new) (LinkTakeOut attempt old answer new) (λ a. refl) refl refl
      (λ a. sym (append-nil (out_by a (LinkTakeOut attempt old answer new)))) (λ a. refl) refl d.0 (out_stand attempt old new answer d.0 d.1)
  call_went (TakeIn old count new) mine same d brought =
      link_went (TakeIn old count new) (LinkTakeIn old count new) (λ a. refl) refl refl (λ a. refl) (λ a. refl) refl d.0
      (same_stand l n tk fds (record l { link = n.link }) d.1 refl (ap (λ (x : End). x.phase) d.0.2) (ap (λ (x : End). x.attempt) d.0.2) refl tied)
  call_went (NextNote old None new) mine same d brought =
      link_went (NextNote old None new) (LinkNextNote None) (λ a. refl) refl refl (λ a. refl) (λ a. refl) refl d.0
      (same_stand l n tk fds (record l { link = n.link }) d.2 refl (ap (λ (x : End). x.phase) d.0.1) (ap (λ (x : End). x.attempt) d.0.1) refl tied)
  call_went (NextNote old (Some count) new) mine same d brought =
      link_went (NextNote old (Some count) new) (LinkNextNote (Some (take count new))) (λ a. refl) refl refl (λ a. refl) (λ a. refl) refl d.0
      (same_stand l n tk fds (record l { link = n.link }) d.2 refl (ap (λ (x : End). x.phase) d.0.1) (ap (λ (x : End). x.attempt) d.0.1) refl tied)

-- ## The session

-- what the host is brought depends on what went out alone
same_out : (mine a b : List Call) (call : Call) → ((k : ℕ) → out k a ≡ out k b) → WasCarried mine a call → WasCarried mine b call
same_out mine a b (LinkDial take_over answer) same is = tt
same_out mine a b (LinkAnswer hello answer) same is = (is.0, subst (λ o. StartsWith o (spelled hello)) (same hello.attempt) is.1)
same_out mine a b (LinkWelcome hello answer) same is = (is.0, subst (λ o. StartsWith o (spelled hello)) (same hello.attempt) is.1)
same_out mine a b (LinkBreak attempt) same is = tt
same_out mine a b (LinkPut sent answer) same is = tt
same_out mine a b (LinkPutNote sent answer) same is = tt
same_out mine a b (LinkAsk answer) same is = tt
same_out mine a b (LinkAcknowledge answer) same is = tt
same_out mine a b (LinkTakeOut attempt old answer new) same is = tt
same_out mine a b (LinkFeed attempt piece answer) same is = subst (λ o. StartsWith (drop 42 o) (fed attempt mine ++ piece)) (same attempt) is
same_out mine a b (LinkTakeIn old count new) same is = tt
same_out mine a b (LinkNextNote answer) same is = tt

-- two links whose session this is
pub record Shadow (id : Id) (s : LineSession) : Type 0 where
  pub steps : List Step
  pub t : Session
  pub leads : Leads (new_session id) steps t
  pub terminal_is : t.terminal ≡ s.line.link
  pub host_is : t.host ≡ s.host
  pub host_calls_are : t.host_calls ≡ s.host_calls
  pub puts_are : put t.terminal_calls ≡ flat_map put_by s.line_calls
  pub hands_are : handed t.terminal_calls ≡ flat_map handed_by s.line_calls
  pub outs_are : (a : ℕ) → out a t.terminal_calls ≡ out a (outs s.line_calls)
  pub tied : Tied s.line (λ a. took a s.line_calls) (λ a. fed a t.terminal_calls)

-- a later session, and the calls of the two links since
pub record Later (id : Id) (s : LineSession) (sh : Shadow id s) (z : LineSession) : Type 0 where
  pub next : Shadow id z
  pub more : List Step
  pub since : Leads sh.t more next.t

pub line_step : (id : Id) (s : LineSession) (call : LineCall) (n : Line) (sh : Shadow id s) → LineDoes s.line call n
    → WasBrought s.line_calls s.host_calls call → Later id s sh (line_did s call n)
line_step id s call n sh does brought =
    let w = call_went sh.t (λ a. took a s.line_calls) s.line n sh.terminal_is sh.tied call s.line_calls (λ a. refl) does
    (subst (λ (c : List Call). WasBrought s.line_calls c call) (sym sh.host_calls_are) brought) in
    let m = w.moved in
    record {
      next = record {
        steps = sh.steps ++ m.steps;
        t = m.z;
        leads = leads_on (new_session id) sh.t m.z sh.steps m.steps sh.leads m.leads;
        terminal_is = m.terminal_is;
        host_is = m.host_is ∙ sh.host_is;
        host_calls_are = m.host_calls_are ∙ sh.host_calls_are;
        puts_are = m.puts_are ∙ ap (λ (x : List Item). x ++ put_by call) sh.puts_are ∙ sym (with_last put_by s.line_calls call);
        hands_are = m.hands_are ∙ ap (λ (x : List Item). x ++ handed_by call) sh.hands_are ∙ sym (with_last handed_by s.line_calls call);
        outs_are = λ a. m.outs_are a ∙ ap (λ x. x ++ out a (out_of call)) (sh.outs_are a) ∙ sym (with_list (out_by a) (outs s.line_calls) (out_of call))
            ∙ ap (out a) (sym (with_last out_of s.line_calls call));
        tied = same_functions n (λ a. took a s.line_calls ++ took_by a call) (λ a. took a (s.line_calls ++ call ∷ []))
            (λ a. fed a sh.t.terminal_calls ++ w.comes a) (λ a. fed a m.z.terminal_calls) (λ a. with_last (took_by a) s.line_calls call) m.feds_are w.tied;
      };
      more = m.steps;
      since = m.leads;
    }

pub host_step : (id : Id) (s : LineSession) (call : Call) (h : End) (sh : Shadow id s) → Does s.host call h
    → (is_taken call ≡ true → WasCarried s.host_calls (outs s.line_calls) call) → Later id s sh (host_did s call h)
host_step id s call h sh does carried =
    let since : Leads sh.t (LinkByHost call ∷ []) (sessions.host_did sh.t call h) = (
      h,
      subst (λ (x : End). Does x call h) (sym sh.host_is) does,
      (λ taken. subst (λ (c : List Call). WasCarried c sh.t.terminal_calls call) (sym sh.host_calls_are)
          (same_out s.host_calls (outs s.line_calls) sh.t.terminal_calls call (λ k. sym (sh.outs_are k)) (carried taken))),
      refl,
    ) in
    record {
      next = record {
        steps = sh.steps ++ LinkByHost call ∷ [];
        t = sessions.host_did sh.t call h;
        leads = leads_on (new_session id) sh.t (sessions.host_did sh.t call h) sh.steps (LinkByHost call ∷ []) sh.leads since;
        terminal_is = sh.terminal_is;
        host_is = refl;
        host_calls_are = ap (λ (c : List Call). c ++ call ∷ []) sh.host_calls_are;
        puts_are = sh.puts_are;
        hands_are = sh.hands_are;
        outs_are = sh.outs_are;
        tied = sh.tied;
      };
      more = LinkByHost call ∷ [];
      since = since;
    }

all_steps : (id : Id) (s : LineSession) (steps : List LineStep) (z : LineSession) → Shadow id s → LineLeads s steps z → Shadow id z
all_steps id s [] z sh leads = subst (Shadow id) (sym leads) sh
all_steps id s (ByLine call ∷ steps) z sh leads =
    all_steps id (line_did s call leads.0) steps z (line_step id s call leads.0 sh leads.1 leads.2).next leads.3
all_steps id s (ByHost call ∷ steps) z sh leads =
    all_steps id (host_did s call leads.0) steps z (host_step id s call leads.0 sh leads.1 leads.2).next leads.3

pub first : (id : Id) (take_over : Bool) (now : ℕ) → Shadow id (new_line_session id take_over now)
first id take_over now =
    record {
      steps = [];
      t = new_session id;
      leads = refl;
      terminal_is = refl;
      host_is = refl;
      host_calls_are = refl;
      puts_are = refl;
      hands_are = refl;
      outs_are = λ a. refl;
      tied = record { newer = λ a more. (refl, refl); stage = refl };
    }

-- so each session of a line is one of two links
pub sessions_are_links : (id : Id) (take_over : Bool) (now : ℕ) (steps : List LineStep) (s : LineSession)
    → LineLeads (new_line_session id take_over now) steps s → Shadow id s
sessions_are_links id take_over now steps s leads = all_steps id (new_line_session id take_over now) steps s (first id take_over now) leads

pub lines_carry : (id : Id) (take_over : Bool) (now : ℕ) (steps : List LineStep) (s : LineSession) → IsId id
    → LineLeads (new_line_session id take_over now) steps s → LineCarries s
lines_carry id take_over now steps s is leads =
    let sh = sessions_are_links id take_over now steps s leads in
    let c = links_carry id sh.steps sh.t is sh.leads in
    record {
      up = subst (λ (x : List Item). StartsWith x (handed s.host_calls)) sh.puts_are
          (subst (λ (h : List Call). StartsWith (put sh.t.terminal_calls) (handed h)) sh.host_calls_are c.up);
      down = subst (λ (x : List Item). StartsWith (put s.host_calls) x) sh.hands_are
          (subst (λ (h : List Call). StartsWith (put h) (handed sh.t.terminal_calls)) sh.host_calls_are c.down);
    }
