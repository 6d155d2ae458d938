-- Two ends of one session find no fault in each other, and keep what the other lacks.
use Rattle.std.proofs.Common.{◌≡◌, ℕ, ◌+◌, ◌-◌, ◌<◌, ◌≤◌, List, [], ◌∷◌, ◌++◌, length, drop, Bool, true, false, None, Some, Ok, Err, Result, IsOk, refl, sym, ap, ◌∙◌, subst, append_assoc, append-nil, arith, true≢false, length-append, length-drop, nat_le, ◌&&◌, ◌⊎◌, inl, inr, ◌≢◌}
use Rattle.std.proofs.Math.Seq.{drop-length}
use Rattle.std.proofs.lemmas.Bool.Decides.{eqb_tells}
use Rattle.std.specs.List.{flat_map}
use Rattle.std.specs.Prelude.{max, min, not, ◌==◌, if◌then◌else◌}
use Rattle.sam_mesg.specs.declared.fault.MesgFault.{MesgFault}
use Rattle.sam_frame.specs.Reading.{IsStream}
use Rattle.sam_frame.specs.Splitting.{Front}
use Rattle.sam_frame.specs.Stream.{FitInTurn, IsOpen, Shows, stream_of}
use Rattle.sam_frame.proofs.Cuttings.{Shows-longer}
use Rattle.sam_frame.proofs.Fronts.{stream_of-append}
use Rattle.sam_frame.proofs.Unique.{one_reading}
use Rattle.sam_link.specs.Calls.{Call, Does, fed, handed, items_in, out, put, waits}
use Rattle.sam_link.specs.Calls.Call.{Answer, Feed, TakeOut, Welcome}
use Rattle.sam_link.specs.End.{AnswersBy, End, TakesOut, WelcomesBy, fault_by_word, is_asking, is_call, is_old, is_resume, is_up, may_send, refusal_of, same_id, welcome_count, welcome_refusal}
use Rattle.sam_link.specs.Feeding.{Feeds, has_room, is_open}
use Rattle.sam_link.specs.Hellos.{IsHello, spelled}
use Rattle.sam_link.specs.Keeping.{MayHave, may_have}
use Rattle.sam_link.specs.Meeting.{CarriedIsAll, ConnectionsAreMade, FindsNoFault, GoodLineDelivers, HaveMet, HonestMeet, IsSpent, LacksAreKept, Sends, TakesIn, to_go}
use Rattle.sam_link.specs.Packets.{Packet, mesg_fault, packets, top_of}
use Rattle.sam_link.specs.Sessions.{ByHost, ByTerminal, IsFrom, IsId, Leads, Session, StartsWith, WasCarried}
use Rattle.sam_link.specs.declared.fault.AnswerFault.{AnswerFault}
use Rattle.sam_link.specs.declared.fault.AnswerFault.TheVariants as answers
use Rattle.sam_link.specs.declared.fault.FeedFault.{FeedFault}
use Rattle.sam_link.specs.declared.fault.FeedFault.TheVariants as feeds
use Rattle.sam_link.specs.declared.fault.WelcomeFault.{WelcomeFault}
use Rattle.sam_link.specs.declared.fault.WelcomeFault.TheVariants as welcomes
use Rattle.sam_link.specs.declared.hello.Hello.{Hello}
use Rattle.sam_link.specs.declared.hello.Id.{Id}
use Rattle.sam_link.specs.declared.hello.Refusal.{Refusal}
use Rattle.sam_link.specs.declared.hello.Refusal.TheVariants.{BadHello, NoSession, OtherSession, OldAttempt, WrongCount}
use Rattle.sam_link.specs.declared.hello.What.TheVariants as word
use Rattle.sam_link.specs.declared.phase.Phase.{Phase}
use Rattle.sam_link.specs.declared.phase.Phase.TheVariants.{Down, Asking, Open}
use Rattle.sam_link.specs.declared.phase.Role.{Role}
use Rattle.sam_link.specs.declared.phase.Role.TheVariants.{Terminal, Host}
use Rattle.sam_link.proofs.HostMoves as host
use Rattle.sam_link.proofs.Joint.{IsCall, Sound}
use Rattle.sam_link.proofs.OwnMoves.{sound_of}
use Rattle.sam_link.proofs.PacketLaws.{front_read, packets_sound}
use Rattle.sam_link.proofs.Packing.{fit_more, same_version, top_more}
use Rattle.sam_link.proofs.SessionLaws.{Holds, all_hold, session_holds, two_roles}
use Rattle.sam_link.proofs.TerminalMoves as terminal
use Rattle.sam_link.proofs.Views.{Own, View, view}

-- ## Streams

written : (ps : List Packet) → FitInTurn packets 1 ps → IsStream packets 1 (stream_of packets ps) ps [] None
written ps p = record { splits = record { whole = sym (append-nil (stream_of packets ps)); fit = p }; ends = tt }

no_fault : (ps qs : List Packet) (shown more : List ℕ) (fault : MesgFault) → FitInTurn packets 1 ps → FitInTurn packets 1 qs
    → stream_of packets ps ≡ (stream_of packets qs ++ shown) ++ more → Shows packets 1 shown fault → ⊥
no_fault ps qs shown more fault p q e s =
    let shows = subst (λ v. Shows packets v (shown ++ more) fault) (sym (same_version qs)) (Shows-longer packets 1 shown more fault s) in
    let read = one_reading packets packets_sound 1 (stream_of packets ps) ps qs [] (shown ++ more) None (Some fault) (written ps p)
    (record { splits = record { whole = e ∙ append_assoc (stream_of packets qs) shown more; fit = q }; ends = shows }) in
    let both : None ≡ Some fault = read.2 in cc

all_read : (ps qs : List Packet) (held : List ℕ) → FitInTurn packets 1 ps → FitInTurn packets 1 qs → stream_of packets ps ≡ stream_of packets qs ++ held → IsOpen packets 1 held → qs ≡ ps
all_read ps qs held p q e s = sym (one_reading packets packets_sound 1 (stream_of packets ps) ps qs [] held None None (written ps p)
    (record { splits = record { whole = e; fit = q }; ends = s })).0

-- a piece that came, after what came before
heard : (qs new : List Packet) (held piece rest : List ℕ) (len : ℕ) (whole : List ℕ) → whole ≡ ((stream_of packets qs ++ held) ++ piece) ++ rest
    → Front packets 1 (held ++ piece) new 1 len → whole ≡ (stream_of packets (qs ++ new) ++ drop len (held ++ piece)) ++ rest
heard qs new held piece rest len whole e front =
    let came : stream_of packets (qs ++ new) ++ drop len (held ++ piece) ≡ (stream_of packets qs ++ held) ++ piece =
    ap (λ l. l ++ drop len (held ++ piece)) (stream_of-append packets qs new) ∙ append_assoc (stream_of packets qs) (stream_of packets new) (drop len (held ++ piece))
    ∙ ap (λ l. stream_of packets qs ++ l) (sym front.splits.whole) ∙ sym (append_assoc (stream_of packets qs) held piece) in
    e ∙ ap (λ l. l ++ rest) (sym came)

not_wrong : (e a : End) (cs ds : List Call) (ps qs rs us new : List Packet) (piece : List ℕ) (len : ℕ) (fault : MesgFault) → Own e cs ps qs → Own a ds rs us
    → StartsWith (stream_of packets rs) ((stream_of packets qs ++ e.held) ++ piece) → Front packets 1 (e.held ++ piece) new 1 len
    → Shows packets 1 (drop len (e.held ++ piece)) fault → ⊥
not_wrong e a cs ds ps qs rs us new piece len fault o p starts front shows =
    no_fault rs (qs ++ new) (drop len (e.held ++ piece)) starts.rest fault p.fit (fit_more qs new o.taken_fit front.splits.fit)
    (heard qs new e.held piece starts.rest len (stream_of packets rs) starts.is front) shows

not_ahead : (e a : End) (cs ds : List Call) (ps qs rs us new : List Packet) (piece : List ℕ) (len : ℕ) → Own e cs ps qs → Own a ds rs us
    → StartsWith (stream_of packets rs) ((stream_of packets qs ++ e.held) ++ piece) → Front packets 1 (e.held ++ piece) new 1 len
    → a.received ≤ e.keeps.base + e.keeps.sent → e.keeps.base + e.keeps.sent < top_of new → ⊥
not_ahead e a cs ds ps qs rs us new piece len o p starts front most ahead =
    let read = front_read rs (qs ++ new) (stream_of packets (qs ++ new) ++ drop len (e.held ++ piece)) starts.rest (drop len (e.held ++ piece)) p.fit
    (heard qs new e.held piece starts.rest len (stream_of packets rs) starts.is front) (record { whole = refl; fit = fit_more qs new o.taken_fit front.splits.fit }) in
    omega (arith, most, ahead, p.top, (ap top_of read.1), (top_more (qs ++ new) read.0), (top_more qs new))

-- ## What is kept

lacks_one : (a b : End) (cs ds : List Call) (ps qs rs us : List Packet) → Own a cs ps qs → Own b ds rs us → StartsWith (stream_of packets ps) (stream_of packets us ++ b.held)
    → a.keeps.base ≤ b.received → MayHave a.keeps b.received
lacks_one a b cs ds ps qs rs us o p front least =
    (least, omega (arith, o.long, p.came, (ap length front.is), (length-append (stream_of packets us ++ b.held) front.rest)))

pub lacks_are_kept : LacksAreKept
lacks_are_kept id steps s fine leads =
    let x = session_holds id steps s fine leads in
    record {
      terminal_keeps = record { all = x.up_put; fit = x.own_t.fit; put_are = x.own_t.puts; kept_is = x.own_t.kept };
      host_keeps = record { all = x.down_put; fit = x.own_h.fit; put_are = x.own_h.puts; kept_is = x.own_h.kept };
      up = lacks_one s.terminal s.host s.terminal_calls s.host_calls x.up_put x.down_taken x.down_put x.up_taken x.own_t x.own_h x.joint.came_h x.joint.base_t;
      down = lacks_one s.host s.terminal s.host_calls s.terminal_calls x.down_put x.up_taken x.up_put x.down_taken x.own_h x.own_t x.joint.came_t x.joint.base_h;
    }

-- what comes is all that there is
all_went : (went hello stream head : List ℕ) (start given : ℕ) → went ++ (hello ++ drop given stream) ≡ head ++ drop start stream → length head ≡ 42 → hello ≡ []
    → given ≡ length stream → start ≤ length stream → start + length (drop 42 went) ≡ length stream
all_went went hello stream head start given e long none all inside = omega (
  arith,
  long,
  all,
  inside,
  (ap length none),
  (ap length e),
  (length-append went (hello ++ drop given stream)),
  (length-append hello (drop given stream)),
  (length-append head (drop start stream)),
  (length-drop given stream),
  (length-drop start stream),
  (length-drop 42 went),
)

nothing_left : (came rest : List ℕ) → length (came ++ rest) ≡ length came → rest ≡ []
nothing_left came [] e = refl
nothing_left came (x ∷ rest) e = absurd (omega (arith, e, (length-append came (x ∷ rest))))

taken_all : (a b : End) (cs ds : List Call) (ps qs rs us : List Packet) → Own a cs ps qs → Own b ds rs us → StartsWith (stream_of packets ps) (stream_of packets us ++ b.held)
    → b.received ≡ length (stream_of packets ps) → us ≡ ps
taken_all a b cs ds ps qs rs us o p front all =
    let none : front.rest ≡ [] = nothing_left (stream_of packets us ++ b.held) front.rest (omega (arith, all, p.came, (ap length front.is))) in
    all_read ps us b.held o.fit p.taken_fit (front.is ∙ ap (λ l. (stream_of packets us ++ b.held) ++ l) none ∙ append-nil (stream_of packets us ++ b.held)) p.unread

items_all : (a b : End) (cs ds : List Call) (ps qs rs us : List Packet) → Own a cs ps qs → Own b ds rs us → us ≡ ps → put cs ≡ handed ds ++ waits b.waiting
items_all a b cs ds ps qs rs us o p same = o.puts ∙ ap (λ l. flat_map items_in l) (sym same) ∙ sym p.handed

-- the other end has told of all but so much
short_one : (a b : End) (cs ds : List Call) (ps qs rs us : List Packet) (start : ℕ) → Own a cs ps qs → Own b ds rs us → b.received ≡ length (stream_of packets ps)
    → qs ≡ rs → b.told ≤ max (top_of rs) start → start ≤ a.keeps.base → has_room b.keeps 11 ≡ true → length a.keeps.kept < 16384
short_one a b cs ds ps qs rs us start o p all same told least room =
    omega (arith, o.long, all, told, least, (p.short room), o.acked, (ap top_of same))

open_sends : (p : Phase) (n : ℕ) → is_open p ≡ true → may_send p n ≡ true
open_sends Down n e = e
open_sends Asking n e = absurd (true≢false (sym e))
open_sends Open n e = refl

-- the host has got all that the terminal put
up_length : (id : Id) (s : Session) (x : Holds id s) → s.host.attempt ≡ s.terminal.attempt → IsSpent s.terminal
    → fed s.host.attempt s.host_calls ≡ drop 42 (out s.host.attempt s.terminal_calls) → s.host.received ≡ length (stream_of packets x.up_put)
up_length id s x here spent all =
    let j = x.joint in
    omega (
      arith,
      j.up.count,
      (ap length all),
      (all_went (out s.host.attempt s.terminal_calls) s.terminal.hello (stream_of packets x.up_put) (spelled j.call) j.start (s.terminal.keeps.base + s.terminal.keeps.sent)
          (subst (λ n. out n s.terminal_calls ++ (s.terminal.hello ++ drop (s.terminal.keeps.base + s.terminal.keeps.sent) (stream_of packets x.up_put))
          ≡ spelled j.call ++ drop j.start (stream_of packets x.up_put)) (sym here) (j.sends_t (open_sends s.terminal.phase s.terminal.attempt spent.is_open))) refl spent.no_hello
          (omega (arith, spent.none_kept_back, x.own_t.long)) j.up.inside),
    )

down_length : (id : Id) (s : Session) (x : Holds id s) → s.host.attempt ≡ s.terminal.attempt → IsSpent s.host
    → fed s.terminal.attempt s.terminal_calls ≡ drop 42 (out s.terminal.attempt s.host_calls) → s.terminal.received ≡ length (stream_of packets x.down_put)
down_length id s x here spent all =
    let j = x.joint in
    let line = j.down here in
    omega (
      arith,
      line.count,
      (ap length (subst (λ n. fed n s.terminal_calls ≡ drop 42 (out n s.host_calls)) (sym here) all)),
      (all_went (out s.host.attempt s.host_calls) s.host.hello (stream_of packets x.down_put) (spelled j.welcome) j.from (s.host.keeps.base + s.host.keeps.sent)
          (j.sends_h spent.is_open) refl spent.no_hello
          (omega (arith, spent.none_kept_back, x.own_h.long)) j.from_in),
    )

up_taken_all : (id : Id) (s : Session) (x : Holds id s) → s.host.received ≡ length (stream_of packets x.up_put) → x.up_taken ≡ x.up_put
up_taken_all id s x long =
    taken_all s.terminal s.host s.terminal_calls s.host_calls x.up_put x.down_taken x.down_put x.up_taken x.own_t x.own_h x.joint.came_h long

down_taken_all : (id : Id) (s : Session) (x : Holds id s) → s.terminal.received ≡ length (stream_of packets x.down_put) → x.down_taken ≡ x.down_put
down_taken_all id s x long =
    taken_all s.host s.terminal s.host_calls s.terminal_calls x.down_put x.up_taken x.up_put x.down_taken x.own_h x.own_t x.joint.came_t long

up_items : (id : Id) (s : Session) (x : Holds id s) → x.up_taken ≡ x.up_put → put s.terminal_calls ≡ handed s.host_calls ++ waits s.host.waiting
up_items id s x all = items_all s.terminal s.host s.terminal_calls s.host_calls x.up_put x.down_taken x.down_put x.up_taken x.own_t x.own_h all

down_items : (id : Id) (s : Session) (x : Holds id s) → x.down_taken ≡ x.down_put → put s.host_calls ≡ handed s.terminal_calls ++ waits s.terminal.waiting
down_items id s x all = items_all s.host s.terminal s.host_calls s.terminal_calls x.down_put x.up_taken x.up_put x.down_taken x.own_h x.own_t all

pub carried_is_all : CarriedIsAll
carried_is_all id steps s fine leads c =
    let x = session_holds id steps s fine leads in
    let j = x.joint in
    let here : s.host.attempt ≡ s.terminal.attempt = j.open_t c.terminal_spent.is_open in
    let up_len = up_length id s x here c.terminal_spent c.up in
    let down_len = down_length id s x here c.host_spent c.down in
    let up_all = up_taken_all id s x up_len in
    let down_all = down_taken_all id s x down_len in
    record {
      up = up_items id s x up_all;
      down = down_items id s x down_all;
      kept_up = λ room. short_one s.terminal s.host s.terminal_calls s.host_calls x.up_put x.down_taken x.down_put x.up_taken j.start x.own_t x.own_h up_len down_all
          j.told_h (j.start_in c.terminal_spent.is_open) room;
      kept_down = λ room. short_one s.host s.terminal s.host_calls s.terminal_calls x.down_put x.up_taken x.up_put x.down_taken j.from x.own_h x.own_t down_len up_all
          (j.told_t here) j.from_base room;
    }

-- ## What is refused

within : (low mid high : ℕ) → low ≤ mid → mid ≤ high → (nat_le low mid && nat_le mid high) ≡ true
within low mid high l h = grind (arith, l, h)

same : (a b : Id) → a ≡ b → same_id a b ≡ true
same a b e = grind (arith, e)

goes_on_so : (resume known : Bool) → (resume ≡ true → known ≡ true) → (resume && not known) ≡ false
goes_on_so true true so = refl
goes_on_so true false so = absurd (true≢false (sym (so refl)))
goes_on_so false known so = refl

checks : (a b c d f : Bool) (why : Refusal) → a ≡ true → b ≡ false → c ≡ true → (d ≡ false → f ≡ true)
    → (if not a then Some BadHello else if b then Some NoSession else if not c then Some OtherSession else if d then Some OldAttempt else if not f then Some WrongCount else None)
    ≡ Some why → why ≡ OldAttempt
checks true false true true f why one two three four e = cc
checks true false true false true why one two three four e = cc
checks true false true false false why one two three four e = absurd (true≢false (sym (four refl)))
checks false b c d f why one two three four e = absurd (true≢false (sym one))
checks true true c d f why one two three four e = absurd (true≢false two)
checks true false false d f why one two three four e = absurd (true≢false (sym three))

only_old : (id : Id) (t h : View) (e : End) (g : Hello) (why : Refusal) → e.id ≡ id → e.attempt ≡ h.attempt → IsCall id e.is_known e.attempt t.received g.attempt g
    → MayHave e.keeps t.received → refusal_of e g ≡ Some why → why ≡ OldAttempt
only_old id t h e g why named here c counted is =
    checks (is_call g.what) (is_resume g.what && not e.is_known) (same_id e.id g.id) (is_old e g) (may_have e.keeps g.received) why
    c.word (goes_on_so (is_resume g.what) e.is_known c.goes_on) (same e.id g.id (named ∙ sym c.id_is))
    (λ later. let all : g.received ≡ t.received = c.recent (grind (arith, later)) in
    within e.keeps.base g.received (e.keeps.base + length e.keeps.kept) (omega (arith, all, counted.0)) (omega (arith, all, counted.1)))
    is

welcome_checks : (c d f : Bool) (fault : WelcomeFault) → c ≡ true → (d ≡ true → f ≡ true)
    → (if not c then Some (welcomes.Here OtherSession) else if not d then Some (welcomes.Here OldAttempt) else if not f then Some (welcomes.Here WrongCount) else None) ≡ Some fault
    → fault ≡ welcomes.Here OldAttempt
welcome_checks true true true fault one two e = cc
welcome_checks true true false fault one two e = absurd (true≢false (sym (two refl)))
welcome_checks true false f fault one two e = cc
welcome_checks false d f fault one two e = absurd (true≢false (sym one))

not_asked : (b : Bool) (e : End) (x : Hello) (fault : WelcomeFault) → x.what ≡ word.Welcome → (if b then fault_by_word e x x.what else Some welcomes.NotOpen) ≡ Some fault
    → (fault ≡ welcomes.NotOpen) ⊎ ((b ≡ true) × (welcome_refusal e x ≡ Some fault))
not_asked true e x fault word is = inr (refl, subst (λ w. fault_by_word e x w ≡ Some fault) word is)
not_asked false e x fault word is = inl cc

counts : (e : End) (count : ℕ) → (e.attempt ≡ 1 → count ≡ 0) → (e.attempt ≢ 1 → MayHave e.keeps count) → welcome_count e count ≡ true
counts e count one other = elim (eqb_tells e.attempt 1) [
  | inl first ↦ rw (first.0) (let zero : count ≡ 0 = one first.1 in grind (arith, zero))
  | inr later ↦ rw (later.0) (within e.keeps.base count (e.keeps.base + length e.keeps.kept) (other later.1).0 (other later.1).1)
]

-- the two faults that there may be
old_or_over : (x : Hello) (fault : WelcomeFault) → (fault ≡ welcomes.NotOpen) ⊎ (fault ≡ welcomes.Here OldAttempt) → FindsNoFault (Welcome x (Err fault))
old_or_over x welcomes.WrongRole e = tt
old_or_over x welcomes.NotOpen e = tt
old_or_over x (welcomes.ByHost why) (inl e) = cc
old_or_over x (welcomes.ByHost why) (inr e) = cc
old_or_over x (welcomes.Here why) (inl e) = cc
old_or_over x (welcomes.Here why) (inr e) = cc

both : (a b : Bool) → (a && b) ≡ true → (a ≡ true) × (b ≡ true)
both true true e = (refl, refl)
both true false e = absurd (true≢false (sym e))
both false b e = absurd (true≢false (sym e))

module _ (id : Id) (s : Session) (x : Holds id s) (next : End) where
  abbrev t : View
  t = view s.terminal s.terminal_calls x.up_put x.down_taken

  abbrev h : View
  h = view s.host s.host_calls x.down_put x.up_taken

  sound_t : Sound t
  sound_t = sound_of s.terminal s.terminal_calls x.up_put x.down_taken x.own_t

  sound_h : Sound h
  sound_h = sound_of s.host s.host_calls x.down_put x.up_taken x.own_h

  kept_down : MayHave s.host.keeps s.terminal.received
  kept_down = lacks_one s.host s.terminal s.host_calls s.terminal_calls x.down_put x.up_taken x.up_put x.down_taken x.own_h x.own_t x.joint.came_t x.joint.base_h

  -- ## The host

  answer_met : (role : Role) (g : Hello) (answer : Result (Unit {0}) AnswerFault) → s.host.role ≡ role → AnswersBy role s.host g answer next → IsFrom s.terminal_calls g
      → FindsNoFault (Answer g answer)
  answer_met Host g (Err (answers.Refused why)) r d from =
      only_old id t h s.host g why x.id_h refl (x.joint.hellos_t g.attempt g from.0 from.1) kept_down d.0
  answer_met Terminal g (Err (answers.Refused why)) r d from = absurd d
  answer_met role g (Err answers.WrongRole) r d from = tt
  answer_met role g (Ok done) r d from = tt

  welcome_host : (role : Role) (g : Hello) (answer : Result (Unit {0}) WelcomeFault) → s.host.role ≡ role → WelcomesBy role s.host g answer next → FindsNoFault (Welcome g answer)
  welcome_host Host g (Err welcomes.WrongRole) r d = tt
  welcome_host Host g (Err welcomes.NotOpen) r d = tt
  welcome_host Host g (Err (welcomes.ByHost why)) r d = absurd d
  welcome_host Host g (Err (welcomes.Here why)) r d = absurd d
  welcome_host role g (Ok done) r d = tt
  welcome_host Terminal g answer r d = absurd (two_roles (sym r ∙ x.role_h))

  feed_host : (attempt : ℕ) (piece : List ℕ) (answer : Result (Unit {0}) FeedFault) → Feeds s.host attempt piece answer next
      → StartsWith (drop 42 (out attempt s.terminal_calls)) (fed attempt s.host_calls ++ piece) → FindsNoFault (Feed attempt piece answer)
  feed_host attempt piece (Err (feeds.Wrong fault)) (new, len, may, front, shows, is) carried =
      let opened : (is_open s.host.phase ≡ true) × ((attempt == s.host.attempt) ≡ true) = both (is_open s.host.phase) (attempt == s.host.attempt) may.0 in
      let here : attempt ≡ s.host.attempt = grind (arith, opened.1) in
      not_wrong s.host s.terminal s.host_calls s.terminal_calls x.down_put x.up_taken x.up_put x.down_taken new piece len (mesg_fault fault) x.own_h x.own_t
      (host.came_front id t h piece sound_h x.joint (subst (λ n. StartsWith (drop 42 (out n s.terminal_calls)) (fed n s.host_calls ++ piece)) here carried)) front shows
  feed_host attempt piece (Err feeds.AckAhead) (new, len, may, front, unread, ahead, is) carried =
      let opened : (is_open s.host.phase ≡ true) × ((attempt == s.host.attempt) ≡ true) = both (is_open s.host.phase) (attempt == s.host.attempt) may.0 in
      let here : attempt ≡ s.host.attempt = grind (arith, opened.1) in
      not_ahead s.host s.terminal s.host_calls s.terminal_calls x.down_put x.up_taken x.up_put x.down_taken new piece len x.own_h x.own_t
      (host.came_front id t h piece sound_h x.joint (subst (λ n. StartsWith (drop 42 (out n s.terminal_calls)) (fed n s.host_calls ++ piece)) here carried)) front
      (x.joint.ahead_h opened.0) ahead
  feed_host attempt piece answer d carried = tt

  pub host_met : (c : Call) → Does s.host c next → WasCarried s.host_calls s.terminal_calls c → FindsNoFault c
  host_met (Answer g answer) d carried = answer_met s.host.role g answer refl d carried
  host_met (Welcome g answer) d carried = welcome_host s.host.role g answer refl d
  host_met (Feed attempt piece answer) d carried = feed_host attempt piece answer d carried
  host_met c d carried = tt

  -- ## The terminal

  answer_term : (role : Role) (g : Hello) (answer : Result (Unit {0}) AnswerFault) → s.terminal.role ≡ role → AnswersBy role s.terminal g answer next → FindsNoFault (Answer g answer)
  answer_term Terminal g (Err (answers.Refused why)) r d = absurd d
  answer_term Host g answer r d = absurd (two_roles (sym x.role_t ∙ r))
  answer_term role g (Err answers.WrongRole) r d = tt
  answer_term role g (Ok done) r d = tt

  now_counts : (y : Hello) → is_asking s.terminal.phase ≡ true → IsHello y → StartsWith (h.went t.attempt) (spelled y) → y.attempt ≡ t.attempt → welcome_count s.terminal y.received ≡ true
  now_counts y asking is carried numbered =
      let from : y.received ≡ x.joint.start = terminal.at_start id t h y x.joint is carried in
      let here : h.attempt ≡ t.attempt = terminal.answered_here id t h y x.joint carried in
      let zero : (t.attempt ≡ 1 → y.received ≡ 0) = λ one. from ∙ x.joint.begins (omega (arith, one, here)) in
      counts s.terminal y.received zero (λ other.
      let came : h.received ≡ x.joint.start = terminal.nothing_read id t h y sound_t x.joint asking is numbered carried zero other in
      (omega (arith, from, came, x.joint.base_t), omega (arith, from, x.joint.up.inside, x.own_t.long)))

  welcome_met : (role : Role) (y : Hello) (answer : Result (Unit {0}) WelcomeFault) → s.terminal.role ≡ role → WelcomesBy role s.terminal y answer next → IsFrom s.host_calls y
      → FindsNoFault (Welcome y answer)
  welcome_met Terminal y (Err fault) r d from =
      let said = x.joint.hellos_h y.attempt y from.0 from.1 in
      old_or_over y fault (elim (not_asked (is_asking s.terminal.phase) s.terminal y fault said.word d.0) [
        | inl over ↦ inl over
        | inr here ↦ inr (welcome_checks (same_id s.terminal.id y.id) (y.attempt == s.terminal.attempt) (welcome_count s.terminal y.received) fault
            (same s.terminal.id y.id (x.id_t ∙ sym said.id_is))
            (λ e. let numbered : y.attempt ≡ s.terminal.attempt = grind (arith, e) in
            now_counts y here.0 from.0 (subst (λ n. StartsWith (h.went n) (spelled y)) numbered from.1) numbered)
            here.1)
      ])
  welcome_met role y (Ok done) r d from = tt
  welcome_met Host y answer r d from = absurd (two_roles (sym x.role_t ∙ r))

  feed_term : (attempt : ℕ) (piece : List ℕ) (answer : Result (Unit {0}) FeedFault) → Feeds s.terminal attempt piece answer next
      → StartsWith (drop 42 (out attempt s.host_calls)) (fed attempt s.terminal_calls ++ piece) → FindsNoFault (Feed attempt piece answer)
  feed_term attempt piece (Err (feeds.Wrong fault)) (new, len, may, front, shows, is) carried =
      let opened : (is_open s.terminal.phase ≡ true) × ((attempt == s.terminal.attempt) ≡ true) = both (is_open s.terminal.phase) (attempt == s.terminal.attempt) may.0 in
      let here : attempt ≡ s.terminal.attempt = grind (arith, opened.1) in
      not_wrong s.terminal s.host s.terminal_calls s.host_calls x.up_put x.down_taken x.down_put x.up_taken new piece len (mesg_fault fault) x.own_t x.own_h
      (terminal.came_front id t h piece sound_t x.joint opened.0 (subst (λ n. StartsWith (drop 42 (out n s.host_calls)) (fed n s.terminal_calls ++ piece)) here carried)) front shows
  feed_term attempt piece (Err feeds.AckAhead) (new, len, may, front, unread, ahead, is) carried =
      let opened : (is_open s.terminal.phase ≡ true) × ((attempt == s.terminal.attempt) ≡ true) = both (is_open s.terminal.phase) (attempt == s.terminal.attempt) may.0 in
      let here : attempt ≡ s.terminal.attempt = grind (arith, opened.1) in
      not_ahead s.terminal s.host s.terminal_calls s.host_calls x.up_put x.down_taken x.down_put x.up_taken new piece len x.own_t x.own_h
      (terminal.came_front id t h piece sound_t x.joint opened.0 (subst (λ n. StartsWith (drop 42 (out n s.host_calls)) (fed n s.terminal_calls ++ piece)) here carried)) front
      (x.joint.ahead_t (open_sends s.terminal.phase s.terminal.attempt opened.0)) ahead
  feed_term attempt piece answer d carried = tt

  pub terminal_met : (c : Call) → Does s.terminal c next → WasCarried s.terminal_calls s.host_calls c → FindsNoFault c
  terminal_met (Answer g answer) d carried = answer_term s.terminal.role g answer refl d
  terminal_met (Welcome g answer) d carried = welcome_met s.terminal.role g answer refl d carried
  terminal_met (Feed attempt piece answer) d carried = feed_term attempt piece answer d carried
  terminal_met c d carried = tt

pub honest_meet : HonestMeet
honest_meet id steps s call next fine leads =
    let x = session_holds id steps s fine leads in
    (λ d carried. terminal_met id s x next call d carried, λ d carried. host_met id s x next call d carried)

-- ## A good line

open_up : (p : Phase) → is_open p ≡ true → is_up p ≡ true
open_up Down e = e
open_up Asking e = refl
open_up Open e = refl

self_same : (a : Bool) (n : ℕ) → a ≡ true → (a && (n == n)) ≡ true
self_same a n e = grind (arith, e)

sends : (e : End) → is_open e.phase ≡ true → Sends e
sends e opened old new (Ok count) n does = refl
sends e opened old new (Err why) n does = absurd (true≢false (sym (self_same (is_up e.phase) e.attempt (open_up e.phase opened)) ∙ does.0))

takes : (e : End) (mine theirs : List Call) → is_open e.phase ≡ true
    → ((piece : List ℕ) (answer : Result (Unit {0}) FeedFault) (n : End) → Does e (Feed e.attempt piece answer) n → WasCarried mine theirs (Feed e.attempt piece answer) → FindsNoFault (Feed e.attempt piece answer))
    → TakesIn e mine theirs
takes e mine theirs opened fine piece (Ok done) n does carried = tt
takes e mine theirs opened fine piece (Err feeds.OutOfMemory) n does carried = tt
takes e mine theirs opened fine piece (Err feeds.CountFull) n does carried = does.1
takes e mine theirs opened fine piece (Err feeds.NotOpen) n does carried = absurd (true≢false (sym (self_same (is_open e.phase) e.attempt opened) ∙ does.0))
takes e mine theirs opened fine piece (Err (feeds.Wrong fault)) n does carried = fine piece (Err (feeds.Wrong fault)) n does carried
takes e mine theirs opened fine piece (Err feeds.AckAhead) n does carried = fine piece (Err feeds.AckAhead) n does carried

drop_all : (l : List ℕ) (room : ℕ) → length l ≤ room → drop (min (length l) room) l ≡ []
drop_all l room fits = let all : min (length l) room ≡ length l = omega (arith, fits) in ap (λ n. drop n l) all ∙ drop-length l

sent_all : (b : Bool) (kept sent hello room : ℕ) → b ≡ true → sent ≤ kept → hello + (kept - sent) ≤ room
    → sent + (if b then min (kept - sent) (room - min hello room) else 0) ≡ kept
sent_all true kept sent hello room e inside fits = omega (arith, inside, fits)
sent_all false kept sent hello room e inside fits = absurd (true≢false (sym e))

spent : (e n : End) (attempt : ℕ) (old new : List ℕ) (count : ℕ) → is_open e.phase ≡ true → e.keeps.sent ≤ length e.keeps.kept → to_go e ≤ length old
    → TakesOut e attempt old (Ok count) new n → IsSpent n
spent e n attempt old new count opened inside fits does =
    subst IsSpent (sym does.4)
    (record {
      is_open = opened;
      no_hello = drop_all e.hello (length old) (omega (arith, fits));
      none_kept_back = sent_all (may_send e.phase e.attempt) (length e.keeps.kept) e.keeps.sent (length e.hello) (length old) (open_sends e.phase e.attempt opened) inside fits;
    })

comes_up : (id : Id) (s z : Session) (old new piece : List ℕ) (count : ℕ) → IsId id → Holds id s → HaveMet s → to_go s.terminal ≤ length old
    → Leads s (ByTerminal (TakeOut s.terminal.attempt old (Ok count) new) ∷ ByHost (Feed s.host.attempt piece (Ok tt)) ∷ []) z
    → fed s.host.attempt z.host_calls ≡ drop 42 (out s.host.attempt z.terminal_calls) → put z.terminal_calls ≡ handed z.host_calls ++ waits z.host.waiting
comes_up id s z old new piece count fine x met fits leads all =
    let y = all_hold id (ByTerminal (TakeOut s.terminal.attempt old (Ok count) new) ∷ ByHost (Feed s.host.attempt piece (Ok tt)) ∷ []) s z fine x leads in
    let gone = spent s.terminal leads.0 s.terminal.attempt old new count met.terminal_open x.own_t.inside fits leads.1 in
    let end = leads.3.3 in
    let same_t : z.terminal.attempt ≡ s.terminal.attempt = ap (λ (k : Session). k.terminal.attempt) end ∙ ap (λ (e : End). e.attempt) leads.1.4 in
    let same_h : z.host.attempt ≡ s.host.attempt = ap (λ (k : Session). k.host.attempt) end ∙ ap (λ (e : End). e.attempt) leads.3.1.6 in
    let spent_now : IsSpent z.terminal = subst IsSpent (sym (ap (λ (k : Session). k.terminal) end)) gone in
    up_items id z y (up_taken_all id z y (up_length id z y (same_h ∙ met.is_one ∙ sym same_t) spent_now
    (subst (λ n. fed n z.host_calls ≡ drop 42 (out n z.terminal_calls)) (sym same_h) all)))

comes_down : (id : Id) (s z : Session) (old new piece : List ℕ) (count : ℕ) → IsId id → Holds id s → HaveMet s → to_go s.host ≤ length old
    → Leads s (ByHost (TakeOut s.host.attempt old (Ok count) new) ∷ ByTerminal (Feed s.terminal.attempt piece (Ok tt)) ∷ []) z
    → fed s.terminal.attempt z.terminal_calls ≡ drop 42 (out s.terminal.attempt z.host_calls) → put z.host_calls ≡ handed z.terminal_calls ++ waits z.terminal.waiting
comes_down id s z old new piece count fine x met fits leads all =
    let y = all_hold id (ByHost (TakeOut s.host.attempt old (Ok count) new) ∷ ByTerminal (Feed s.terminal.attempt piece (Ok tt)) ∷ []) s z fine x leads in
    let gone = spent s.host leads.0 s.host.attempt old new count met.host_open x.own_h.inside fits leads.1 in
    let end = leads.3.3 in
    let same_h : z.host.attempt ≡ s.host.attempt = ap (λ (k : Session). k.host.attempt) end ∙ ap (λ (e : End). e.attempt) leads.1.4 in
    let same_t : z.terminal.attempt ≡ s.terminal.attempt = ap (λ (k : Session). k.terminal.attempt) end ∙ ap (λ (e : End). e.attempt) leads.3.1.6 in
    let spent_now : IsSpent z.host = subst IsSpent (sym (ap (λ (k : Session). k.host) end)) gone in
    down_items id z y (down_taken_all id z y (down_length id z y (same_h ∙ met.is_one ∙ sym same_t) spent_now
    (subst (λ n. fed n z.terminal_calls ≡ drop 42 (out n z.host_calls)) (sym same_t) all)))

pub good_line_delivers : GoodLineDelivers
good_line_delivers id steps s fine leads met =
    let x = session_holds id steps s fine leads in (
      record {
        sends = sends s.terminal met.terminal_open;
        takes = takes s.host s.host_calls s.terminal_calls met.host_open (λ piece answer n does carried. host_met id s x n (Feed s.host.attempt piece answer) does carried);
        all_comes = λ z old new piece count fits turn all. comes_up id s z old new piece count fine x met fits turn all;
      },
      record {
        sends = sends s.host met.host_open;
        takes = takes s.terminal s.terminal_calls s.host_calls met.terminal_open (λ piece answer n does carried. terminal_met id s x n (Feed s.terminal.attempt piece answer) does carried);
        all_comes = λ z old new piece count fits turn all. comes_down id s z old new piece count fine x met fits turn all;
      },
    )

-- ## Connections are made

not_old : (a b c d f : Bool) → d ≡ false
    → (if not a then Some BadHello else if b then Some NoSession else if not c then Some OtherSession else if d then Some OldAttempt else if not f then Some WrongCount else None)
    ≡ Some OldAttempt → ⊥
not_old true false true false true newer e = cc
not_old true false true false false newer e = cc
not_old true false true true f newer e = absurd (true≢false newer)
not_old false b c d f newer e = cc
not_old true true c d f newer e = cc
not_old true false false d f newer e = cc

none_here : (c d f : Bool) (fault : WelcomeFault) → c ≡ true → d ≡ true → f ≡ true
    → (if not c then Some (welcomes.Here OtherSession) else if not d then Some (welcomes.Here OldAttempt) else if not f then Some (welcomes.Here WrongCount) else None) ≡ Some fault
    → ⊥
none_here true true true fault one two three e = cc
none_here false d f fault one two three e = absurd (true≢false (sym one))
none_here true false f fault one two three e = absurd (true≢false (sym two))
none_here true true false fault one two three e = absurd (true≢false (sym three))

asked_so : (b : Bool) (e : End) (x : Hello) (fault : WelcomeFault) → b ≡ true → x.what ≡ word.Welcome → (if b then fault_by_word e x x.what else Some welcomes.NotOpen) ≡ Some fault
    → welcome_refusal e x ≡ Some fault
asked_so true e x fault asking word is = subst (λ w. fault_by_word e x w ≡ Some fault) word is
asked_so false e x fault asking word is = absurd (true≢false (sym asking))

is_newer : (e : End) (g : Hello) → e.attempt < g.attempt → is_old e g ≡ false
is_newer e g l = grind (arith, l)

self_numbered : (a b : ℕ) → a ≡ b → (a == b) ≡ true
self_numbered a b e = grind (arith, e)

module _ (id : Id) (s : Session) (x : Holds id s) (next : End) where
  pub newer_taken : (role : Role) (g : Hello) (answer : Result (Unit {0}) AnswerFault) → s.host.role ≡ role → s.host.attempt < g.attempt → AnswersBy role s.host g answer next
      → IsFrom s.terminal_calls g → IsOk answer
  newer_taken Host g (Ok done) r newer d from = refl
  newer_taken Host g (Err answers.WrongRole) r newer d from = absurd d
  newer_taken Host g (Err (answers.Refused why)) r newer d from =
      let old : why ≡ OldAttempt = answer_met id s x next Host g (Err (answers.Refused why)) r d from in
      absurd (not_old (is_call g.what) (is_resume g.what && not s.host.is_known) (same_id s.host.id g.id) (is_old s.host g) (may_have s.host.keeps g.received)
      (is_newer s.host g newer) (d.0 ∙ ap (λ (k : Refusal). Some k) old))
  newer_taken Terminal g answer r newer d from = absurd (two_roles (sym r ∙ x.role_h))

  pub waited_for : (role : Role) (y : Hello) (answer : Result (Unit {0}) WelcomeFault) → s.terminal.role ≡ role → is_asking s.terminal.phase ≡ true → y.attempt ≡ s.terminal.attempt
      → WelcomesBy role s.terminal y answer next → IsFrom s.host_calls y → IsOk answer
  waited_for Terminal y (Ok done) r asking numbered d from = refl
  waited_for Terminal y (Err fault) r asking numbered d from =
      let said = x.joint.hellos_h y.attempt y from.0 from.1 in
      absurd (none_here (same_id s.terminal.id y.id) (y.attempt == s.terminal.attempt) (welcome_count s.terminal y.received) fault
      (same s.terminal.id y.id (x.id_t ∙ sym said.id_is)) (self_numbered y.attempt s.terminal.attempt numbered)
      (now_counts id s x next y asking from.0 (subst (λ n. StartsWith (out n s.host_calls) (spelled y)) numbered from.1) numbered)
      (asked_so (is_asking s.terminal.phase) s.terminal y fault asking said.word d.0))
  waited_for Host y answer r asking numbered d from = absurd (two_roles (sym x.role_t ∙ r))

pub connections_are_made : ConnectionsAreMade
connections_are_made id steps s fine leads =
    let x = session_holds id steps s fine leads in
    record {
      newer = x.joint.order;
      taken = λ hello answer n newer does from. newer_taken id s x n s.host.role hello answer refl newer does from;
      welcome = λ hello answer n asking numbered does from. waited_for id s x n s.terminal.role hello answer refl asking numbered does from;
    }
