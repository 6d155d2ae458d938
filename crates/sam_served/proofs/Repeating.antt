-- What is made of a journal.
use Rattle.std.proofs.Common.{◌≡◌, inr, ℕ, ◌+◌, ◌≤◌, length, List, [], ◌∷◌, ◌++◌, drop, Bool, true, false, ◌&&◌, None, Option, Result, Ok, Err, refl, sym, ap, ◌∙◌, subst, arith, true≢false}
use Rattle.std.specs.List.{flat_map}
use Rattle.std.specs.Prelude.{◌==◌, if◌then◌else◌}
use Rattle.sam_mesg.specs.Spelling.{eight, frame}
use Rattle.sam_frame.specs.Splitting.{Front}
use Rattle.sam_frame.specs.Stream.{IsOpen, stream_of}
use Rattle.sam_link.specs.Calls.{Acknowledges, Call, Does, DoesAll}
use Rattle.sam_link.specs.Calls.Call.{Acknowledge, Answer, Ask, Break, Dial, Feed, NextNote, Put, PutNote, TakeIn, TakeOut, Welcome}
use Rattle.sam_link.specs.End.{AnswersBy, CallsBy, End, TakesOut, WelcomesBy, answered, ended, fresh, refusal_of}
use Rattle.sam_link.specs.Feeding.{Feeds, MayFeed, PutsNote, fed, is_open, owes, tells}
use Rattle.sam_link.specs.Inbox.{GivesNote, Waiting, left_of}
use Rattle.sam_link.specs.Keeping.{HasRoom, Keeps, Puts, acknowledged, put}
use Rattle.sam_link.specs.Packets.{Packet, packets, top_of}
use Rattle.sam_link.specs.Putting.{data_stream}
use Rattle.sam_link.specs.declared.fault.AnswerFault.{AnswerFault}
use Rattle.sam_link.specs.declared.fault.AnswerFault.TheVariants as answers
use Rattle.sam_link.specs.declared.fault.CallFault.{CallFault}
use Rattle.sam_link.specs.declared.fault.CallFault.TheVariants as calls
use Rattle.sam_link.specs.declared.fault.FeedFault.{FeedFault}
use Rattle.sam_link.specs.declared.fault.FeedFault.TheVariants as feeds
use Rattle.sam_link.specs.declared.fault.NotOpen.{NotOpen}
use Rattle.sam_link.specs.declared.fault.NoteFault.{NoteFault}
use Rattle.sam_link.specs.declared.fault.NoteFault.TheVariants as notes
use Rattle.sam_link.specs.declared.fault.WelcomeFault.{WelcomeFault}
use Rattle.sam_link.specs.declared.fault.WelcomeFault.TheVariants as welcomes
use Rattle.sam_link.specs.declared.hello.Hello.{Hello}
use Rattle.sam_link.specs.declared.hello.Id.{Id}
use Rattle.sam_link.specs.declared.keeping.PutFault.{PutFault}
use Rattle.sam_link.specs.declared.keeping.PutFault.TheVariants as puts
use Rattle.sam_link.specs.declared.phase.Phase.{Phase}
use Rattle.sam_link.specs.declared.phase.Phase.TheVariants.{Asking, Down, Open}
use Rattle.sam_link.specs.declared.phase.Role.{Role}
use Rattle.sam_link.specs.declared.phase.Role.TheVariants.{Terminal, Host}
use Rattle.sam_link.proofs.Packing.{ack_if, told_keeps}
use Rattle.sam_link.proofs.SessionLaws.{two_roles}
use Rattle.sam_served.specs.Crashes.{AreLike, LedTo, Recovers, Repeats, all_given, in_journal, over}
use Rattle.sam_served.proofs.Gates.{Fine, still_fine}
use Rattle.sam_server.specs.Servers.{given_at}
use Rattle.sam_server.proofs.One.{one_does}

-- an end, and what was made of its journal
pub record Back (e r : End) : Type 0 where
  pub same : over e ≡ over r
  pub open_too : is_open e.phase ≡ true → is_open r.phase ≡ true

pub record Again (r n : End) (calls : List Call) : Type 0 where
  pub to : End
  pub repeats : Repeats r calls to
  pub back : Back n to

-- the call is done by this end, and then it is so far back
pub record Redone (c : Call) (g n : End) : Type 0 where
  pub to : End
  pub does : Does g c to
  pub back : Back n to

-- what was put counts as given where a connection is up, and else all stays
over_given : (p : Phase) (r : End) → over (given_at p r) ≡ over r
over_given Open r = refl
over_given Asking r = refl
over_given Down r = refl

phase_given : (p : Phase) (r : End) → (given_at p r).phase ≡ r.phase
phase_given Open r = refl
phase_given Asking r = refl
phase_given Down r = refl

all_sent : (p : Phase) (r : End) → is_open p ≡ true → (given_at p r).keeps.sent ≡ length (given_at p r).keeps.kept
all_sent Open r up = refl
all_sent Asking r up = absurd (true≢false (sym up))
all_sent Down r up = absurd (true≢false (sym up))

pub given_back : (e r : End) → Back e r → Back e (all_given r)
given_back e r b = record {
  same = b.same ∙ sym (over_given r.phase r);
  open_too = λ up. subst (λ (p : Phase). is_open p ≡ true) (sym (phase_given r.phase r)) (b.open_too up);
}

given_role : (r : End) → r.role ≡ Host → (all_given r).role ≡ Host
given_role r q = ap (λ (k : End). k.role) (over_given r.phase r) ∙ q

given_sent : (r : End) → is_open (all_given r).phase ≡ true → (all_given r).keeps.sent ≡ length (all_given r).keeps.kept
given_sent r up = all_sent r.phase r (subst (λ (p : Phase). is_open p ≡ true) (phase_given r.phase r) up)

redone : (c : Call) (r n : End) → Redone c (all_given r) n → Again r n (c ∷ [])
redone c r n d = record { to = d.to; repeats = (d.to, d.does, refl); back = d.back }

unchanged : (e n r : End) → Back e r → n ≡ e → Again r n []
unchanged e n r b is = record { to = r; repeats = refl; back = subst (λ k. Back k r) (sym is) b }

closed : (e n r : End) → Back e r → n ≡ ended e → Again r n []
closed e n r b is = record {
  to = r;
  repeats = refl;
  back = subst (λ k. Back k r) (sym is) (record { same = b.same; open_too = λ up. absurd (true≢false (sym up)) });
}

again_dial : (role : Role) (e n r : End) (take_over : Bool) (answer : Result ℕ CallFault) → role ≡ Host → Back e r
    → CallsBy role e take_over answer n → Again r n []
again_dial Host e n r take_over (Err calls.WrongRole) h b x = unchanged e n r b x
again_dial Host e n r take_over (Err calls.CountFull) h b x = absurd x
again_dial Host e n r take_over (Ok attempt) h b x = absurd x
again_dial Terminal e n r take_over answer h b x = absurd (two_roles h)

again_welcome : (role : Role) (e n r : End) (g : Hello) (answer : Result (Unit {0}) WelcomeFault) → role ≡ Host → Back e r
    → WelcomesBy role e g answer n → Again r n []
again_welcome Host e n r g (Err welcomes.WrongRole) h b x = unchanged e n r b x
again_welcome Host e n r g (Err welcomes.NotOpen) h b x = absurd x
again_welcome Host e n r g (Err (welcomes.ByHost why)) h b x = absurd x
again_welcome Host e n r g (Err (welcomes.Here why)) h b x = absurd x
again_welcome Host e n r g (Ok done) h b x = absurd x
again_welcome Terminal e n r g answer h b x = absurd (two_roles h)

redo_answer : (e n r : End) (g : Hello) → r.role ≡ Host → Back e r → AnswersBy Host e g (Ok tt) n → Redone (Answer g (Ok tt)) r n
redo_answer e n r g q b x = record {
  to = answered r g;
  does = subst (λ k. AnswersBy k r g (Ok tt) (answered r g)) (sym q) (subst (λ k. refusal_of k g ≡ None) b.same x.0, refl);
  back = subst (λ k. Back k (answered r g)) (sym x.1)
      (record { same = ap (λ (k : End). over (answered k g)) b.same; open_too = λ up. refl });
}

again_answer : (role : Role) (e n r : End) (g : Hello) (answer : Result (Unit {0}) AnswerFault) → role ≡ Host → r.role ≡ Host → Back e r
    → AnswersBy role e g answer n
    → Again r n (in_journal (Answer g answer))
again_answer Host e n r g (Ok done) h q b x =
    redone (Answer g (Ok done)) r n (redo_answer e n (all_given r) g (given_role r q) (given_back e r b) x)
again_answer Host e n r g (Err (answers.Refused why)) h q b x = unchanged e n r b x.1
again_answer Host e n r g (Err answers.WrongRole) h q b x = absurd x
again_answer Terminal e n r g answer h q b x = absurd (two_roles h)

broke : (t : Bool) (e n r : End) → Back e r → n ≡ (if t then ended e else e) → Again r n []
broke true e n r b is = closed e n r b is
broke false e n r b is = unchanged e n r b is

-- bytes are put
put_back : (e n r : End) (bytes : List ℕ) (t u : ℕ) → Back e r → t ≡ u → n ≡ record e { keeps = put e.keeps bytes; told = t }
    → Back n (record r { keeps = put r.keeps bytes; told = u })
put_back e n r bytes t u b same is =
    subst (λ k. Back k (record r { keeps = put r.keeps bytes; told = u })) (sym is) (record {
      same = ap (λ (k : End). over (record k { keeps = put k.keeps bytes; told = t })) b.same
          ∙ ap (λ (v : ℕ). over (record r { keeps = put r.keeps bytes; told = v })) same;
      open_too = b.open_too;
    })

kept_same : (e n : End) → n.keeps ≡ e.keeps → n ≡ record e { keeps = n.keeps } → n ≡ e
kept_same e n keeps is = is ∙ ap (λ (k : Keeps). record e { keeps = k }) keeps

put_is : (a n : End) (bytes : List ℕ) → n.keeps ≡ put a.keeps bytes → n ≡ record a { keeps = n.keeps }
    → n ≡ record a { keeps = put a.keeps bytes; told = a.told }
put_is a n bytes keeps is = is ∙ ap (λ (k : Keeps). record a { keeps = k }) keeps

told_same : (e r : End) → Back e r → e.told ≡ r.told
told_same e r b = ap (λ (k : End). k.told) b.same

redo_put : (e n r : End) (bytes : List ℕ) → Back e r → Puts e.keeps (data_stream bytes) (Ok tt) n.keeps
    → n ≡ record e { keeps = n.keeps } → Redone (Put bytes (Ok tt)) r n
redo_put e n r bytes b x is = record {
  to = record r { keeps = put r.keeps (data_stream bytes) };
  does = ((subst (λ k. HasRoom k.keeps (length (data_stream bytes))) b.same x.0, refl), refl);
  back = put_back e n r (data_stream bytes) e.told r.told b (told_same e r b) (put_is e n (data_stream bytes) x.1 is);
}

again_put : (e n r : End) (bytes : List ℕ) (answer : Result (Unit {0}) PutFault) → Back e r
    → Puts e.keeps (data_stream bytes) answer n.keeps → n ≡ record e { keeps = n.keeps }
    → Again r n (in_journal (Put bytes answer))
again_put e n r bytes (Ok done) b x is =
    redone (Put bytes (Ok done)) r n (redo_put e n (all_given r) bytes (given_back e r b) x is)
again_put e n r bytes (Err puts.CountFull) b x is = unchanged e n r b (kept_same e n x.1 is)
again_put e n r bytes (Err puts.OutOfMemory) b x is = unchanged e n r b (kept_same e n x.1 is)

redo_note : (e n r : End) (bytes : List ℕ) → Back e r → PutsNote e.keeps bytes (Ok tt) n.keeps → n ≡ record e { keeps = n.keeps }
    → Redone (PutNote bytes (Ok tt)) r n
redo_note e n r bytes b x is = record {
  to = record r { keeps = put r.keeps (frame 2 bytes) };
  does = ((x.0, (subst (λ k. HasRoom k.keeps (length (frame 2 bytes))) b.same x.1.0, refl)), refl);
  back = put_back e n r (frame 2 bytes) e.told r.told b (told_same e r b) (put_is e n (frame 2 bytes) x.1.1 is);
}

again_note : (e n r : End) (bytes : List ℕ) (answer : Result (Unit {0}) NoteFault) → Back e r → PutsNote e.keeps bytes answer n.keeps
    → n ≡ record e { keeps = n.keeps }
    → Again r n (in_journal (PutNote bytes answer))
again_note e n r bytes (Ok done) b x is =
    redone (PutNote bytes (Ok done)) r n (redo_note e n (all_given r) bytes (given_back e r b) x is)
again_note e n r bytes (Err notes.TooLong) b x is = unchanged e n r b (kept_same e n x.1 is)
again_note e n r bytes (Err notes.CountFull) b x is = unchanged e n r b (kept_same e n x.1.1 is)
again_note e n r bytes (Err notes.OutOfMemory) b x is = unchanged e n r b (kept_same e n x.1.1 is)

redo_ask : (e n r : End) → Back e r → Puts e.keeps (frame 4 []) (Ok tt) n.keeps → n ≡ record e { keeps = n.keeps }
    → Redone (Ask (Ok tt)) r n
redo_ask e n r b x is = record {
  to = record r { keeps = put r.keeps (frame 4 []) };
  does = ((subst (λ k. HasRoom k.keeps (length (frame 4 []))) b.same x.0, refl), refl);
  back = put_back e n r (frame 4 []) e.told r.told b (told_same e r b) (put_is e n (frame 4 []) x.1 is);
}

again_ask : (e n r : End) (answer : Result (Unit {0}) PutFault) → Back e r → Puts e.keeps (frame 4 []) answer n.keeps
    → n ≡ record e { keeps = n.keeps }
    → Again r n (in_journal (Ask answer))
again_ask e n r (Ok done) b x is = redone (Ask (Ok done)) r n (redo_ask e n (all_given r) (given_back e r b) x is)
again_ask e n r (Err puts.CountFull) b x is = unchanged e n r b (kept_same e n x.1 is)
again_ask e n r (Err puts.OutOfMemory) b x is = unchanged e n r b (kept_same e n x.1 is)

redo_acknowledge : (e n r : End) → Back e r → Puts e.keeps (frame 3 (eight e.received)) (Ok tt) n.keeps → Acknowledges e (Ok tt) n
    → Redone (Acknowledge (Ok tt)) r n
redo_acknowledge e n r b x is =
    let received : e.received ≡ r.received = ap (λ (k : End). k.received) b.same in
    let bytes = frame 3 (eight r.received) in
    let same : frame 3 (eight e.received) ≡ frame 3 (eight r.received) = ap (λ (v : ℕ). frame 3 (eight v)) received in
    record {
      to = record r { keeps = put r.keeps bytes; told = r.received };
      does = ((subst (λ k. HasRoom k.keeps (length (frame 3 (eight k.received)))) b.same x.0, refl), refl);
      back = put_back e n r bytes e.received r.received b received
          (is ∙ ap (λ (k : Keeps). record e { keeps = k; told = e.received }) (x.1 ∙ ap (λ (l : List ℕ). put e.keeps l) same));
    }

again_acknowledge : (e n r : End) (answer : Result (Unit {0}) PutFault) → Back e r
    → Puts e.keeps (frame 3 (eight e.received)) answer n.keeps → Acknowledges e answer n
    → Again r n (in_journal (Acknowledge answer))
again_acknowledge e n r (Ok done) b x is =
    redone (Acknowledge (Ok done)) r n (redo_acknowledge e n (all_given r) (given_back e r b) x is)
again_acknowledge e n r (Err why) b x is = unchanged e n r b is

again_out : (e n r : End) (attempt : ℕ) (old new : List ℕ) (answer : Result ℕ NotOpen) → Back e r → TakesOut e attempt old answer new n
    → Again r n []
again_out e n r attempt old new (Ok count) b x = record {
  to = r;
  repeats = refl;
  back = subst (λ k. Back k r) (sym x.4) (record { same = b.same; open_too = b.open_too });
}
again_out e n r attempt old new (Err why) b x = unchanged e n r b x.2

-- ## A piece

-- what a piece leaves, the acknowledgement that it brings about put like other bytes
abbrev fed_plainly : End → List ℕ → List Packet → ℕ → End
fed_plainly e piece ps len =
    record (fed e piece ps len) {
      keeps =
          acknowledged (put e.keeps (stream_of packets
          (ack_if (tells e.keeps (owes e ps (e.received + length piece))) (e.received + length piece)))) (top_of ps);
    }

plainly : (e : End) (piece : List ℕ) (ps : List Packet) (len : ℕ) → fed e piece ps len ≡ fed_plainly e piece ps len
plainly e piece ps len =
    let count = e.received + length piece in
    ap (λ (k : Keeps). record (fed e piece ps len) { keeps = acknowledged k (top_of ps) }) (told_keeps e.keeps (owes e ps count) count)

opened : (p q : Bool) → (p && q) ≡ true → (p ≡ true) × (q ≡ true)
opened true true e = (refl, refl)
opened true false e = absurd (true≢false (sym e))
opened false q e = absurd (true≢false (sym e))

opens : (p q : Bool) → p ≡ true → q ≡ true → (p && q) ≡ true
opens p q a b = rw a b

fed_again : (e r : End) (attempt : ℕ) (piece : List ℕ) (ps : List Packet) (len : ℕ) → Fine e → Back e r
    → (is_open r.phase ≡ true → r.keeps.sent ≡ length r.keeps.kept) → MayFeed e attempt piece
    → Front packets 1 (e.held ++ piece) ps 1 len
    → IsOpen packets 1 (drop len (e.held ++ piece)) → top_of ps ≤ e.keeps.base + e.keeps.sent
    → Feeds r attempt piece (Ok tt) (fed r piece ps len)
fed_again e r attempt piece ps len fine b all may front unread top =
    let held : e.held ≡ r.held = ap (λ (k : End). k.held) b.same in
    let base : e.keeps.base ≡ r.keeps.base = ap (λ (k : End). k.keeps.base) b.same in
    let kept : e.keeps.kept ≡ r.keeps.kept = ap (λ (k : End). k.keeps.kept) b.same in
    let number : e.attempt ≡ r.attempt = ap (λ (k : End). k.attempt) b.same in
    let received : e.received ≡ r.received = ap (λ (k : End). k.received) b.same in
    let here = opened (is_open e.phase) (attempt == e.attempt) may.0 in
    let up = b.open_too here.0 in (
      ps,
      len,
      (opens (is_open r.phase) (attempt == r.attempt) up (subst (λ m. (attempt == m) ≡ true) number here.1), omega (arith, may.1, received)),
      subst (λ h. Front packets 1 (h ++ piece) ps 1 len) held front,
      subst (λ h. IsOpen packets 1 (drop len (h ++ piece))) held unread,
      omega (arith, top, fine.inside, base, ap length kept, all up),
      refl,
    )

redo_feed : (e n r : End) (attempt : ℕ) (piece : List ℕ) → Fine e → Back e r
    → (is_open r.phase ≡ true → r.keeps.sent ≡ length r.keeps.kept) → Feeds e attempt piece (Ok tt) n
    → Redone (Feed attempt piece (Ok tt)) r n
redo_feed e n r attempt piece fine b all (ps, len, may, front, unread, top, is) = record {
  to = fed r piece ps len;
  does = fed_again e r attempt piece ps len fine b all may front unread top;
  back = subst (λ k. Back k (fed r piece ps len)) (sym is) (record {
    same =
        ap over (plainly e piece ps len) ∙ ap (λ (k : End). over (fed_plainly k piece ps len)) b.same
        ∙ sym (ap over (plainly r piece ps len));
    open_too = b.open_too;
  });
}

again_feed : (e n r : End) (attempt : ℕ) (piece : List ℕ) (answer : Result (Unit {0}) FeedFault) → Fine e → Back e r
    → Feeds e attempt piece answer n
    → Again r n (in_journal (Feed attempt piece answer))
again_feed e n r attempt piece (Ok done) fine b x =
    redone (Feed attempt piece (Ok done)) r n (redo_feed e n (all_given r) attempt piece fine (given_back e r b) (given_sent r) x)
again_feed e n r attempt piece (Err feeds.NotOpen) fine b x = unchanged e n r b x.1
again_feed e n r attempt piece (Err feeds.CountFull) fine b x = unchanged e n r b x.2
again_feed e n r attempt piece (Err feeds.OutOfMemory) fine b x = unchanged e n r b x.1
again_feed e n r attempt piece (Err (feeds.Wrong fault)) fine b x = closed e n r b x.5
again_feed e n r attempt piece (Err feeds.AckAhead) fine b x = closed e n r b x.6

-- ## Any call

waited : (e n r : End) (w : Waiting) → Back e r → n ≡ record e { waiting = w } → Back n (record r { waiting = w })
waited e n r w b is = subst (λ k. Back k (record r { waiting = w })) (sym is)
    (record { same = ap (λ (k : End). over (record k { waiting = w })) b.same; open_too = b.open_too })

redo_take_in : (e n r : End) (old new : List ℕ) (count : ℕ) → Back e r → Does e (TakeIn old count new) n
    → Redone (TakeIn old count new) r n
redo_take_in e n r old new count b x =
    let same : e.waiting ≡ r.waiting = ap (λ (k : End). k.waiting) b.same in
    let w = left_of r.waiting count in
    record {
      to = record r { waiting = w };
      does =
          subst (λ v. Does (record r { waiting = v }) (TakeIn old count new) (record r { waiting = left_of v count })) same
          (x.0, x.1, refl);
      back = waited e n r w b (x.2 ∙ ap (λ (v : Waiting). record e { waiting = left_of v count }) same);
    }

redo_next_note : (e n r : End) (answer : Option (List ℕ)) → Back e r → Does e (NextNote answer) n → Redone (NextNote answer) r n
redo_next_note e n r answer b x =
    let same : e.waiting ≡ r.waiting = ap (λ (k : End). k.waiting) b.same in
    record {
      to = record r { waiting = n.waiting };
      does = (subst (λ v. GivesNote v answer n.waiting) same x.0, refl);
      back = waited e n r n.waiting b x.1;
    }

pub again : (c : Call) (e n r : End) → Fine e → r.role ≡ Host → Back e r → Does e c n → Again r n (in_journal c)
again (Dial take_over answer) e n r fine q b x = again_dial e.role e n r take_over answer fine.role b x
again (Answer g answer) e n r fine q b x = again_answer e.role e n r g answer fine.role q b x
again (Welcome g answer) e n r fine q b x = again_welcome e.role e n r g answer fine.role b x
again (Break attempt) e n r fine q b x = broke (attempt == e.attempt) e n r b x
again (Put bytes answer) e n r fine q b x = again_put e n r bytes answer b x.0 x.1
again (PutNote bytes answer) e n r fine q b x = again_note e n r bytes answer b x.0 x.1
again (Ask answer) e n r fine q b x = again_ask e n r answer b x.0 x.1
again (Acknowledge answer) e n r fine q b x = again_acknowledge e n r answer b x.0 x.1
again (TakeOut attempt old answer new) e n r fine q b x = again_out e n r attempt old new answer b x
again (Feed attempt piece answer) e n r fine q b x = again_feed e n r attempt piece answer fine b x
again (TakeIn old count new) e n r fine q b x =
    redone (TakeIn old count new) r n (redo_take_in e n (all_given r) old new count (given_back e r b) x)
again (NextNote answer) e n r fine q b x =
    redone (NextNote answer) r n (redo_next_note e n (all_given r) answer (given_back e r b) x)

-- ## Any calls

repeats_on : (a b : List Call) (r m z : End) → Repeats r a m → Repeats m b z → Repeats r (a ++ b) z
repeats_on [] b r m z x y = subst (λ k. Repeats k b z) x y
repeats_on (c ∷ a) b r m z (k, does, rest) y = (k, does, repeats_on a b k m z rest y)

pub role_back : (e r : End) → Fine e → Back e r → r.role ≡ Host
role_back e r fine b = ap (λ (k : End). k.role) (sym b.same) ∙ fine.role

pub repeats : (cs : List Call) (e n r : End) → Fine e → Back e r → DoesAll e cs n → Again r n (flat_map in_journal cs)
repeats [] e n r fine b all = record { to = r; repeats = refl; back = subst (λ k. Back k r) (sym all) b }
repeats (c ∷ cs) e n r fine b (m, does, rest) =
    let first = again c e m r fine (role_back e r fine b) b does in
    let more = repeats cs m n first.to (still_fine c e m fine does) first.back rest in
    record {
      to = more.to;
      repeats = repeats_on (in_journal c) (flat_map in_journal cs) r first.to more.to first.repeats more.repeats;
      back = more.back;
    }

pub one_repeat : (cs : List Call) (e a b : End) → Repeats e cs a → Repeats e cs b → a ≡ b
one_repeat [] e a b x y = x ∙ sym y
one_repeat (c ∷ cs) e a b (m, does, rest) (k, does_too, rest_too) =
    one_repeat cs m a b rest (subst (λ z. Repeats z cs b) (sym (one_does c (all_given e) m k does does_too)) rest_too)

pub first_fine : (id : Id) → Fine (fresh Host id)
first_fine id = record { role = refl; inside = omega arith }

pub recovery : (id : Id) (cs : List Call) (e : End) → LedTo id cs e → (h : End) × Recovers id cs h
recovery id cs e made =
    let m = repeats cs (fresh Host id) e (fresh Host id) (first_fine id) (record { same = refl; open_too = λ up. up }) made in
    (ended m.to, (m.to, m.repeats, refl))

pub recovered : (id : Id) (cs : List Call) (e h : End) → LedTo id cs e → Recovers id cs h → AreLike h (ended e)
recovered id cs e h made (r, all, is) =
    let m = repeats cs (fresh Host id) e (fresh Host id) (first_fine id) (record { same = refl; open_too = λ up. up }) made in
    let one : r ≡ m.to = one_repeat (flat_map in_journal cs) (fresh Host id) r m.to all m.repeats in
    inr (ap over is ∙ ap over one ∙ sym m.back.same, ap (λ (k : End). k.phase) is, refl)
