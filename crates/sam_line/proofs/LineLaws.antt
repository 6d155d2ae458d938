-- What each call of a line keeps, and which calls its link gets.
use Rattle.std.proofs.Common.{◌≡◌, ℕ, ◌+◌, ◌<◌, ◌≤◌, inl, inr, max, nat_lt, nat_le, ◌==◌, List, [], ◌∷◌, ◌++◌, length, take, drop, flat_map, Bool, true, false, not, ◌&&◌, MatchBool, if◌then◌else◌, Option, None, Some, Result, Ok, Err, is_ok, refl, sym, ap, subst, ◌∙◌, arith, length-drop}
use Rattle.std.proofs.lemmas.Bool.{cond_both, cond-true, eq-eqb, ltb-false}
use Rattle.std.proofs.lemmas.List.{append-nil, append_assoc}
use Rattle.sam_link.specs.Calls.{Call, Does, DoesAll, Item, handed, put}
use Rattle.sam_link.specs.Calls as calls
use Rattle.sam_link.specs.Calls.Call.{Acknowledge as LinkAcknowledge, Ask as LinkAsk, Break as LinkBreak, Dial as LinkDial, Feed as LinkFeed, NextNote as LinkNextNote, Put as LinkPut, PutNote as LinkPutNote, TakeIn as LinkTakeIn, TakeOut as LinkTakeOut, Welcome as LinkWelcome}
use Rattle.sam_link.specs.End.{End, ended}
use Rattle.sam_link.specs.Feeding.{is_open}
use Rattle.sam_link.specs.Hellos.{ReadsHello}
use Rattle.sam_link.specs.declared.fault.FeedFault.{FeedFault}
use Rattle.sam_link.specs.declared.fault.FeedFault.TheVariants as feeds
use Rattle.sam_link.specs.declared.fault.WelcomeFault.{WelcomeFault}
use Rattle.sam_link.specs.declared.fault.WelcomeFault.TheVariants as welcomes
use Rattle.sam_link.specs.declared.hello.Hello.{Hello}
use Rattle.sam_link.specs.declared.hello.Id.{Id}
use Rattle.sam_link.specs.declared.hello.Refusal.{Refusal}
use Rattle.sam_line.specs.Calls.{IsLinked, LineCall, LineDoes, LineDoesAll, handed_by, put_by}
use Rattle.sam_line.specs.Calls.LineCall.{Acknowledge, AddressChanged, Ask, Broken, Connected, Expect, NextNote, NotConnected, Put, PutNote, Receive, TakeIn, TakeOut, TickAt}
use Rattle.sam_line.specs.Clock as clocks
use Rattle.sam_line.specs.Laws.{IsNear, IsNearIn, IsTimely}
use Rattle.sam_line.specs.Line as lines
use Rattle.sam_line.specs.Receiving as receiving
use Rattle.sam_line.specs.declared.clock.Clock.{Clock}
use Rattle.sam_line.specs.declared.clock.Deadline.{Deadline}
use Rattle.sam_line.specs.declared.clock.State.{State}
use Rattle.sam_line.specs.declared.clock.State.TheVariants.{Down, Connecting, Open, Late, Lost}
use Rattle.sam_line.specs.declared.clock.Tick.{Tick}
use Rattle.sam_line.specs.declared.clock.Tick.TheVariants as ticks
use Rattle.sam_line.specs.declared.fault.ReceiveFault.{ReceiveFault}
use Rattle.sam_line.specs.declared.fault.ReceiveFault.TheVariants.{Over, OutOfMemory, TooManyWords, TooManyAnswers, WrongHello, Refused}
use Rattle.sam_line.specs.declared.line.Line.{Line}
use Rattle.sam_line.proofs.ClockLaws.{pause_bounded}

-- ## A clock waits for what has begun

later_near : (d : Deadline) (a b : ℕ) → a ≤ b → IsNear d a → IsNear d b
later_near d a b more near = record { begun = omega (arith, more, (near.begun)); soon = near.soon }

later_in : (s : State) (a b : ℕ) → a ≤ b → IsNearIn s a → IsNearIn s b
later_in (Down d) a b more near = later_near d a b more near
later_in (Connecting d) a b more near = later_near d a b more near
later_in Open a b more near = tt
later_in (Late d) a b more near = later_near d a b more near
later_in (Lost why) a b more near = tt

now_near : (now within : ℕ) → within ≤ 30000 → IsNear (record { since = now; within = within }) now
now_near now within soon = record { begun = omega arith; soon = soon }

at_timely : (c : Clock) (now : ℕ) → IsTimely c → IsTimely (clocks.at c now)
at_timely c now timely = record { near = later_in c.state c.time (max c.time now) (omega arith) timely.near; quiet = omega (arith, (timely.quiet)) }

quiet_small : (c : Clock) (due : Bool) → IsTimely c → clocks.quiet_from c due ≤ c.time
quiet_small c due timely =
    cond_both (clocks.is_open c.state && not due) c.time c.quiet (λ q. q ≤ c.time) (λ e. omega arith) (λ e. timely.quiet)

connecting_timely : (c : Clock) → IsTimely c → IsTimely (clocks.connecting c)
connecting_timely c timely = record { near = now_near c.time 30000 (omega arith); quiet = timely.quiet }

late_timely : (c : Clock) → IsTimely c → IsTimely (clocks.late c)
late_timely c timely = record { near = now_near c.time 15000 (omega arith); quiet = timely.quiet }

welcomed_timely : (c : Clock) → IsTimely (clocks.welcomed c)
welcomed_timely c = record { near = tt; quiet = omega arith }

heard_timely : (c : Clock) → IsTimely (clocks.heard c)
heard_timely c = record { near = tt; quiet = omega arith }

owed_timely : (c : Clock) (due : Bool) → IsTimely c → IsTimely (clocks.owed c due)
owed_timely c due timely = record { near = timely.near; quiet = quiet_small c due timely }

failed_timely : (c : Clock) (due : Bool) → IsTimely c → IsTimely (clocks.failed c due)
failed_timely c due timely =
    record {
      near = now_near c.time (clocks.pause (clocks.failures_before c)) (pause_bounded (clocks.failures_before c));
      quiet = quiet_small c due timely;
    }

refused_timely : (c : Clock) (known due : Bool) (why : Refusal) → IsTimely c → IsTimely (clocks.refused c known due why)
refused_timely c known due why timely =
    cond_both (clocks.is_final c known why) (clocks.lost c due why) (record (clocks.failed c due) { missing = clocks.missing_after c why }) IsTimely
    (λ e. record { near = tt; quiet = quiet_small c due timely })
    (λ e. record {
      near = now_near c.time (clocks.pause (clocks.failures_before c)) (pause_bounded (clocks.failures_before c));
      quiet = quiet_small c due timely;
    })

sooner_near : (d : Deadline) (now within : ℕ) → within ≤ 30000 → IsNear d now → IsNear (clocks.sooner d now within) now
sooner_near d now within soon near =
    cond_both (nat_lt within (clocks.left d now)) (record { since = now; within = within }) d (λ (x : Deadline). IsNear x now)
    (λ e. now_near now within soon) (λ e. near)

moved_near : (s : State) (now : ℕ) → IsNearIn s now → IsNearIn (clocks.moved_in s now) now
moved_near (Down d) now near = sooner_near d now 1000 (omega arith) near
moved_near (Connecting d) now near = near
moved_near Open now near = now_near now 2000 (omega arith)
moved_near (Late d) now near = sooner_near d now 2000 (omega arith) near
moved_near (Lost why) now near = tt

moved_timely : (c : Clock) (due : Bool) → IsTimely c → IsTimely (clocks.moved c due)
moved_timely c due timely = record { near = moved_near c.state c.time timely.near; quiet = quiet_small c due timely }

-- ## A link gets calls

pub with_last : {A B : Type 0} (f : A → List B) (xs : List A) (x : A) → flat_map f (xs ++ x ∷ []) ≡ flat_map f xs ++ f x
with_last f [] x = append-nil (f x)
with_last f (y ∷ ys) x = ap (λ l. f y ++ l) (with_last f ys x) ∙ sym (append_assoc (f y) (flat_map f ys) (f x))

pub with_list : {A B : Type 0} (f : A → List B) (xs ys : List A) → flat_map f (xs ++ ys) ≡ flat_map f xs ++ flat_map f ys
with_list f [] ys = refl
with_list f (x ∷ xs) ys = ap (λ l. f x ++ l) (with_list f xs ys) ∙ sym (append_assoc (f x) (flat_map f xs) (flat_map f ys))

one_after : (e m n : End) (made : List Call) (call : Call) → DoesAll e made m → Does m call n → DoesAll e (made ++ call ∷ []) n
one_after e m n [] call all last = (n, subst (λ x. Does x call n) all last, refl)
one_after e m n (c ∷ made) call all last = (all.0, all.1, one_after all.0 m n made call all.2 last)

list_after : (e m n : End) (made more : List Call) → DoesAll e made m → DoesAll m more n → DoesAll e (made ++ more) n
list_after e m n [] more all last = subst (λ x. DoesAll x more n) all last
list_after e m n (c ∷ made) more all last = (all.0, all.1, list_after all.0 m n made more all.2 last)

-- such calls of a link put nothing for the program, and hand nothing over
record Silent (e n : End) : Type 0 where
  made : List Call
  does : DoesAll e made n
  puts : put made ≡ []
  hands : handed made ≡ []

none_made : (e : End) → Silent e e
none_made e = record { made = []; does = refl; puts = refl; hands = refl }

also : (e m n : End) (call : Call) → Silent e m → calls.put_by call ≡ [] → calls.handed_by call ≡ [] → Does m call n → Silent e n
also e m n call s puts hands does =
    record {
      made = s.made ++ call ∷ [];
      does = one_after e m n s.made call s.does does;
      puts = with_last calls.put_by s.made call ∙ ap (λ (l : List Item). put s.made ++ l) puts ∙ append-nil (put s.made) ∙ s.puts;
      hands = with_last calls.handed_by s.made call ∙ ap (λ (l : List Item). handed s.made ++ l) hands ∙ append-nil (handed s.made) ∙ s.hands;
    }

breaks : (e m : End) → Silent e m → Silent e (ended m)
breaks e m s =
    also e m (ended m) (LinkBreak m.attempt) s refl refl (sym (cond-true (m.attempt == m.attempt) (ended m) m (eq-eqb m.attempt m.attempt refl)))

-- ## A call that puts nothing and hands nothing over

-- from this end of the link on
record Kept (e : End) (n : Line) : Type 0 where
  timely : IsTimely n.clock
  silent : Silent e n.link

kept_at : (e : End) (m n : Line) → n ≡ m → Kept e m → Kept e n
kept_at e m n is kept = subst (Kept e) (sym is) kept

failed_kept : (e : End) (l : Line) → Kept e l → Kept e (lines.failed l)
failed_kept e l kept = record { timely = failed_timely l.clock (lines.is_due l) kept.timely; silent = breaks e l.link kept.silent }

refused_kept : (e : End) (l : Line) (why : Refusal) → Kept e l → Kept e (lines.refused l why)
refused_kept e l why kept =
    record { timely = refused_timely l.clock l.link.is_known (lines.is_due l) why kept.timely; silent = breaks e l.link kept.silent }

failed_by_kept : (e : End) (fault : FeedFault) (l : Line) → Kept e l → Kept e (receiving.failed_by fault l)
failed_by_kept e feeds.NotOpen l kept = kept
failed_by_kept e feeds.CountFull l kept = failed_kept e l kept
failed_by_kept e feeds.OutOfMemory l kept = kept
failed_by_kept e (feeds.Wrong why) l kept = failed_kept e l kept
failed_by_kept e feeds.AckAhead l kept = failed_kept e l kept

follows_kept : (e : End) (l : Line) (fed : Result (Unit {0}) FeedFault) (m : End) (answer : Result (Unit {0}) ReceiveFault) (n : Line)
    → IsTimely l.clock → Silent e m → receiving.Follows l fed m answer n → Kept e n
follows_kept e l (Ok done) m answer n timely silent d =
    kept_at e (receiving.heard (record l { link = m }) (lines.put_len l.link)) n d.1 (record { timely = heard_timely l.clock; silent = silent })
follows_kept e l (Err fault) m answer n timely silent d =
    kept_at e (receiving.failed_by fault (record l { link = m })) n d.1
    (failed_by_kept e fault (record l { link = m }) (record { timely = timely; silent = silent }))

feeds_kept : (e : End) (l : Line) (attempt : ℕ) (piece : List ℕ) (answer : Result (Unit {0}) ReceiveFault) (n : Line) → Kept e l
    → receiving.Feeds l attempt piece answer n → Kept e n
feeds_kept e l attempt piece answer n kept d =
    follows_kept e l d.0 d.1 answer n kept.timely (also e l.link d.1 (LinkFeed attempt piece d.0) kept.silent refl refl d.2) d.3

begins_kept : (e : End) (l : Line) (before : List ℕ) (fed : Result (Unit {0}) FeedFault) (m : End) (answer : Result (Unit {0}) ReceiveFault) (n : Line)
    → IsTimely l.clock → Silent e m → receiving.Begins l before fed m answer n → Kept e n
begins_kept e l before (Ok done) m answer n timely silent d =
    follows_kept e (receiving.welcomed l) (Ok done) m answer n (welcomed_timely l.clock) silent d
begins_kept e l before (Err feeds.OutOfMemory) m answer n timely silent d =
    kept_at e (record l { link = m; greeting = before }) n d.1 (record { timely = timely; silent = silent })
begins_kept e l before (Err feeds.NotOpen) m answer n timely silent d =
    follows_kept e (receiving.welcomed l) (Err feeds.NotOpen) m answer n (welcomed_timely l.clock) silent d
begins_kept e l before (Err feeds.CountFull) m answer n timely silent d =
    follows_kept e (receiving.welcomed l) (Err feeds.CountFull) m answer n (welcomed_timely l.clock) silent d
begins_kept e l before (Err (feeds.Wrong fault)) m answer n timely silent d =
    follows_kept e (receiving.welcomed l) (Err (feeds.Wrong fault)) m answer n (welcomed_timely l.clock) silent d
begins_kept e l before (Err feeds.AckAhead) m answer n timely silent d =
    follows_kept e (receiving.welcomed l) (Err feeds.AckAhead) m answer n (welcomed_timely l.clock) silent d

met_kept : (e : End) (l : Line) (attempt : ℕ) (before : List ℕ) (start : ℕ) (met : Result (Unit {0}) WelcomeFault) (answer : Result (Unit {0}) ReceiveFault)
    (n : Line) → Kept e l → receiving.MetBy l attempt before start met answer n → Kept e n
met_kept e l attempt before start (Ok done) answer n kept d =
    begins_kept e l before d.0 d.1 answer n kept.timely
    (also e l.link d.1 (LinkFeed attempt (drop start l.greeting) d.0) kept.silent refl refl d.2) d.3
met_kept e l attempt before start (Err (welcomes.ByHost why)) answer n kept d = kept_at e (lines.refused l why) n d.1 (refused_kept e l why kept)
met_kept e l attempt before start (Err (welcomes.Here why)) answer n kept d = kept_at e (lines.failed l) n d.1 (failed_kept e l kept)
met_kept e l attempt before start (Err welcomes.NotOpen) answer n kept d =
    kept_at e (record l { greeting = before }) n d.1 (record { timely = kept.timely; silent = kept.silent })
met_kept e l attempt before start (Err welcomes.WrongRole) answer n kept d =
    kept_at e (record l { greeting = before }) n d.1 (record { timely = kept.timely; silent = kept.silent })

-- whichever of the two holds, the same follows
either : (b : Bool) (P Q G : Type 0) → (P → G) → (Q → G) → MatchBool b P Q → G
either true P Q G p q is = p is
either false P Q G p q is = q is

meets_silent : (b : Bool) (e m n : End) (hello : Hello) (met : Result (Unit {0}) WelcomeFault) → Silent e m
    → MatchBool b ((met ≡ Ok tt) × (n ≡ m)) (Does m (LinkWelcome hello met) n) → Silent e n
meets_silent true e m n hello met silent d = subst (Silent e) (sym d.1) silent
meets_silent false e m n hello met silent d = also e m n (LinkWelcome hello met) silent refl refl d

read_kept : (e : End) (l : Line) (attempt : ℕ) (before : List ℕ) (words : ℕ) (read : Result (Option Hello) Refusal) (answer : Result (Unit {0}) ReceiveFault)
    (n : Line) → Kept e l → receiving.ReadBy l attempt before words read answer n → Kept e n
read_kept e l attempt before words (Ok None) answer n kept d = kept_at e l n d.1 kept
read_kept e l attempt before words (Err why) answer n kept d = kept_at e (lines.failed l) n d.1 (failed_kept e l kept)
read_kept e l attempt before words (Ok (Some hello)) answer n kept d =
    met_kept e (record l { link = d.1 }) attempt before (words + 42) d.0 answer n
    (record { timely = kept.timely; silent = meets_silent (is_open l.link.phase) e l.link d.1 hello d.0 kept.silent d.2 }) d.3

greets_kept : (e : End) (l : Line) (attempt : ℕ) (piece : List ℕ) (answer : Result (Unit {0}) ReceiveFault) (n : Line) → Kept e l
    → receiving.Greets l attempt piece answer n → Kept e n
greets_kept e l attempt piece answer n kept (inl d) = kept_at e l n d.1 kept
greets_kept e l attempt piece answer n kept (inr d) =
    let h : Line = receiving.held l piece in
    let same : Kept e h = record { timely = kept.timely; silent = kept.silent } in
    either (nat_lt 65536 d.0) ((answer ≡ Err TooManyWords) × (n ≡ lines.failed h)) (receiving.Reads h attempt l.greeting d.0 answer n) (Kept e n)
    (λ p. kept_at e (lines.failed h) n p.1 (failed_kept e h same)) (λ q. read_kept e h attempt l.greeting d.0 q.0 answer n same q.2) d.2

takes_by_kept : (e : End) (s : State) (l : Line) (attempt : ℕ) (piece : List ℕ) (answer : Result (Unit {0}) ReceiveFault) (n : Line) → Kept e l
    → receiving.TakesBy s l attempt piece answer n → Kept e n
takes_by_kept e (Down d) l attempt piece answer n kept is = kept_at e l n is.1 kept
takes_by_kept e (Connecting d) l attempt piece answer n kept is = greets_kept e l attempt piece answer n kept is
takes_by_kept e Open l attempt piece answer n kept is = feeds_kept e l attempt piece answer n kept is
takes_by_kept e (Late d) l attempt piece answer n kept is = feeds_kept e l attempt piece answer n kept is
takes_by_kept e (Lost why) l attempt piece answer n kept is = kept_at e l n is.1 kept

takes_kept : (e : End) (l : Line) (attempt : ℕ) (piece : List ℕ) (answer : Result (Unit {0}) ReceiveFault) (n : Line) → Kept e l
    → receiving.Takes l attempt piece answer n → Kept e n
takes_kept e l attempt piece answer n kept =
    either (lines.is_newest l attempt) (receiving.AnsweredBy l attempt piece answer n) ((answer ≡ Err Over) × (n ≡ l)) (Kept e n)
    (either (nat_le 65536 l.answers) ((answer ≡ Err TooManyAnswers) × (n ≡ lines.failed l)) (receiving.TakesBy l.clock.state l attempt piece answer n) (Kept e n)
    (λ p. kept_at e (lines.failed l) n p.1 (failed_kept e l kept)) (takes_by_kept e l.clock.state l attempt piece answer n kept))
    (λ q. kept_at e l n q.1 kept)

-- ## Each call

-- what one call keeps, and which calls the link got
record One (l : Line) (call : LineCall) (n : Line) : Type 0 where
  timely : IsTimely n.clock
  made : List Call
  does : DoesAll l.link made n.link
  puts : put made ≡ put_by call
  hands : handed made ≡ handed_by call

one_of : (l : Line) (call : LineCall) (n : Line) → put_by call ≡ [] → handed_by call ≡ [] → Kept l.link n → One l call n
one_of l call n puts hands kept =
    record {
      timely = kept.timely;
      made = kept.silent.made;
      does = kept.silent.does;
      puts = kept.silent.puts ∙ sym puts;
      hands = kept.silent.hands ∙ sym hands;
    }

-- the link gets this call alone
link_call : (l : Line) (call : LineCall) (n : Line) (made : Call) → calls.put_by made ≡ put_by call → calls.handed_by made ≡ handed_by call
    → IsTimely n.clock → Does l.link made n.link → One l call n
link_call l call n made puts hands timely does =
    record {
      timely = timely;
      made = made ∷ [];
      does = (n.link, does, refl);
      puts = append-nil (calls.put_by made) ∙ puts;
      hands = append-nil (calls.handed_by made) ∙ hands;
    }

begun_kept : (l : Line) (now : ℕ) → IsTimely l.clock → Kept l.link (lines.at l now)
begun_kept l now timely = record { timely = at_timely l.clock now timely; silent = none_made l.link }

after_kept : (e : End) (l : Line) (tick : Tick) → Kept e l → Kept e (lines.after l tick)
after_kept e l ticks.Nothing kept = kept
after_kept e l ticks.Connect kept = record { timely = connecting_timely l.clock kept.timely; silent = kept.silent }
after_kept e l ticks.Drop kept = failed_kept e l kept
after_kept e l ticks.Ask kept = record { timely = late_timely l.clock kept.timely; silent = kept.silent }

connected_timely : (l : Line) (did : Bool) (e : End) → IsTimely l.clock → IsTimely (lines.connected l did e).clock
connected_timely l true e timely = connecting_timely l.clock timely
connected_timely l false e timely = timely

put_timely : (l : Line) (did : Bool) (e : End) → IsTimely l.clock → IsTimely (lines.put_by l did e).clock
put_timely l true e timely = owed_timely l.clock (lines.is_due (record l { link = e })) timely
put_timely l false e timely = timely

asked_timely : (l : Line) (did : Bool) (e : End) → IsTimely l.clock → IsTimely (lines.asked_by l did e).clock
asked_timely l true e timely = owed_timely l.clock (lines.is_due (record l { link = e })) timely
asked_timely l false e timely = timely

timely_at : (m n : Line) → n ≡ m → IsTimely m.clock → IsTimely n.clock
timely_at m n is timely = subst (λ (x : Line). IsTimely x.clock) (sym is) timely

kept_if : (e : End) (b : Bool) (x y : Line) → Kept e x → Kept e y → Kept e (if b then x else y)
kept_if e true x y a b = a
kept_if e false x y a b = b

each_call : (l : Line) (call : LineCall) (n : Line) → IsTimely l.clock → LineDoes l call n → One l call n
each_call l (TickAt now answer) n timely d =
    one_of l (TickAt now answer) n refl refl
    (kept_at l.link (lines.after (lines.at l now) answer) n d.1 (after_kept l.link (lines.at l now) answer (begun_kept l now timely)))
each_call l (Connected now answer) n timely d =
    link_call l (Connected now answer) n (LinkDial l.take_over answer) refl refl
    (timely_at (lines.connected (lines.at l now) (is_ok answer) n.link) n d.1
    (connected_timely (lines.at l now) (is_ok answer) n.link (at_timely l.clock now timely))) d.0
each_call l (NotConnected now) n timely d =
    let a : Line = lines.at l now in
    one_of l (NotConnected now) n refl refl
    (kept_at l.link (lines.not_connected a) n d
    (kept_if l.link (lines.is_opening a) (lines.failed a) a (failed_kept l.link a (begun_kept l now timely)) (begun_kept l now timely)))
each_call l (Broken attempt now) n timely d =
    let a : Line = lines.at l now in
    one_of l (Broken attempt now) n refl refl
    (kept_at l.link (lines.broken a attempt) n d
    (kept_if l.link (lines.is_newest a attempt) (lines.failed a) a (failed_kept l.link a (begun_kept l now timely)) (begun_kept l now timely)))
each_call l (AddressChanged now) n timely d =
    one_of l (AddressChanged now) n refl refl
    (kept_at l.link (lines.moved (lines.at l now)) n d
    (record { timely = moved_timely (clocks.at l.clock now) (lines.is_due l) (at_timely l.clock now timely); silent = none_made l.link }))
each_call l (Expect expects now) n timely d =
    one_of l (Expect expects now) n refl refl
    (kept_at l.link (lines.expecting (lines.at l now) expects) n d
    (record { timely = owed_timely (clocks.at l.clock now) (lines.is_due l) (at_timely l.clock now timely); silent = none_made l.link }))
each_call l (Receive attempt piece now answer) n timely d =
    one_of l (Receive attempt piece now answer) n refl refl (takes_kept l.link (lines.at l now) attempt piece answer n (begun_kept l now timely) d)
each_call l (Put bytes now (Ok done)) n timely d =
    link_call l (Put bytes now (Ok done)) n (LinkPut bytes (Ok done)) refl refl
    (timely_at (lines.put_by (lines.at l now) true n.link) n d.1 (put_timely (lines.at l now) true n.link (at_timely l.clock now timely))) d.0
each_call l (Put bytes now (Err why)) n timely d =
    link_call l (Put bytes now (Err why)) n (LinkPut bytes (Err why)) refl refl
    (timely_at (lines.put_by (lines.at l now) false n.link) n d.1 (put_timely (lines.at l now) false n.link (at_timely l.clock now timely))) d.0
each_call l (PutNote bytes now (Ok done)) n timely d =
    link_call l (PutNote bytes now (Ok done)) n (LinkPutNote bytes (Ok done)) refl refl
    (timely_at (lines.put_by (lines.at l now) true n.link) n d.1 (put_timely (lines.at l now) true n.link (at_timely l.clock now timely))) d.0
each_call l (PutNote bytes now (Err why)) n timely d =
    link_call l (PutNote bytes now (Err why)) n (LinkPutNote bytes (Err why)) refl refl
    (timely_at (lines.put_by (lines.at l now) false n.link) n d.1 (put_timely (lines.at l now) false n.link (at_timely l.clock now timely))) d.0
each_call l (Ask now answer) n timely d =
    either (lines.is_to_ask (lines.at l now))
    (Does l.link (LinkAsk answer) n.link × (n ≡ lines.asked_by (lines.at l now) (is_ok answer) n.link))
    ((answer ≡ Ok tt) × (n ≡ lines.at l now)) (One l (Ask now answer) n)
    (λ p. link_call l (Ask now answer) n (LinkAsk answer) refl refl
    (timely_at (lines.asked_by (lines.at l now) (is_ok answer) n.link) n p.1
    (asked_timely (lines.at l now) (is_ok answer) n.link (at_timely l.clock now timely))) p.0)
    (λ q. one_of l (Ask now answer) n refl refl (kept_at l.link (lines.at l now) n q.1 (begun_kept l now timely))) d
each_call l (Acknowledge answer) n timely d =
    link_call l (Acknowledge answer) n (LinkAcknowledge answer) refl refl (timely_at (record l { link = n.link }) n d.1 timely) d.0
each_call l (TakeOut attempt old answer new) n timely d =
    link_call l (TakeOut attempt old answer new) n (LinkTakeOut attempt old answer new) refl refl (timely_at (record l { link = n.link }) n d.1 timely) d.0
each_call l (TakeIn old count new) n timely d =
    link_call l (TakeIn old count new) n (LinkTakeIn old count new) refl refl (timely_at (record l { link = n.link }) n d.1 timely) d.0
each_call l (NextNote old None new) n timely d =
    link_call l (NextNote old None new) n (LinkNextNote None) refl refl (timely_at (record l { link = n.link }) n d.2 timely) d.0
each_call l (NextNote old (Some count) new) n timely d =
    link_call l (NextNote old (Some count) new) n (LinkNextNote (Some (take count new))) refl refl (timely_at (record l { link = n.link }) n d.2 timely) d.0

-- ## All calls

all_timely : (l : Line) (made : List LineCall) (n : Line) → IsTimely l.clock → LineDoesAll l made n → IsTimely n.clock
all_timely l [] n timely d = timely_at l n d timely
all_timely l (call ∷ made) n timely d = all_timely d.0 made n (each_call l call d.0 timely d.1).timely d.2

pub lines_are_timely : (id : Id) (take_over : Bool) (now : ℕ) (made : List LineCall) (n : Line) → LineDoesAll (lines.begun id take_over now) made n
    → IsTimely n.clock
lines_are_timely id take_over now made n d =
    all_timely (lines.begun id take_over now) made n (record { near = now_near now 0 (omega arith); quiet = omega arith }) d

all_linked : (l n : Line) (made : List LineCall) → IsTimely l.clock → LineDoesAll l made n → IsLinked l made n
all_linked l n [] timely d = record { made = []; does = ap (λ (x : Line). x.link) d; puts = refl; hands = refl }
all_linked l n (call ∷ made) timely d =
    let one = each_call l call d.0 timely d.1 in
    let rest = all_linked d.0 n made one.timely d.2 in
    record {
      made = one.made ++ rest.made;
      does = list_after l.link d.0.link n.link one.made rest.made one.does rest.does;
      puts = with_list calls.put_by one.made rest.made
          ∙ ap (λ (x : List Item). x ++ put rest.made) one.puts ∙ ap (λ (x : List Item). put_by call ++ x) rest.puts;
      hands = with_list calls.handed_by one.made rest.made
          ∙ ap (λ (x : List Item). x ++ handed rest.made) one.hands ∙ ap (λ (x : List Item). handed_by call ++ x) rest.hands;
    }

pub lines_are_links : (id : Id) (take_over : Bool) (now : ℕ) (made : List LineCall) (n : Line) → LineDoesAll (lines.begun id take_over now) made n
    → IsLinked (lines.begun id take_over now) made n
lines_are_links id take_over now made n d =
    all_linked (lines.begun id take_over now) n made (record { near = now_near now 0 (omega arith); quiet = omega arith }) d

-- ## Words are few

-- a piece that is taken is not refused
not_err : (G : Type 0) (fault : ReceiveFault) → ◌≡◌ {A = Result (Unit {0}) ReceiveFault} (Ok tt) (Err fault) → G
not_err G fault e = absurd (cc)

-- a line that was open is not connecting
not_connecting : (G : Type 0) (n m : Line) (d : Deadline) → n ≡ m → m.clock.state ≡ Open → n.clock.state ≡ Connecting d → G
not_connecting G n m d is here state = let e : Open ≡ Connecting d = sym here ∙ ap (λ (x : Line). x.clock.state) (sym is) ∙ state in absurd (cc)

follows_open : (G : Type 0) (l : Line) (fed : Result (Unit {0}) FeedFault) (m : End) (n : Line) (d : Deadline) → receiving.Follows l fed m (Ok tt) n
    → n.clock.state ≡ Connecting d → G
follows_open G l (Ok done) m n d is state = not_connecting G n (receiving.heard (record l { link = m }) (lines.put_len l.link)) d is.1 refl state
follows_open G l (Err fault) m n d is state = not_err G (receiving.fed_fault fault) is.0

begins_open : (G : Type 0) (l : Line) (before : List ℕ) (fed : Result (Unit {0}) FeedFault) (m : End) (n : Line) (d : Deadline)
    → receiving.Begins l before fed m (Ok tt) n → n.clock.state ≡ Connecting d → G
begins_open G l before (Ok done) m n d is state = follows_open G (receiving.welcomed l) (Ok done) m n d is state
begins_open G l before (Err feeds.OutOfMemory) m n d is state = not_err G OutOfMemory is.0
begins_open G l before (Err feeds.NotOpen) m n d is state = follows_open G (receiving.welcomed l) (Err feeds.NotOpen) m n d is state
begins_open G l before (Err feeds.CountFull) m n d is state = follows_open G (receiving.welcomed l) (Err feeds.CountFull) m n d is state
begins_open G l before (Err (feeds.Wrong fault)) m n d is state = follows_open G (receiving.welcomed l) (Err (feeds.Wrong fault)) m n d is state
begins_open G l before (Err feeds.AckAhead) m n d is state = follows_open G (receiving.welcomed l) (Err feeds.AckAhead) m n d is state

met_open : (G : Type 0) (l : Line) (attempt : ℕ) (before : List ℕ) (start : ℕ) (met : Result (Unit {0}) WelcomeFault) (n : Line) (d : Deadline)
    → receiving.MetBy l attempt before start met (Ok tt) n → n.clock.state ≡ Connecting d → G
met_open G l attempt before start (Ok done) n d is state = begins_open G l before is.0 is.1 n d is.3 state
met_open G l attempt before start (Err (welcomes.ByHost why)) n d is state = not_err G (Refused why) is.0
met_open G l attempt before start (Err (welcomes.Here why)) n d is state = not_err G (WrongHello why) is.0
met_open G l attempt before start (Err welcomes.NotOpen) n d is state = not_err G Over is.0
met_open G l attempt before start (Err welcomes.WrongRole) n d is state = not_err G Over is.0

words_read : (l n : Line) (attempt : ℕ) (before : List ℕ) (words : ℕ) (read : Result (Option Hello) Refusal) (d : Deadline) → words ≤ 65536
    → words ≤ length l.greeting → ReadsHello (drop words l.greeting) read → receiving.ReadBy l attempt before words read (Ok tt) n
    → n.clock.state ≡ Connecting d → length n.greeting < 65536 + 42
words_read l n attempt before words (Ok None) d few inside reads is state =
    subst (λ (x : Line). length x.greeting < 65536 + 42) (sym is.1) (omega (arith, few, inside, (reads.0), length-drop words l.greeting))
words_read l n attempt before words (Err why) d few inside reads is state = not_err (length n.greeting < 65536 + 42) (WrongHello why) is.0
words_read l n attempt before words (Ok (Some hello)) d few inside reads is state =
    met_open (length n.greeting < 65536 + 42) (record l { link = is.1 }) attempt before (words + 42) is.0 n d is.3 state

words_by : (many : Bool) (l n : Line) (attempt : ℕ) (before : List ℕ) (words : ℕ) (d : Deadline) → nat_lt 65536 words ≡ many → words ≤ length l.greeting
    → MatchBool many (◌≡◌ {A = Result (Unit {0}) ReceiveFault} (Ok tt) (Err TooManyWords) × (n ≡ lines.failed l)) (receiving.Reads l attempt before words (Ok tt) n)
    → n.clock.state ≡ Connecting d → length n.greeting < 65536 + 42
words_by true l n attempt before words d many inside is state = not_err (length n.greeting < 65536 + 42) TooManyWords is.0
words_by false l n attempt before words d few inside is state =
    words_read l n attempt before words is.0 d (ltb-false 65536 words few) inside is.1 is.2 state

few_by : (s : State) (l n : Line) (attempt : ℕ) (piece : List ℕ) (d : Deadline) → receiving.TakesBy s l attempt piece (Ok tt) n
    → n.clock.state ≡ Connecting d → length n.greeting < 65536 + 42
few_by (Down w) l n attempt piece d is state = not_err (length n.greeting < 65536 + 42) Over is.0
few_by (Connecting w) l n attempt piece d (inl is) state = not_err (length n.greeting < 65536 + 42) OutOfMemory is.0
few_by (Connecting w) l n attempt piece d (inr is) state =
    words_by (nat_lt 65536 is.0) (receiving.held l piece) n attempt l.greeting is.0 d refl is.1.inside is.2 state
few_by Open l n attempt piece d is state = follows_open (length n.greeting < 65536 + 42) l is.0 is.1 n d is.3 state
few_by (Late w) l n attempt piece d is state = follows_open (length n.greeting < 65536 + 42) l is.0 is.1 n d is.3 state
few_by (Lost why) l n attempt piece d is state = not_err (length n.greeting < 65536 + 42) Over is.0

pub words_are_few : (l n : Line) (attempt now : ℕ) (piece : List ℕ) → LineDoes l (Receive attempt piece now (Ok tt)) n
    → (d : Deadline) → n.clock.state ≡ Connecting d → length n.greeting < 65536 + 42
words_are_few l n attempt now piece does d state =
    let a : Line = lines.at l now in
    either (lines.is_newest a attempt) (receiving.AnsweredBy a attempt piece (Ok tt) n)
    (◌≡◌ {A = Result (Unit {0}) ReceiveFault} (Ok tt) (Err Over) × (n ≡ a)) (length n.greeting < 65536 + 42)
    (either (nat_le 65536 a.answers) (◌≡◌ {A = Result (Unit {0}) ReceiveFault} (Ok tt) (Err TooManyAnswers) × (n ≡ lines.failed a))
    (receiving.TakesBy a.clock.state a attempt piece (Ok tt) n) (length n.greeting < 65536 + 42)
    (λ p. not_err (length n.greeting < 65536 + 42) TooManyAnswers p.0)
    (λ q. few_by a.clock.state a n attempt piece d q state))
    (λ q. not_err (length n.greeting < 65536 + 42) Over q.0) does
