-- What a call of a line does to the count that the host is to acknowledge.
use Rattle.std.proofs.Common.{◌≡◌, ℕ, ◌+◌, ◌-◌, ◌⊎◌, inl, inr, List, [], Bool, true, false, MatchBool, if◌then◌else◌, Option, None, Some, Result, Ok, Err, is_ok, refl, ap, ◌∙◌, nat_le, nat_lt}
use Rattle.sam_link.specs.Calls.{Does}
use Rattle.sam_link.specs.Calls.Call.{Ask as LinkAsk}
use Rattle.sam_link.specs.End.{End}
use Rattle.sam_link.specs.declared.fault.FeedFault.{FeedFault}
use Rattle.sam_link.specs.declared.fault.FeedFault.TheVariants as feeds
use Rattle.sam_link.specs.declared.fault.WelcomeFault.{WelcomeFault}
use Rattle.sam_link.specs.declared.fault.WelcomeFault.TheVariants as welcomes
use Rattle.sam_link.specs.declared.hello.Hello.{Hello}
use Rattle.sam_link.specs.declared.hello.Refusal.{Refusal}
use Rattle.sam_link.specs.declared.keeping.PutFault.{PutFault}
use Rattle.sam_line.specs.Calls.{LineCall, LineDoes, put_by}
use Rattle.sam_line.specs.Calls.LineCall.{Acknowledge, AddressChanged, Ask, Broken, Connected, Expect, NextNote, NotConnected, Put, PutNote, Receive, TakeIn, TakeOut, TickAt}
use Rattle.sam_line.specs.Line as lines
use Rattle.sam_line.specs.Question.{measured_from}
use Rattle.sam_line.specs.Receiving as receiving
use Rattle.sam_line.specs.declared.clock.State.{State}
use Rattle.sam_line.specs.declared.clock.State.TheVariants.{Down, Connecting, Open, Late, Lost}
use Rattle.sam_line.specs.declared.clock.Tick.{Tick}
use Rattle.sam_line.specs.declared.clock.Tick.TheVariants as ticks
use Rattle.sam_line.specs.declared.fault.ReceiveFault.{ReceiveFault}
use Rattle.sam_line.specs.declared.fault.ReceiveFault.TheVariants.{Over, TooManyAnswers, TooManyWords}
use Rattle.sam_line.specs.declared.line.Line.{Line}
use Rattle.sam_line.specs.declared.question.Question.{Question}

-- it stays, and nothing was put; or it is all that the link has put
abbrev pub Owes : Line → LineCall → Line → Type 0
Owes l call n = ((put_by call ≡ []) × (n.question.due ≡ l.question.due)) ⊎ (n.question.due ≡ lines.put_len n.link)

abbrev due_of : Line → ℕ
due_of l = l.question.due

if_failed : (b : Bool) (l : Line) → due_of (if b then lines.failed l else l) ≡ due_of l
if_failed true l = refl
if_failed false l = refl

after_tick : (l : Line) (tick : Tick) → due_of (lines.after l tick) ≡ due_of l
after_tick l ticks.Nothing = refl
after_tick l ticks.Connect = refl
after_tick l ticks.Drop = refl
after_tick l ticks.Ask = refl

after_connect : (l : Line) (did : Bool) (e : End) → due_of (lines.connected l did e) ≡ due_of l
after_connect l true e = refl
after_connect l false e = refl

if_measured : (b : Bool) (q : Question) (n : ℕ) → (if b then record q { since = None; round_trip = n } else q).due ≡ q.due
if_measured true q n = refl
if_measured false q n = refl

measured_due : (q : Question) (since : Option ℕ) (acknowledged now : ℕ) → (measured_from q since acknowledged now).due ≡ q.due
measured_due q None acknowledged now = refl
measured_due q (Some since) acknowledged now = if_measured (nat_le q.asked acknowledged) q (now - since)

failed_by_due : (fault : FeedFault) (l : Line) → due_of (receiving.failed_by fault l) ≡ due_of l
failed_by_due feeds.NotOpen l = refl
failed_by_due feeds.CountFull l = refl
failed_by_due feeds.OutOfMemory l = refl
failed_by_due (feeds.Wrong fault) l = refl
failed_by_due feeds.AckAhead l = refl

follows_due : (l : Line) (fed : Result (Unit {0}) FeedFault) (e : End) (answer : Result (Unit {0}) ReceiveFault) (n : Line)
    → receiving.Follows l fed e answer n → due_of n ≡ due_of l
follows_due l (Ok done) e answer n (says, is) = ap due_of is ∙ measured_due l.question l.question.since e.keeps.base l.clock.time
follows_due l (Err fault) e answer n (says, is) = ap due_of is ∙ failed_by_due fault (record l { link = e })

begins_due : (l : Line) (before : List ℕ) (fed : Result (Unit {0}) FeedFault) (e : End) (answer : Result (Unit {0}) ReceiveFault) (n : Line)
    → receiving.Begins l before fed e answer n → due_of n ≡ due_of l
begins_due l before (Ok done) e answer n d = follows_due (receiving.welcomed l) (Ok done) e answer n d
begins_due l before (Err feeds.OutOfMemory) e answer n d = ap due_of d.1
begins_due l before (Err feeds.NotOpen) e answer n d = follows_due (receiving.welcomed l) (Err feeds.NotOpen) e answer n d
begins_due l before (Err feeds.CountFull) e answer n d = follows_due (receiving.welcomed l) (Err feeds.CountFull) e answer n d
begins_due l before (Err (feeds.Wrong fault)) e answer n d = follows_due (receiving.welcomed l) (Err (feeds.Wrong fault)) e answer n d
begins_due l before (Err feeds.AckAhead) e answer n d = follows_due (receiving.welcomed l) (Err feeds.AckAhead) e answer n d

met_due : (l : Line) (attempt : ℕ) (before : List ℕ) (start : ℕ) (met : Result (Unit {0}) WelcomeFault) (answer : Result (Unit {0}) ReceiveFault)
    (n : Line) → receiving.MetBy l attempt before start met answer n → due_of n ≡ due_of l
met_due l attempt before start (Ok done) answer n (fed, e, does, begins) = begins_due l before fed e answer n begins
met_due l attempt before start (Err (welcomes.ByHost why)) answer n d = ap due_of d.1
met_due l attempt before start (Err (welcomes.Here why)) answer n d = ap due_of d.1
met_due l attempt before start (Err welcomes.NotOpen) answer n d = ap due_of d.1
met_due l attempt before start (Err welcomes.WrongRole) answer n d = ap due_of d.1

read_due : (l : Line) (attempt : ℕ) (before : List ℕ) (words : ℕ) (read : Result (Option Hello) Refusal) (answer : Result (Unit {0}) ReceiveFault)
    (n : Line) → receiving.ReadBy l attempt before words read answer n → due_of n ≡ due_of l
read_due l attempt before words (Ok None) answer n d = ap due_of d.1
read_due l attempt before words (Err why) answer n d = ap due_of d.1
read_due l attempt before words (Ok (Some hello)) answer n (met, m, meets, by) =
    met_due (record l { link = m }) attempt before (words + 42) met answer n by

words_due : (b : Bool) (l : Line) (attempt : ℕ) (before : List ℕ) (words : ℕ) (answer : Result (Unit {0}) ReceiveFault) (n : Line) (why : ReceiveFault)
    → MatchBool b ((answer ≡ Err why) × (n ≡ lines.failed l)) (receiving.Reads l attempt before words answer n) → due_of n ≡ due_of l
words_due true l attempt before words answer n why d = ap due_of d.1
words_due false l attempt before words answer n why (read, reads, by) = read_due l attempt before words read answer n by

greets_due : (l : Line) (attempt : ℕ) (piece : List ℕ) (answer : Result (Unit {0}) ReceiveFault) (n : Line) → receiving.Greets l attempt piece answer n
    → due_of n ≡ due_of l
greets_due l attempt piece answer n (inl d) = ap due_of d.1
greets_due l attempt piece answer n (inr (words, before, by)) =
    words_due (nat_lt 65536 words) (receiving.held l piece) attempt l.greeting words answer n TooManyWords by

takes_due : (s : State) (l : Line) (attempt : ℕ) (piece : List ℕ) (answer : Result (Unit {0}) ReceiveFault) (n : Line)
    → receiving.TakesBy s l attempt piece answer n → due_of n ≡ due_of l
takes_due (Down d) l attempt piece answer n is = ap due_of is.1
takes_due (Connecting d) l attempt piece answer n is = greets_due l attempt piece answer n is
takes_due Open l attempt piece answer n (fed, e, does, follows) = follows_due l fed e answer n follows
takes_due (Late d) l attempt piece answer n (fed, e, does, follows) = follows_due l fed e answer n follows
takes_due (Lost why) l attempt piece answer n is = ap due_of is.1

answered_due : (b : Bool) (l : Line) (attempt : ℕ) (piece : List ℕ) (answer : Result (Unit {0}) ReceiveFault) (n : Line) (why : ReceiveFault)
    → MatchBool b ((answer ≡ Err why) × (n ≡ lines.failed l)) (receiving.TakesBy l.clock.state l attempt piece answer n) → due_of n ≡ due_of l
answered_due true l attempt piece answer n why d = ap due_of d.1
answered_due false l attempt piece answer n why d = takes_due l.clock.state l attempt piece answer n d

received_due : (b : Bool) (l : Line) (attempt : ℕ) (piece : List ℕ) (answer : Result (Unit {0}) ReceiveFault) (n : Line) (why : ReceiveFault)
    → MatchBool b (receiving.AnsweredBy l attempt piece answer n) ((answer ≡ Err why) × (n ≡ l)) → due_of n ≡ due_of l
received_due true l attempt piece answer n why d = answered_due (nat_le 65536 l.answers) l attempt piece answer n TooManyAnswers d
received_due false l attempt piece answer n why d = ap due_of d.1

asked_due : (b : Bool) (l n : Line) (now : ℕ) (answer : Result (Unit {0}) PutFault)
    → MatchBool b (Does l.link (LinkAsk answer) n.link × (n ≡ lines.asked_by (lines.at l now) (is_ok answer) n.link)) ((answer ≡ Ok tt) × (n ≡ lines.at l now))
    → Owes l (Ask now answer) n
asked_due true l n now (Ok done) d = inr (ap due_of d.1)
asked_due true l n now (Err why) d = inl (refl, ap due_of d.1)
asked_due false l n now answer d = inl (refl, ap due_of d.1)

pub owes : (l : Line) (call : LineCall) (n : Line) → LineDoes l call n → Owes l call n
owes l (TickAt now answer) n d = inl (refl, ap due_of d.1 ∙ after_tick (lines.at l now) answer)
owes l (Connected now answer) n d = inl (refl, ap due_of d.1 ∙ after_connect (lines.at l now) (is_ok answer) n.link)
owes l (NotConnected now) n d = inl (refl, ap due_of d ∙ if_failed (lines.is_opening (lines.at l now)) (lines.at l now))
owes l (Broken attempt now) n d = inl (refl, ap due_of d ∙ if_failed (lines.is_newest (lines.at l now) attempt) (lines.at l now))
owes l (AddressChanged now) n d = inl (refl, ap due_of d)
owes l (Expect expects now) n d = inl (refl, ap due_of d)
owes l (Receive attempt piece now answer) n d =
    inl (refl, received_due (lines.is_newest (lines.at l now) attempt) (lines.at l now) attempt piece answer n Over d)
owes l (Put bytes now (Ok done)) n d = inr (ap due_of d.1)
owes l (Put bytes now (Err why)) n d = inl (refl, ap due_of d.1)
owes l (PutNote bytes now (Ok done)) n d = inr (ap due_of d.1)
owes l (PutNote bytes now (Err why)) n d = inl (refl, ap due_of d.1)
owes l (Ask now answer) n d = asked_due (lines.is_to_ask (lines.at l now)) l n now answer d
owes l (Acknowledge answer) n d = inl (refl, ap due_of d.1)
owes l (TakeOut attempt old answer new) n d = inl (refl, ap due_of d.1)
owes l (TakeIn old count new) n d = inl (refl, ap due_of d.1)
owes l (NextNote old count new) n d = inl (refl, ap due_of d.2)
