-- A call that answers so leads from an end to one end.
use Rattle.std.proofs.Common.{◌≡◌, ℕ, Bool, List, [], ◌∷◌, ◌++◌, None, Some, Option, Ok, Err, Result, refl, sym, ap, ◌∙◌, subst}
use Rattle.sam_mesg.specs.Spelling.{eight, frame}
use Rattle.sam_link.specs.Calls.{Acknowledges, Call, Does, DoesAll}
use Rattle.sam_link.specs.Calls.Call.{Acknowledge, Answer, Ask, Break, Dial, Feed, NextNote, Put, PutNote, TakeIn, TakeOut, Welcome}
use Rattle.sam_link.specs.End.{AnswersBy, CallsBy, End, TakesOut, WelcomesBy}
use Rattle.sam_link.specs.Feeding.{Feeds, PutsNote}
use Rattle.sam_link.specs.Inbox.{GivesNote, Waiting}
use Rattle.sam_link.specs.Keeping.{Keeps, Puts}
use Rattle.sam_link.specs.Packets.{Packet}
use Rattle.sam_link.specs.declared.fault.AnswerFault.{AnswerFault}
use Rattle.sam_link.specs.declared.fault.AnswerFault.TheVariants as answers
use Rattle.sam_link.specs.declared.fault.CallFault.{CallFault}
use Rattle.sam_link.specs.declared.fault.CallFault.TheVariants as calls
use Rattle.sam_link.specs.declared.fault.FeedFault.{FeedFault}
use Rattle.sam_link.specs.declared.fault.FeedFault.TheVariants as feeds
use Rattle.sam_link.specs.declared.fault.NotOpen.{NotOpen}
use Rattle.sam_link.specs.declared.fault.NoteFault.{NoteFault}
use Rattle.sam_link.specs.declared.fault.NoteFault.TheVariants as notes
use Rattle.sam_link.specs.declared.fault.WelcomeFault.{WelcomeFault}
use Rattle.sam_link.specs.declared.fault.WelcomeFault.TheVariants as welcomes
use Rattle.sam_link.specs.declared.hello.Hello.{Hello}
use Rattle.sam_link.specs.declared.keeping.PutFault.{PutFault}
use Rattle.sam_link.specs.declared.keeping.PutFault.TheVariants as puts
use Rattle.sam_link.specs.declared.phase.Role.{Role}
use Rattle.sam_link.specs.declared.phase.Role.TheVariants.{Terminal, Host}
use Rattle.sam_link.proofs.Feeds.{one_feed}

dials : (role : Role) (e a b : End) (take_over : Bool) (answer : Result ℕ CallFault) → CallsBy role e take_over answer a
    → CallsBy role e take_over answer b → a ≡ b
dials Terminal e a b take_over (Ok attempt) x y = x.2 ∙ sym y.2
dials Terminal e a b take_over (Err calls.CountFull) x y = x.1 ∙ sym y.1
dials Terminal e a b take_over (Err calls.WrongRole) x y = absurd x
dials Host e a b take_over (Err calls.WrongRole) x y = x ∙ sym y
dials Host e a b take_over (Err calls.CountFull) x y = absurd x
dials Host e a b take_over (Ok attempt) x y = absurd x

answered : (role : Role) (e a b : End) (h : Hello) (answer : Result (Unit {0}) AnswerFault) → AnswersBy role e h answer a
    → AnswersBy role e h answer b → a ≡ b
answered Host e a b h (Ok done) x y = x.1 ∙ sym y.1
answered Host e a b h (Err (answers.Refused why)) x y = x.1 ∙ sym y.1
answered Host e a b h (Err answers.WrongRole) x y = absurd x
answered Terminal e a b h (Err answers.WrongRole) x y = x ∙ sym y
answered Terminal e a b h (Err (answers.Refused why)) x y = absurd x
answered Terminal e a b h (Ok done) x y = absurd x

welcomes_one : (role : Role) (e a b : End) (h : Hello) (answer : Result (Unit {0}) WelcomeFault) → WelcomesBy role e h answer a
    → WelcomesBy role e h answer b → a ≡ b
welcomes_one Terminal e a b h (Ok done) x y = x.1 ∙ sym y.1
welcomes_one Terminal e a b h (Err fault) x y = x.1 ∙ sym y.1
welcomes_one Host e a b h (Err welcomes.WrongRole) x y = x ∙ sym y
welcomes_one Host e a b h (Err welcomes.NotOpen) x y = absurd x
welcomes_one Host e a b h (Err (welcomes.ByHost why)) x y = absurd x
welcomes_one Host e a b h (Err (welcomes.Here why)) x y = absurd x
welcomes_one Host e a b h (Ok done) x y = absurd x

puts_one : (k m n : Keeps) (bytes : List ℕ) (answer : Result (Unit {0}) PutFault) → Puts k bytes answer m → Puts k bytes answer n → m ≡ n
puts_one k m n bytes (Ok done) x y = x.1 ∙ sym y.1
puts_one k m n bytes (Err puts.CountFull) x y = x.1 ∙ sym y.1
puts_one k m n bytes (Err puts.OutOfMemory) x y = x.1 ∙ sym y.1

notes_one : (k m n : Keeps) (bytes : List ℕ) (answer : Result (Unit {0}) NoteFault) → PutsNote k bytes answer m → PutsNote k bytes answer n
    → m ≡ n
notes_one k m n bytes (Ok done) x y = x.1.1 ∙ sym y.1.1
notes_one k m n bytes (Err notes.TooLong) x y = x.1 ∙ sym y.1
notes_one k m n bytes (Err notes.CountFull) x y = x.1.1 ∙ sym y.1.1
notes_one k m n bytes (Err notes.OutOfMemory) x y = x.1.1 ∙ sym y.1.1

by_keeps : (e a b : End) → a ≡ record e { keeps = a.keeps } → b ≡ record e { keeps = b.keeps } → a.keeps ≡ b.keeps → a ≡ b
by_keeps e a b x y same = x ∙ ap (λ (k : Keeps). record e { keeps = k }) same ∙ sym y

acknowledges_one : (e a b : End) (answer : Result (Unit {0}) PutFault) → Acknowledges e answer a → Acknowledges e answer b
    → a.keeps ≡ b.keeps → a ≡ b
acknowledges_one e a b (Ok done) x y same = x ∙ ap (λ (k : Keeps). record e { keeps = k; told = e.received }) same ∙ sym y
acknowledges_one e a b (Err why) x y same = x ∙ sym y

takes_one : (e a b : End) (attempt : ℕ) (old new : List ℕ) (answer : Result ℕ NotOpen) → TakesOut e attempt old answer new a
    → TakesOut e attempt old answer new b → a ≡ b
takes_one e a b attempt old new (Ok count) x y = x.4 ∙ sym y.4
takes_one e a b attempt old new (Err why) x y = x.2 ∙ sym y.2

feeds_one : (e a b : End) (attempt : ℕ) (piece : List ℕ) (answer : Result (Unit {0}) FeedFault) → Feeds e attempt piece answer a
    → Feeds e attempt piece answer b → a ≡ b
feeds_one e a b attempt piece (Ok done) x y = (one_feed e attempt piece (Ok done) (Ok done) a b x y (λ same. cc) (λ same. cc)).1
feeds_one e a b attempt piece (Err feeds.NotOpen) x y = x.1 ∙ sym y.1
feeds_one e a b attempt piece (Err feeds.CountFull) x y = x.2 ∙ sym y.2
feeds_one e a b attempt piece (Err feeds.OutOfMemory) x y = x.1 ∙ sym y.1
feeds_one e a b attempt piece (Err (feeds.Wrong fault)) x y = x.5 ∙ sym y.5
feeds_one e a b attempt piece (Err feeds.AckAhead) x y = x.6 ∙ sym y.6

given_alike : (ps qs : List Packet) (a b : List ℕ × List Packet) → a.1 ≡ ps → b.1 ≡ qs → Some a ≡ Some b → ps ≡ qs
given_alike ps qs a b x y same = let both : a ≡ b = cc in sym x ∙ ap (λ (p : List ℕ × List Packet). p.1) both ∙ y

given_one : (w m n : Waiting) (answer : Option (List ℕ)) → GivesNote w answer m → GivesNote w answer n → m ≡ n
given_one w m n (Some bytes) x y =
    let part : m.part ≡ n.part = x.1 ∙ sym y.1 in
    let rest : m.packets ≡ n.packets = given_alike m.packets n.packets (bytes, m.packets) (bytes, n.packets) refl refl (sym x.0 ∙ y.0) in
    λ i. record { part = part i; packets = rest i }
given_one w m n None x y = x.1 ∙ sym y.1

by_waiting : (e a b : End) → a ≡ record e { waiting = a.waiting } → b ≡ record e { waiting = b.waiting } → a.waiting ≡ b.waiting → a ≡ b
by_waiting e a b x y same = x ∙ ap (λ (k : Waiting). record e { waiting = k }) same ∙ sym y

pub one_does : (c : Call) (e a b : End) → Does e c a → Does e c b → a ≡ b
one_does (Dial take_over answer) e a b x y = dials e.role e a b take_over answer x y
one_does (Answer h answer) e a b x y = answered e.role e a b h answer x y
one_does (Welcome h answer) e a b x y = welcomes_one e.role e a b h answer x y
one_does (Break attempt) e a b x y = x ∙ sym y
one_does (Put bytes answer) e a b x y = by_keeps e a b x.1 y.1 (puts_one e.keeps a.keeps b.keeps _ answer x.0 y.0)
one_does (PutNote bytes answer) e a b x y = by_keeps e a b x.1 y.1 (notes_one e.keeps a.keeps b.keeps bytes answer x.0 y.0)
one_does (Ask answer) e a b x y = by_keeps e a b x.1 y.1 (puts_one e.keeps a.keeps b.keeps (frame 4 []) answer x.0 y.0)
one_does (Acknowledge answer) e a b x y =
    acknowledges_one e a b answer x.1 y.1 (puts_one e.keeps a.keeps b.keeps (frame 3 (eight e.received)) answer x.0 y.0)
one_does (TakeOut attempt old answer new) e a b x y = takes_one e a b attempt old new answer x y
one_does (Feed attempt piece answer) e a b x y = feeds_one e a b attempt piece answer x y
one_does (TakeIn old count new) e a b x y = x.2 ∙ sym y.2
one_does (NextNote answer) e a b x y = by_waiting e a b x.1 y.1 (given_one e.waiting a.waiting b.waiting answer x.0 y.0)

pub one_end : (cs : List Call) (e a b : End) → DoesAll e cs a → DoesAll e cs b → a ≡ b
one_end [] e a b x y = x ∙ sym y
one_end (c ∷ cs) e a b (m, does, rest) (k, does_too, rest_too) =
    one_end cs m a b rest (subst (λ z. DoesAll z cs b) (sym (one_does c e m k does does_too)) rest_too)

-- these calls, and one more
pub does_more : (cs : List Call) (c : Call) (e m n : End) → DoesAll e cs m → Does m c n → DoesAll e (cs ++ c ∷ []) n
does_more [] c e m n all does = (n, subst (λ z. Does z c n) all does, refl)
does_more (d ∷ cs) c e m n (k, first, rest) does = (k, first, does_more cs c k m n rest does)
