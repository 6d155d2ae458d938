-- Each call of an end is one move.
use Rattle.std.proofs.Common.{◌≡◌, ℕ, ◌+◌, ◌<◌, ◌≤◌, List, [], ◌∷◌, ◌++◌, length, take, drop, map, Bool, true, false, None, Some, Option, Ok, Err, Result, refl, sym, ap, ◌∙◌, subst, append_assoc, arith, length-take, true≢false, ◌&&◌}
use Rattle.std.proofs.lemmas.List.{map-append, take-append-drop}
use Rattle.std.specs.List.{flat_map}
use Rattle.std.specs.Prelude.{min, ◌==◌, if◌then◌else◌}
use Rattle.sam_mesg.specs.Spelling.{eight, frame}
use Rattle.sam_frame.specs.Stream.{stream_of}
use Rattle.sam_frame.proofs.Fronts.{stream_of-one}
use Rattle.sam_link.specs.Calls.{Acknowledges, Call, Does, Byte, Item, Note, items_in, waits}
use Rattle.sam_link.specs.Calls.Call.{Acknowledge, Answer, Ask, Break, Dial, Feed, NextNote, Put, PutNote, TakeIn, TakeOut, Welcome}
use Rattle.sam_link.specs.End.{AnswersBy, CallsBy, End, TakesOut, WelcomesBy, ended, fault_by_word, is_asking, refusal_of, welcome_count, welcome_fault, welcome_refusal, welcomed}
use Rattle.sam_link.specs.Feeding.{Feeds, PutsNote}
use Rattle.sam_link.specs.Inbox.{GivesNote, Waiting, left_of, note_of, ready, ready_of}
use Rattle.sam_link.specs.Keeping.{HasRoom, Keeps, Puts}
use Rattle.sam_link.specs.Keeping.{put as put_bytes}
use Rattle.sam_link.specs.Packets.{Packet, packets}
use Rattle.sam_link.specs.Putting.{data_stream}
use Rattle.sam_link.specs.declared.fault.AnswerFault.{AnswerFault}
use Rattle.sam_link.specs.declared.fault.AnswerFault.TheVariants as answers
use Rattle.sam_link.specs.declared.fault.CallFault.{CallFault}
use Rattle.sam_link.specs.declared.fault.CallFault.TheVariants as calls
use Rattle.sam_link.specs.declared.fault.FeedFault.{FeedFault}
use Rattle.sam_link.specs.declared.fault.FeedFault.TheVariants as feeds
use Rattle.sam_link.specs.declared.fault.NotOpen.{NotOpen}
use Rattle.sam_link.specs.declared.fault.NoteFault.{NoteFault}
use Rattle.sam_link.specs.declared.fault.NoteFault.TheVariants as notes
use Rattle.sam_link.specs.declared.fault.WelcomeFault.{WelcomeFault}
use Rattle.sam_link.specs.declared.fault.WelcomeFault.TheVariants as welcomes
use Rattle.sam_link.specs.declared.hello.Hello.{Hello}
use Rattle.sam_link.specs.declared.hello.What.{What}
use Rattle.sam_link.specs.declared.hello.What.TheVariants as word
use Rattle.sam_link.specs.declared.keeping.PutFault.{PutFault}
use Rattle.sam_link.specs.declared.keeping.PutFault.TheVariants as puts
use Rattle.sam_link.specs.Packets.{Packet as packet}
use Rattle.sam_link.specs.declared.phase.Role.{Role}
use Rattle.sam_link.specs.declared.phase.Role.TheVariants.{Terminal, Host}
use Rattle.sam_link.proofs.OwnMoves.{Stepped, adds, answers as own_answers, dials, over, refused, stays, takes, takes_out, took_front, welcomed_first, welcomed_later}
use Rattle.sam_link.proofs.Packing.{data_of, data_of_fit, data_of_items, data_of_stream, data_of_top}
use Rattle.sam_link.proofs.Views.{Own}

-- ## Connections

dial_by : (role : Role) (e n : End) (cs : List Call) (ps qs : List Packet) (take_over : Bool) (answer : Result ℕ CallFault) → Own e cs ps qs → e.role ≡ role
    → CallsBy role e take_over answer n → Stepped e n cs (Dial take_over answer) ps qs
dial_by Terminal e n cs ps qs take_over (Ok attempt) o r d =
    dials e n cs (Dial take_over (Ok attempt)) ps qs take_over o (λ m. refl) (λ m. refl) refl refl r (omega (arith, d.0, d.1)) d.2
dial_by Terminal e n cs ps qs take_over (Err calls.CountFull) o r d = refused e n cs (Dial take_over (Err calls.CountFull)) ps qs o (λ m. refl) (λ m. refl) refl refl d.1
dial_by Terminal e n cs ps qs take_over (Err calls.WrongRole) o r d = absurd d
dial_by Host e n cs ps qs take_over (Err calls.WrongRole) o r d = refused e n cs (Dial take_over (Err calls.WrongRole)) ps qs o (λ m. refl) (λ m. refl) refl refl d
dial_by Host e n cs ps qs take_over (Err calls.CountFull) o r d = absurd d
dial_by Host e n cs ps qs take_over (Ok attempt) o r d = absurd d

taken_call : (e : End) (g : Hello) → refusal_of e g ≡ None → (e.attempt < g.attempt) × (e.keeps.base ≤ g.received) × (g.received ≤ e.keeps.base + length e.keeps.kept)
taken_call e g is = (grind (arith, is), grind (arith, is), grind (arith, is))

answer_by : (role : Role) (e n : End) (cs : List Call) (ps qs : List Packet) (g : Hello) (answer : Result (Unit {0}) AnswerFault) → Own e cs ps qs → e.role ≡ role
    → AnswersBy role e g answer n → Stepped e n cs (Answer g answer) ps qs
answer_by Host e n cs ps qs g (Ok done) o r d =
    let t = taken_call e g d.0 in
    own_answers e n cs (Answer g (Ok done)) ps qs g o (λ m. refl) (λ m. refl) refl refl r t.0 t.1 t.2 refl (λ theirs w. w) d.1
answer_by Host e n cs ps qs g (Err (answers.Refused why)) o r d = refused e n cs (Answer g (Err (answers.Refused why))) ps qs o (λ m. refl) (λ m. refl) refl refl d.1
answer_by Host e n cs ps qs g (Err answers.WrongRole) o r d = absurd d
answer_by Terminal e n cs ps qs g (Err answers.WrongRole) o r d = refused e n cs (Answer g (Err answers.WrongRole)) ps qs o (λ m. refl) (λ m. refl) refl refl d
answer_by Terminal e n cs ps qs g (Err (answers.Refused why)) o r d = absurd d
answer_by Terminal e n cs ps qs g (Ok done) o r d = absurd d

word_taken : (w : What) (e : End) (x : Hello) → fault_by_word e x w ≡ None → welcome_refusal e x ≡ None
word_taken word.Begin e x is = cc
word_taken word.Resume e x is = cc
word_taken word.TakeOver e x is = cc
word_taken word.Welcome e x is = is
word_taken (word.Refused why) e x is = cc

asked : (b : Bool) (e : End) (x : Hello) → (if b then fault_by_word e x x.what else Some welcomes.NotOpen) ≡ None → (b ≡ true) × (welcome_refusal e x ≡ None)
asked true e x is = (refl, word_taken x.what e x is)
asked false e x is = cc

welcome_taken : (e : End) (x : Hello) → welcome_fault e x ≡ None → (is_asking e.phase ≡ true) × (x.attempt ≡ e.attempt) × (welcome_count e x.received ≡ true)
welcome_taken e x is = let a = asked (is_asking e.phase) e x is in (a.0, grind (arith, a.1), grind (arith, a.1))

welcome_as : (b : Bool) (e n : End) (cs : List Call) (ps qs : List Packet) (x : Hello) → (e.attempt == 1) ≡ b → Own e cs ps qs → e.role ≡ Terminal
    → is_asking e.phase ≡ true → x.attempt ≡ e.attempt → welcome_count e x.received ≡ true → n ≡ welcomed e x → Stepped e n cs (Welcome x (Ok tt)) ps qs
welcome_as true e n cs ps qs x one o r asking same count is =
    welcomed_first e n cs (Welcome x (Ok tt)) ps qs x o (λ m. refl) (λ m. refl) refl refl r asking same one (grind (arith, one, count)) refl (λ theirs w. w)
    (is ∙ rw one refl)
welcome_as false e n cs ps qs x one o r asking same count is =
    welcomed_later e n cs (Welcome x (Ok tt)) ps qs x o (λ m. refl) (λ m. refl) refl refl r asking same one (grind (arith, one, count)) (grind (arith, one, count)) refl
    (λ theirs w. w) (is ∙ rw one refl)

welcome_by : (role : Role) (e n : End) (cs : List Call) (ps qs : List Packet) (x : Hello) (answer : Result (Unit {0}) WelcomeFault) → Own e cs ps qs → e.role ≡ role
    → WelcomesBy role e x answer n → Stepped e n cs (Welcome x answer) ps qs
welcome_by Terminal e n cs ps qs x (Ok done) o r d =
    let t = welcome_taken e x d.0 in
    welcome_as (e.attempt == 1) e n cs ps qs x refl o r t.0 t.1 t.2 d.1
welcome_by Terminal e n cs ps qs x (Err fault) o r d = refused e n cs (Welcome x (Err fault)) ps qs o (λ m. refl) (λ m. refl) refl refl d.1
welcome_by Host e n cs ps qs x (Err welcomes.WrongRole) o r d = refused e n cs (Welcome x (Err welcomes.WrongRole)) ps qs o (λ m. refl) (λ m. refl) refl refl d
welcome_by Host e n cs ps qs x answer o r d = absurd d

break_by : (b : Bool) (e n : End) (cs : List Call) (ps qs : List Packet) (attempt : ℕ) → Own e cs ps qs → n ≡ (if b then ended e else e) → Stepped e n cs (Break attempt) ps qs
break_by true e n cs ps qs attempt o is = over e n cs (Break attempt) ps qs o (λ m. refl) (λ m. refl) refl refl is
break_by false e n cs ps qs attempt o is = refused e n cs (Break attempt) ps qs o (λ m. refl) (λ m. refl) refl refl is

-- ## Puts

kept_same : (e n : End) → n.keeps ≡ e.keeps → n ≡ record e { keeps = n.keeps } → n ≡ e
kept_same e n k is = is ∙ ap (λ (l : Keeps). record e { keeps = l }) k

kept_now : (e n : End) (bytes : List ℕ) (more : List Packet) → n.keeps ≡ put_bytes e.keeps bytes → bytes ≡ stream_of packets more → n ≡ record e { keeps = n.keeps }
    → n ≡ record e { keeps = put_bytes e.keeps (stream_of packets more) }
kept_now e n bytes more k same is = is ∙ ap (λ (l : Keeps). record e { keeps = l }) (k ∙ ap (λ b. put_bytes e.keeps b) same)

put_by_answer : (e n : End) (cs : List Call) (ps qs : List Packet) (bytes : List ℕ) (answer : Result (Unit {0}) PutFault) → Own e cs ps qs
    → Puts e.keeps (data_stream bytes) answer n.keeps → n ≡ record e { keeps = n.keeps } → Stepped e n cs (Put bytes answer) ps qs
put_by_answer e n cs ps qs bytes (Ok done) o d is =
    adds e n cs (Put bytes (Ok done)) ps qs (data_of bytes) e.told o (λ m. refl) (λ m. refl) (sym (data_of_items bytes)) refl (data_of_fit bytes)
    (omega (arith, (data_of_top bytes))) (omega arith) o.told (omega arith) (subst (λ b. HasRoom e.keeps (length b)) (data_of_stream bytes) d.0)
    (kept_now e n (data_stream bytes) (data_of bytes) d.1 (data_of_stream bytes) is)
put_by_answer e n cs ps qs bytes (Err puts.CountFull) o d is = refused e n cs (Put bytes (Err puts.CountFull)) ps qs o (λ m. refl) (λ m. refl) refl refl (kept_same e n d.1 is)
put_by_answer e n cs ps qs bytes (Err puts.OutOfMemory) o d is = refused e n cs (Put bytes (Err puts.OutOfMemory)) ps qs o (λ m. refl) (λ m. refl) refl refl (kept_same e n d.1 is)

note_by_answer : (e n : End) (cs : List Call) (ps qs : List Packet) (bytes : List ℕ) (answer : Result (Unit {0}) NoteFault) → Own e cs ps qs
    → PutsNote e.keeps bytes answer n.keeps → n ≡ record e { keeps = n.keeps } → Stepped e n cs (PutNote bytes answer) ps qs
note_by_answer e n cs ps qs bytes (Ok done) o d is =
    let form : frame 2 bytes ≡ stream_of packets (packet.Note bytes ∷ []) = sym (stream_of-one packets (packet.Note bytes)) in
    adds e n cs (PutNote bytes (Ok done)) ps qs (packet.Note bytes ∷ []) e.told o (λ m. refl) (λ m. refl) refl refl (d.0, tt)
    (omega arith) (omega arith) o.told (omega arith) (subst (λ b. HasRoom e.keeps (length b)) form d.1.0)
    (kept_now e n (frame 2 bytes) (packet.Note bytes ∷ []) d.1.1 form is)
note_by_answer e n cs ps qs bytes (Err notes.TooLong) o d is = refused e n cs (PutNote bytes (Err notes.TooLong)) ps qs o (λ m. refl) (λ m. refl) refl refl (kept_same e n d.1 is)
note_by_answer e n cs ps qs bytes (Err notes.CountFull) o d is = refused e n cs (PutNote bytes (Err notes.CountFull)) ps qs o (λ m. refl) (λ m. refl) refl refl (kept_same e n d.1.1 is)
note_by_answer e n cs ps qs bytes (Err notes.OutOfMemory) o d is = refused e n cs (PutNote bytes (Err notes.OutOfMemory)) ps qs o (λ m. refl) (λ m. refl) refl refl (kept_same e n d.1.1 is)

ask_by_answer : (e n : End) (cs : List Call) (ps qs : List Packet) (answer : Result (Unit {0}) PutFault) → Own e cs ps qs
    → Puts e.keeps (frame 4 []) answer n.keeps → n ≡ record e { keeps = n.keeps } → Stepped e n cs (Ask answer) ps qs
ask_by_answer e n cs ps qs (Ok done) o d is =
    let form : frame 4 [] ≡ stream_of packets (packet.Ask ∷ []) = sym (stream_of-one packets packet.Ask) in
    adds e n cs (Ask (Ok done)) ps qs (packet.Ask ∷ []) e.told o (λ m. refl) (λ m. refl) refl refl (tt, tt)
    (omega arith) (omega arith) o.told (omega arith) (subst (λ b. HasRoom e.keeps (length b)) form d.0)
    (kept_now e n (frame 4 []) (packet.Ask ∷ []) d.1 form is)
ask_by_answer e n cs ps qs (Err puts.CountFull) o d is = refused e n cs (Ask (Err puts.CountFull)) ps qs o (λ m. refl) (λ m. refl) refl refl (kept_same e n d.1 is)
ask_by_answer e n cs ps qs (Err puts.OutOfMemory) o d is = refused e n cs (Ask (Err puts.OutOfMemory)) ps qs o (λ m. refl) (λ m. refl) refl refl (kept_same e n d.1 is)

acknowledge_by_answer : (e n : End) (cs : List Call) (ps qs : List Packet) (answer : Result (Unit {0}) PutFault) → Own e cs ps qs
    → Puts e.keeps (frame 3 (eight e.received)) answer n.keeps → Acknowledges e answer n → Stepped e n cs (Acknowledge answer) ps qs
acknowledge_by_answer e n cs ps qs (Ok done) o d is =
    let form : frame 3 (eight e.received) ≡ stream_of packets (packet.Acknowledge e.received ∷ []) = sym (stream_of-one packets (packet.Acknowledge e.received)) in
    adds e n cs (Acknowledge (Ok done)) ps qs (packet.Acknowledge e.received ∷ []) e.received o (λ m. refl) (λ m. refl) refl refl (o.fits, tt)
    (omega arith) o.told (omega arith) (omega arith) (subst (λ b. HasRoom e.keeps (length b)) form d.0)
    (is ∙ ap (λ (l : Keeps). record e { keeps = l; told = e.received }) (d.1 ∙ ap (λ b. put_bytes e.keeps b) form))
acknowledge_by_answer e n cs ps qs (Err why) o d is = refused e n cs (Acknowledge (Err why)) ps qs o (λ m. refl) (λ m. refl) refl refl is

-- ## Bytes

out_by_answer : (e n : End) (cs : List Call) (ps qs : List Packet) (attempt : ℕ) (old new : List ℕ) (answer : Result ℕ NotOpen) → Own e cs ps qs
    → TakesOut e attempt old answer new n → Stepped e n cs (TakeOut attempt old answer new) ps qs
out_by_answer e n cs ps qs attempt old new (Ok count) o d = takes_out e n cs ps qs attempt count old new o d.0 d.1 d.2 d.3 d.4
out_by_answer e n cs ps qs attempt old new (Err why) o d = refused e n cs (TakeOut attempt old (Err why) new) ps qs o (λ m. refl) (λ m. refl) refl refl d.2

both : (a b : Bool) → (a && b) ≡ true → (a ≡ true) × (b ≡ true)
both true true e = (refl, refl)
both true false e = absurd (true≢false (sym e))
both false b e = absurd (true≢false (sym e))

feed_by_answer : (e n : End) (cs : List Call) (ps qs : List Packet) (attempt : ℕ) (piece : List ℕ) (answer : Result (Unit {0}) FeedFault) → Own e cs ps qs
    → Feeds e attempt piece answer n → Stepped e n cs (Feed attempt piece answer) ps qs
feed_by_answer e n cs ps qs attempt piece (Ok done) o (new, len, may, front, unread, top, is) =
    let open_here = both _ (attempt == e.attempt) may.0 in
    takes e n cs ps qs new attempt len piece o open_here.0 (grind (arith, open_here.1)) may.1 front unread top is
feed_by_answer e n cs ps qs attempt piece (Err feeds.NotOpen) o d = refused e n cs (Feed attempt piece (Err feeds.NotOpen)) ps qs o (λ m. refl) (λ m. refl) refl refl d.1
feed_by_answer e n cs ps qs attempt piece (Err feeds.CountFull) o d = refused e n cs (Feed attempt piece (Err feeds.CountFull)) ps qs o (λ m. refl) (λ m. refl) refl refl d.2
feed_by_answer e n cs ps qs attempt piece (Err feeds.OutOfMemory) o d = refused e n cs (Feed attempt piece (Err feeds.OutOfMemory)) ps qs o (λ m. refl) (λ m. refl) refl refl d.1
feed_by_answer e n cs ps qs attempt piece (Err (feeds.Wrong fault)) o (new, len, may, front, shows, is) =
    over e n cs (Feed attempt piece (Err (feeds.Wrong fault))) ps qs o (λ m. refl) (λ m. refl) refl refl is
feed_by_answer e n cs ps qs attempt piece (Err feeds.AckAhead) o (new, len, may, front, unread, ahead, is) =
    over e n cs (Feed attempt piece (Err feeds.AckAhead)) ps qs o (λ m. refl) (λ m. refl) refl refl is

-- ## What is handed on

ready_waits : (part : List ℕ) (ps : List Packet) → waits (ready_of part ps) ≡ map Byte part ++ flat_map items_in ps
ready_waits [] [] = refl
ready_waits [] (packet.Data bytes ∷ ps) = refl
ready_waits [] (packet.Note bytes ∷ ps) = refl
ready_waits [] (packet.Acknowledge count ∷ ps) = refl
ready_waits [] (packet.Ask ∷ ps) = refl
ready_waits (b ∷ part) ps = refl

took : (part old new : List ℕ) (count : ℕ) (rest : List Item) → count ≡ min (length part) (length old) → new ≡ take count part ++ drop count old
    → map Byte (take count new) ++ (map Byte (drop count part) ++ rest) ≡ map Byte part ++ rest
took part old new count rest long is =
    let front : take count new ≡ take count part = took_front (take count part) (drop count old) new count is (omega (arith, long, (length-take count part))) in
    rw front (sym (append_assoc (map Byte (take count part)) (map Byte (drop count part)) rest)
    ∙ ap (λ l. l ++ rest) (sym (map-append Byte (take count part) (drop count part)) ∙ ap (λ l. map Byte l) (take-append-drop count part)))

took_in : (w : Waiting) (old new : List ℕ) (count : ℕ) → count ≡ min (length (ready w).part) (length old) → new ≡ take count (ready w).part ++ drop count old
    → map Byte (take count new) ++ waits (left_of w count) ≡ waits w
took_in w old new count long is = took (ready w).part old new count (flat_map items_in (ready w).packets) long is ∙ ready_waits w.part w.packets

gave_note : (part : List ℕ) (ps : List Packet) (bytes : List ℕ) (m : Waiting) → note_of part ps ≡ Some (bytes, m.packets) → m.part ≡ part
    → Note bytes ∷ waits m ≡ map Byte part ++ flat_map items_in ps
gave_note [] (packet.Note b ∷ ps) bytes m e same = grind (arith, e, same)
gave_note [] [] bytes m e same = cc
gave_note [] (packet.Data b ∷ ps) bytes m e same = cc
gave_note [] (packet.Acknowledge b ∷ ps) bytes m e same = cc
gave_note [] (packet.Ask ∷ ps) bytes m e same = cc
gave_note (x ∷ part) ps bytes m e same = cc

note_by_answer_now : (e n : End) (cs : List Call) (ps qs : List Packet) (answer : Option (List ℕ)) → Own e cs ps qs
    → GivesNote e.waiting answer n.waiting → n ≡ record e { waiting = n.waiting } → Stepped e n cs (NextNote answer) ps qs
note_by_answer_now e n cs ps qs (Some bytes) o d is =
    subst (λ k. Stepped e k cs (NextNote (Some bytes)) ps qs) (sym is)
    (stays e cs (NextNote (Some bytes)) ps qs n.waiting o (λ m. refl) (λ m. refl) refl (gave_note e.waiting.part e.waiting.packets bytes n.waiting d.0 d.1))
note_by_answer_now e n cs ps qs None o d is =
    subst (λ k. Stepped e k cs (NextNote None) ps qs) (sym is)
    (stays e cs (NextNote None) ps qs n.waiting o (λ m. refl) (λ m. refl) refl (ap waits d.1))

-- ## Any call

pub step : (c : Call) (e n : End) (cs : List Call) (ps qs : List Packet) → Own e cs ps qs → Does e c n → Stepped e n cs c ps qs
step (Dial take_over answer) e n cs ps qs o d = dial_by e.role e n cs ps qs take_over answer o refl d
step (Answer g answer) e n cs ps qs o d = answer_by e.role e n cs ps qs g answer o refl d
step (Welcome x answer) e n cs ps qs o d = welcome_by e.role e n cs ps qs x answer o refl d
step (Break attempt) e n cs ps qs o d = break_by (attempt == e.attempt) e n cs ps qs attempt o d
step (Put bytes answer) e n cs ps qs o d = put_by_answer e n cs ps qs bytes answer o d.0 d.1
step (PutNote bytes answer) e n cs ps qs o d = note_by_answer e n cs ps qs bytes answer o d.0 d.1
step (Ask answer) e n cs ps qs o d = ask_by_answer e n cs ps qs answer o d.0 d.1
step (Acknowledge answer) e n cs ps qs o d = acknowledge_by_answer e n cs ps qs answer o d.0 d.1
step (TakeOut attempt old answer new) e n cs ps qs o d = out_by_answer e n cs ps qs attempt old new answer o d
step (Feed attempt piece answer) e n cs ps qs o d = feed_by_answer e n cs ps qs attempt piece answer o d
step (TakeIn old count new) e n cs ps qs o d =
    subst (λ k. Stepped e k cs (TakeIn old count new) ps qs) (sym d.2)
    (stays e cs (TakeIn old count new) ps qs (left_of e.waiting count) o (λ m. refl) (λ m. refl) refl (took_in e.waiting old new count d.0 d.1))
step (NextNote answer) e n cs ps qs o d = note_by_answer_now e n cs ps qs answer o d.0 d.1
