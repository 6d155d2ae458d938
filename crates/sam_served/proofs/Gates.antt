-- An end that had more of the calls is ahead of one that had fewer: what the one lets go out, the other does.
use Rattle.std.proofs.Common.{◌≡◌, ◌⊎◌, inl, inr, ℕ, zero, suc, ◌+◌, ◌-◌, ◌<◌, ◌≤◌, length, List, [], ◌∷◌, ◌++◌, take, drop, Bool, true, false, None, Result, Ok, Err, refl, sym, ap, ◌∙◌, subst, append_assoc, append-nil, arith, length-append, length-drop, drop-drop, true≢false}
use Rattle.std.proofs.lemmas.List.{drop-append-le, take-append-le}
use Rattle.std.specs.Prelude.{min, ◌==◌, if◌then◌else◌}
use Rattle.sam_mesg.specs.Spelling.{eight, frame}
use Rattle.sam_frame.specs.Stream.{stream_of}
use Rattle.sam_link.specs.Calls.{Acknowledges, Call, Does, DoesAll}
use Rattle.sam_link.specs.Calls.Call.{Acknowledge, Answer, Ask, Break, Dial, Feed, NextNote, Put, PutNote, TakeIn, TakeOut, Welcome}
use Rattle.sam_link.specs.End.{AnswersBy, CallsBy, End, TakesOut, WelcomesBy, ended, from_hello, from_kept, going, gone, is_up, may_send, refusal_of}
use Rattle.sam_link.specs.Feeding.{Feeds, PutsNote, fed, owes, tells}
use Rattle.sam_link.specs.Keeping.{Keeps, Puts, acknowledged, put}
use Rattle.sam_link.specs.Meeting.{to_go}
use Rattle.sam_link.specs.Packets.{packets, top_of}
use Rattle.sam_link.specs.Putting.{data_stream}
use Rattle.sam_link.specs.Sessions.{StartsWith}
use Rattle.sam_link.specs.declared.fault.AnswerFault.{AnswerFault}
use Rattle.sam_link.specs.declared.fault.AnswerFault.TheVariants as answers
use Rattle.sam_link.specs.declared.fault.CallFault.{CallFault}
use Rattle.sam_link.specs.declared.fault.CallFault.TheVariants as calls
use Rattle.sam_link.specs.declared.fault.FeedFault.{FeedFault}
use Rattle.sam_link.specs.declared.fault.FeedFault.TheVariants as feeds
use Rattle.sam_link.specs.declared.fault.NoteFault.{NoteFault}
use Rattle.sam_link.specs.declared.fault.NoteFault.TheVariants as notes
use Rattle.sam_link.specs.declared.fault.WelcomeFault.{WelcomeFault}
use Rattle.sam_link.specs.declared.fault.WelcomeFault.TheVariants as welcomes
use Rattle.sam_link.specs.declared.hello.Hello.{Hello}
use Rattle.sam_link.specs.declared.keeping.PutFault.{PutFault}
use Rattle.sam_link.specs.declared.keeping.PutFault.TheVariants as puts
use Rattle.sam_link.specs.declared.phase.Phase.{Phase}
use Rattle.sam_link.specs.declared.phase.Role.{Role}
use Rattle.sam_link.specs.declared.phase.Role.TheVariants.{Terminal, Host}
use Rattle.sam_link.proofs.Packing.{ack_if, told_keeps}
use Rattle.sam_link.proofs.SessionLaws.{two_roles}
use Rattle.sam_served.specs.Crashes.{left, went_out}
use Rattle.sam_served.proofs.Lefts.{TookNone, TookOut, either}
use Rattle.sam_server.proofs.One.{one_does}

-- what an end keeps and has not sent
abbrev pub rest_of : End → List ℕ
rest_of e = drop e.keeps.sent e.keeps.kept

-- on one connection: the same of the hello is left, and the one has what the other has to go, and more
pub record Alike (a b : End) : Type 0 where
  pub phase : a.phase ≡ b.phase
  pub hello : a.hello ≡ b.hello
  pub more : StartsWith (rest_of b) (rest_of a)
  pub place : a.keeps.base + a.keeps.sent ≡ b.keeps.base + b.keeps.sent

pub record Ahead (a b : End) : Type 0 where
  pub fewer : a.attempt ≤ b.attempt
  pub alike : a.attempt ≡ b.attempt → is_up b.phase ≡ true → Alike a b

pub record Fine (e : End) : Type 0 where
  pub role : e.role ≡ Host
  pub inside : e.keeps.sent ≤ length e.keeps.kept

pub ahead_of_itself : (a : End) → Ahead a a
ahead_of_itself a = record {
  fewer = omega arith;
  alike = λ same up. record { phase = refl; hello = refl; more = record { rest = []; is = sym (append-nil (rest_of a)) }; place = refl };
}

-- ## A call that takes nothing out

pub data Moved (b n : End) : Type 0 where
  Goes_on : n.attempt ≡ b.attempt → n.phase ≡ b.phase → n.hello ≡ b.hello → StartsWith (rest_of n) (rest_of b)
      → b.keeps.base + b.keeps.sent ≡ n.keeps.base + n.keeps.sent → Moved b n
  Ends : n.attempt ≡ b.attempt → is_up n.phase ≡ false → Moved b n
  Begins : b.attempt < n.attempt → Moved b n

pub record Moves (b n : End) : Type 0 where
  pub moved : Moved b n
  pub fine : Fine n

front_of : {A : Type 0} (xs ys zs : List A) → StartsWith xs ys → StartsWith ys zs → StartsWith xs zs
front_of xs ys zs a b =
    record { rest = b.rest ++ a.rest; is = a.is ∙ ap (λ (l : List _). l ++ a.rest) b.is ∙ append_assoc zs b.rest a.rest }

itself : {A : Type 0} (xs : List A) → StartsWith xs xs
itself xs = record { rest = []; is = sym (append-nil xs) }

unmoved : (b n : End) → Fine b → n ≡ b → Moves b n
unmoved b n fine is = subst (λ k. Moves b k) (sym is) (record { moved = Goes_on refl refl refl (itself (rest_of b)) refl; fine = fine })

over : (b n : End) → Fine b → n ≡ ended b → Moves b n
over b n fine is =
    subst (λ k. Moves b k) (sym is) (record { moved = Ends refl refl; fine = record { role = fine.role; inside = fine.inside } })

breaks_by : (t : Bool) (b n : End) → Fine b → n ≡ (if t then ended b else b) → Moves b n
breaks_by true b n fine is = over b n fine is
breaks_by false b n fine is = unmoved b n fine is

-- bytes are put
adds : (b n : End) (bytes : List ℕ) (t : ℕ) → Fine b → n ≡ record b { keeps = put b.keeps bytes; told = t } → Moves b n
adds b n bytes t fine is = subst (λ k. Moves b k) (sym is) (record {
  moved = Goes_on refl refl refl (record { rest = bytes; is = drop-append-le b.keeps.sent b.keeps.kept bytes fine.inside }) refl;
  fine = record { role = fine.role; inside = omega (arith, fine.inside, length-append b.keeps.kept bytes) };
})

adds_keeps : (b n : End) (bytes : List ℕ) → Fine b → n.keeps ≡ put b.keeps bytes → n ≡ record b { keeps = n.keeps } → Moves b n
adds_keeps b n bytes fine keeps is = adds b n bytes b.told fine (is ∙ ap (λ (k : Keeps). record b { keeps = k }) keeps)

kept_back : (b n : End) → Fine b → n.keeps ≡ b.keeps → n ≡ record b { keeps = n.keeps } → Moves b n
kept_back b n fine keeps is = unmoved b n fine (is ∙ ap (λ (k : Keeps). record b { keeps = k }) keeps)

puts_move : (b n : End) (bytes : List ℕ) (answer : Result (Unit {0}) PutFault) → Fine b → Puts b.keeps bytes answer n.keeps
    → n ≡ record b { keeps = n.keeps } → Moves b n
puts_move b n bytes (Ok done) fine x is = adds_keeps b n bytes fine x.1 is
puts_move b n bytes (Err puts.CountFull) fine x is = kept_back b n fine x.1 is
puts_move b n bytes (Err puts.OutOfMemory) fine x is = kept_back b n fine x.1 is

notes_move : (b n : End) (bytes : List ℕ) (answer : Result (Unit {0}) NoteFault) → Fine b → PutsNote b.keeps bytes answer n.keeps
    → n ≡ record b { keeps = n.keeps } → Moves b n
notes_move b n bytes (Ok done) fine x is = adds_keeps b n (frame 2 bytes) fine x.1.1 is
notes_move b n bytes (Err notes.TooLong) fine x is = kept_back b n fine x.1 is
notes_move b n bytes (Err notes.CountFull) fine x is = kept_back b n fine x.1.1 is
notes_move b n bytes (Err notes.OutOfMemory) fine x is = kept_back b n fine x.1.1 is

acknowledges_move : (b n : End) (bytes : List ℕ) (answer : Result (Unit {0}) PutFault) → Fine b → Puts b.keeps bytes answer n.keeps
    → Acknowledges b answer n → Moves b n
acknowledges_move b n bytes (Ok done) fine x is =
    adds b n bytes b.received fine (is ∙ ap (λ (k : Keeps). record b { keeps = k; told = b.received }) x.1)
acknowledges_move b n bytes (Err why) fine x is = unmoved b n fine is

-- what has come is acknowledged, after bytes were put
later : (s d : ℕ) (l : List ℕ) → d ≤ s → drop (s - d) (drop d l) ≡ drop s l
later s d l less =
    let sum : d + (s - d) ≡ s = omega (arith, less) in
    drop-drop (s - d) d l ∙ ap (λ (k : ℕ). drop k l) sum

fed_moves : (b n : End) (keeps : Keeps) (bytes : List ℕ) (top : ℕ) → Fine b → top ≤ b.keeps.base + b.keeps.sent → n.attempt ≡ b.attempt
    → n.phase ≡ b.phase → n.hello ≡ b.hello
    → n.role ≡ b.role → n.keeps ≡ acknowledged (put b.keeps bytes) top → Moves b n
fed_moves b n keeps bytes top fine less attempt phase hello role is =
    let d = top - b.keeps.base in
    let behind : rest_of n ≡ rest_of b ++ bytes =
    ap (λ (k : Keeps). drop k.sent k.kept) is ∙ later b.keeps.sent d (b.keeps.kept ++ bytes) (omega (arith, less))
    ∙ drop-append-le b.keeps.sent b.keeps.kept bytes fine.inside in
    record {
      moved = Goes_on attempt phase hello (record { rest = bytes; is = behind })
          (subst (λ (k : Keeps). b.keeps.base + b.keeps.sent ≡ k.base + k.sent) (sym is) (omega (arith, less)));
      fine = record {
        role = role ∙ fine.role;
        inside = subst (λ (k : Keeps). k.sent ≤ length k.kept) (sym is)
            (omega (arith, fine.inside, length-append b.keeps.kept bytes, length-drop d (b.keeps.kept ++ bytes)));
      };
    }

feeds_move : (b n : End) (attempt : ℕ) (piece : List ℕ) (answer : Result (Unit {0}) FeedFault) → Fine b → Feeds b attempt piece answer n
    → Moves b n
feeds_move b n attempt piece (Ok done) fine (ps, len, may, front, unread, top, is) =
    let count = b.received + length piece in
    subst (λ k. Moves b k) (sym is)
    (fed_moves b (fed b piece ps len) b.keeps (stream_of packets (ack_if (tells b.keeps (owes b ps count)) count)) (top_of ps) fine top refl
    refl refl refl
    (ap (λ (k : Keeps). acknowledged k (top_of ps)) (told_keeps b.keeps (owes b ps count) count)))
feeds_move b n attempt piece (Err feeds.NotOpen) fine x = unmoved b n fine x.1
feeds_move b n attempt piece (Err feeds.CountFull) fine x = unmoved b n fine x.2
feeds_move b n attempt piece (Err feeds.OutOfMemory) fine x = unmoved b n fine x.1
feeds_move b n attempt piece (Err (feeds.Wrong fault)) fine x = over b n fine x.5
feeds_move b n attempt piece (Err feeds.AckAhead) fine x = over b n fine x.6

newer : (e : End) (g : Hello) → refusal_of e g ≡ None → e.attempt < g.attempt
newer e g is = grind (arith, is)

answers_move : (role : Role) (b n : End) (h : Hello) (answer : Result (Unit {0}) AnswerFault) → b.role ≡ role → Fine b
    → AnswersBy role b h answer n → Moves b n
answers_move Host b n h (Ok done) r fine x = subst (λ k. Moves b k) (sym x.1)
    (record { moved = Begins (newer b h x.0); fine = record { role = fine.role; inside = omega arith } })
answers_move Host b n h (Err (answers.Refused why)) r fine x = unmoved b n fine x.1
answers_move Host b n h (Err answers.WrongRole) r fine x = absurd x
answers_move Terminal b n h answer r fine x = absurd (two_roles (sym r ∙ fine.role))

dials_move : (role : Role) (b n : End) (take_over : Bool) (answer : Result ℕ CallFault) → b.role ≡ role → Fine b
    → CallsBy role b take_over answer n → Moves b n
dials_move Host b n take_over (Err calls.WrongRole) r fine x = unmoved b n fine x
dials_move Host b n take_over (Err calls.CountFull) r fine x = absurd x
dials_move Host b n take_over (Ok attempt) r fine x = absurd x
dials_move Terminal b n take_over answer r fine x = absurd (two_roles (sym r ∙ fine.role))

welcomes_move : (role : Role) (b n : End) (h : Hello) (answer : Result (Unit {0}) WelcomeFault) → b.role ≡ role → Fine b
    → WelcomesBy role b h answer n → Moves b n
welcomes_move Host b n h (Err welcomes.WrongRole) r fine x = unmoved b n fine x
welcomes_move Host b n h (Err welcomes.NotOpen) r fine x = absurd x
welcomes_move Host b n h (Err (welcomes.ByHost why)) r fine x = absurd x
welcomes_move Host b n h (Err (welcomes.Here why)) r fine x = absurd x
welcomes_move Host b n h (Ok done) r fine x = absurd x
welcomes_move Terminal b n h answer r fine x = absurd (two_roles (sym r ∙ fine.role))

pub none_out : (c : Call) → c ∷ [] ≡ [] → ⊥
none_out c e = cc

waits_move : (b n : End) → Fine b → n ≡ record b { waiting = n.waiting } → Moves b n
waits_move b n fine is = subst (λ k. Moves b k) (sym is)
    (record { moved = Goes_on refl refl refl (itself (rest_of b)) refl; fine = record { role = fine.role; inside = fine.inside } })

pub moves : (c : Call) (b n : End) → Fine b → TookNone c → Does b c n → Moves b n
moves (Dial take_over answer) b n fine none x = dials_move b.role b n take_over answer refl fine x
moves (Answer h answer) b n fine none x = answers_move b.role b n h answer refl fine x
moves (Welcome h answer) b n fine none x = welcomes_move b.role b n h answer refl fine x
moves (Break attempt) b n fine none x = breaks_by (attempt == b.attempt) b n fine x
moves (Put bytes answer) b n fine none x = puts_move b n (data_stream bytes) answer fine x.0 x.1
moves (PutNote bytes answer) b n fine none x = notes_move b n bytes answer fine x.0 x.1
moves (Ask answer) b n fine none x = puts_move b n (frame 4 []) answer fine x.0 x.1
moves (Acknowledge answer) b n fine none x = acknowledges_move b n (frame 3 (eight b.received)) answer fine x.0 x.1
moves (TakeOut attempt old (Ok count) new) b n fine none x = absurd (none_out (TakeOut attempt old (Ok count) new) none.goes)
moves (TakeOut attempt old (Err why) new) b n fine none x = unmoved b n fine x.2
moves (Feed attempt piece answer) b n fine none x = feeds_move b n attempt piece answer fine x
moves (TakeIn old count new) b n fine none x = subst (λ k. Moves b k) (sym x.2)
    (record { moved = Goes_on refl refl refl (itself (rest_of b)) refl; fine = record { role = fine.role; inside = fine.inside } })
moves (NextNote answer) b n fine none x = waits_move b n fine x.1

ahead_by : (a b n : End) → Ahead a b → Moved b n → Ahead a n
ahead_by a b n x (Goes_on attempt phase hello more place) = record {
  fewer = omega (arith, x.fewer, attempt);
  alike = λ same up.
      let k = x.alike (same ∙ attempt) (ap is_up (sym phase) ∙ up) in
      record {
        phase = k.phase ∙ sym phase;
        hello = k.hello ∙ sym hello;
        more = front_of (rest_of n) (rest_of b) (rest_of a) more k.more;
        place = k.place ∙ place;
      };
}
ahead_by a b n x (Ends attempt down) =
    record { fewer = omega (arith, x.fewer, attempt); alike = λ same up. absurd (true≢false (sym up ∙ down)) }
ahead_by a b n x (Begins less) =
    record { fewer = omega (arith, x.fewer, less); alike = λ same up. absurd (omega (arith, x.fewer, less, same)) }

-- ## Bytes are taken out

gone_rest : (e : End) (room : ℕ) → rest_of (gone e room) ≡ drop (from_kept e room) (rest_of e)
gone_rest e room = sym (drop-drop (from_kept e room) e.keeps.sent e.keeps.kept)

kept_most : (t : Bool) (a room : ℕ) → (if t then min a room else 0) ≤ a
kept_most true a room = omega arith
kept_most false a room = omega arith

takes_fine : (e n : End) (attempt count : ℕ) (old new : List ℕ) → Fine e → TakesOut e attempt old (Ok count) new n → Fine n
takes_fine e n attempt count old new fine x = subst Fine (sym x.4)
    (record {
      role = fine.role;
      inside =
          omega (
            arith,
            fine.inside,
            kept_most (may_send e.phase e.attempt) (length e.keeps.kept - e.keeps.sent)
                (length old - from_hello e (length old)),
          );
    })

ahead_out : (a b c d : End) (attempt count : ℕ) (old new : List ℕ) → Ahead a b → TakesOut a attempt old (Ok count) new c
    → TakesOut b attempt old (Ok count) new d → Ahead c d
ahead_out a b c d attempt count old new ahead x y =
    let k = ahead.alike (sym x.1 ∙ y.1) y.0 in
    let room = length old in
    let hellos : from_hello a room ≡ from_hello b room = ap (λ (h : List ℕ). min (length h) room) k.hello in
    let parts : from_kept a room ≡ from_kept b room = omega (arith, x.2, y.2, hellos) in
    let inside : from_kept a room ≤ length (rest_of a) = omega (
      arith,
      kept_most (may_send a.phase a.attempt) (length a.keeps.kept - a.keeps.sent) (room - from_hello a room),
      length-drop a.keeps.sent a.keeps.kept,
    ) in
    let behind : rest_of (gone b room) ≡ rest_of (gone a room) ++ k.more.rest =
    gone_rest b room ∙ ap (λ (l : List ℕ). drop (from_kept b room) l) k.more.is
    ∙ ap (λ (m : ℕ). drop m (rest_of a ++ k.more.rest)) (sym parts)
    ∙ drop-append-le (from_kept a room) (rest_of a) k.more.rest inside ∙ ap (λ (l : List ℕ). l ++ k.more.rest) (sym (gone_rest a room)) in
    let all : Ahead (gone a room) (gone b room) = record {
      fewer = ahead.fewer;
      alike = λ same up. record {
        phase = k.phase;
        hello = ap (λ (m : ℕ). drop m a.hello) hellos ∙ ap (λ (h : List ℕ). drop (from_hello b room) h) k.hello;
        more = record { rest = k.more.rest; is = behind };
        place = omega (arith, k.place, parts);
      };
    } in
    subst (λ m. Ahead m d) (sym x.4) (subst (λ m. Ahead (gone a room) m) (sym y.4) all)

-- where there is room for no more than the least of three has to go, the others let as much go
same_kept : (t : Bool) (least middle most room : ℕ) → room ≤ least → least ≤ middle → middle ≤ most
    → (if t then min middle room else 0) ≡ (if t then min most room else 0)
same_kept true least middle most room a b c = omega arith
same_kept false least middle most room a b c = refl

-- What the durable calls decide goes out, whatever of the others happened
pub decided : (a x b d : End) (attempt count : ℕ) (old new : List ℕ) → Ahead a x → Ahead x b → TakesOut b attempt old (Ok count) new d
    → is_up a.phase ≡ true → attempt ≡ a.attempt → length old ≤ to_go a → (y : End) × TakesOut x attempt old (Ok count) new y
decided a x b d attempt count old new first last t up here room =
    let len = length old in
    let mid : x.attempt ≡ b.attempt = omega (arith, first.fewer, last.fewer, t.1, here) in
    let k = last.alike mid t.0 in
    let up_too : is_up x.phase ≡ true = ap is_up k.phase ∙ t.0 in
    let j = first.alike (sym here ∙ t.1 ∙ sym mid) up_too in
    let hellos : from_hello x len ≡ from_hello b len = ap (λ (h : List ℕ). min (length h) len) k.hello in
    let sends : may_send x.phase x.attempt ≡ may_send b.phase b.attempt =
    ap (λ (p : Phase). may_send p x.attempt) k.phase ∙ ap (λ (m : ℕ). may_send b.phase m) mid in
    let shorter : length a.keeps.kept - a.keeps.sent ≤ length x.keeps.kept - x.keeps.sent = omega (
      arith,
      ap length j.more.is,
      length-append (rest_of a) j.more.rest,
      length-drop a.keeps.sent a.keeps.kept,
      length-drop x.keeps.sent x.keeps.kept,
    ) in
    let longer : length x.keeps.kept - x.keeps.sent ≤ length b.keeps.kept - b.keeps.sent = omega (
      arith,
      ap length k.more.is,
      length-append (rest_of x) k.more.rest,
      length-drop x.keeps.sent x.keeps.kept,
      length-drop b.keeps.sent b.keeps.kept,
    ) in
    let least : len - from_hello b len ≤ length a.keeps.kept - a.keeps.sent = omega (arith, room, ap length j.hello, ap length k.hello) in
    let kept : from_kept x len ≡ from_kept b len =
    ap (λ (m : ℕ). if may_send x.phase x.attempt then min (length x.keeps.kept - x.keeps.sent) (len - m) else 0) hellos
    ∙ same_kept (may_send x.phase x.attempt) _ _ (length b.keeps.kept - b.keeps.sent) (len - from_hello b len) least shorter longer
    ∙ ap (λ (s : Bool). if s then min (length b.keeps.kept - b.keeps.sent) (len - from_hello b len) else 0) sends in
    let inside : from_kept x len ≤ length (rest_of x) = omega (
      arith,
      kept_most (may_send x.phase x.attempt) (length x.keeps.kept - x.keeps.sent) (len - from_hello x len),
      length-drop x.keeps.sent x.keeps.kept,
    ) in
    let goes : going b len ≡ going x len =
    ap (λ (l : List ℕ). l ++ take (from_kept b len) (rest_of b))
    (ap (λ (m : ℕ). take m b.hello) (sym hellos) ∙ ap (λ (h : List ℕ). take (from_hello x len) h) (sym k.hello))
    ∙ ap (λ (l : List ℕ). take (from_hello x len) x.hello ++ l)
    (ap (λ (m : ℕ). take m (rest_of b)) (sym kept) ∙ ap (λ (l : List ℕ). take (from_kept x len) l) k.more.is
    ∙ take-append-le (from_kept x len) (rest_of x) k.more.rest inside) in
    (gone x len, (up_too, t.1 ∙ sym mid, omega (arith, t.2, hellos, kept), t.3 ∙ ap (λ (l : List ℕ). l ++ drop count old) goes, refl))

-- ## Any calls

fine_by : (c : Call) (e n : End) → TookNone c ⊎ TookOut c → Fine e → Does e c n → Fine n
fine_by c e n (inl none) fine does = (moves c e n fine none does).fine
fine_by c e n (inr took) fine does = takes_fine e n took.attempt took.count took.old took.new fine (subst (λ d. Does e d n) took.is does)

pub still_fine : (c : Call) (e n : End) → Fine e → Does e c n → Fine n
still_fine c e n fine does = fine_by c e n (either c) fine does

pub all_fine : (cs : List Call) (e n : End) → Fine e → DoesAll e cs n → Fine n
all_fine [] e n fine does = subst Fine (sym does) fine
all_fine (c ∷ cs) e n fine (m, does, rest) = all_fine cs m n (still_fine c e m fine does) rest

-- of two ends the one had only what went out of what the other had, or only the first of it
runs_by : (c : Call) (cs : List Call) (j : ℕ) (a b x y : End) → TookNone c ⊎ TookOut c → Fine a → Fine b → Ahead a b
    → ((m n : End) → Fine m → Fine n → Ahead m n → DoesAll m (left zero cs) x → DoesAll n (left j cs) y → Ahead x y)
    → (DoesAll a (went_out c ++ left zero cs) x) → (n : End) → Does b c n → DoesAll n (left j cs) y → Ahead x y
runs_by c cs j a b x y (inl none) fine_a fine_b ahead go all n does rest =
    let k = moves c b n fine_b none does in
    go a n fine_a k.fine (ahead_by a b n ahead k.moved) (subst (λ l. DoesAll a (l ++ left zero cs) x) none.goes all) rest
runs_by c cs j a b x y (inr took) fine_a fine_b ahead go all n does rest =
    let mine = subst (λ l. DoesAll a (l ++ left zero cs) x) took.stays all in
    let m = mine.0 in
    go m n (still_fine c a m fine_a mine.1) (still_fine c b n fine_b does)
    (ahead_out a b m n took.attempt took.count took.old took.new ahead (subst (λ d. Does a d m) took.is mine.1)
    (subst (λ d. Does b d n) took.is does)) mine.2 rest

none_by : (c : Call) (cs : List Call) (a b x y : End) → TookNone c ⊎ TookOut c → Fine a → Fine b → Ahead a b
    → ((m n : End) → Fine m → Fine n → Ahead m n → DoesAll m (left zero cs) x → DoesAll n (left zero cs) y → Ahead x y)
    → DoesAll a (went_out c ++ left zero cs) x → DoesAll b (went_out c ++ left zero cs) y → Ahead x y
none_by c cs a b x y (inl none) fine_a fine_b ahead go all theirs =
    go a b fine_a fine_b ahead (subst (λ l. DoesAll a (l ++ left zero cs) x) none.goes all)
    (subst (λ l. DoesAll b (l ++ left zero cs) y) none.goes theirs)
none_by c cs a b x y (inr took) fine_a fine_b ahead go all theirs =
    let its = subst (λ l. DoesAll b (l ++ left zero cs) y) took.stays theirs in
    runs_by c cs zero a b x y (inr took) fine_a fine_b ahead go all its.0 its.1 its.2

pub ahead_runs : (cs : List Call) (j : ℕ) (a b x y : End) → Fine a → Fine b → Ahead a b → DoesAll a (left zero cs) x
    → DoesAll b (left j cs) y → Ahead x y
ahead_runs [] j a b x y fine_a fine_b ahead mine theirs = subst (λ m. Ahead m y) (sym mine) (subst (λ m. Ahead a m) (sym theirs) ahead)
ahead_runs (c ∷ cs) zero a b x y fine_a fine_b ahead mine theirs =
    none_by c cs a b x y (either c) fine_a fine_b ahead (λ m n. ahead_runs cs zero m n x y) mine theirs
ahead_runs (c ∷ cs) (suc j) a b x y fine_a fine_b ahead mine (n, does, rest) =
    runs_by c cs j a b x y (either c) fine_a fine_b ahead (λ m k. ahead_runs cs j m k x y) mine n does rest

pub fronts_ahead : (n m : ℕ) (cs : List Call) (e x y : End) → n ≤ m → Fine e → DoesAll e (left n cs) x → DoesAll e (left m cs) y → Ahead x y
fronts_ahead n m [] e x y less fine mine theirs =
    subst (λ k. Ahead k y) (sym mine) (subst (λ k. Ahead e k) (sym theirs) (ahead_of_itself e))
fronts_ahead zero m (c ∷ cs) e x y less fine mine theirs = ahead_runs (c ∷ cs) m e e x y fine fine (ahead_of_itself e) mine theirs
fronts_ahead (suc n) zero (c ∷ cs) e x y less fine mine theirs = absurd (omega (arith, less))
fronts_ahead (suc n) (suc m) (c ∷ cs) e x y less fine (k, does, rest) (j, does_too, rest_too) =
    fronts_ahead n m cs k x y (omega (arith, less)) (still_fine c e k fine does) rest
    (subst (λ z. DoesAll z (left m cs) y) (sym (one_does c e k j does does_too)) rest_too)
