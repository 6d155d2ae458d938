-- A piece that was refused memory is given again.
use Rattle.std.proofs.Common.{◌≡◌, ℕ, ◌+◌, ◌<◌, ◌≤◌, ◌⊎◌, inl, inr, max, nat_lt, nat_le, ◌==◌, List, ◌++◌, drop, Bool, true, false, MatchBool, Option, None, Some, Result, Ok, Err, refl, sym, ap, subst, ◌∙◌, arith}
use Rattle.std.proofs.lemmas.Bool.{MatchBool-at_false, MatchBool-at_true, and_from, and_parts, cases_order}
use Rattle.sam_link.specs.Calls.{Does}
use Rattle.sam_link.specs.Calls.Call.{Feed, Welcome}
use Rattle.sam_link.specs.End.{End, WelcomesBy, is_up, welcomed as welcome}
use Rattle.sam_link.specs.Feeding.{MayFeed, is_open}
use Rattle.sam_link.specs.Hellos.{ReadsHello}
use Rattle.sam_link.specs.declared.fault.FeedFault.{FeedFault}
use Rattle.sam_link.specs.declared.fault.FeedFault.TheVariants as feeds
use Rattle.sam_link.specs.declared.fault.WelcomeFault.{WelcomeFault}
use Rattle.sam_link.specs.declared.fault.WelcomeFault.TheVariants as welcomes
use Rattle.sam_link.specs.declared.hello.Hello.{Hello}
use Rattle.sam_link.specs.declared.hello.Refusal.{Refusal}
use Rattle.sam_link.specs.declared.phase.Role.{Role}
use Rattle.sam_link.specs.declared.phase.Role.TheVariants.{Terminal, Host}
use Rattle.sam_link.proofs.HelloLaws.{one_reading}
use Rattle.sam_line.specs.Calls.{LineDoes}
use Rattle.sam_line.specs.Calls.LineCall.{Receive}
use Rattle.sam_line.specs.Greeting.{IsBefore}
use Rattle.sam_line.specs.Line.{at, failed, is_newest}
use Rattle.sam_line.specs.Receiving.{AnsweredBy, Begins, Follows, Greets, Meets, MeetsBy, MetBy, ReadBy, Reads, Takes, TakesBy, WordsBy, held}
use Rattle.sam_line.specs.declared.clock.State.{State}
use Rattle.sam_line.specs.declared.clock.State.TheVariants.{Down, Connecting, Open, Late, Lost}
use Rattle.sam_line.specs.declared.fault.ReceiveFault.{ReceiveFault}
use Rattle.sam_line.specs.declared.fault.ReceiveFault.TheVariants.{Over, OutOfMemory, TooManyWords, TooManyAnswers, WrongHello, Refused, CountFull, WrongPacket, AckAhead}
use Rattle.sam_line.specs.declared.line.Line.{Line}
use Rattle.sam_line.proofs.Greetings.{at_false, at_true}

abbrev Answer : Type 0
Answer = Result (Unit {0}) ReceiveFault

-- the words end at one place
one_place : (bytes : List ℕ) (a b : ℕ) → IsBefore bytes a → IsBefore bytes b → a ≡ b
one_place bytes a b first second = by_order (cases_order a b)
  where
    by_order : ((a ≡ b) ⊎ ((a < b) ⊎ (b < a))) → a ≡ b
    by_order (inl same) = same
    by_order (inr (inl less)) = absurd (second.before a less first.mark)
    by_order (inr (inr more)) = absurd (first.before b more second.mark)

-- the hello was taken, and the connection is open
taken : (role : Role) (e m : End) (hello : Hello) → WelcomesBy role e hello (Ok tt) m → m ≡ welcome e hello
taken Terminal e m hello is = is.1
taken Host e m hello is = absurd is

-- the hello was taken, and memory was refused for what stands behind it
record Half (before : List ℕ) (e : End) (attempt : ℕ) (piece : List ℕ) : Type 0 where
  words : ℕ
  hello : Hello
  is_before : IsBefore (before ++ piece) words
  few : nat_lt 65536 words ≡ false
  read : ReadsHello (drop words (before ++ piece)) (Ok (Some hello))
  link : End
  met : Meets e hello (Ok tt) link
  may : MayFeed link attempt (drop (words + 42) (before ++ piece))
  opened : is_open link.phase ≡ true
  up : is_up link.phase ≡ true
  same : link.attempt ≡ e.attempt

-- so a line is left where memory was refused
abbrev Left : Line → ℕ → List ℕ → Line → Type 0
Left l attempt piece n = (n ≡ l) ⊎ ((h : Half l.greeting l.link attempt piece) × (n ≡ record l { link = h.link }))

-- an answer that is not this one
no_answer : (G : Type 0) (fault : ReceiveFault) → ◌≡◌ {A = Answer} (Err OutOfMemory) (Err fault) → (OutOfMemory ≡ fault → ⊥) → G
no_answer G fault e differ = absurd (differ (ap fault_or e))
  where
    fault_or : Answer → ReceiveFault
    fault_or (Ok done) = OutOfMemory
    fault_or (Err why) = why

not_ok : (G : Type 0) → ◌≡◌ {A = Answer} (Err OutOfMemory) (Ok tt) → G
not_ok G e = absurd (cc)

-- the link took nothing
fed_same : (l : Line) (attempt : ℕ) (piece : List ℕ) (fed : Result (Unit {0}) FeedFault) (e : End) (n : Line) → Does l.link (Feed attempt piece fed) e
    → Follows l fed e (Err OutOfMemory) n → n ≡ l
fed_same l attempt piece (Ok done) e n does is = not_ok (n ≡ l) is.0
fed_same l attempt piece (Err feeds.OutOfMemory) e n does is = is.1 ∙ ap (λ (x : End). record l { link = x }) does.1
fed_same l attempt piece (Err feeds.NotOpen) e n does is = no_answer (n ≡ l) Over is.0 (λ e. cc)
fed_same l attempt piece (Err feeds.CountFull) e n does is = no_answer (n ≡ l) CountFull is.0 (λ e. cc)
fed_same l attempt piece (Err (feeds.Wrong fault)) e n does is = no_answer (n ≡ l) (WrongPacket fault) is.0 (λ e. cc)
fed_same l attempt piece (Err feeds.AckAhead) e n does is = no_answer (n ≡ l) AckAhead is.0 (λ e. cc)

-- of what stands behind the hello
begun_same : (g : Line) (before : List ℕ) (attempt : ℕ) (rest : List ℕ) (fed : Result (Unit {0}) FeedFault) (e : End) (n : Line)
    → Does g.link (Feed attempt rest fed) e → Begins g before fed e (Err OutOfMemory) n
    → MayFeed g.link attempt rest × (n ≡ record g { greeting = before })
begun_same g before attempt rest (Ok done) e n does is = not_ok (MayFeed g.link attempt rest × (n ≡ record g { greeting = before })) is.0
begun_same g before attempt rest (Err feeds.OutOfMemory) e n does is =
    (does.0, is.1 ∙ ap (λ (x : End). record g { link = x; greeting = before }) does.1)
begun_same g before attempt rest (Err feeds.NotOpen) e n does is =
    no_answer (MayFeed g.link attempt rest × (n ≡ record g { greeting = before })) Over is.0 (λ e. cc)
begun_same g before attempt rest (Err feeds.CountFull) e n does is =
    no_answer (MayFeed g.link attempt rest × (n ≡ record g { greeting = before })) CountFull is.0 (λ e. cc)
begun_same g before attempt rest (Err (feeds.Wrong fault)) e n does is =
    no_answer (MayFeed g.link attempt rest × (n ≡ record g { greeting = before })) (WrongPacket fault) is.0 (λ e. cc)
begun_same g before attempt rest (Err feeds.AckAhead) e n does is =
    no_answer (MayFeed g.link attempt rest × (n ≡ record g { greeting = before })) AckAhead is.0 (λ e. cc)

module _ (l n : Line) (attempt : ℕ) (piece : List ℕ) where
  -- the link had taken the hello before, or has taken it now
  left_by : (was : Bool) (words : ℕ) (hello : Hello) (m : End) → is_open l.link.phase ≡ was → IsBefore (l.greeting ++ piece) words → nat_lt 65536 words ≡ false
      → ReadsHello (drop words (l.greeting ++ piece)) (Ok (Some hello)) → Meets l.link hello (Ok tt) m
      → MatchBool was (◌≡◌ {A = Result (Unit {0}) WelcomeFault} (Ok tt) (Ok tt) × (m ≡ l.link)) (Does l.link (Welcome hello (Ok tt)) m)
      → MayFeed m attempt (drop (words + 42) (l.greeting ++ piece)) → n ≡ record l { link = m } → Left l attempt piece n
  left_by true words hello m was before few read met d may is = inl (is ∙ ap (λ (x : End). record l { link = x }) d.1)
  left_by false words hello m was before few read met d may is =
      let took : m ≡ welcome l.link hello = taken l.link.role l.link m hello d in
      inr (
        record {
          words = words;
          hello = hello;
          is_before = before;
          few = few;
          read = read;
          link = m;
          met = met;
          may = may;
          opened = ap (λ (x : End). is_open x.phase) took;
          up = ap (λ (x : End). is_up x.phase) took;
          same = ap (λ (x : End). x.attempt) took;
        },
        is,
      )

  left_met : (words : ℕ) (hello : Hello) (met : Result (Unit {0}) WelcomeFault) (m : End) → IsBefore (l.greeting ++ piece) words
      → nat_lt 65536 words ≡ false → ReadsHello (drop words (l.greeting ++ piece)) (Ok (Some hello)) → Meets l.link hello met m
      → MetBy (record (held l piece) { link = m }) attempt l.greeting (words + 42) met (Err OutOfMemory) n → Left l attempt piece n
  left_met words hello (Ok done) m before few read meets is =
      let b = begun_same (record (held l piece) { link = m }) l.greeting attempt (drop (words + 42) (l.greeting ++ piece)) is.0 is.1 n is.2 is.3 in
      left_by (is_open l.link.phase) words hello m refl before few read meets meets b.0 b.1
  left_met words hello (Err (welcomes.ByHost why)) m before few read meets is = no_answer (Left l attempt piece n) (Refused why) is.0 (λ e. cc)
  left_met words hello (Err (welcomes.Here why)) m before few read meets is = no_answer (Left l attempt piece n) (WrongHello why) is.0 (λ e. cc)
  left_met words hello (Err welcomes.NotOpen) m before few read meets is = no_answer (Left l attempt piece n) Over is.0 (λ e. cc)
  left_met words hello (Err welcomes.WrongRole) m before few read meets is = no_answer (Left l attempt piece n) Over is.0 (λ e. cc)

  left_read : (words : ℕ) (read : Result (Option Hello) Refusal) → IsBefore (l.greeting ++ piece) words → nat_lt 65536 words ≡ false
      → ReadsHello (drop words (l.greeting ++ piece)) read → ReadBy (held l piece) attempt l.greeting words read (Err OutOfMemory) n → Left l attempt piece n
  left_read words (Ok None) before few reads is = not_ok (Left l attempt piece n) is.0
  left_read words (Err why) before few reads is = no_answer (Left l attempt piece n) (WrongHello why) is.0 (λ e. cc)
  left_read words (Ok (Some hello)) before few reads is = left_met words hello is.0 is.1 before few reads is.2 is.3

  left_words : (many : Bool) (words : ℕ) → nat_lt 65536 words ≡ many → IsBefore (l.greeting ++ piece) words
      → MatchBool many (◌≡◌ {A = Answer} (Err OutOfMemory) (Err TooManyWords) × (n ≡ failed (held l piece)))
      (Reads (held l piece) attempt l.greeting words (Err OutOfMemory) n) → Left l attempt piece n
  left_words true words many before is = no_answer (Left l attempt piece n) TooManyWords is.0 (λ e. cc)
  left_words false words few before is = left_read words is.0 before few is.1 is.2

  -- only a line that is connecting may be left half
  abbrev LeftIn : State → Type 0
  LeftIn (Down d) = n ≡ l
  LeftIn (Connecting d) = Left l attempt piece n
  LeftIn Open = n ≡ l
  LeftIn (Late d) = n ≡ l
  LeftIn (Lost why) = n ≡ l

  left_in : (s : State) → TakesBy s l attempt piece (Err OutOfMemory) n → LeftIn s
  left_in (Down d) is = is.1
  left_in (Connecting d) (inl is) = inl is.1
  left_in (Connecting d) (inr is) = left_words (nat_lt 65536 is.0) is.0 refl is.1 is.2
  left_in Open is = fed_same l attempt piece is.0 is.1 n is.2 is.3
  left_in (Late d) is = fed_same l attempt piece is.0 is.1 n is.2 is.3
  left_in (Lost why) is = is.1

-- given again, the hello is not taken twice
greets_again : (b m : Line) (attempt : ℕ) (piece : List ℕ) (answer : Answer) (h : Half b.greeting b.link attempt piece)
    → Greets (record b { link = h.link }) attempt piece answer m → Greets b attempt piece answer m
greets_again b m attempt piece answer h (inl is) =
    inr (
      h.words,
      h.is_before,
      at_false (nat_lt 65536 h.words) ((answer ≡ Err TooManyWords) × (m ≡ failed (held b piece))) (Reads (held b piece) attempt b.greeting h.words answer m) h.few
          (Ok (Some h.hello), h.read, (Ok tt, h.link, h.met, (Err feeds.OutOfMemory, h.link, (h.may, refl), (is.0, is.1)))),
    )
greets_again b m attempt piece answer h (inr is) =
    let q : Line = record b { link = h.link } in
    let place : is.0 ≡ h.words = one_place (b.greeting ++ piece) is.0 h.words is.1 h.is_before in
    let reads : Reads (held q piece) attempt b.greeting h.words answer m =
    MatchBool-at_false ((answer ≡ Err TooManyWords) × (m ≡ failed (held q piece))) (Reads (held q piece) attempt b.greeting h.words answer m) h.few
    (subst (λ w. WordsBy (held q piece) attempt b.greeting w answer m) place is.2) in
    let hello : reads.0 ≡ Ok (Some h.hello) = one_reading (drop h.words (b.greeting ++ piece)) reads.0 (Ok (Some h.hello)) reads.1 h.read in
    let meets : MeetsBy (held q piece) attempt h.hello b.greeting (h.words + 42) answer m =
    subst (λ r. ReadBy (held q piece) attempt b.greeting h.words r answer m) hello reads.2 in
    let same : (meets.0 ≡ Ok tt) × (meets.1 ≡ h.link) =
    MatchBool-at_true ((meets.0 ≡ Ok tt) × (meets.1 ≡ h.link)) (Does h.link (Welcome h.hello meets.0) meets.1) h.opened meets.2 in
    let met : MetBy (record (held q piece) { link = h.link }) attempt b.greeting (h.words + 42) (Ok tt) answer m =
    subst (λ r. MetBy (record (held q piece) { link = h.link }) attempt b.greeting (h.words + 42) r answer m) same.0
    (subst (λ (x : End). MetBy (record (held q piece) { link = x }) attempt b.greeting (h.words + 42) meets.0 answer m) same.1 meets.3) in
    inr (
      h.words,
      h.is_before,
      at_false (nat_lt 65536 h.words) ((answer ≡ Err TooManyWords) × (m ≡ failed (held b piece))) (Reads (held b piece) attempt b.greeting h.words answer m) h.few
          (Ok (Some h.hello), h.read, (Ok tt, h.link, h.met, met)),
    )

-- what the first call says of the line
newest_of : (newest : Bool) (P Q : Type 0) → MatchBool newest P (◌≡◌ {A = Answer} (Err OutOfMemory) (Err Over) × Q) → (newest ≡ true) × P
newest_of true P Q is = (refl, is)
newest_of false P Q is = no_answer ((false ≡ true) × P) Over is.0 (λ e. cc)

few_of : (many : Bool) (P Q : Type 0) → MatchBool many (◌≡◌ {A = Answer} (Err OutOfMemory) (Err TooManyAnswers) × Q) P → (many ≡ false) × P
few_of true P Q is = no_answer ((true ≡ false) × P) TooManyAnswers is.0 (λ e. cc)
few_of false P Q is = (refl, is)

-- a later time is the same, whether there was one between or not
later_time : (time now again : ℕ) → now ≤ again → max (max time now) again ≡ max time again
later_time time now again later = omega (arith, later)

at_again : (l : Line) (e : End) (now again : ℕ) → now ≤ again → at (record (at l now) { link = e }) again ≡ record (at l again) { link = e }
at_again l e now again later =
    ap (λ (t : ℕ). record l { link = e; clock = record l.clock { time = t } }) (later_time l.clock.time now again later)

module _ (l n m : Line) (attempt now again : ℕ) (piece : List ℕ) (answer : Answer) (later : now ≤ again) where
  -- nothing has changed but the time
  as_before : n ≡ at l now → Takes (at n again) attempt piece answer m → Takes (at l again) attempt piece answer m
  as_before is second = subst (λ (x : Line). Takes x attempt piece answer m) (ap (λ (x : Line). at x again) is ∙ at_again l l.link now again later) second

  -- the link has taken the hello
  as_half : (s : State) → l.clock.state ≡ s → (Greets (at l again) attempt piece answer m → TakesBy s (at l again) attempt piece answer m)
      → (h : Half l.greeting l.link attempt piece) → n ≡ record (at l now) { link = h.link } → is_newest l attempt ≡ true → nat_le 65536 l.answers ≡ false
      → (TakesBy s (record (at l again) { link = h.link }) attempt piece answer m → Greets (record (at l again) { link = h.link }) attempt piece answer m)
      → Takes (at n again) attempt piece answer m → Takes (at l again) attempt piece answer m
  as_half s state whole h is newest few part second =
      let q : Line = record (at l again) { link = h.link } in
      let here : Takes q attempt piece answer m =
      subst (λ (x : Line). Takes x attempt piece answer m) (ap (λ (x : Line). at x again) is ∙ at_again l h.link now again later) second in
      let parts = and_parts (is_up l.link.phase) (attempt == l.link.attempt) newest in
      let number : (attempt == h.link.attempt) ≡ true = ap (λ k. attempt == k) h.same ∙ parts.1 in
      let newest_here : is_newest q attempt ≡ true = and_from (is_up h.link.phase) (attempt == h.link.attempt) h.up number in
      let answered : AnsweredBy q attempt piece answer m =
      MatchBool-at_true (AnsweredBy q attempt piece answer m) ((answer ≡ Err Over) × (m ≡ q)) newest_here here in
      let takes : TakesBy l.clock.state q attempt piece answer m =
      MatchBool-at_false ((answer ≡ Err TooManyAnswers) × (m ≡ failed q)) (TakesBy l.clock.state q attempt piece answer m) few answered in
      let greets : Greets (at l again) attempt piece answer m =
      greets_again (at l again) m attempt piece answer h (part (subst (λ x. TakesBy x q attempt piece answer m) state takes)) in
      let all : TakesBy l.clock.state (at l again) attempt piece answer m =
      subst (λ x. TakesBy x (at l again) attempt piece answer m) (sym state) (whole greets) in
      at_true (is_newest l attempt) (AnsweredBy (at l again) attempt piece answer m) ((answer ≡ Err Over) × (m ≡ at l again)) newest
      (at_false (nat_le 65536 l.answers) ((answer ≡ Err TooManyAnswers) × (m ≡ failed (at l again))) (TakesBy l.clock.state (at l again) attempt piece answer m)
      few all)

  by_state : (s : State) → l.clock.state ≡ s → LeftIn (at l now) n attempt piece s → is_newest l attempt ≡ true → nat_le 65536 l.answers ≡ false
      → Takes (at n again) attempt piece answer m → Takes (at l again) attempt piece answer m
  by_state (Down d) state left newest few second = as_before left second
  by_state (Connecting d) state (inl left) newest few second = as_before left second
  by_state (Connecting d) state (inr left) newest few second =
      as_half (Connecting d) state (λ g. g) left.0 left.1 newest few (λ g. g) second
  by_state Open state left newest few second = as_before left second
  by_state (Late d) state left newest few second = as_before left second
  by_state (Lost why) state left newest few second = as_before left second

pub pieces_come_again : (l n m : Line) (attempt now again : ℕ) (piece : List ℕ) (answer : Answer) → now ≤ again
    → LineDoes l (Receive attempt piece now (Err OutOfMemory)) n → LineDoes n (Receive attempt piece again answer) m
    → LineDoes l (Receive attempt piece again answer) m
pieces_come_again l n m attempt now again piece answer later first second =
    let a : Line = at l now in
    let newest = newest_of (is_newest a attempt) (AnsweredBy a attempt piece (Err OutOfMemory) n) (n ≡ a) first in
    let few = few_of (nat_le 65536 a.answers) (TakesBy a.clock.state a attempt piece (Err OutOfMemory) n) (n ≡ failed a) newest.1 in
    by_state l n m attempt now again piece answer later l.clock.state refl (left_in a n attempt piece l.clock.state few.1) newest.0 few.0 second
