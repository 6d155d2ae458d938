-- What a piece of a connection does to a line and to its link.
use Rattle.std.proofs.Common.{◌≡◌, ◌≢◌, ℕ, ◌+◌, ◌<◌, inl, inr, nat_lt, nat_le, ◌==◌, List, [], ◌++◌, length, drop, Bool, true, false, not, ◌&&◌, MatchBool, if◌then◌else◌, Option, None, Some, Result, Ok, Err, refl, sym, ap, subst, ◌∙◌, arith, length-append}
use Rattle.std.proofs.lemmas.Bool.{and_from, and_parts, eq-eqb, eqb-true}
use Rattle.std.proofs.lemmas.List.{append-nil, append_assoc}
use Rattle.sam_link.specs.Calls.{Call, Does, Item, fed, fed_by, out}
use Rattle.sam_link.specs.Calls.Call.{Feed as LinkFeed, Welcome as LinkWelcome}
use Rattle.sam_link.specs.End.{End, WelcomesBy, ended, fault_by_word, is_asking, is_up, same_id, welcome_fault, welcome_refusal, welcomed as welcome}
use Rattle.sam_link.specs.Feeding.{is_open}
use Rattle.sam_link.specs.Hellos.{ReadsHello}
use Rattle.sam_link.specs.Sessions.{Session, StartsWith, is_taken}
use Rattle.sam_link.specs.declared.fault.FeedFault.{FeedFault}
use Rattle.sam_link.specs.declared.fault.FeedFault.TheVariants as feeds
use Rattle.sam_link.specs.declared.fault.WelcomeFault.{WelcomeFault}
use Rattle.sam_link.specs.declared.fault.WelcomeFault.TheVariants as welcomes
use Rattle.sam_link.specs.declared.hello.Hello.{Hello}
use Rattle.sam_link.specs.declared.hello.Refusal.{Refusal}
use Rattle.sam_link.specs.declared.hello.What.{What}
use Rattle.sam_link.specs.declared.hello.What.TheVariants as whats
use Rattle.sam_link.specs.declared.phase.Role.{Role}
use Rattle.sam_link.specs.declared.phase.Role.TheVariants.{Terminal, Host}
use Rattle.sam_line.specs.Calls.LineCall.{Receive}
use Rattle.sam_line.specs.Greeting.{IsBefore}
use Rattle.sam_line.specs.Line as lines
use Rattle.sam_line.specs.Receiving as receiving
use Rattle.sam_line.specs.Sessions.{IsBrought, took_by}
use Rattle.sam_line.specs.declared.clock.State.{State}
use Rattle.sam_line.specs.declared.clock.State.TheVariants.{Down, Connecting, Open, Late, Lost}
use Rattle.sam_line.specs.declared.fault.ReceiveFault.TheVariants.{Over, OutOfMemory, TooManyWords, TooManyAnswers, CountFull, WrongPacket, AckAhead}
use Rattle.sam_line.specs.declared.line.Line.{Line}
use Rattle.sam_line.proofs.Words.{still_words}
use Rattle.sam_line.proofs.Carrying.{Answer, Begun, Moved, StageOf, Taken, Tied, begun_of, breaks, chain, feed_carried, hello_carried, none, not_taken, one, plus, plus_here, plus_newer, rest_carried, stays, tied_at, tied_failed, tied_refused}

-- ## What a piece does

-- a link stays on its connection
pub fed_attempt : (e m : End) (attempt : ℕ) (piece : List ℕ) → Does e (LinkFeed attempt piece (Ok tt)) m → m.attempt ≡ e.attempt
fed_attempt e m attempt piece does = ap (λ (x : End). x.attempt) does.6

pub refused_attempt : (e m : End) (attempt : ℕ) (piece : List ℕ) (fault : FeedFault) → Does e (LinkFeed attempt piece (Err fault)) m → m.attempt ≡ e.attempt
refused_attempt e m attempt piece feeds.NotOpen does = ap (λ (x : End). x.attempt) does.1
refused_attempt e m attempt piece feeds.CountFull does = ap (λ (x : End). x.attempt) does.2
refused_attempt e m attempt piece feeds.OutOfMemory does = ap (λ (x : End). x.attempt) does.1
refused_attempt e m attempt piece (feeds.Wrong fault) does = ap (λ (x : End). x.attempt) does.5
refused_attempt e m attempt piece feeds.AckAhead does = ap (λ (x : End). x.attempt) does.6

pub moved_to : (t : Session) (m n : End) (puts hands : List Item) (goes comes : ℕ → List ℕ) → m ≡ n → Moved t m puts hands goes comes
    → Moved t n puts hands goes comes
moved_to t m n puts hands goes comes same moved = subst (λ (x : End). Moved t x puts hands goes comes) same moved

module _ (t : Session) (tk : ℕ → List ℕ) (attempt : ℕ) (newer : (a : ℕ) → attempt < a → (tk a ≡ []) × (fed a t.terminal_calls ≡ [])) where
  abbrev pub fd : ℕ → List ℕ
  fd a = fed a t.terminal_calls

  -- the connection is given up
  pub fail_taken : (m : End) (l n : Line) → Moved t m [] [] none none → m ≡ l.link → n ≡ lines.failed l → l.link.attempt ≡ attempt → Taken t n (λ a. tk a ++ [])
  fail_taken m l n moved same is number =
      let over = breaks moved.z n.link (ap (λ (x : Line). x.link) is ∙ ap ended (sym (moved.terminal_is ∙ same))) in
      not_taken t n tk (chain t m n.link [] [] [] [] none none none none moved over)
      (tied_at (lines.failed l) n tk fd is (tied_failed l attempt tk fd number newer))

  pub refuse_taken : (m : End) (l n : Line) (why : Refusal) → Moved t m [] [] none none → m ≡ l.link → n ≡ lines.refused l why → l.link.attempt ≡ attempt
      → Taken t n (λ a. tk a ++ [])
  refuse_taken m l n why moved same is number =
      let over = breaks moved.z n.link (ap (λ (x : Line). x.link) is ∙ ap ended (sym (moved.terminal_is ∙ same))) in
      not_taken t n tk (chain t m n.link [] [] [] [] none none none none moved over)
      (tied_at (lines.refused l why) n tk fd is (tied_refused l why attempt tk fd number newer))

  pub begun_more : (piece : List ℕ) → Begun (tk attempt) (fd attempt) → Begun (tk attempt ++ piece) (fd attempt ++ piece)
  begun_more piece b =
      record {
        words = b.words;
        hello = b.hello;
        is = ap (λ l. l ++ piece) b.is ∙ append_assoc b.words (b.hello ++ fd attempt) piece
            ∙ ap (λ l. b.words ++ l) (append_assoc b.hello (fd attempt) piece);
        len = b.len;
        marked = b.marked;
        before = still_words (tk attempt) piece (length b.words)
            (omega (arith, ap length b.is, length-append b.words (b.hello ++ fd attempt))) b.before;
      }

  -- a piece is taken by a link that is open
  pub taken_open : (l n : Line) (piece : List ℕ) (m : End) → t.terminal ≡ l.link → l.link.attempt ≡ attempt → Begun (tk attempt) (fd attempt)
      → IsBrought t.host_calls attempt (tk attempt ++ piece) → Does l.link (LinkFeed attempt piece (Ok tt)) m
      → n ≡ receiving.heard (record l { link = m }) (lines.put_len l.link) → Taken t n (plus tk attempt piece)
  taken_open l n piece m link number begun brought does is =
      let same : m.attempt ≡ attempt = fed_attempt l.link m attempt piece does ∙ number in
      subst (λ (x : Line). Taken t x (plus tk attempt piece)) (sym is)
      (record {
        comes = λ a. if attempt == a then piece else [];
        moved = one t (LinkFeed attempt piece (Ok tt)) m (subst (λ (x : End). Does x (LinkFeed attempt piece (Ok tt)) m) (sym link) does)
            (λ e. feed_carried t.host_calls attempt (tk attempt) (fd attempt) piece begun brought);
        tied = record {
          newer = λ a more. let later = subst (λ k. k < a) same more in
              (plus_newer tk attempt piece a later (newer a later).0, plus_newer fd attempt piece a later (newer a later).1);
          stage =
              subst (λ k. Begun (plus tk attempt piece k) (plus fd attempt piece k)) (sym same)
              (subst (λ x. Begun x (plus fd attempt piece attempt)) (sym (plus_here tk attempt piece))
              (subst (λ x. Begun (tk attempt ++ piece) x) (sym (plus_here fd attempt piece)) (begun_more piece begun)));
        };
      })

  -- so it is on a connection that the host has welcomed
  pub feed_taken : (l n : Line) (piece : List ℕ) (now : ℕ) (answer : Answer) (feed : Result (Unit {0}) FeedFault) (m : End) → t.terminal ≡ l.link
      → l.link.attempt ≡ attempt → Tied l tk fd → Begun (tk attempt) (fd attempt)
      → ((answer ≢ Err Over) → IsBrought t.host_calls attempt (tk attempt ++ piece)) → Does l.link (LinkFeed attempt piece feed) m
      → receiving.Follows l feed m answer n → Taken t n (λ a. tk a ++ took_by a (Receive attempt piece now answer))
  feed_taken l n piece now answer (Ok done) m link number tied begun brought does is =
      let right : answer ≢ Err Over = λ e. let no : ◌≡◌ {A = Answer} (Ok tt) (Err Over) = sym is.0 ∙ e in absurd (cc) in
      subst (λ x. Taken t n (λ a. tk a ++ took_by a (Receive attempt piece now x))) (sym is.0)
      (taken_open l n piece m link number begun (brought right) does is.1)
  feed_taken l n piece now answer (Err fault) m link number tied begun brought does is =
      subst (λ x. Taken t n (λ a. tk a ++ took_by a (Receive attempt piece now x))) (sym is.0) (by_fault fault does is.1)
    where
      moved_by : (fault : FeedFault) → Does l.link (LinkFeed attempt piece (Err fault)) m → Moved t m [] [] none none
      moved_by fault does =
          one t (LinkFeed attempt piece (Err fault)) m (subst (λ (x : End). Does x (LinkFeed attempt piece (Err fault)) m) (sym link) does) (λ e. absurd (cc))

      by_fault : (fault : FeedFault) → Does l.link (LinkFeed attempt piece (Err fault)) m → n ≡ receiving.failed_by fault (record l { link = m })
          → Taken t n (λ a. tk a ++ [])
      by_fault feeds.NotOpen does is =
          let same : n ≡ l = is ∙ ap (λ (x : End). record l { link = x }) does.1 in
          not_taken t n tk (stays t n.link (link ∙ ap (λ (x : Line). x.link) (sym same))) (tied_at l n tk fd same tied)
      by_fault feeds.OutOfMemory does is =
          let same : n ≡ l = is ∙ ap (λ (x : End). record l { link = x }) does.1 in
          not_taken t n tk (stays t n.link (link ∙ ap (λ (x : Line). x.link) (sym same))) (tied_at l n tk fd same tied)
      by_fault feeds.CountFull does is =
          fail_taken m (record l { link = m }) n (moved_by feeds.CountFull does) refl is (refused_attempt l.link m attempt piece feeds.CountFull does ∙ number)
      by_fault (feeds.Wrong why) does is =
          fail_taken m (record l { link = m }) n (moved_by (feeds.Wrong why) does) refl is (refused_attempt l.link m attempt piece (feeds.Wrong why) does ∙ number)
      by_fault feeds.AckAhead does is =
          fail_taken m (record l { link = m }) n (moved_by feeds.AckAhead does) refl is (refused_attempt l.link m attempt piece feeds.AckAhead does ∙ number)

-- ## The host's hello

-- which hellos a terminal takes
pub none_of_word : (e : End) (h : Hello) (w : What) → fault_by_word e h w ≡ None → welcome_refusal e h ≡ None
none_of_word e h (whats.Refused why) is = absurd (cc)
none_of_word e h whats.Welcome is = is
none_of_word e h whats.Begin is = absurd (cc)
none_of_word e h whats.Resume is = absurd (cc)
none_of_word e h whats.TakeOver is = absurd (cc)

pub none_asking : (asking : Bool) (word : Option WelcomeFault) → (if asking then word else Some welcomes.NotOpen) ≡ None → word ≡ None
none_asking true word is = is
none_asking false word is = absurd (cc)

pub none_number : (same number : Bool) (one two : WelcomeFault) (more : Option WelcomeFault)
    → (if not same then Some one else if not number then Some two else more) ≡ None → number ≡ true
none_number false number one two more is = absurd (cc)
none_number true false one two more is = absurd (cc)
none_number true true one two more is = refl

pub welcome_attempt : (e : End) (h : Hello) → welcome_fault e h ≡ None → h.attempt ≡ e.attempt
welcome_attempt e h is =
    eqb-true h.attempt e.attempt
    (none_number (same_id e.id h.id) (h.attempt == e.attempt) _ _ _ (none_of_word e h h.what (none_asking (is_asking e.phase) (fault_by_word e h h.what) is)))

pub welcome_taken : (role : Role) (e m : End) (h : Hello) → WelcomesBy role e h (Ok tt) m → (welcome_fault e h ≡ None) × (m ≡ welcome e h)
welcome_taken Terminal e m h is = is
welcome_taken Host e m h is = absurd is

pub welcome_refused : (role : Role) (e m : End) (h : Hello) (fault : WelcomeFault) → WelcomesBy role e h (Err fault) m → m ≡ e
welcome_refused Terminal e m h fault is = is.1
welcome_refused Host e m h welcomes.WrongRole is = is
welcome_refused Host e m h welcomes.NotOpen is = absurd is
welcome_refused Host e m h (welcomes.ByHost why) is = absurd is
welcome_refused Host e m h (welcomes.Here why) is = absurd is

abbrev pub IsConnecting : State → Type 0
IsConnecting (Down d) = ⊥
IsConnecting (Connecting d) = Unit {0}
IsConnecting Open = ⊥
IsConnecting (Late d) = ⊥
IsConnecting (Lost why) = ⊥

-- the hello is met, and the connection is open
pub record Met (t : Session) (m : End) (attempt : ℕ) : Type 0 where
  pub moved : Moved t m [] [] none none
  pub number : m.attempt ≡ attempt
  pub opened : is_open m.phase ≡ true

module _ (t : Session) (tk : ℕ → List ℕ) (l n : Line) (attempt : ℕ) (piece : List ℕ) (link : t.terminal ≡ l.link) (number : l.link.attempt ≡ attempt)
    (newer : (a : ℕ) → attempt < a → (tk a ≡ []) × (fed a t.terminal_calls ≡ [])) (tied : Tied l tk (λ a. fed a t.terminal_calls))
    (came : l.greeting ≡ tk attempt) (unfed : fed attempt t.terminal_calls ≡ []) where
  abbrev pub Got : Answer → Type 0
  Got answer = (now : ℕ) → Taken t n (λ a. tk a ++ took_by a (Receive attempt piece now answer))

  abbrev pub bytes : List ℕ
  bytes = l.greeting ++ piece

  pub all_came : tk attempt ++ piece ≡ bytes
  all_came = ap (λ b. b ++ piece) (sym came)

  pub met_ok : (was : Bool) (words : ℕ) (hello : Hello) (m : End) → is_open l.link.phase ≡ was → IsBefore bytes words
      → ReadsHello (drop words bytes) (Ok (Some hello)) → IsBrought t.host_calls attempt bytes
      → MatchBool was (◌≡◌ {A = Result (Unit {0}) WelcomeFault} (Ok tt) (Ok tt) × (m ≡ l.link)) (Does l.link (LinkWelcome hello (Ok tt)) m) → Met t m attempt
  met_ok true words hello m was is read brought d =
      record {
        moved = stays t m (link ∙ sym d.1);
        number = ap (λ (x : End). x.attempt) d.1 ∙ number;
        opened = ap (λ (x : End). is_open x.phase) d.1 ∙ was;
      }
  met_ok false words hello m was is read brought d =
      let took_it = welcome_taken l.link.role l.link m hello d in
      record {
        moved = one t (LinkWelcome hello (Ok tt)) m (subst (λ (x : End). Does x (LinkWelcome hello (Ok tt)) m) (sym link) d)
            (λ e. hello_carried t.host_calls attempt bytes words hello is read brought (welcome_attempt l.link hello took_it.0 ∙ number));
        number = ap (λ (x : End). x.attempt) took_it.1 ∙ number;
        opened = ap (λ (x : End). is_open x.phase) took_it.1;
      }

  pub met_err : (was : Bool) (hello : Hello) (m : End) (fault : WelcomeFault)
      → MatchBool was (◌≡◌ {A = Result (Unit {0}) WelcomeFault} (Err fault) (Ok tt) × (m ≡ l.link)) (Does l.link (LinkWelcome hello (Err fault)) m)
      → Moved t m [] [] none none × (m ≡ l.link)
  met_err true hello m fault d = absurd (cc (d.0))
  met_err false hello m fault d = (
    one t (LinkWelcome hello (Err fault)) m (subst (λ (x : End). Does x (LinkWelcome hello (Err fault)) m) (sym link) d) (λ e. absurd (cc)),
    welcome_refused l.link.role l.link m hello fault d,
  )

  -- the feed is not refused as of an old connection
  pub not_over : (words : ℕ) (m e : End) (feed : Result (Unit {0}) FeedFault) (answer : Answer) → m.attempt ≡ attempt → is_open m.phase ≡ true
      → Does m (LinkFeed attempt (drop (words + 42) bytes) feed) e → receiving.Begins (record (receiving.held l piece) { link = m }) l.greeting feed e answer n → answer ≡ Err Over → ⊥
  not_over words m e (Ok done) answer same opened does is over = let no : ◌≡◌ {A = Answer} (Ok tt) (Err Over) = sym is.0 ∙ over in cc
  not_over words m e (Err feeds.OutOfMemory) answer same opened does is over = let no : ◌≡◌ {A = Answer} (Err OutOfMemory) (Err Over) = sym is.0 ∙ over in cc
  not_over words m e (Err feeds.NotOpen) answer same opened does is over =
      let yes : (is_open m.phase && (attempt == m.attempt)) ≡ true = and_from (is_open m.phase) (attempt == m.attempt) opened (eq-eqb attempt m.attempt (sym same)) in
      let no : true ≡ false = sym yes ∙ does.0 in cc
  not_over words m e (Err feeds.CountFull) answer same opened does is over = let no : ◌≡◌ {A = Answer} (Err CountFull) (Err Over) = sym is.0 ∙ over in cc
  not_over words m e (Err (feeds.Wrong fault)) answer same opened does is over =
      let no : ◌≡◌ {A = Answer} (Err (WrongPacket fault)) (Err Over) = sym is.0 ∙ over in cc
  not_over words m e (Err feeds.AckAhead) answer same opened does is over = let no : ◌≡◌ {A = Answer} (Err AckAhead) (Err Over) = sym is.0 ∙ over in cc

  -- what stands behind the hello
  module _ (words : ℕ) (hello : Hello) (m : End) (is_before : IsBefore bytes words) (read : ReadsHello (drop words bytes) (Ok (Some hello)))
      (met : Met t m attempt) where
    abbrev pub rest : List ℕ
    rest = drop (words + 42) bytes

    abbrev pub g : Line
    g = record (receiving.held l piece) { link = m }

    pub move : (e : End) (feed : Result (Unit {0}) FeedFault) → Does m (LinkFeed attempt rest feed) e
        → (is_taken (LinkFeed attempt rest feed) ≡ true → IsBrought t.host_calls attempt bytes) → Moved t e [] [] none (λ a. fed_by a (LinkFeed attempt rest feed))
    move e feed does brought =
        let z = met.moved.z in
        let none_fed : fed attempt z.terminal_calls ≡ [] = met.moved.feds_are attempt ∙ append-nil (fed attempt t.terminal_calls) ∙ unfed in
        let next : Moved z e [] [] none (λ a. fed_by a (LinkFeed attempt rest feed)) =
        one z (LinkFeed attempt rest feed) e (subst (λ (x : End). Does x (LinkFeed attempt rest feed) e) (sym met.moved.terminal_is) does)
        (λ taken. subst (λ (c : List Call). StartsWith (drop 42 (out attempt c)) (fed attempt z.terminal_calls ++ rest)) (sym met.moved.host_calls_are)
        (subst (λ f. StartsWith (drop 42 (out attempt t.host_calls)) (f ++ rest)) (sym none_fed)
        (rest_carried t.host_calls attempt bytes words hello is_before read (brought taken)))) in
        chain t m e [] [] [] [] none none none (λ a. fed_by a (LinkFeed attempt rest feed)) met.moved next

    pub begins_ok : (e : End) → IsBrought t.host_calls attempt bytes → Does m (LinkFeed attempt rest (Ok tt)) e
        → n ≡ receiving.heard (record (receiving.welcomed g) { link = e }) (lines.put_len m) → Taken t n (plus tk attempt piece)
    begins_ok e brought does is =
        let same : e.attempt ≡ attempt = fed_attempt m e attempt rest does ∙ met.number in
        let begun : Begun (tk attempt ++ piece) rest = begun_of (tk attempt ++ piece) bytes words hello all_came is_before read in
        let fed_is : fed attempt t.terminal_calls ++ rest ≡ rest = ap (λ f. f ++ rest) unfed in
        subst (λ (x : Line). Taken t x (plus tk attempt piece)) (sym is)
        (record {
          comes = λ a. if attempt == a then rest else [];
          moved = move e (Ok tt) does (λ taken. brought);
          tied = record {
            newer = λ a more. let later = subst (λ k. k < a) same more in
                (plus_newer tk attempt piece a later (newer a later).0, plus_newer (λ k. fed k t.terminal_calls) attempt rest a later (newer a later).1);
            stage =
                subst (λ k. Begun (plus tk attempt piece k) (plus (λ j. fed j t.terminal_calls) attempt rest k)) (sym same)
                (subst (λ x. Begun x (plus (λ j. fed j t.terminal_calls) attempt rest attempt)) (sym (plus_here tk attempt piece))
                (subst (λ x. Begun (tk attempt ++ piece) x) (sym (plus_here (λ j. fed j t.terminal_calls) attempt rest))
                (subst (λ x. Begun (tk attempt ++ piece) x) (sym fed_is) begun)));
          };
        })

    pub begins_fail : (e : End) (fault : FeedFault) → Does m (LinkFeed attempt rest (Err fault)) e
        → n ≡ lines.failed (record (receiving.welcomed g) { link = e }) → Taken t n (λ a. tk a ++ [])
    begins_fail e fault does is =
        fail_taken t tk attempt newer e (record (receiving.welcomed g) { link = e }) n (move e (Err fault) does (λ taken. absurd (cc))) refl is
        (refused_attempt m e attempt rest fault does ∙ met.number)

    pub begins_again : (e : End) (s : State) → IsConnecting s → l.clock.state ≡ s → Does m (LinkFeed attempt rest (Err feeds.OutOfMemory)) e
        → n ≡ record g { link = e; greeting = l.greeting } → Taken t n (λ a. tk a ++ [])
    begins_again e s connecting state does is =
        let n_is : n ≡ record l { link = m } = is ∙ ap (λ (x : End). record l { link = x }) does.1 in
        not_taken t n tk (moved_to t m n.link [] [] none none (ap (λ (x : Line). x.link) (sym n_is)) met.moved)
        (tied_at (record l { link = m }) n tk (λ a. fed a t.terminal_calls) n_is
        (record {
          newer = λ a more. newer a (subst (λ k. k < a) met.number more);
          stage = subst (λ x. StageOf x m.phase m.attempt l.greeting tk (λ a. fed a t.terminal_calls)) (sym state) (stage_of s connecting);
        }))
      where
        stage_of : (s : State) → IsConnecting s → StageOf s m.phase m.attempt l.greeting tk (λ a. fed a t.terminal_calls)
        stage_of (Connecting d) c = λ up.
            subst (λ k. (l.greeting ≡ tk k) × (fed k t.terminal_calls ≡ [])) (sym met.number) (came, unfed)
        stage_of (Down d) c = absurd c
        stage_of Open c = absurd c
        stage_of (Late d) c = absurd c
        stage_of (Lost why) c = absurd c

    pub begins_got : (e : End) (feed : Result (Unit {0}) FeedFault) (answer : Answer) (s : State) → IsConnecting s → l.clock.state ≡ s
        → IsBrought t.host_calls attempt bytes → Does m (LinkFeed attempt rest feed) e → receiving.Begins g l.greeting feed e answer n → Got answer
    begins_got e (Ok done) answer s connecting state brought does is now =
        subst (λ x. Taken t n (λ a. tk a ++ took_by a (Receive attempt piece now x))) (sym is.0) (begins_ok e brought does is.1)
    begins_got e (Err feeds.OutOfMemory) answer s connecting state brought does is now =
        subst (λ x. Taken t n (λ a. tk a ++ took_by a (Receive attempt piece now x))) (sym is.0) (begins_again e s connecting state does is.1)
    begins_got e (Err feeds.NotOpen) answer s connecting state brought does is now =
        absurd (not_over words m e (Err feeds.NotOpen) answer met.number met.opened does is is.0)
    begins_got e (Err feeds.CountFull) answer s connecting state brought does is now =
        subst (λ x. Taken t n (λ a. tk a ++ took_by a (Receive attempt piece now x))) (sym is.0) (begins_fail e feeds.CountFull does is.1)
    begins_got e (Err (feeds.Wrong fault)) answer s connecting state brought does is now =
        subst (λ x. Taken t n (λ a. tk a ++ took_by a (Receive attempt piece now x))) (sym is.0) (begins_fail e (feeds.Wrong fault) does is.1)
    begins_got e (Err feeds.AckAhead) answer s connecting state brought does is now =
        subst (λ x. Taken t n (λ a. tk a ++ took_by a (Receive attempt piece now x))) (sym is.0) (begins_fail e feeds.AckAhead does is.1)

  -- the link keeps its connection, whatever it says to the hello
  pub facts : (was : Bool) (hello : Hello) (m : End) → is_open l.link.phase ≡ was
      → MatchBool was (◌≡◌ {A = Result (Unit {0}) WelcomeFault} (Ok tt) (Ok tt) × (m ≡ l.link)) (Does l.link (LinkWelcome hello (Ok tt)) m)
      → (m.attempt ≡ attempt) × (is_open m.phase ≡ true)
  facts true hello m was d = (ap (λ (x : End). x.attempt) d.1 ∙ number, ap (λ (x : End). is_open x.phase) d.1 ∙ was)
  facts false hello m was d =
      let took_it = welcome_taken l.link.role l.link m hello d in
      (ap (λ (x : End). x.attempt) took_it.1 ∙ number, ap (λ (x : End). is_open x.phase) took_it.1)

  -- the hello is refused here, as no connection is open: that never comes
  pub as_before : (m : End) → m ≡ l.link → n ≡ record l { link = m } → Taken t n (λ a. tk a ++ [])
  as_before m same is =
      let n_is : n ≡ l = is ∙ ap (λ (x : End). record l { link = x }) same in
      not_taken t n tk (stays t n.link (link ∙ ap (λ (x : Line). x.link) (sym n_is))) (tied_at l n tk (λ a. fed a t.terminal_calls) n_is tied)

  pub meets_got : (words : ℕ) (hello : Hello) (met : Result (Unit {0}) WelcomeFault) (m : End) (answer : Answer) (s : State) → IsConnecting s → l.clock.state ≡ s
      → IsBefore bytes words → ReadsHello (drop words bytes) (Ok (Some hello)) → ((answer ≢ Err Over) → IsBrought t.host_calls attempt bytes)
      → receiving.Meets l.link hello met m
      → receiving.MetBy (record (receiving.held l piece) { link = m }) attempt l.greeting (words + 42) met answer n → Got answer
  meets_got words hello (Ok done) m answer s connecting state is read brought meets d now =
      let known = facts (is_open l.link.phase) hello m refl meets in
      let brought_it = brought (not_over words m d.1 d.0 answer known.0 known.1 d.2 d.3) in
      begins_got words hello m is read (met_ok (is_open l.link.phase) words hello m refl is read brought_it meets) d.1 d.0 answer s connecting state brought_it d.2 d.3 now
  meets_got words hello (Err (welcomes.ByHost why)) m answer s connecting state is read brought meets d now =
      let e = met_err (is_open l.link.phase) hello m (welcomes.ByHost why) meets in
      subst (λ x. Taken t n (λ a. tk a ++ took_by a (Receive attempt piece now x))) (sym d.0)
      (refuse_taken t tk attempt newer m (record (receiving.held l piece) { link = m }) n why e.0 refl d.1 (ap (λ (x : End). x.attempt) e.1 ∙ number))
  meets_got words hello (Err (welcomes.Here why)) m answer s connecting state is read brought meets d now =
      let e = met_err (is_open l.link.phase) hello m (welcomes.Here why) meets in
      subst (λ x. Taken t n (λ a. tk a ++ took_by a (Receive attempt piece now x))) (sym d.0)
      (fail_taken t tk attempt newer m (record (receiving.held l piece) { link = m }) n e.0 refl d.1 (ap (λ (x : End). x.attempt) e.1 ∙ number))
  meets_got words hello (Err welcomes.NotOpen) m answer s connecting state is read brought meets d now =
      let e = met_err (is_open l.link.phase) hello m welcomes.NotOpen meets in
      subst (λ x. Taken t n (λ a. tk a ++ took_by a (Receive attempt piece now x))) (sym d.0) (as_before m e.1 d.1)
  meets_got words hello (Err welcomes.WrongRole) m answer s connecting state is read brought meets d now =
      let e = met_err (is_open l.link.phase) hello m welcomes.WrongRole meets in
      subst (λ x. Taken t n (λ a. tk a ++ took_by a (Receive attempt piece now x))) (sym d.0) (as_before m e.1 d.1)

  -- the connection is given up before a hello
  pub given_up : n ≡ lines.failed (receiving.held l piece) → Taken t n (λ a. tk a ++ [])
  given_up is = fail_taken t tk attempt newer l.link (receiving.held l piece) n (stays t l.link link) refl is number

  pub read_got : (words : ℕ) (read : Result (Option Hello) Refusal) (answer : Answer) (s : State) → IsConnecting s → l.clock.state ≡ s → IsBefore bytes words
      → ReadsHello (drop words bytes) read → ((answer ≢ Err Over) → IsBrought t.host_calls attempt bytes)
      → receiving.ReadBy (receiving.held l piece) attempt l.greeting words read answer n → Got answer
  read_got words (Ok None) answer s connecting state is reads brought d now =
      subst (λ x. Taken t n (λ a. tk a ++ took_by a (Receive attempt piece now x))) (sym d.0)
      (subst (λ (x : Line). Taken t x (plus tk attempt piece)) (sym d.1)
      (record {
        comes = none;
        moved = stays t l.link link;
        tied = record {
          newer = λ a more. let later = subst (λ k. k < a) number more in
              (plus_newer tk attempt piece a later (newer a later).0, append-nil (fed a t.terminal_calls) ∙ (newer a later).1);
          stage = subst (λ x. StageOf x l.link.phase l.link.attempt bytes (plus tk attempt piece) (λ a. fed a t.terminal_calls ++ [])) (sym state) (stage_of s connecting);
        };
      }))
    where
      stage_of : (s : State) → IsConnecting s → StageOf s l.link.phase l.link.attempt bytes (plus tk attempt piece) (λ a. fed a t.terminal_calls ++ [])
      stage_of (Connecting d) c = λ up.
          subst (λ k. (bytes ≡ plus tk attempt piece k) × (fed k t.terminal_calls ++ [] ≡ [])) (sym number)
          (sym (plus_here tk attempt piece ∙ all_came), append-nil (fed attempt t.terminal_calls) ∙ unfed)
      stage_of (Down d) c = absurd c
      stage_of Open c = absurd c
      stage_of (Late d) c = absurd c
      stage_of (Lost why) c = absurd c
  read_got words (Err why) answer s connecting state is reads brought d now =
      subst (λ x. Taken t n (λ a. tk a ++ took_by a (Receive attempt piece now x))) (sym d.0) (given_up d.1)
  read_got words (Ok (Some hello)) answer s connecting state is reads brought d now =
      meets_got words hello d.0 d.1 answer s connecting state is reads brought d.2 d.3 now

  pub words_got : (many : Bool) (words : ℕ) (answer : Answer) (s : State) → IsConnecting s → l.clock.state ≡ s → IsBefore bytes words
      → ((answer ≢ Err Over) → IsBrought t.host_calls attempt bytes)
      → MatchBool many ((answer ≡ Err TooManyWords) × (n ≡ lines.failed (receiving.held l piece))) (receiving.Reads (receiving.held l piece) attempt l.greeting words answer n)
      → Got answer
  words_got true words answer s connecting state is brought d now =
      subst (λ x. Taken t n (λ a. tk a ++ took_by a (Receive attempt piece now x))) (sym d.0) (given_up d.1)
  words_got false words answer s connecting state is brought d now = read_got words d.0 answer s connecting state is d.1 brought d.2 now

  pub greets_got : (answer : Answer) (s : State) → IsConnecting s → l.clock.state ≡ s
      → ((answer ≢ Err Over) → IsBrought t.host_calls attempt (tk attempt ++ piece)) → receiving.Greets l attempt piece answer n → Got answer
  greets_got answer s connecting state brought (inl d) now =
      subst (λ x. Taken t n (λ a. tk a ++ took_by a (Receive attempt piece now x))) (sym d.0)
      (as_before l.link refl d.1)
  greets_got answer s connecting state brought (inr d) now =
      words_got (nat_lt 65536 d.0) d.0 answer s connecting state d.1 (λ right. subst (IsBrought t.host_calls attempt) all_came (brought right)) d.2 now

-- ## A piece at a time

-- a piece that a line is given
pub receive_taken : (t : Session) (tk : ℕ → List ℕ) (l n : Line) (attempt : ℕ) (piece : List ℕ) (now : ℕ) (answer : Answer) → t.terminal ≡ l.link
    → Tied l tk (λ a. fed a t.terminal_calls) → ((answer ≢ Err Over) → IsBrought t.host_calls attempt (tk attempt ++ piece))
    → receiving.Takes l attempt piece answer n → Taken t n (λ a. tk a ++ took_by a (Receive attempt piece now answer))
receive_taken t tk l n attempt piece now answer link tied brought = by_newest (lines.is_newest l attempt) refl
  where
    over : (answer ≡ Err Over) × (n ≡ l) → Taken t n (λ a. tk a ++ took_by a (Receive attempt piece now answer))
    over d =
        subst (λ x. Taken t n (λ a. tk a ++ took_by a (Receive attempt piece now x))) (sym d.0)
        (not_taken t n tk (stays t n.link (link ∙ ap (λ (x : Line). x.link) (sym d.1))) (tied_at l n tk (λ a. fed a t.terminal_calls) d.1 tied))

    newer_than : l.link.attempt ≡ attempt → (a : ℕ) → attempt < a → (tk a ≡ []) × (fed a t.terminal_calls ≡ [])
    newer_than number a more = tied.newer a (subst (λ k. k < a) (sym number) more)

    begun_at : l.link.attempt ≡ attempt → Begun (tk l.link.attempt) (fed l.link.attempt t.terminal_calls) → Begun (tk attempt) (fed attempt t.terminal_calls)
    begun_at number b = subst (λ k. Begun (tk k) (fed k t.terminal_calls)) number b

    by_state : (s : State) → l.clock.state ≡ s → (is_up l.link.phase ≡ true) → l.link.attempt ≡ attempt
        → StageOf s l.link.phase l.link.attempt l.greeting tk (λ a. fed a t.terminal_calls) → receiving.TakesBy s l attempt piece answer n
        → Taken t n (λ a. tk a ++ took_by a (Receive attempt piece now answer))
    by_state (Down w) state up number stage d = over d
    by_state (Connecting w) state up number stage d =
        let here = stage up in
        greets_got t tk l n attempt piece link number (newer_than number) tied
        (subst (λ k. l.greeting ≡ tk k) number here.0) (subst (λ k. fed k t.terminal_calls ≡ []) number here.1) answer (Connecting w) tt state brought d now
    by_state Open state up number stage d =
        feed_taken t tk attempt (newer_than number) l n piece now answer d.0 d.1 link number tied (begun_at number stage) brought d.2 d.3
    by_state (Late w) state up number stage d =
        feed_taken t tk attempt (newer_than number) l n piece now answer d.0 d.1 link number tied (begun_at number stage) brought d.2 d.3
    by_state (Lost why) state up number stage d = over d

    by_answers : (many : Bool) → (is_up l.link.phase ≡ true) → l.link.attempt ≡ attempt
        → MatchBool many ((answer ≡ Err TooManyAnswers) × (n ≡ lines.failed l)) (receiving.TakesBy l.clock.state l attempt piece answer n)
        → Taken t n (λ a. tk a ++ took_by a (Receive attempt piece now answer))
    by_answers true up number d =
        subst (λ x. Taken t n (λ a. tk a ++ took_by a (Receive attempt piece now x))) (sym d.0)
        (fail_taken t tk attempt (newer_than number) l.link l n (stays t l.link link) refl d.1 number)
    by_answers false up number d = by_state l.clock.state refl up number tied.stage d

    by_newest : (newest : Bool) → lines.is_newest l attempt ≡ newest
        → MatchBool newest (receiving.AnsweredBy l attempt piece answer n) ((answer ≡ Err Over) × (n ≡ l))
        → Taken t n (λ a. tk a ++ took_by a (Receive attempt piece now answer))
    by_newest true newest d =
        let parts = and_parts (is_up l.link.phase) (attempt == l.link.attempt) newest in
        by_answers (nat_le 65536 l.answers) parts.0 (sym (eqb-true attempt l.link.attempt parts.1)) d
    by_newest false newest d = over d
