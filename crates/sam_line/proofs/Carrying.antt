-- What a connection brings is carried, and what ties a line to its link.
use Rattle.std.proofs.Common.{◌≡◌, ℕ, ◌+◌, ◌<◌, ◌≤◌, ◌⊎◌, inl, inr, ◌==◌, List, [], ◌∷◌, ◌++◌, length, take, drop, Bool, true, false, if◌then◌else◌, Some, Result, Ok, refl, sym, ap, subst, ◌∙◌, arith, length-append}
use Rattle.std.proofs.lemmas.Bool.{cases_order, cond-true, cond-false, eq-eqb, ne_eqb}
use Rattle.std.proofs.lemmas.List.{append-nil, append_assoc, length-take-le, drop-append-le, drop-drop, drop_at, take-append-drop, take-append-le, take_all}
use Rattle.sam_link.specs.Calls.{Call, Does, Item, fed, fed_by, handed, out, out_by, put}
use Rattle.sam_link.specs.Calls as calls
use Rattle.sam_link.specs.Calls.Call.{Break as LinkBreak}
use Rattle.sam_link.specs.End.{End, ended, is_up}
use Rattle.sam_link.specs.Hellos.{HasMark, IsHello, ReadsHello, mark, spelled}
use Rattle.sam_link.specs.Sessions.{ByHost as LinkByHost, ByTerminal, Leads, Session, StartsWith, Step, WasCarried, is_taken, terminal_did}
use Rattle.sam_link.specs.Sessions as sessions
use Rattle.sam_link.specs.declared.hello.Hello.{Hello}
use Rattle.sam_link.specs.declared.hello.Refusal.{Refusal}
use Rattle.sam_link.specs.declared.phase.Phase.{Phase}
use Rattle.sam_link.specs.declared.phase.Phase.TheVariants as phases
use Rattle.sam_line.specs.Clock as clocks
use Rattle.sam_line.specs.Greeting.{AreWords, IsBefore}
use Rattle.sam_line.specs.Line as lines
use Rattle.sam_line.specs.Sessions.{IsBrought}
use Rattle.sam_line.specs.declared.clock.State.{State}
use Rattle.sam_line.specs.declared.clock.State.TheVariants.{Down, Connecting, Open, Late, Lost}
use Rattle.sam_line.specs.declared.fault.ReceiveFault.{ReceiveFault}
use Rattle.sam_line.specs.declared.line.Line.{Line}
use Rattle.sam_line.proofs.LineLaws.{with_last}
use Rattle.sam_line.proofs.Words.{front_has_mark, hello_has_mark, still_words}

abbrev pub Answer : Type 0
Answer = Result (Unit {0}) ReceiveFault

-- ## Words and what stands behind them

-- Where a mark stands whole in bytes that a connection brings, and no hello begins before it, the words end
pub words_end : (bytes words theirs rest : List ℕ) (place : ℕ) → bytes ++ rest ≡ words ++ theirs → IsBefore (words ++ theirs) (length words)
    → place ≤ length bytes → AreWords bytes place → HasMark (drop place bytes ++ rest) → place ≡ length words
words_end bytes words theirs rest place all behind inside before marked = by_order (cases_order place (length words))
  where
    by_order : ((place ≡ length words) ⊎ ((place < length words) ⊎ (length words < place))) → place ≡ length words
    by_order (inl same) = same
    by_order (inr (inl less)) =
        absurd (behind.before place less
        (subst (λ b. HasMark (drop place b)) all (subst HasMark (sym (drop-append-le place bytes rest inside)) marked)))
    by_order (inr (inr more)) =
        let whole : HasMark (drop (length words) (bytes ++ rest)) = subst (λ b. HasMark (drop (length words) b)) (sym all) behind.mark in
        let split : drop (length words) (bytes ++ rest) ≡ drop (length words) bytes ++ rest = drop-append-le (length words) bytes rest (omega (arith, more, inside)) in
        absurd (before (length words) more (front_has_mark (drop (length words) bytes) rest (subst HasMark split whole)))

-- so what stands behind them is what the host took out
pub behind_words : (bytes words theirs rest : List ℕ) (place : ℕ) → bytes ++ rest ≡ words ++ theirs → place ≤ length bytes → place ≡ length words
    → theirs ≡ drop place bytes ++ rest
behind_words bytes words theirs rest place all inside same =
    sym (drop_at words theirs place (sym same)) ∙ ap (drop place) (sym all) ∙ drop-append-le place bytes rest inside

-- ## Calls of a link, one after another

pub record Moved (t : Session) (n : End) (puts hands : List Item) (goes comes : ℕ → List ℕ) : Type 0 where
  pub steps : List Step
  pub z : Session
  pub leads : Leads t steps z
  pub terminal_is : z.terminal ≡ n
  pub host_is : z.host ≡ t.host
  pub host_calls_are : z.host_calls ≡ t.host_calls
  pub puts_are : put z.terminal_calls ≡ put t.terminal_calls ++ puts
  pub hands_are : handed z.terminal_calls ≡ handed t.terminal_calls ++ hands
  pub outs_are : (a : ℕ) → out a z.terminal_calls ≡ out a t.terminal_calls ++ goes a
  pub feds_are : (a : ℕ) → fed a z.terminal_calls ≡ fed a t.terminal_calls ++ comes a

abbrev pub none : ℕ → List ℕ
none a = []

pub stays : (t : Session) (n : End) → t.terminal ≡ n → Moved t n [] [] none none
stays t n is =
    record {
      steps = [];
      z = t;
      leads = refl;
      terminal_is = is;
      host_is = refl;
      host_calls_are = refl;
      puts_are = sym (append-nil (put t.terminal_calls));
      hands_are = sym (append-nil (handed t.terminal_calls));
      outs_are = λ a. sym (append-nil (out a t.terminal_calls));
      feds_are = λ a. sym (append-nil (fed a t.terminal_calls));
    }

pub one : (t : Session) (call : Call) (n : End) → Does t.terminal call n → (is_taken call ≡ true → WasCarried t.terminal_calls t.host_calls call)
    → Moved t n (calls.put_by call) (calls.handed_by call) (λ a. out_by a call) (λ a. fed_by a call)
one t call n does carried =
    record {
      steps = ByTerminal call ∷ [];
      z = terminal_did t call n;
      leads = (n, does, carried, refl);
      terminal_is = refl;
      host_is = refl;
      host_calls_are = refl;
      puts_are = with_last calls.put_by t.terminal_calls call;
      hands_are = with_last calls.handed_by t.terminal_calls call;
      outs_are = λ a. with_last (out_by a) t.terminal_calls call;
      feds_are = λ a. with_last (fed_by a) t.terminal_calls call;
    }

pub leads_on : (s m z : Session) (steps more : List Step) → Leads s steps m → Leads m more z → Leads s (steps ++ more) z
leads_on s m z [] more is rest = subst (λ x. Leads x more z) is rest
leads_on s m z (ByTerminal call ∷ steps) more is rest = (is.0, is.1, is.2, leads_on (terminal_did s call is.0) m z steps more is.3 rest)
leads_on s m z (LinkByHost call ∷ steps) more is rest = (is.0, is.1, is.2, leads_on (sessions.host_did s call is.0) m z steps more is.3 rest)

pub chain : (t : Session) (m n : End) (puts hands more_puts more_hands : List Item) (goes comes more_goes more_comes : ℕ → List ℕ)
    → (a : Moved t m puts hands goes comes) → Moved a.z n more_puts more_hands more_goes more_comes
    → Moved t n (puts ++ more_puts) (hands ++ more_hands) (λ k. goes k ++ more_goes k) (λ k. comes k ++ more_comes k)
chain t m n puts hands more_puts more_hands goes comes more_goes more_comes a b =
    record {
      steps = a.steps ++ b.steps;
      z = b.z;
      leads = leads_on t a.z b.z a.steps b.steps a.leads b.leads;
      terminal_is = b.terminal_is;
      host_is = b.host_is ∙ a.host_is;
      host_calls_are = b.host_calls_are ∙ a.host_calls_are;
      puts_are = b.puts_are ∙ ap (λ (l : List Item). l ++ more_puts) a.puts_are ∙ append_assoc (put t.terminal_calls) puts more_puts;
      hands_are = b.hands_are ∙ ap (λ (l : List Item). l ++ more_hands) a.hands_are ∙ append_assoc (handed t.terminal_calls) hands more_hands;
      outs_are = λ k. b.outs_are k ∙ ap (λ l. l ++ more_goes k) (a.outs_are k) ∙ append_assoc (out k t.terminal_calls) (goes k) (more_goes k);
      feds_are = λ k. b.feds_are k ∙ ap (λ l. l ++ more_comes k) (a.feds_are k) ∙ append_assoc (fed k t.terminal_calls) (comes k) (more_comes k);
    }

-- the connection is over
pub breaks : (t : Session) (n : End) → n ≡ ended t.terminal → Moved t n [] [] none none
breaks t n is =
    one t (LinkBreak t.terminal.attempt) n
    (is ∙ sym (cond-true (t.terminal.attempt == t.terminal.attempt) (ended t.terminal) t.terminal (eq-eqb t.terminal.attempt t.terminal.attempt refl)))
    (λ e. absurd (cc))

-- ## What ties a line to its link

-- of a connection that the host has welcomed came words, the host's hello, and what the link took
pub record Begun (came fed_ : List ℕ) : Type 0 where
  pub words : List ℕ
  pub hello : List ℕ
  pub is : came ≡ words ++ (hello ++ fed_)
  pub len : length hello ≡ 42
  pub marked : take 8 hello ≡ mark
  pub before : AreWords came (length words)

abbrev pub StageOf : State → Phase → ℕ → List ℕ → (ℕ → List ℕ) → (ℕ → List ℕ) → Type 0
StageOf (Down d) phase attempt greeting tk fd = is_up phase ≡ false
StageOf (Connecting d) phase attempt greeting tk fd = is_up phase ≡ true → (greeting ≡ tk attempt) × (fd attempt ≡ [])
StageOf Open phase attempt greeting tk fd = Begun (tk attempt) (fd attempt)
StageOf (Late d) phase attempt greeting tk fd = Begun (tk attempt) (fd attempt)
StageOf (Lost why) phase attempt greeting tk fd = is_up phase ≡ false

-- `tk` is what the line took of each connection, `fd` what its link took
pub record Tied (l : Line) (tk fd : ℕ → List ℕ) : Type 0 where
  pub newer : (a : ℕ) → l.link.attempt < a → (tk a ≡ []) × (fd a ≡ [])
  pub stage : StageOf l.clock.state l.link.phase l.link.attempt l.greeting tk fd

pub tied_at : (l m : Line) (tk fd : ℕ → List ℕ) → m ≡ l → Tied l tk fd → Tied m tk fd
tied_at l m tk fd is tied = subst (λ (x : Line). Tied x tk fd) (sym is) tied

pub same_functions : (l : Line) (tk tk_ fd fd_ : ℕ → List ℕ) → ((a : ℕ) → tk_ a ≡ tk a) → ((a : ℕ) → fd_ a ≡ fd a) → Tied l tk fd → Tied l tk_ fd_
same_functions l tk tk_ fd fd_ e f tied =
    let p : tk ≡ tk_ = λ i a. sym (e a) i in
    let q : fd ≡ fd_ = λ i a. sym (f a) i in
    subst (λ x. Tied l x fd_) p (subst (λ y. Tied l tk y) q tied)

-- what decides the stage is as before
pub kept_stage : (l n : Line) (tk fd : ℕ → List ℕ) → n.clock.state ≡ l.clock.state → n.link.phase ≡ l.link.phase → n.link.attempt ≡ l.link.attempt
    → n.greeting ≡ l.greeting → Tied l tk fd → Tied n tk fd
kept_stage l n tk fd state phase attempt greeting tied =
    record {
      newer = λ a more. tied.newer a (subst (λ k. k < a) attempt more);
      stage =
          subst (λ s. StageOf s n.link.phase n.link.attempt n.greeting tk fd) (sym state)
          (subst (λ p. StageOf l.clock.state p n.link.attempt n.greeting tk fd) (sym phase)
          (subst (λ k. StageOf l.clock.state l.link.phase k n.greeting tk fd) (sym attempt)
          (subst (λ g. StageOf l.clock.state l.link.phase l.link.attempt g tk fd) (sym greeting) tied.stage)));
    }

-- a line whose connection is over
pub tied_failed : (l : Line) (attempt : ℕ) (tk fd : ℕ → List ℕ) → l.link.attempt ≡ attempt → ((a : ℕ) → attempt < a → (tk a ≡ []) × (fd a ≡ []))
    → Tied (lines.failed l) tk fd
tied_failed l attempt tk fd same newer = record { newer = λ a more. newer a (subst (λ k. k < a) same more); stage = refl }

pub tied_refused : (l : Line) (why : Refusal) (attempt : ℕ) (tk fd : ℕ → List ℕ) → l.link.attempt ≡ attempt
    → ((a : ℕ) → attempt < a → (tk a ≡ []) × (fd a ≡ [])) → Tied (lines.refused l why) tk fd
tied_refused l why attempt tk fd same newer =
    record {
      newer = λ a more. newer a (subst (λ k. k < a) same more);
      stage = over (clocks.is_final l.clock l.link.is_known why);
    }
  where
    over : (final : Bool) → StageOf
        (if final then clocks.lost l.clock (lines.is_due l) why
        else record (clocks.failed l.clock (lines.is_due l)) { missing = clocks.missing_after l.clock why }).state phases.Down l.link.attempt l.greeting tk fd
    over true = refl
    over false = refl

-- ## A piece

-- one more piece of one connection
abbrev pub plus : (ℕ → List ℕ) → ℕ → List ℕ → ℕ → List ℕ
plus f attempt piece a = f a ++ (if attempt == a then piece else [])

pub plus_here : (f : ℕ → List ℕ) (attempt : ℕ) (piece : List ℕ) → plus f attempt piece attempt ≡ f attempt ++ piece
plus_here f attempt piece = ap (λ l. f attempt ++ l) (cond-true (attempt == attempt) piece [] (eq-eqb attempt attempt refl))

pub plus_newer : (f : ℕ → List ℕ) (attempt : ℕ) (piece : List ℕ) (a : ℕ) → attempt < a → f a ≡ [] → plus f attempt piece a ≡ []
plus_newer f attempt piece a more is =
    ap (λ l. l ++ (if attempt == a then piece else [])) is ∙ cond-false (attempt == a) piece [] (ne_eqb attempt a (λ e. omega (arith, e, more)))

pub record Taken (t : Session) (n : Line) (tk : ℕ → List ℕ) : Type 0 where
  pub comes : ℕ → List ℕ
  pub moved : Moved t n.link [] [] none comes
  pub tied : Tied n tk (λ a. fed a t.terminal_calls ++ comes a)

-- nothing of the connection was taken
pub not_taken : (t : Session) (n : Line) (tk : ℕ → List ℕ) → Moved t n.link [] [] none none → Tied n tk (λ a. fed a t.terminal_calls) → Taken t n (λ a. tk a ++ [])
not_taken t n tk moved tied =
    record {
      comes = none;
      moved = moved;
      tied = same_functions n tk (λ a. tk a ++ []) (λ a. fed a t.terminal_calls) (λ a. fed a t.terminal_calls ++ []) (λ a. append-nil (tk a))
          (λ a. append-nil (fed a t.terminal_calls)) tied;
    }

-- ## What a connection brings is carried

-- to a link that is open
pub feed_carried : (theirs : List Call) (attempt : ℕ) (came fed_ piece : List ℕ) → Begun came fed_ → IsBrought theirs attempt (came ++ piece)
    → StartsWith (drop 42 (out attempt theirs)) (fed_ ++ piece)
feed_carried theirs attempt came fed_ piece begun brought =
    let rest = brought.front.rest in
    let all : (came ++ piece) ++ rest ≡ brought.words ++ out attempt theirs = sym brought.front.is in
    let place : drop (length begun.words) came ≡ begun.hello ++ fed_ =
    ap (drop (length begun.words)) begun.is ∙ drop_at begun.words (begun.hello ++ fed_) (length begun.words) refl in
    let inside : length begun.words ≤ length came =
    omega (arith, ap length begun.is, length-append begun.words (begun.hello ++ fed_)) in
    let long : length begun.words ≤ length (came ++ piece) = omega (arith, inside, length-append came piece) in
    let behind : drop (length begun.words) (came ++ piece) ≡ (begun.hello ++ fed_) ++ piece =
    drop-append-le (length begun.words) came piece inside ∙ ap (λ b. b ++ piece) place in
    let marked : HasMark (((begun.hello ++ fed_) ++ piece) ++ rest) = has_mark begun.hello fed_ piece rest begun.len begun.marked in
    let same : length begun.words ≡ length brought.words =
    words_end (came ++ piece) brought.words (out attempt theirs) rest (length begun.words) all brought.behind long
    (still_words came piece (length begun.words) inside begun.before) (subst (λ b. HasMark (b ++ rest)) (sym behind) marked) in
    let theirs_are : out attempt theirs ≡ ((begun.hello ++ fed_) ++ piece) ++ rest =
    behind_words (came ++ piece) brought.words (out attempt theirs) rest (length begun.words) all long same ∙ ap (λ b. b ++ rest) behind in
    record {
      rest = rest;
      is = ap (drop 42) theirs_are ∙ ap (drop 42) (regroup begun.hello fed_ piece rest) ∙ drop_at begun.hello ((fed_ ++ piece) ++ rest) 42 begun.len;
    }
  where
    regroup : (h f p r : List ℕ) → ((h ++ f) ++ p) ++ r ≡ h ++ ((f ++ p) ++ r)
    regroup h f p r = simp append_assoc

    has_mark : (h f p r : List ℕ) → length h ≡ 42 → take 8 h ≡ mark → HasMark (((h ++ f) ++ p) ++ r)
    has_mark h f p r len marked =
        ap (take 8) (regroup h f p r) ∙ take-append-le 8 h ((f ++ p) ++ r) (omega (arith, len)) ∙ marked
        ∙ sym (take_all (length (((h ++ f) ++ p) ++ r)) mark
        (omega (arith, len, ap length (regroup h f p r), length-append h ((f ++ p) ++ r))))

-- behind the words stands the hello that was read
pub hello_stands : (theirs : List Call) (attempt : ℕ) (bytes : List ℕ) (words : ℕ) (hello : Hello) → IsBefore bytes words
    → ReadsHello (drop words bytes) (Ok (Some hello)) → (brought : IsBrought theirs attempt bytes)
    → out attempt theirs ≡ drop words bytes ++ brought.front.rest
hello_stands theirs attempt bytes words hello is read brought =
    let rest = brought.front.rest in
    let all : bytes ++ rest ≡ brought.words ++ out attempt theirs = sym brought.front.is in
    let long : 42 ≤ length (drop words bytes ++ rest) = omega (arith, (read.1), length-append (drop words bytes) rest) in
    let whole : take 42 (drop words bytes ++ rest) ≡ spelled hello = take-append-le 42 (drop words bytes) rest read.1 ∙ read.2 in
    behind_words bytes brought.words (out attempt theirs) rest words all is.inside
    (words_end bytes brought.words (out attempt theirs) rest words all brought.behind is.inside is.before (hello_has_mark hello (drop words bytes ++ rest) long whole))

pub hello_carried : (theirs : List Call) (attempt : ℕ) (bytes : List ℕ) (words : ℕ) (hello : Hello) → IsBefore bytes words
    → ReadsHello (drop words bytes) (Ok (Some hello)) → IsBrought theirs attempt bytes → hello.attempt ≡ attempt
    → IsHello hello × StartsWith (out hello.attempt theirs) (spelled hello)
hello_carried theirs attempt bytes words hello is read brought same =
    let stands = hello_stands theirs attempt bytes words hello is read brought in (
      read.0,
      record {
        rest = drop 42 (drop words bytes) ++ brought.front.rest;
        is = ap (λ k. out k theirs) same ∙ stands
            ∙ ap (λ b. b ++ brought.front.rest) (sym (take-append-drop 42 (drop words bytes)) ∙ ap (λ b. b ++ drop 42 (drop words bytes)) read.2)
            ∙ append_assoc (spelled hello) (drop 42 (drop words bytes)) brought.front.rest;
      },
    )

pub rest_carried : (theirs : List Call) (attempt : ℕ) (bytes : List ℕ) (words : ℕ) (hello : Hello) → IsBefore bytes words
    → ReadsHello (drop words bytes) (Ok (Some hello)) → IsBrought theirs attempt bytes
    → StartsWith (drop 42 (out attempt theirs)) (drop (words + 42) bytes)
rest_carried theirs attempt bytes words hello is read brought =
    let stands = hello_stands theirs attempt bytes words hello is read brought in
    record {
      rest = brought.front.rest;
      is = ap (drop 42) stands ∙ drop-append-le 42 (drop words bytes) brought.front.rest read.1
          ∙ ap (λ b. b ++ brought.front.rest) (drop-drop 42 words bytes);
    }

-- what came is words, the hello and what stands behind it
pub begun_of : (came bytes : List ℕ) (words : ℕ) (hello : Hello) → came ≡ bytes → IsBefore bytes words → ReadsHello (drop words bytes) (Ok (Some hello))
    → Begun came (drop (words + 42) bytes)
begun_of came bytes words hello same is read =
    let front : length (take words bytes) ≡ words = length-take-le words bytes is.inside in
    record {
      words = take words bytes;
      hello = take 42 (drop words bytes);
      is = same ∙ sym (take-append-drop words bytes)
          ∙ ap (λ b. take words bytes ++ b) (sym (take-append-drop 42 (drop words bytes)) ∙ ap (λ b. take 42 (drop words bytes) ++ b) (drop-drop 42 words bytes));
      len = length-take-le 42 (drop words bytes) read.1;
      marked = ap (take 8) read.2;
      before = subst (λ k. AreWords came k) (sym front) (subst (λ b. AreWords b words) (sym same) is.before);
    }
