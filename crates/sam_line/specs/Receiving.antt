-- What a piece of a connection does to a line.
use Rattle.std.specs.Prelude.{◌≡◌, ℕ, ◌+◌, ◌-◌, ◌⊎◌, List, ◌++◌, length, drop, min, nat_lt, nat_le, MatchBool, Option, None, Some, Result, Ok, Err}
use Rattle.sam_link.specs.Calls.{Does}
use Rattle.sam_link.specs.Calls.Call.{Feed, Welcome}
use Rattle.sam_link.specs.End.{End}
use Rattle.sam_link.specs.Feeding.{is_open}
use Rattle.sam_link.specs.Hellos.{ReadsHello}
use Rattle.sam_link.specs.declared.fault.FeedFault.{FeedFault}
use Rattle.sam_link.specs.declared.fault.FeedFault.TheVariants as feeds
use Rattle.sam_link.specs.declared.fault.WelcomeFault.{WelcomeFault}
use Rattle.sam_link.specs.declared.fault.WelcomeFault.TheVariants as welcomes
use Rattle.sam_link.specs.declared.hello.Hello.{Hello}
use Rattle.sam_link.specs.declared.hello.Refusal.{Refusal}
use Rattle.sam_line.specs.Clock as clocks
use Rattle.sam_line.specs.Greeting.{IsBefore}
use Rattle.sam_line.specs.Line.{at, failed, is_newest, put_len, refused}
use Rattle.sam_line.specs.Question.{measured, unmeasured}
use Rattle.sam_line.specs.declared.clock.State.{State}
use Rattle.sam_line.specs.declared.clock.State.TheVariants.{Down, Connecting, Open, Late, Lost}
use Rattle.sam_line.specs.declared.fault.ReceiveFault.{ReceiveFault}
use Rattle.sam_line.specs.declared.fault.ReceiveFault.TheVariants.{Over, OutOfMemory, TooManyWords, TooManyAnswers, WrongHello, Refused, CountFull, WrongPacket, AckAhead}
use Rattle.sam_line.specs.declared.line.Line.{Line}

-- ## On a connection that the host has welcomed

-- bytes have come, before which this side's stream had so many: what it has more are answers to the host
abbrev pub heard : Line → ℕ → Line
heard l before =
    record l {
      clock = clocks.heard l.clock;
      question = measured l.question l.link.keeps.base l.clock.time;
      answers = min (l.answers + (put_len l.link - before)) (length l.link.keeps.kept);
    }

abbrev pub fed_fault : FeedFault → ReceiveFault
fed_fault feeds.NotOpen = Over
fed_fault feeds.CountFull = CountFull
fed_fault feeds.OutOfMemory = OutOfMemory
fed_fault (feeds.Wrong fault) = WrongPacket fault
fed_fault feeds.AckAhead = AckAhead

abbrev pub failed_by : FeedFault → Line → Line
failed_by feeds.NotOpen l = l
failed_by feeds.CountFull l = failed l
failed_by feeds.OutOfMemory l = l
failed_by (feeds.Wrong fault) l = failed l
failed_by feeds.AckAhead l = failed l

-- the link has answered so to the piece
abbrev pub Follows : Line → Result (Unit {0}) FeedFault → End → Result (Unit {0}) ReceiveFault → Line → Type 0
Follows l (Ok done) e answer n = (answer ≡ Ok tt) × (n ≡ heard (record l { link = e }) (put_len l.link))
Follows l (Err fault) e answer n = (answer ≡ Err (fed_fault fault)) × (n ≡ failed_by fault (record l { link = e }))

abbrev pub Feeds : Line → ℕ → List ℕ → Result (Unit {0}) ReceiveFault → Line → Type 0
Feeds l attempt piece answer n =
    (fed : Result (Unit {0}) FeedFault) × (e : End) × Does l.link (Feed attempt piece fed) e × Follows l fed e answer n

-- ## Before that

abbrev pub welcomed : Line → Line
welcomed l = record l { clock = clocks.welcomed l.clock; question = unmeasured l.question }

-- The link has answered so to the bytes behind the hello. Where memory was refused the piece comes again, and with it the hello, which
-- is not taken twice
abbrev pub Begins : Line → List ℕ → Result (Unit {0}) FeedFault → End → Result (Unit {0}) ReceiveFault → Line → Type 0
Begins l before (Ok done) e answer n = Follows (welcomed l) (Ok done) e answer n
Begins l before (Err feeds.OutOfMemory) e answer n = (answer ≡ Err OutOfMemory) × (n ≡ record l { link = e; greeting = before })
Begins l before (Err feeds.NotOpen) e answer n = Follows (welcomed l) (Err feeds.NotOpen) e answer n
Begins l before (Err feeds.CountFull) e answer n = Follows (welcomed l) (Err feeds.CountFull) e answer n
Begins l before (Err (feeds.Wrong fault)) e answer n = Follows (welcomed l) (Err (feeds.Wrong fault)) e answer n
Begins l before (Err feeds.AckAhead) e answer n = Follows (welcomed l) (Err feeds.AckAhead) e answer n

abbrev pub BeginsBy : Line → ℕ → List ℕ → ℕ → Result (Unit {0}) ReceiveFault → Line → Type 0
BeginsBy l attempt before start answer n =
    (fed : Result (Unit {0}) FeedFault) × (e : End) × Does l.link (Feed attempt (drop start l.greeting) fed) e
    × Begins l before fed e answer n

-- the link takes the hello, unless it has
abbrev pub Meets : End → Hello → Result (Unit {0}) WelcomeFault → End → Type 0
Meets e hello met m = MatchBool (is_open e.phase) ((met ≡ Ok tt) × (m ≡ e)) (Does e (Welcome hello met) m)

abbrev pub MetBy : Line → ℕ → List ℕ → ℕ → Result (Unit {0}) WelcomeFault → Result (Unit {0}) ReceiveFault → Line → Type 0
MetBy l attempt before start (Ok done) answer n = BeginsBy l attempt before start answer n
MetBy l attempt before start (Err (welcomes.ByHost why)) answer n = (answer ≡ Err (Refused why)) × (n ≡ refused l why)
MetBy l attempt before start (Err (welcomes.Here why)) answer n = (answer ≡ Err (WrongHello why)) × (n ≡ failed l)
MetBy l attempt before start (Err welcomes.NotOpen) answer n = (answer ≡ Err Over) × (n ≡ record l { greeting = before })
MetBy l attempt before start (Err welcomes.WrongRole) answer n = (answer ≡ Err Over) × (n ≡ record l { greeting = before })

abbrev pub MeetsBy : Line → ℕ → Hello → List ℕ → ℕ → Result (Unit {0}) ReceiveFault → Line → Type 0
MeetsBy l attempt hello before start answer n =
    (met : Result (Unit {0}) WelcomeFault) × (m : End) × Meets l.link hello met m
    × MetBy (record l { link = m }) attempt before start met answer n

-- so is read what stands behind the words
abbrev pub ReadBy : Line → ℕ → List ℕ → ℕ → Result (Option Hello) Refusal → Result (Unit {0}) ReceiveFault → Line → Type 0
ReadBy l attempt before words (Ok None) answer n = (answer ≡ Ok tt) × (n ≡ l)
ReadBy l attempt before words (Err why) answer n = (answer ≡ Err (WrongHello why)) × (n ≡ failed l)
ReadBy l attempt before words (Ok (Some hello)) answer n = MeetsBy l attempt hello before (words + 42) answer n

abbrev pub Reads : Line → ℕ → List ℕ → ℕ → Result (Unit {0}) ReceiveFault → Line → Type 0
Reads l attempt before words answer n =
    (read : Result (Option Hello) Refusal) × ReadsHello (drop words l.greeting) read × ReadBy l attempt before words read answer n

abbrev pub WordsBy : Line → ℕ → List ℕ → ℕ → Result (Unit {0}) ReceiveFault → Line → Type 0
WordsBy l attempt before words answer n =
    MatchBool (nat_lt 65536 words) ((answer ≡ Err TooManyWords) × (n ≡ failed l)) (Reads l attempt before words answer n)

-- what has come so far, with the piece
abbrev pub held : Line → List ℕ → Line
held l piece = record l { greeting = l.greeting ++ piece }

abbrev pub Greets : Line → ℕ → List ℕ → Result (Unit {0}) ReceiveFault → Line → Type 0
Greets l attempt piece answer n =
    ((answer ≡ Err OutOfMemory) × (n ≡ l))
    ⊎ ((words : ℕ) × IsBefore (l.greeting ++ piece) words × WordsBy (held l piece) attempt l.greeting words answer n)

-- ## A piece

abbrev pub TakesBy : State → Line → ℕ → List ℕ → Result (Unit {0}) ReceiveFault → Line → Type 0
TakesBy (Down d) l attempt piece answer n = (answer ≡ Err Over) × (n ≡ l)
TakesBy (Connecting d) l attempt piece answer n = Greets l attempt piece answer n
TakesBy Open l attempt piece answer n = Feeds l attempt piece answer n
TakesBy (Late d) l attempt piece answer n = Feeds l attempt piece answer n
TakesBy (Lost why) l attempt piece answer n = (answer ≡ Err Over) × (n ≡ l)

-- no more is taken while so many bytes are kept that answer the host
abbrev pub AnsweredBy : Line → ℕ → List ℕ → Result (Unit {0}) ReceiveFault → Line → Type 0
AnsweredBy l attempt piece answer n =
    MatchBool (nat_le 65536 l.answers) ((answer ≡ Err TooManyAnswers) × (n ≡ failed l)) (TakesBy l.clock.state l attempt piece answer n)

abbrev pub Takes : Line → ℕ → List ℕ → Result (Unit {0}) ReceiveFault → Line → Type 0
Takes l attempt piece answer n =
    MatchBool (is_newest l attempt) (AnsweredBy l attempt piece answer n) ((answer ≡ Err Over) × (n ≡ l))

abbrev pub Receives : Line → ℕ → List ℕ → ℕ → Result (Unit {0}) ReceiveFault → Line → Type 0
Receives l attempt piece now answer n = Takes (at l now) attempt piece answer n
