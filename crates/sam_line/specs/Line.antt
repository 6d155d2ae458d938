-- The terminal's end of a link with the clock of its connections. Times are in milliseconds.
use Rattle.std.specs.Prelude.{◌≡◌, ℕ, ◌+◌, ◌-◌, ◌^◌, List, [], length, min, nat_lt, nat_le, Bool, true, false, not, ◌&&◌, ◌||◌, ◌==◌, if◌then◌else◌, MatchBool, is_ok, Option, None, Result, Ok}
use Rattle.sam_link.specs.Calls.{Does}
use Rattle.sam_link.specs.Calls.Call.{Acknowledge, Ask, Dial, NextNote, Put, PutNote, TakeIn, TakeOut}
use Rattle.sam_link.specs.End.{End, ended, fresh, is_up}
use Rattle.sam_link.specs.Inbox.{RestStays, note_in}
use Rattle.sam_link.specs.declared.fault.CallFault.{CallFault}
use Rattle.sam_link.specs.declared.fault.NotOpen.{NotOpen}
use Rattle.sam_link.specs.declared.fault.NoteFault.{NoteFault}
use Rattle.sam_link.specs.declared.hello.Id.{Id}
use Rattle.sam_link.specs.declared.hello.Refusal.{Refusal}
use Rattle.sam_link.specs.declared.keeping.PutFault.{PutFault}
use Rattle.sam_link.specs.declared.phase.Role.TheVariants.{Terminal}
use Rattle.sam_line.specs.Clock as clocks
use Rattle.sam_line.specs.Question.{asked_at, owing_to, unmeasured}
use Rattle.sam_line.specs.declared.clock.State.{State}
use Rattle.sam_line.specs.declared.clock.State.TheVariants.{Down, Connecting, Open, Late, Lost}
use Rattle.sam_line.specs.declared.clock.Tick.{Tick}
use Rattle.sam_line.specs.declared.clock.Tick.TheVariants.{Nothing, Connect, Drop}
use Rattle.sam_line.specs.declared.clock.Tick.TheVariants as ticks
use Rattle.sam_line.specs.declared.line.Line.{Line}

-- ## How it stands

abbrev pub begun : Id → Bool → ℕ → Line
begun id take_over now =
    record {
      link = fresh Terminal id;
      clock = clocks.begun now;
      question = record { due = 0; asked = 0; since = None; round_trip = 0 };
      greeting = [];
      answers = 0;
      take_over = take_over;
      expects = false;
    }

-- the time goes on, and never back
abbrev pub at : Line → ℕ → Line
at l now = record l { clock = clocks.at l.clock now }

-- how many bytes this side's stream has
abbrev pub put_len : End → ℕ
put_len e = e.keeps.base + length e.keeps.kept

-- something that was put is not acknowledged
abbrev pub is_unacknowledged : Line → Bool
is_unacknowledged l = nat_lt l.link.keeps.base l.question.due

-- an answer is due: to what was put, or one for which the program waits
abbrev pub is_due : Line → Bool
is_due l = is_unacknowledged l || l.expects

-- all that was put is acknowledged
abbrev pub has_all : Line → Bool
has_all l = nat_le l.question.due l.link.keeps.base

-- after so much silence the user is to know that an answer is overdue: a second, and two round trips
abbrev pub overdue_after : Line → ℕ
overdue_after l = min (2 ^ 64 - 1) ((l.question.round_trip + l.question.round_trip) + 1000)

-- there is no connection, though there was one, or one has failed
abbrev pub is_broken : Line → Bool
is_broken l = not (clocks.is_welcome l.clock.state) && (l.link.is_known || nat_lt 0 l.clock.failures)

-- the connection is the newest, and not over
abbrev pub is_newest : Line → ℕ → Bool
is_newest l attempt = is_up l.link.phase && (attempt == l.link.attempt)

abbrev pub is_connecting : State → Bool
is_connecting (Down d) = false
is_connecting (Connecting d) = true
is_connecting Open = false
is_connecting (Late d) = false
is_connecting (Lost why) = false

abbrev pub is_late : State → Bool
is_late (Down d) = false
is_late (Connecting d) = false
is_late Open = false
is_late (Late d) = true
is_late (Lost why) = false

-- a connection is to be made, and the program has not said that it is
abbrev pub is_opening : Line → Bool
is_opening l = is_connecting l.clock.state && not (is_up l.link.phase)

-- ## Connections

-- the newest connection is over, or none could be made
abbrev pub failed : Line → Line
failed l = record l { link = ended l.link; clock = clocks.failed l.clock (is_due l) }

-- the host refuses it
abbrev pub refused : Line → Refusal → Line
refused l why = record l { link = ended l.link; clock = clocks.refused l.clock l.link.is_known (is_due l) why }

-- one is open, and its hello is to go out
abbrev pub opened : Line → Line
opened l = record l { clock = clocks.connecting l.clock; question = unmeasured l.question; greeting = [] }

abbrev pub connected : Line → Bool → End → Line
connected l did e = if did then opened (record l { link = e }) else record l { link = e }

abbrev pub Connects : Line → ℕ → Result ℕ CallFault → Line → Type 0
Connects l now answer n = Does l.link (Dial l.take_over answer) n.link × (n ≡ connected (at l now) (is_ok answer) n.link)

abbrev pub not_connected : Line → Line
not_connected l = if is_opening l then failed l else l

abbrev pub broken : Line → ℕ → Line
broken l attempt = if is_newest l attempt then failed l else l

abbrev pub moved : Line → Line
moved l = record l { clock = clocks.moved l.clock (is_due l) }

abbrev pub after : Line → Tick → Line
after l Nothing = l
after l Connect = record l { clock = clocks.connecting l.clock }
after l Drop = failed l
after l ticks.Ask = record l { clock = clocks.late l.clock }

abbrev pub Ticks : Line → ℕ → Tick → Line → Type 0
Ticks l now answer n = (answer ≡ clocks.says (at l now).clock (is_due l)) × (n ≡ after (at l now) answer)

-- ## What the program puts

-- more was put, which is to be acknowledged
abbrev pub owing : Line → Line
owing l = record l { clock = clocks.owed l.clock (is_due l); question = owing_to l.question (put_len l.link) }

abbrev pub put_by : Line → Bool → End → Line
put_by l did e = if did then owing (record l { link = e }) else record l { link = e }

abbrev pub PutsBytes : Line → List ℕ → ℕ → Result (Unit {0}) PutFault → Line → Type 0
PutsBytes l bytes now answer n = Does l.link (Put bytes answer) n.link × (n ≡ put_by (at l now) (is_ok answer) n.link)

abbrev pub PutsNote : Line → List ℕ → ℕ → Result (Unit {0}) NoteFault → Line → Type 0
PutsNote l bytes now answer n = Does l.link (PutNote bytes answer) n.link × (n ≡ put_by (at l now) (is_ok answer) n.link)

-- the program waits for an answer from now on, or waits for none
abbrev pub expecting : Line → Bool → Line
expecting l expects = record l { clock = clocks.owed l.clock (is_due l); expects = expects }

-- no question is under way, and something that was put is not acknowledged, or the line is late
abbrev pub is_to_ask : Line → Bool
is_to_ask l = nat_le l.question.asked l.link.keeps.base && (is_unacknowledged l || is_late l.clock.state)

abbrev pub asking : Line → Line
asking l =
    record l { clock = clocks.owed l.clock (is_due l); question = asked_at l.question (put_len l.link) l.clock.time }

abbrev pub asked_by : Line → Bool → End → Line
asked_by l did e = if did then asking (record l { link = e }) else record l { link = e }

abbrev pub Asks : Line → ℕ → Result (Unit {0}) PutFault → Line → Type 0
Asks l now answer n =
    MatchBool (is_to_ask (at l now)) (Does l.link (Ask answer) n.link × (n ≡ asked_by (at l now) (is_ok answer) n.link))
    ((answer ≡ Ok tt) × (n ≡ at l now))

abbrev pub Acknowledges : Line → Result (Unit {0}) PutFault → Line → Type 0
Acknowledges l answer n = Does l.link (Acknowledge answer) n.link × (n ≡ record l { link = n.link })

-- ## What goes out and in

abbrev pub TakesOut : Line → ℕ → List ℕ → Result ℕ NotOpen → List ℕ → Line → Type 0
TakesOut l attempt old answer new n = Does l.link (TakeOut attempt old answer new) n.link × (n ≡ record l { link = n.link })

abbrev pub TakesIn : Line → List ℕ → ℕ → List ℕ → Line → Type 0
TakesIn l old count new n = Does l.link (TakeIn old count new) n.link × (n ≡ record l { link = n.link })

abbrev pub GivesNote : Line → List ℕ → Option ℕ → List ℕ → Line → Type 0
GivesNote l old count new n =
    Does l.link (NextNote (note_in count new)) n.link × RestStays count old new × (n ≡ record l { link = n.link })
