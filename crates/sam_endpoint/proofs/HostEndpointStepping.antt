-- Single steps of a host end: what each answers, and where they lead.
use Rattle.sam_endpoint.proofs.Common.{◌≡◌, refl, sym, ap, subst, ◌∙◌, ℕ, List, [], ◌∷◌, ◌++◌, Option, None, Some, Result, Ok, Err, inl, inr, append-nil, arith, length-append, Tmesg, HostStop, EndpointFault, PlainHostEndpoint, Answers, GoesOn, Answer, AnswersFirst}
use Rattle.std.specs.Prelude.{zero, suc, drop, option_and_then, slice_get}
use Rattle.sam_mesg.specs.TerminalKinds.{kind_t}
use Rattle.std.proofs.Common.{◌<◌, length}
use Rattle.sam_host.specs.Edits.{EditFile, edited_file}
use Rattle.sam_endpoint.specs.Naming.{file_of_t}
use Rattle.sam_endpoint.specs.declared.fault.HostStop.TheVariants as stop
use Rattle.sam_endpoint.specs.declared.fault.EndpointFault.TheVariants as fault
use Rattle.sam_endpoint.specs.declared.step.HostStep.{HostStep}
use Rattle.sam_endpoint.specs.declared.step.HostStep.TheVariants.{Idle, Wrote, Edited, Answered}
use Rattle.sam_endpoint.specs.HostSteps.{Brings, TakesSo, written}
use Rattle.sam_endpoint.specs.HostStepping.{AnsweredFirst, BringsIn, GoesBySteps, HostStepsFeed, IsReady, IsWritten, Steps, StepsWaiting, TookEdits}
use Rattle.sam_endpoint.specs.Streams.{bring_fault}
use Rattle.sam_endpoint.proofs.HostEndpointGoing.{answers_nothing, answers_then, answers_written, next_done}

-- ## Answers

-- the framer did not take the piece
pub not_brought : (e g : PlainHostEndpoint) (piece : List ℕ) (why : EndpointFault HostStop) → IsReady e → Brings e piece (Err why) g → BringsIn e piece (Err (bring_fault why)) g
not_brought e g piece fault.OutOfMemory ready (room, same) = (ready, room, same)
not_brought e g piece fault.CountFull ready (full, same) = (ready, full, same)
not_brought e g piece fault.Unfinished ready u = absurd u
not_brought e g piece (fault.Stopped why) ready u = absurd u

same_message : (a b : Tmesg) (x y : List Tmesg) → a ∷ x ≡ b ∷ y → a ≡ b
same_message a b x y is = grind arith

some_same : (a b : ℕ) → Some a ≡ Some b → a ≡ b
some_same a b is = grind arith

-- a message that edits a file names it
edits_name : (m : Tmesg) (f : ℕ) → edited_file m ≡ Some f → file_of_t m ≡ Some f
edits_name m f e = grind arith

-- the oldest of some messages that edit one file names it
names_one : (ms rest waiting : List Tmesg) (message : Tmesg) (f tag : ℕ) → 0 < length ms → waiting ≡ ms ++ rest → waiting ≡ message ∷ drop 1 waiting
    → EditFile f ms → file_of_t message ≡ Some tag → f ≡ tag
names_one [] rest waiting message f tag some is first edits named = absurd (omega (arith, some))
names_one (m ∷ ms) rest waiting message f tag some is first edits named =
    let same : m ≡ message = same_message m message (ms ++ rest) (drop 1 waiting) (sym is ∙ first) in
    let by : file_of_t m ≡ Some f = edits_name m f edits.0 in
    some_same f tag (sym by ∙ ap file_of_t same ∙ named)

-- the host took some messages, of which this was the oldest
pub took_told : (e g : PlainHostEndpoint) (message : Tmesg) (tag count : ℕ) → e.waiting ≡ message ∷ drop 1 e.waiting → TakesSo e count g → file_of_t message ≡ Some tag
    → TookEdits e tag count g
took_told e g message tag count first (took, many) named =
    let is : took.file ≡ tag = names_one took.messages took.rest e.waiting message took.file tag took.some took.waited first took.one_file named in
    record {
      edits = took;
      count_is = many;
      named = ap (λ (x : List Tmesg). option_and_then file_of_t (slice_get x 0)) first ∙ named;
      one_file = subst (λ (f : ℕ). EditFile f took.messages) is took.one_file;
    }

-- the host answered this message, the oldest
pub answered_told : (e g : PlainHostEndpoint) (message : Tmesg) (kind : ℕ) (tag : Option ℕ) → e.waiting ≡ message ∷ drop 1 e.waiting → AnswersFirst e g
    → kind ≡ kind_t message → tag ≡ file_of_t message → AnsweredFirst e kind tag g
answered_told e g message kind tag first is named says =
    let same : message ≡ is.message = same_message message is.message (drop 1 e.waiting) is.rest (sym first ∙ is.waited) in
    record { first = is; kind_is = named ∙ ap kind_t same; named = says ∙ ap file_of_t same }

-- a message waited and was taken, or was not
pub waiting_stepped : (e g : PlainHostEndpoint) (result : Result HostStep (EndpointFault HostStop)) → IsWritten e → StepsWaiting e result g → Steps e result g
waiting_stepped e g (Ok Idle) is u = absurd u
waiting_stepped e g (Ok Wrote) is u = absurd u
waiting_stepped e g (Ok (Edited tag count)) is took = (is, took)
waiting_stepped e g (Ok (Answered kind tag)) is first = (is, first)
waiting_stepped e g (Err fault.Unfinished) is (waits, same) = (is.0, omega (arith, waits), same)
waiting_stepped e g (Err (fault.Stopped (stop.Refused why))) is refused = inr (is, refused)
waiting_stepped e g (Err (fault.Stopped (stop.Stream why))) is u = absurd u
waiting_stepped e g (Err fault.OutOfMemory) is u = absurd u
waiting_stepped e g (Err fault.CountFull) is u = absurd u

-- edits are taken at once only where no frame is left over and a message waits
pub edits_wait : (e g : PlainHostEndpoint) (tag count : ℕ) → Steps e (Ok (Edited tag count)) g → IsWritten e × (0 < length e.waiting)
edits_wait e g tag count (is, took) = (is, grind (arith, length-append))

-- ## One step of many

-- some messages were answered, and it goes on
pub record Went (e l : PlainHostEndpoint) : Type 0 where
  pub messages : List Tmesg
  pub answers : Answers e messages l
  pub goes : l.stop ≡ None

pub went_nowhere : (e : PlainHostEndpoint) → e.stop ≡ None → Went e e
went_nowhere e goes = record { messages = []; answers = answers_nothing e; goes = goes }

went_to : (e l k : PlainHostEndpoint) (ms : List Tmesg) → Went e l → Answers l ms k → k.stop ≡ None → Went e k
went_to e l k ms w a goes = record { messages = w.messages ++ ms; answers = answers_then e l k w.messages ms w.answers a; goes = goes }

-- a step leads on
pub steps_on : (e l k : PlainHostEndpoint) (step : HostStep) → Went e l → Steps l (Ok step) k → Went e k
steps_on e l k Idle w (ready, same) = subst (λ (x : PlainHostEndpoint). Went e x) (sym same) w
steps_on e l k Wrote w (goes, some, is) = subst (λ (x : PlainHostEndpoint). Went e x) (sym is) (went_to e l (written l) [] w (answers_written l) goes)
steps_on e l k (Edited tag count) w (is, took) = let n = next_done l k is.0 is.1 (inr took.edits) in went_to e l k n.0 w n.1 n.2
steps_on e l k (Answered kind tag) w (is, first) = let n = next_done l k is.0 is.1 (inl first.first) in went_to e l k n.0 w n.1 n.2

not_stopped : (l : PlainHostEndpoint) (why : HostStop) → l.stop ≡ None → l.stop ≡ Some why → ⊥
not_stopped l why goes stops = grind arith

-- all messages were answered
all_answered : (e l : PlainHostEndpoint) (ms : List Tmesg) → Answers e ms l → l.waiting ≡ [] → Answers e e.waiting l
all_answered e l ms a none = subst (λ (x : List Tmesg). Answers e x l) (sym (a.waiting ∙ ap (λ (x : List Tmesg). ms ++ x) none ∙ append-nil ms)) a

-- what is said of an end holds of it also once it has stopped
answers_stopped : (e l : PlainHostEndpoint) (ms : List Tmesg) (why : HostStop) → Answers e ms l → Answers e ms (record l { stop = Some why })
answers_stopped e l ms why a =
    record { frames = a.frames; more = a.more; serves = a.serves; frames_fit = a.frames_fit; waiting = a.waiting; bytes = a.bytes; writes = a.writes; framer = a.framer; broken_by = a.broken_by }

-- and so does one that could not be made
pub steps_not : (e l g : PlainHostEndpoint) (why : EndpointFault HostStop) → Went e l → Steps l (Err why) g → GoesOn e (Err why) g
steps_not e l g fault.Unfinished w (goes, some, same) =
    subst (λ (x : PlainHostEndpoint). GoesOn e (Err fault.Unfinished) x) (sym same) (w.messages, w.answers, goes, some)
steps_not e l g (fault.Stopped why) w (inl (stops, same)) = absurd (not_stopped l why w.goes stops)
steps_not e l g (fault.Stopped (stop.Stream why)) w (inr (is, (none, broken_by, stops))) =
    subst (λ (x : PlainHostEndpoint). GoesOn e (Err (fault.Stopped (stop.Stream why))) x) (sym stops) (
      answers_stopped e l e.waiting (stop.Stream why) (all_answered e l w.messages w.answers none),
      record { waiting = none; unwritten = is.1 },
      sym w.answers.broken_by ∙ broken_by,
      refl,
    )
steps_not e l g (fault.Stopped (stop.Refused why)) w (inr (is, (message, rest, waits, refused, stops))) =
    subst (λ (x : PlainHostEndpoint). GoesOn e (Err (fault.Stopped (stop.Refused why))) x) (sym stops)
    (w.messages, message, rest, answers_stopped e l w.messages (stop.Refused why) w.answers, waits, refused, is.1, refl)
steps_not e l g fault.OutOfMemory w u = absurd u
steps_not e l g fault.CountFull w u = absurd u

-- nothing is left to do
rests : (e l g : PlainHostEndpoint) → Went e l → Steps l (Ok Idle) g → GoesOn e (Ok tt) g
rests e l g w (ready, same) =
    subst (λ (x : PlainHostEndpoint). GoesOn e (Ok tt) x) (sym same)
    (all_answered e l w.messages w.answers ready.1.0.waiting, ready.1.0, sym w.answers.broken_by ∙ ready.1.1, ready.0)

goes_by : (n : ℕ) (answer : Answer) (e l g : PlainHostEndpoint) → Went e l → GoesBySteps n l answer g → GoesOn e answer g
goes_by zero (Ok done) e l g w is = rests e l g w is
goes_by zero (Err why) e l g w is = steps_not e l g why w is
goes_by (suc n) answer e l g w (step, k, work, steps, more) = goes_by n answer e k g (steps_on e l k step w steps) more

-- ## Feeding

pub steps_feed : HostStepsFeed
steps_feed n piece answer e k g ((goes, whole), (messages, broken_by, rest, gives, is)) steps =
    let on : GoesOn e (Ok tt) e = rests e e e (went_nowhere e goes) ((goes, whole), refl) in
    let begun : k.stop ≡ None = ap (λ (x : PlainHostEndpoint). x.stop) is ∙ goes in
    inr (goes, e, Ok tt, on, inl (k, (messages, broken_by, rest, gives, is), goes_by n answer k k g (went_nowhere k begun) steps))
