-- Single steps of a terminal end: what each answers, and where they lead.
use Rattle.sam_endpoint.proofs.Common.{◌≡◌, ◌+◌, length, length-append, refl, sym, ap, subst, ◌∙◌, ℕ, List, [], ◌∷◌, ◌++◌, Bool, true, false, drop, Option, None, Some, Result, Ok, Err, inl, inr, append-nil, arith, HFrame, StreamFault, TermStop, EndpointFault, PlainTerminal, Acted, PlainTermEndpoint, Moves, oldest, ActsFirst, Gains, ReceivesFirst, written}
use Rattle.std.specs.Prelude.{zero, suc, option_and_then, slice_get}
use Rattle.sam_endpoint.specs.declared.fault.TermStop.TheVariants as stop
use Rattle.sam_endpoint.specs.declared.fault.EndpointFault.TheVariants as fault
use Rattle.sam_endpoint.specs.declared.step.TermStep.{TermStep}
use Rattle.sam_endpoint.specs.declared.step.TermStep.TheVariants as step
use Rattle.sam_endpoint.specs.TermEndpoints.{GoesOn, InOrder, decided}
use Rattle.sam_endpoint.specs.TermSteps.{Answer, Composes, Decides, Ends, Holds, Receives}
use Rattle.sam_endpoint.specs.declared.step.BringFault.{BringFault}
use Rattle.sam_endpoint.specs.declared.step.BringFault.TheVariants as bring
use Rattle.sam_term.specs.declared.event.UserEvent.{UserEvent}
use Rattle.sam_endpoint.specs.Changes.{change_between, change_by, frame_touch, oldest_touch, touched_len}
use Rattle.sam_endpoint.specs.Naming.{file_of_h}
use Rattle.sam_mesg.specs.HostKinds.{kind_h}
use Rattle.sam_endpoint.specs.declared.changes.Change.{Change}
use Rattle.sam_endpoint.specs.declared.changes.Touch.{Touch}
use Rattle.sam_endpoint.specs.declared.step.Decision.TheVariants as decision
use Rattle.sam_term.specs.Events.{file_of}
use Rattle.sam_term.specs.declared.fault.Refusal.{Refusal}
use Rattle.sam_endpoint.specs.TermStepping.{ActedFirst, BringsEvent, BringsFrame, BringsIn, ComposesIn, DecidesStep, GoesBySteps, IsAtRest, IsNotReady, IsReady, IsWritten, ReceivedFirst, ReceivesStep, RefusedFirst, Steps, TermStepsFeed}
use Rattle.sam_endpoint.specs.Streams.{bring_fault}
use Rattle.sam_endpoint.proofs.TermEndpointHeld.{take_held}
use Rattle.sam_endpoint.proofs.TermEndpointSteps.{first_read}
use Rattle.sam_endpoint.proofs.TermEndpointMoves.{moves_acted, moves_none, moves_received, moves_written}

-- ## Answers

-- the framer did not take the piece
pub not_brought : (e g : PlainTermEndpoint) (piece : List ℕ) (why : EndpointFault TermStop) → IsReady e → Gains e piece (Err why) g → BringsIn e piece (Err (bring_fault why)) g
not_brought e g piece fault.OutOfMemory ready (room, same) = (ready, room, same)
not_brought e g piece fault.CountFull ready (full, same) = (ready, full, same)
not_brought e g piece fault.Unfinished ready u = absurd u
not_brought e g piece (fault.Stopped why) ready u = absurd u

-- it had stopped, or something waited
pub not_ready_in : (e : PlainTermEndpoint) (piece : List ℕ) (why : BringFault TermStop) → IsNotReady e why → BringsIn e piece (Err why) e
not_ready_in e piece (bring.Stopped why) is = (is, refl)
not_ready_in e piece bring.Waiting is = (is.0, is.1, refl)
not_ready_in e piece bring.CountFull u = absurd u
not_ready_in e piece bring.OutOfMemory u = absurd u

pub not_ready_frame : (e : PlainTermEndpoint) (frame : HFrame) (why : BringFault TermStop) → IsNotReady e why → BringsFrame e frame (Err why) e
not_ready_frame e frame (bring.Stopped why) is = (is, refl)
not_ready_frame e frame bring.Waiting is = (is.0, is.1, refl)
not_ready_frame e frame bring.CountFull u = absurd u
not_ready_frame e frame bring.OutOfMemory u = absurd u

pub not_ready_unsent : (e : PlainTermEndpoint) (why : BringFault TermStop) → IsNotReady e why → ComposesIn e (Err why) e
not_ready_unsent e (bring.Stopped why) is = inl (is, refl)
not_ready_unsent e bring.Waiting is = (is.0, is.1, refl)
not_ready_unsent e bring.CountFull u = absurd u
not_ready_unsent e bring.OutOfMemory u = absurd u

-- the event was not held
pub not_held : (e g : PlainTermEndpoint) (event : UserEvent) (why : EndpointFault TermStop) → e.stop ≡ None → Holds e event (Err why) g → BringsEvent e event (Err (bring_fault why)) g
not_held e g event fault.OutOfMemory goes (room, same) = (goes, room, same)
not_held e g event fault.CountFull goes (full, same) = (goes, full, same)
not_held e g event fault.Unfinished goes u = absurd u
not_held e g event (fault.Stopped why) goes u = absurd u

-- the runes were not composed
pub not_composed : (e g : PlainTermEndpoint) (why : EndpointFault TermStop) → IsReady e → Composes e (Err why) g → ComposesIn e (Err (bring_fault why)) g
not_composed e g fault.OutOfMemory ready is = (ready, is)
not_composed e g fault.CountFull ready u = absurd u
not_composed e g fault.Unfinished ready u = absurd u
not_composed e g (fault.Stopped why) ready is = inr (ready, is)

-- the number of the oldest event, once that became something
number_after : (e g : PlainTermEndpoint) → ActsFirst e g → decided g ≡ oldest e
number_after e g first = omega (arith, ap (λ (x : PlainTermEndpoint). x.events) first.after, first.fewer)

pub acted_told : (e g : PlainTermEndpoint) (number : ℕ) (tag : Option ℕ) (change : Change) → Decides e (Ok decision.Acted) g → number ≡ decided g
    → tag ≡ option_and_then file_of (slice_get e.term.held 0) → change ≡ change_between e.term (oldest_touch e.term) g.term → ActedFirst e number tag change g
acted_told e g number tag change (first, composed, acted) is named changed =
    record { first = first; composed = composed; acted = acted; number_is = is ∙ number_after e g first; named = named; changed = changed }

pub refused_told : (e g : PlainTermEndpoint) (number : ℕ) (why : Refusal) → Decides e (Ok (decision.Refused why)) g → number ≡ decided g → RefusedFirst e number why g
refused_told e g number why (first, refused) is = record { first = first; refused = refused; number_is = is ∙ number_after e g first }

same_frame : (a b : HFrame) (x y : List HFrame) → a ∷ x ≡ b ∷ y → a ≡ b
same_frame a b x y is = grind arith

-- the change as it is counted
pub change_told : (e g : PlainTermEndpoint) (frame : HFrame) (t u : PlainTerminal) (touch : Option Touch) (before after : ℕ) (change : Change) → t ≡ e.term → u ≡ g.term
    → touch ≡ frame_touch t frame.msg → before ≡ touched_len t touch → after ≡ touched_len u touch → change ≡ change_by touch before after
    → change ≡ change_between e.term (frame_touch e.term frame.msg) g.term
change_told e g frame t u touch before after change old new touched was now is = grind arith

-- the oldest frame was received
pub received_told : (was : Bool) (e g : PlainTermEndpoint) (frame : HFrame) (kind : ℕ) (tag : Option ℕ) (change : Change) → slice_get e.waiting 0 ≡ Some frame
    → Receives e (Ok was) g → kind ≡ kind_h frame.msg → tag ≡ file_of_h frame.msg → change ≡ change_between e.term (frame_touch e.term frame.msg) g.term
    → ReceivedFirst e kind tag change g
received_told true e g frame kind tag change first is named says changed =
    let same : frame ≡ is.frame = same_frame frame is.frame (drop 1 e.waiting) is.rest (sym (first_read e.waiting frame first) ∙ is.waited) in
    record {
      first = is;
      kind_is = named ∙ ap (λ (x : HFrame). kind_h x.msg) same;
      named = says ∙ ap (λ (x : HFrame). file_of_h x.msg) same;
      changed = changed ∙ ap (λ (x : HFrame). change_between e.term (frame_touch e.term x.msg) g.term) same;
    }
received_told false e g frame kind tag change first (none, same) named says changed =
    absurd (some_none frame (sym first ∙ ap (λ (x : List HFrame). slice_get x 0) none))
  where
    some_none : (frame : HFrame) → Some frame ≡ None → ⊥
    some_none frame is = grind arith

-- a frame waited
pub frame_stepped : (e g : PlainTermEndpoint) (result : Result TermStep (EndpointFault TermStop)) → IsWritten e → ReceivesStep e result g → Steps e result g
frame_stepped e g (Ok step.Idle) is u = absurd u
frame_stepped e g (Ok step.Locked) is u = absurd u
frame_stepped e g (Ok step.Wrote) is u = absurd u
frame_stepped e g (Ok (step.Received kind tag change)) is first = (is, first)
frame_stepped e g (Ok (step.Acted number tag change)) is u = absurd u
frame_stepped e g (Ok (step.Refused number why)) is u = absurd u
frame_stepped e g (Err fault.Unfinished) is (waits, same) = (is.0, omega (arith, waits), same)
frame_stepped e g (Err (fault.Stopped (stop.Refused why))) is refused = inr (is, inl refused)
frame_stepped e g (Err (fault.Stopped (stop.Stream why))) is u = absurd u
frame_stepped e g (Err fault.OutOfMemory) is u = absurd u
frame_stepped e g (Err fault.CountFull) is u = absurd u

-- none did, and no fault of the stream
pub event_stepped : (e g : PlainTermEndpoint) (result : Result TermStep (EndpointFault TermStop)) → IsReady e → DecidesStep e result g → Steps e result g
event_stepped e g (Ok step.Idle) is (none, same) = (is, none, same)
event_stepped e g (Ok step.Locked) is (locked, same) = (is, locked, same)
event_stepped e g (Ok step.Wrote) is u = absurd u
event_stepped e g (Ok (step.Received kind tag change)) is u = absurd u
event_stepped e g (Ok (step.Acted number tag change)) is first = (is, first)
event_stepped e g (Ok (step.Refused number why)) is first = (is, first)
event_stepped e g (Err fault.Unfinished) is (held, same) = (is.0, omega (arith, held), same)
event_stepped e g (Err (fault.Stopped (stop.Refused why))) is (refused, same) = inr ((is.0, is.1.0.unwritten), inr (is.1, refused, same))
event_stepped e g (Err (fault.Stopped (stop.Stream why))) is u = absurd u
event_stepped e g (Err fault.OutOfMemory) is u = absurd u
event_stepped e g (Err fault.CountFull) is u = absurd u

-- none did, and the stream shows a fault
pub stream_stepped : (e g : PlainTermEndpoint) (why : EndpointFault TermStop) → IsWritten e → e.waiting ≡ [] → Ends e (Err why) g → Steps e (Err why) g
stream_stepped e g (fault.Stopped (stop.Stream why)) is none (broken_by, same) = inr (is, (none, broken_by, same))
stream_stepped e g (fault.Stopped (stop.Refused why)) is none u = absurd u
stream_stepped e g fault.Unfinished is none u = absurd u
stream_stepped e g fault.OutOfMemory is none u = absurd u
stream_stepped e g fault.CountFull is none u = absurd u

-- ## One step of many

-- no event acted before all frames were received, and none where the stream shows a fault
abbrev pub InTurn : List Acted → PlainTermEndpoint → Type 0
InTurn [] l = Unit {0}
InTurn (acted ∷ acts) l = (l.waiting ≡ []) × (l.broken_by ≡ None)

-- some frames were received and some events acted, and it goes on
pub record Went (e l : PlainTermEndpoint) : Type 0 where
  pub frames : List HFrame
  pub acts : List Acted
  pub moves : Moves e frames acts l
  pub number : oldest l ≡ oldest e + length acts
  pub order : InTurn acts l
  pub goes : l.stop ≡ None

pub went_nowhere : (e : PlainTermEndpoint) → e.stop ≡ None → Went e e
went_nowhere e goes = record { frames = []; acts = []; moves = moves_none e; number = omega arith; order = tt; goes = goes }

in_turn : (acts : List Acted) (l k : PlainTermEndpoint) → k.waiting ≡ l.waiting → k.broken_by ≡ l.broken_by → InTurn acts l → InTurn acts k
in_turn [] l k waiting broken_by is = tt
in_turn (acted ∷ acts) l k waiting broken_by (none, whole) = (waiting ∙ none, broken_by ∙ whole)

-- while a frame waits, no event has acted
none_acted : (acts : List Acted) (l : PlainTermEndpoint) (frame : HFrame) (rest : List HFrame) → l.waiting ≡ frame ∷ rest → InTurn acts l → acts ≡ []
none_acted [] l frame rest waits is = refl
none_acted (acted ∷ acts) l frame rest waits (none, whole) = absurd (cons_not_nil (sym waits ∙ none))
  where
    cons_not_nil : frame ∷ rest ≡ [] → ⊥
    cons_not_nil is = grind arith

-- and where the stream shows a fault, none has
none_acted_broken : (acts : List Acted) (l : PlainTermEndpoint) → (l.broken_by ≡ None → ⊥) → InTurn acts l → acts ≡ []
none_acted_broken [] l broken is = refl
none_acted_broken (acted ∷ acts) l broken (none, whole) = absurd (broken whole)

after_act : (acts : List Acted) (acted : Acted) (k : PlainTermEndpoint) → k.waiting ≡ [] → k.broken_by ≡ None → InTurn (acts ++ acted ∷ []) k
after_act [] acted k none whole = (none, whole)
after_act (a ∷ acts) acted k none whole = (none, whole)

went_written : (e l : PlainTermEndpoint) → Went e l → Went e (written l)
went_written e l w =
    record { frames = w.frames; acts = w.acts; moves = moves_written e l w.frames w.acts w.moves; number = w.number; order = in_turn w.acts l (written l) refl refl w.order; goes = w.goes }

went_received : (e l k : PlainTermEndpoint) → Went e l → l.unwritten ≡ [] → ReceivesFirst l k → Went e k
went_received e l k w none first =
    let no_acts = none_acted w.acts l first.frame first.rest first.waited w.order in
    let moves : Moves e w.frames [] l = subst (λ acts. Moves e w.frames acts l) no_acts w.moves in
    let before : oldest l ≡ oldest e + 0 = subst (λ (acts : List Acted). oldest l ≡ oldest e + length acts) no_acts w.number in
    record {
      frames = w.frames ++ first.frame ∷ [];
      acts = [];
      moves = moves_received e l k w.frames moves none first;
      number = grind (arith, (take_held l.term first.term first.frame first.composed first.taken));
      order = tt;
      goes = ap (λ (x : PlainTermEndpoint). x.stop) first.after ∙ w.goes;
    }

went_acted : (e l k : PlainTermEndpoint) → Went e l → IsReady l → ActsFirst l k → Went e k
went_acted e l k w is first =
    record {
      frames = w.frames;
      acts = w.acts ++ first.acted ∷ [];
      moves = moves_acted e l k w.frames w.acts w.moves is.1.0.unwritten w.number first;
      number = omega (arith, first.next, w.number, length-append w.acts (first.acted ∷ []));
      order = after_act w.acts first.acted k (ap (λ (x : PlainTermEndpoint). x.waiting) first.after ∙ is.1.0.waiting) (ap (λ (x : PlainTermEndpoint). x.broken_by) first.after ∙ is.1.1);
      goes = ap (λ (x : PlainTermEndpoint). x.stop) first.after ∙ w.goes;
    }

-- a step leads on
pub steps_on : (e l k : PlainTermEndpoint) (done : TermStep) → Went e l → Steps l (Ok done) k → Went e k
steps_on e l k step.Idle w (is, quiet, same) = subst (λ (x : PlainTermEndpoint). Went e x) (sym same) w
steps_on e l k step.Locked w (is, quiet, same) = subst (λ (x : PlainTermEndpoint). Went e x) (sym same) w
steps_on e l k step.Wrote w (goes, some, is) = subst (λ (x : PlainTermEndpoint). Went e x) (sym is) (went_written e l w)
steps_on e l k (step.Received kind tag change) w (is, first) = went_received e l k w is.1 first.first
steps_on e l k (step.Acted number tag change) w (is, first) = went_acted e l k w is first.first
steps_on e l k (step.Refused number why) w (is, first) = went_acted e l k w is first.first

in_order : (acts : List Acted) (l : PlainTermEndpoint) → InTurn acts l → InOrder acts l
in_order [] l is = tt
in_order (acted ∷ acts) l is = is.0

not_stopped : (l : PlainTermEndpoint) (why : TermStop) → l.stop ≡ None → l.stop ≡ Some why → ⊥
not_stopped l why goes stops = grind arith

none_some : (why : StreamFault) → None ≡ Some why → ⊥
none_some why is = grind arith

-- all frames were received
all_received : (e l : PlainTermEndpoint) (frames : List HFrame) (acts : List Acted) → Moves e frames acts l → l.waiting ≡ [] → frames ≡ e.waiting
all_received e l frames acts m none = sym (m.waiting ∙ ap (λ (x : List HFrame). frames ++ x) none ∙ append-nil frames)

moves_as : (e l g : PlainTermEndpoint) (frames : List HFrame) (acts : List Acted) → Moves e frames acts l → l.waiting ≡ [] → g ≡ l → Moves e e.waiting acts g
moves_as e l g frames acts m none same = subst (λ (x : PlainTermEndpoint). Moves e e.waiting acts x) (sym same) (subst (λ (x : List HFrame). Moves e x acts l) (all_received e l frames acts m none) m)

-- what is said of an end holds of it also once it has stopped
moves_stopped : (e l : PlainTermEndpoint) (frames : List HFrame) (acts : List Acted) (why : TermStop) → Moves e frames acts l → Moves e frames acts (record l { stop = Some why })
moves_stopped e l frames acts why m = record {
  composed = m.composed;
  middle = m.middle;
  receives = m.receives;
  acted = m.acted;
  composed_fit = m.composed_fit;
  acted_fit = m.acted_fit;
  waiting = m.waiting;
  bytes = m.bytes;
  refusals = m.refusals;
  seen = m.seen;
  kept = m.kept;
  framer = m.framer;
  events = m.events;
  broken_by = m.broken_by;
}

-- and so does one that could not be made
pub steps_not : (e l g : PlainTermEndpoint) (why : EndpointFault TermStop) → Went e l → Steps l (Err why) g → GoesOn e (Err why) g
steps_not e l g fault.Unfinished w (goes, some, same) =
    subst (λ (x : PlainTermEndpoint). GoesOn e (Err fault.Unfinished) x) (sym same) (w.frames, w.acts, w.moves, in_order w.acts l w.order, goes, some)
steps_not e l g (fault.Stopped why) w (inl (stops, same)) = absurd (not_stopped l why w.goes stops)
steps_not e l g (fault.Stopped (stop.Stream why)) w (inr (is, (none, broken_by, stops))) =
    let no_acts = none_acted_broken w.acts l (λ whole. none_some why (sym whole ∙ broken_by)) w.order in
    let moves : Moves e w.frames [] l = subst (λ acts. Moves e w.frames acts l) no_acts w.moves in
    subst (λ (x : PlainTermEndpoint). GoesOn e (Err (fault.Stopped (stop.Stream why))) x) (sym stops) (
      moves_stopped e l e.waiting [] (stop.Stream why) (moves_as e l l w.frames [] moves none refl),
      record { waiting = none; unwritten = is.1 },
      sym w.moves.broken_by ∙ broken_by,
      refl,
    )
steps_not e l g (fault.Stopped (stop.Refused why)) w (inr (is, inl (frame, rest, waits, refused, stops))) =
    let no_acts = none_acted w.acts l frame rest waits w.order in
    let moves : Moves e w.frames [] l = subst (λ acts. Moves e w.frames acts l) no_acts w.moves in
    subst (λ (x : PlainTermEndpoint). GoesOn e (Err (fault.Stopped (stop.Refused why))) x) (sym stops)
    (inl (w.frames, frame, rest, moves_stopped e l w.frames [] (stop.Refused why) moves, waits, refused, is.1, refl))
steps_not e l g (fault.Stopped (stop.Refused why)) w (inr (is, inr (whole, refused, stops))) =
    subst (λ (x : PlainTermEndpoint). GoesOn e (Err (fault.Stopped (stop.Refused why))) x) (sym stops) (inr (
      w.acts,
      moves_stopped e l e.waiting w.acts (stop.Refused why) (moves_as e l l w.frames w.acts w.moves whole.0.waiting refl),
      record { waiting = whole.0.waiting; unwritten = is.1 },
      sym w.moves.broken_by ∙ whole.1,
      refused,
      refl,
    ))
steps_not e l g fault.OutOfMemory w u = absurd u
steps_not e l g fault.CountFull w u = absurd u

-- nothing is left to do, or a lock holds it back
rests : (e l g : PlainTermEndpoint) (done : TermStep) → IsAtRest done → Went e l → Steps l (Ok done) g → GoesOn e (Ok tt) g
rests e l g step.Idle rest w (is, quiet, same) =
    subst (λ (x : PlainTermEndpoint). GoesOn e (Ok tt) x) (sym same)
    (w.acts, moves_as e l l w.frames w.acts w.moves is.1.0.waiting refl, is.1.0, inl quiet, sym w.moves.broken_by ∙ is.1.1, is.0)
rests e l g step.Locked rest w (is, quiet, same) =
    subst (λ (x : PlainTermEndpoint). GoesOn e (Ok tt) x) (sym same)
    (w.acts, moves_as e l l w.frames w.acts w.moves is.1.0.waiting refl, is.1.0, inr quiet, sym w.moves.broken_by ∙ is.1.1, is.0)
rests e l g step.Wrote rest w is = absurd rest
rests e l g (step.Received kind tag change) rest w is = absurd rest
rests e l g (step.Acted number tag change) rest w is = absurd rest
rests e l g (step.Refused number why) rest w is = absurd rest

goes_by : (n : ℕ) (answer : Answer) (e l g : PlainTermEndpoint) → Went e l → GoesBySteps n l answer g → GoesOn e answer g
goes_by zero (Ok done) e l g w (last, rest, is) = rests e l g last rest w is
goes_by zero (Err why) e l g w is = steps_not e l g why w is
goes_by (suc n) answer e l g w (done, k, work, steps, more) = goes_by n answer e k g (steps_on e l k done w steps) more

-- ## Feeding

pub steps_feed : TermStepsFeed
steps_feed n piece answer e k g quiet ((goes, whole), (frames, broken_by, rest, gives, is)) steps =
    let on : GoesOn e (Ok tt) e = ([], moves_as e e e [] [] (moves_none e) whole.0.waiting refl, whole.0, quiet, whole.1, goes) in
    let begun : k.stop ≡ None = ap (λ (x : PlainTermEndpoint). x.stop) is ∙ goes in
    inr (goes, e, Ok tt, on, inl (k, (frames, broken_by, rest, gives, is), goes_by n answer k k g (went_nowhere k begun) steps))

pub ruleset stepped_facts = (frame_stepped, event_stepped, stream_stepped)
