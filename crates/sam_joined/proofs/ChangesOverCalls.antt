-- What is kept of a text stays kept over all calls of a terminal endpoint.
use Rattle.std.proofs.Common.{◌≡◌, sym, ap, subst, ◌∙◌, arith, inl, inr, ℕ, ◌++◌, List, [], ◌∷◌, length, Some, None, Result, Ok, Err}
use Rattle.std.specs.declared.alloc.AllocError.{AllocError}
use Rattle.sam_mesg.specs.declared.hmesg.HFrame.{HFrame}
use Rattle.sam_mesg.specs.declared.tmesg.Tmesg.{Tmesg}
use Rattle.sam_rasp.specs.Rasp.{PartialText}
use Rattle.sam_term.specs.Sound.{IsSound}
unfoldable use Rattle.sam_term.specs.Sound.{FitsUnsent, IsShort}
use Rattle.sam_term.specs.Term.{PlainTerminal, act_of, flush_of, new_terminal, rasp_at, take_of}
use Rattle.sam_term.specs.declared.event.Acted.{Acted}
use Rattle.sam_term.specs.declared.event.UserEvent.{UserEvent}
use Rattle.sam_endpoint.specs.declared.changes.Change.{Change}
use Rattle.sam_endpoint.specs.declared.changes.Kept.{Kept}
use Rattle.sam_endpoint.specs.declared.fault.EndpointFault.{EndpointFault}
use Rattle.sam_endpoint.specs.declared.fault.EndpointFault.TheVariants as fault
use Rattle.sam_endpoint.specs.declared.fault.TermStop.{TermStop}
use Rattle.sam_endpoint.specs.declared.fault.TermStop.TheVariants as stop
use Rattle.sam_endpoint.specs.declared.step.BringFault.{BringFault}
use Rattle.sam_endpoint.specs.declared.step.BringFault.TheVariants as bring
use Rattle.sam_endpoint.specs.declared.step.TermStep.{TermStep}
use Rattle.sam_endpoint.specs.declared.step.TermStep.TheVariants as step
use Rattle.sam_endpoint.specs.Changes.{IsChange, IsKept, act_touch, asked, frame_touch, kept_acted, kept_after, kept_at, kept_received, left_by}
use Rattle.sam_endpoint.specs.TermEndpoints.{PlainTermEndpoint, Acts, Asks, Calls, Feeds, FeedsIdle, Flushes, FlushesIdle, GoesOn, Moves, Puts, PutsIdle, Receives, TakesIn, new_term_endpoint, with_event}
use Rattle.sam_endpoint.specs.TermStepping.{BringsEvent, BringsIn, Steps}
use Rattle.sam_endpoint.specs.TermSteps.{Answer, stopped}
use Rattle.sam_endpoint.specs.TermRuns.{Call}
use Rattle.sam_endpoint.specs.TermRuns as run
use Rattle.sam_endpoint.proofs.ChangeLaws.{asking_begins, kept_tells_change, unasked_is_kept}
use Rattle.sam_endpoint.proofs.TermChanges.{acts_keep, flushes_keep, frames_keep}
use Rattle.sam_endpoint.proofs.TermEndpointStepping.{Went, steps_on, went_nowhere}
use Rattle.sam_joined.specs.ChangesOverCalls.{Any, CallsKeep, ChangesAreExact, DoAll, Does, FirstChangeIsExact, Spares, TerminalsStaySound}
use Rattle.sam_joined.proofs.Soundness.{acts_stay_sound, flushes_stay_sound, frames_stay_sound}

-- ## From one terminal to a later one

-- it is sound if the first was, and what was kept of each text is kept
record Goes (t : PlainTerminal) (ks : List Kept) (u : PlainTerminal) (ls : List Kept) : Type 0 where
  sound : IsSound t → IsSound u
  kept : (old : PartialText) (f : ℕ) → IsSound t → IsKept old (rasp_at t f) (kept_at ks f) → IsKept old (rasp_at u f) (kept_at ls f)

goes-nowhere : (t : PlainTerminal) (ks : List Kept) → Goes t ks t ks
goes-nowhere t ks = record { sound = λ is. is; kept = λ old f is kept. kept }

goes-then : (t u v : PlainTerminal) (ks ls ms : List Kept) → Goes t ks u ls → Goes u ls v ms → Goes t ks v ms
goes-then t u v ks ls ms one other =
    record { sound = λ is. other.sound (one.sound is); kept = λ old f is kept. other.kept old f (one.sound is) (one.kept old f is kept) }

received-one : (t u : PlainTerminal) (frame : HFrame) (composed : List Tmesg) (ks : List Kept) → take_of t frame ≡ Ok (u, composed) → Goes t ks u (kept_after ks (frame_touch t frame.msg))
received-one t u frame composed ks took =
    record { sound = frames_stay_sound t u frame composed took; kept = λ old f is kept. frames_keep old t u frame composed ks f took kept }

acted-one : (t u : PlainTerminal) (acted : Acted) (ks : List Kept) → act_of t ≡ Ok (u, acted) → Goes t ks u (kept_after ks (act_touch t acted))
acted-one t u acted ks acts =
    record { sound = acts_stay_sound t u acted acts; kept = λ old f is kept. acts_keep old t u acted ks f is acts kept }

flushed-one : (t u : PlainTerminal) (composed : List Tmesg) (ks : List Kept) → flush_of t ≡ Ok (u, composed) → Goes t ks u ks
flushed-one t u composed ks flushes =
    record {
      sound = flushes_stay_sound t u composed flushes;
      kept = λ old f is kept. subst (λ r. IsKept old r (kept_at ks f)) (sym (flushes_keep t u composed f flushes)) kept;
    }

all-received : (t u : PlainTerminal) (frames : List HFrame) (composed : List Tmesg) (ks : List Kept) → Receives t frames composed u → Goes t ks u (kept_received t frames ks)
all-received t u [] composed ks (none, same) = subst (λ v. Goes t ks v ks) (sym same) (goes-nowhere t ks)
all-received t u (frame ∷ frames) composed ks (v, first, rest, took, is, receives) =
    let ls = kept_after ks (frame_touch t frame.msg) in
    subst (λ w. Goes t ks u (kept_received w frames ls)) (sym (ap (left_by t) took))
    (goes-then t v u ks ls (kept_received v frames ls) (received-one t v frame first ks took) (all-received v u frames rest ls receives))

all-acted : (t u : PlainTerminal) (acts : List Acted) (ks : List Kept) → Acts t acts u → Goes t ks u (kept_acted t acts ks)
all-acted t u [] ks same = subst (λ v. Goes t ks v ks) (sym same) (goes-nowhere t ks)
all-acted t u (acted ∷ acts) ks (v, acts_as, decided, rest) =
    let ls = kept_after ks (act_touch t acted) in
    subst (λ w. Goes t ks u (kept_acted w acts ls)) (sym (ap (left_by t) acts_as))
    (goes-then t v u ks ls (kept_acted v acts ls) (acted-one t v acted ks acts_as) (all-acted v u acts ls rest))

-- ## From one end to a later one

abbrev GoesOnTo : PlainTermEndpoint → PlainTermEndpoint → Type 0
GoesOnTo e g = Goes e.term e.kept g.term g.kept

same-end : (e g : PlainTermEndpoint) → g ≡ e → GoesOnTo e g
same-end e g same = subst (λ x. GoesOnTo e x) (sym same) (goes-nowhere e.term e.kept)

-- the end was changed in nothing but what neither its terminal nor what is kept tells of
same-parts : (e g k : PlainTermEndpoint) → g ≡ k → GoesOnTo e k → GoesOnTo e g
same-parts e g k same goes = subst (λ x. GoesOnTo e x) (sym same) goes

then-end : (e k g : PlainTermEndpoint) → GoesOnTo e k → GoesOnTo k g → GoesOnTo e g
then-end e k g one other = goes-then e.term k.term g.term e.kept k.kept g.kept one other

moved : (e g : PlainTermEndpoint) (frames : List HFrame) (acts : List Acted) → Moves e frames acts g → GoesOnTo e g
moved e g frames acts m =
    let middle = kept_received e.term frames e.kept in
    subst (λ ks. Goes e.term e.kept g.term ks) (sym m.kept)
    (goes-then e.term m.middle g.term e.kept middle (kept_acted m.middle acts middle) (all-received e.term m.middle frames m.composed e.kept m.receives)
    (all-acted m.middle g.term acts middle m.acted))

went-on : (e g : PlainTermEndpoint) (result : Answer) → GoesOn e result g → GoesOnTo e g
went-on e g (Ok done) on = moved e g e.waiting on.0 on.1
went-on e g (Err fault.Unfinished) on = moved e g on.0 on.1 on.2
went-on e g (Err (fault.Stopped (stop.Stream why))) on = moved e g e.waiting [] on.0
went-on e g (Err (fault.Stopped (stop.Refused why))) (inl on) = moved e g on.0 [] on.3
went-on e g (Err (fault.Stopped (stop.Refused why))) (inr on) = moved e g e.waiting on.0 on.1
went-on e g (Err fault.OutOfMemory) on = absurd on
went-on e g (Err fault.CountFull) on = absurd on

called : (e g : PlainTermEndpoint) (result : Answer) (Brings : PlainTermEndpoint → Type 0) → ((k : PlainTermEndpoint) → Brings k → GoesOnTo k g) → Calls e result g Brings → GoesOnTo e g
called e g result Brings on (inl (why, stops, is, same)) = same-end e g same
called e g result Brings on (inr (going, k, Ok done, first, brings)) = then-end e k g (went-on e k (Ok done) first) (on k brings)
called e g result Brings on (inr (going, k, Err fault.Unfinished, first, (is, same))) = same-parts e g k same (went-on e k (Err fault.Unfinished) first)
called e g result Brings on (inr (going, k, Err (fault.Stopped why), first, (is, same))) = same-parts e g k same (went-on e k (Err (fault.Stopped why)) first)
called e g result Brings on (inr (going, k, Err fault.OutOfMemory, first, after)) = absurd first
called e g result Brings on (inr (going, k, Err fault.CountFull, first, after)) = absurd first

took-in : (e k : PlainTermEndpoint) (piece : List ℕ) → TakesIn e piece k → GoesOnTo e k
took-in e k piece (frames, broken_by, rest, gives, is) = same-parts e k _ is (goes-nowhere e.term e.kept)

with-held : (t : PlainTerminal) (es : List UserEvent) (ks : List Kept) → Goes t ks (record t { held = es }) ks
with-held t es ks =
    record { sound = λ is. record { countable = is.countable; windows = is.windows; unsent = is.unsent; short = is.short }; kept = λ old f is kept. kept }

fed : (e g : PlainTermEndpoint) (piece : List ℕ) (result : Answer) → FeedsIdle e piece result g → GoesOnTo e g
fed e g piece result (inl (k, takes, on)) = then-end e k g (took-in e k piece takes) (went-on k g result on)
fed e g piece result (inr (inl (is, room, same))) = same-end e g same
fed e g piece result (inr (inr (is, full, same))) = same-end e g same

put : (e g : PlainTermEndpoint) (event : UserEvent) (result : Answer) → PutsIdle e event result g → GoesOnTo e g
put e g event result (inl on) =
    then-end e (with_event e event) g (with-held e.term (e.term.held ++ event ∷ []) e.kept) (went-on (with_event e event) g result on)
put e g event result (inr (inl (is, room, same))) = same-end e g same
put e g event result (inr (inr (is, full, same))) = same-end e g same

flushed : (e g : PlainTermEndpoint) (result : Answer) → FlushesIdle e result g → GoesOnTo e g
flushed e g result (inl (u, composed, flushes, fit, on)) =
    let k : PlainTermEndpoint = record e { term = u; unwritten = composed } in
    then-end e k g (flushed-one e.term u composed e.kept flushes) (went-on k g result on)
flushed e g result (inr (inl (is, counted, same))) = same-end e g same
flushed e g result (inr (inr (why, fails, is, same))) = same-parts e g _ same (goes-nowhere e.term e.kept)

brought : (e g : PlainTermEndpoint) (piece : List ℕ) (result : Result (Unit {0}) (BringFault TermStop)) → BringsIn e piece result g → GoesOnTo e g
brought e g piece (Ok done) (ready, takes) = took-in e g piece takes
brought e g piece (Err (bring.Stopped why)) (stops, same) = same-end e g same
brought e g piece (Err bring.Waiting) (goes, waits, same) = same-end e g same
brought e g piece (Err bring.CountFull) (ready, full, same) = same-end e g same
brought e g piece (Err bring.OutOfMemory) (ready, room, same) = same-end e g same

event-brought : (e g : PlainTermEndpoint) (event : UserEvent) (result : Result (Unit {0}) (BringFault TermStop)) → BringsEvent e event result g → GoesOnTo e g
event-brought e g event (Ok done) (goes, is) = same-parts e g (with_event e event) is (with-held e.term (e.term.held ++ event ∷ []) e.kept)
event-brought e g event (Err (bring.Stopped why)) (stops, same) = same-end e g same
event-brought e g event (Err bring.Waiting) brings = absurd brings
event-brought e g event (Err bring.CountFull) (goes, full, same) = same-end e g same
event-brought e g event (Err bring.OutOfMemory) (goes, counts, same) = same-end e g same

-- an end that makes a step goes on
step-goes : (e k : PlainTermEndpoint) (done : TermStep) → Steps e (Ok done) k → e.stop ≡ None
step-goes e k step.Idle steps = steps.0.0
step-goes e k step.Locked steps = steps.0.0
step-goes e k step.Wrote steps = steps.0
step-goes e k (step.Received kind tag change) steps = steps.0.0
step-goes e k (step.Acted number tag change) steps = steps.0.0
step-goes e k (step.Refused number why) steps = steps.0.0

stopped-end : (e g : PlainTermEndpoint) (why : TermStop) → g ≡ stopped e why → GoesOnTo e g
stopped-end e g why same = same-parts e g (stopped e why) same (goes-nowhere e.term e.kept)

stepped : (e g : PlainTermEndpoint) (result : Result TermStep (EndpointFault TermStop)) → Steps e result g → GoesOnTo e g
stepped e g (Ok done) steps =
    let went : Went e g = steps_on e e g done (went_nowhere e (step-goes e g done steps)) steps in moved e g went.frames went.acts went.moves
stepped e g (Err fault.Unfinished) (going, waits, same) = same-end e g same
stepped e g (Err (fault.Stopped why)) (inl (stops, same)) = same-end e g same
stepped e g (Err (fault.Stopped (stop.Stream why))) (inr (written, (none, broken, is))) = stopped-end e g (stop.Stream why) is
stepped e g (Err (fault.Stopped (stop.Refused why))) (inr (written, inl (frame, rest, waits, refuses, is))) = stopped-end e g (stop.Refused why) is
stepped e g (Err (fault.Stopped (stop.Refused why))) (inr (written, inr (done, refuses, is))) = stopped-end e g (stop.Refused why) is
stepped e g (Err fault.OutOfMemory) steps = absurd steps
stepped e g (Err fault.CountFull) steps = absurd steps

-- ## One call

feeds : (e g : PlainTermEndpoint) (piece : List ℕ) (result : Answer) → Feeds e piece result g → GoesOnTo e g
feeds e g piece result is = called e g result (λ k. FeedsIdle k piece result g) (λ k on. fed k g piece result on) is

puts : (e g : PlainTermEndpoint) (event : UserEvent) (result : Answer) → Puts e event result g → GoesOnTo e g
puts e g event result is = called e g result (λ k. PutsIdle k event result g) (λ k on. put k g event result on) is

flushes : (e g : PlainTermEndpoint) (result : Answer) → Flushes e result g → GoesOnTo e g
flushes e g result is = called e g result (λ k. FlushesIdle k result g) (λ k on. flushed k g result on) is

-- what a call leaves of a text that it spares
record After (f : ℕ) (e : PlainTermEndpoint) (made : Call) (g : PlainTermEndpoint) : Type 0 where
  sound : IsSound e.term → IsSound g.term
  kept : (old : PartialText) → Spares f e made → IsSound e.term → IsKept old (rasp_at e.term f) (kept_at e.kept f)
      → IsKept old (rasp_at g.term f) (kept_at g.kept f)

after-goes : (f : ℕ) (e : PlainTermEndpoint) (made : Call) (g : PlainTermEndpoint) → GoesOnTo e g → After f e made g
after-goes f e made g goes = record { sound = goes.sound; kept = λ old spares is kept. goes.kept old f is kept }

-- where nothing was handed out, or the change of another file
after-asking : (f : ℕ) (e : PlainTermEndpoint) (ks : List Kept) → After f e (run.Changed ks) (record e { kept = ks })
after-asking f e ks = record { sound = λ is. is; kept = λ old spares is kept. subst (λ k. IsKept old (rasp_at e.term f) k) (sym (as-before spares)) kept }
  where
    as-before : Spares f e (run.Changed ks) → kept_at ks f ≡ kept_at e.kept f
    as-before (inl same) = ap (λ ls. kept_at ls f) same
    as-before (inr (g, other, is)) = ap (λ ls. kept_at ls f) is ∙ (asking_begins e.kept g (rasp_at e.term g)).1 f (λ same. other (sym same))

after-call : (f : ℕ) (e g : PlainTermEndpoint) (made : Call) → Does e made g → After f e made g
after-call f e g (run.Feed piece answer) (inl (k, is, goes, same)) = after-goes f e _ g (same-parts e g k same (feeds e k piece answer is))
after-call f e g (run.Feed piece answer) (inr (why, (is, stops))) = after-goes f e _ g (feeds e g piece answer is)
after-call f e g (run.Bring piece result) (inl (k, is, same)) = after-goes f e _ g (same-parts e g k same (brought e k piece result is))
after-call f e g (run.Bring piece result) (inr (why, none)) = absurd none
after-call f e g (run.BringEvent event result) (inl (k, is, same)) = after-goes f e _ g (same-parts e g k same (event-brought e k event result is))
after-call f e g (run.BringEvent event result) (inr (why, none)) = absurd none
after-call f e g (run.MakeStep result) (inl (k, is, goes, same)) = after-goes f e _ g (same-parts e g k same (stepped e k result is))
after-call f e g (run.MakeStep result) (inr (why, (is, stops))) = after-goes f e _ g (stepped e g result is)
after-call f e g (run.Put event answer) (inl (k, is, goes, same)) = after-goes f e _ g (same-parts e g k same (puts e k event answer is))
after-call f e g (run.Put event answer) (inr (why, (is, stops))) = after-goes f e _ g (puts e g event answer is)
after-call f e g (run.Flush answer) (inl (k, is, goes, same)) = after-goes f e _ g (same-parts e g k same (flushes e k answer is))
after-call f e g (run.Flush answer) (inr (why, (is, stops))) = after-goes f e _ g (flushes e g answer is)
after-call f e g (run.TakeOut bytes) (inl (rest, is, same)) = after-goes f e _ g (same-parts e g _ same (goes-nowhere e.term e.kept))
after-call f e g (run.TakeOut bytes) (inr (why, none)) = absurd none
after-call f e g (run.NextRefusal told) (inl (is, same)) = after-goes f e _ g (same-parts e g _ same (goes-nowhere e.term e.kept))
after-call f e g (run.NextRefusal told) (inr (why, none)) = absurd none
after-call f e g (run.Changed ks) (inl same) = subst (λ x. After f e (run.Changed ks) x) (sym same) (after-asking f e ks)
after-call f e g (run.Changed ks) (inr (why, none)) = absurd none

-- ## Calls one after another

sound-over : (calls : List Call) (e g : PlainTermEndpoint) → DoAll Any e calls g → IsSound e.term → IsSound g.term
sound-over [] e g same is = subst (λ x. IsSound x.term) (sym same) is
sound-over (made ∷ calls) e g (k, any, does, more) is =
    let after : After 0 e made k = after-call 0 e k made does in sound-over calls k g more (after.sound is)

new-sound : IsSound new_terminal
unfolding FitsUnsent IsShort
new-sound = record {
  countable = omega arith;
  windows = λ f. record { locks = omega arith; awaited = omega arith; dot_start = omega arith; dot_end = omega arith; view = omega arith; size = omega arith };
  unsent = tt;
  short = tt;
}

pub terminals_stay_sound : TerminalsStaySound
terminals_stay_sound calls e do_all = sound-over calls new_term_endpoint e do_all new-sound

pub calls_keep : CallsKeep
calls_keep old f [] e g is same kept = subst (λ x. IsKept old (rasp_at x.term f) (kept_at x.kept f)) (sym same) kept
calls_keep old f (made ∷ calls) e g is (k, spares, does, more) kept =
    let after : After f e made k = after-call f e k made does in calls_keep old f calls k g (after.sound is) more (after.kept old spares is kept)

-- an answer tells the change of what was kept
told : (old : PartialText) (f : ℕ) (b g : PlainTermEndpoint) (change : Change) → Asks {E = AllocError} b f (Ok (Some change)) g
    → IsKept old (rasp_at b.term f) (kept_at b.kept f) → IsChange old (rasp_at b.term f) change
told old f b g change (opened, is, same) kept = subst (λ c. IsChange old (rasp_at b.term f) c) (sym is) (kept_tells_change old (rasp_at b.term f) (kept_at b.kept f) kept)

pub changes_are_exact : ChangesAreExact
changes_are_exact f before between e a b g first second reached (opened, is, same) more answer =
    let text = rasp_at e.term f in
    let begun : IsKept text text (kept_at (asked e.kept f (length text)) f) = (asking_begins e.kept f text).0 in
    let kept : IsKept text (rasp_at a.term f) (kept_at a.kept f) = subst (λ x. IsKept text (rasp_at x.term f) (kept_at x.kept f)) (sym same) begun in
    let sound : IsSound a.term = subst (λ x. IsSound x.term) (sym same) (terminals_stay_sound before e reached) in
    told text f b g second answer (calls_keep text f between a b sound more kept)

pub first_change_is_exact : FirstChangeIsExact
first_change_is_exact f before b g first reached answer =
    told [] f b g first answer (calls_keep [] f before new_term_endpoint b new-sound reached (unasked_is_kept (rasp_at new_terminal f)))
