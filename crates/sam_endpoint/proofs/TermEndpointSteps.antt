-- One step of a terminal end: what holds of the end after it.
use Rattle.std.proofs.Common.{Result}
use Rattle.std.proofs.lemmas.List.Elements.{All-head}
use Rattle.sam_endpoint.specs.Duplexes.{PlainDuplex, TakesPiece}
use Rattle.sam_endpoint.proofs.Common.{◌≡◌, refl, ap, sym, subst, ℕ, ◌-◌, ◌≤◌, false, List, [], ◌∷◌, ◌++◌, length, drop, Option, Some, None, Ok, Err, arith, slice_get, IsTrue, All-tail, fits_h, HFrame, Tmesg, host, Held, composed_in, PlainTerminal, UserEvent, act_of, act_on, flush_of, take_of, Acted, Idle, StreamFault, TermStop, EndpointFault, CanEncode, FitMessages, Gives, PlainTermEndpoint, act_touch, kept_after, IsDecided, oldest, refusals_from, ActsFirst, Receives, Tries, stopped_by, All-nil, FitInTurn}
use Rattle.std.proofs.Common.{IsOk}
use Rattle.sam_term.specs.Taking.{IsFailure}
use Rattle.sam_term.specs.declared.fault.TermFault.{TermFault}
use Rattle.sam_endpoint.specs.declared.fault.EndpointFault.TheVariants as fault
use Rattle.sam_endpoint.specs.TermSteps.{IsSound, end_fault}
use Rattle.sam_endpoint.proofs.TermEndpointHeld.{act_held, take_held}
use Rattle.sam_endpoint.proofs.TermEndpointStamps.{act_counts}

pub first_read : (frames : List HFrame) (frame : HFrame) → slice_get frames 0 ≡ Some frame → frames ≡ frame ∷ drop 1 frames
first_read frames frame e = grind arith

pub none_first : (frames : List HFrame) → slice_get frames 0 ≡ None → frames ≡ []
none_first [] none = refl
none_first (frame ∷ frames) none = absurd (grind arith)

-- the end with these two streams
abbrev pub with_duplex : PlainTermEndpoint → PlainDuplex HFrame Tmesg TermStop → PlainTermEndpoint
with_duplex e d = record e {
  framer = d.framer;
  waiting = d.waiting;
  broken_by = d.broken_by;
  unwritten = d.unwritten;
  pending_bytes = d.pending_bytes;
  stop = d.stop;
}

-- ## Frames

pub first_fits : (frames : List HFrame) (frame : HFrame) → frames ≡ frame ∷ drop 1 frames → CanEncode host frames → IsTrue (fits_h 2 frame.msg)
first_fits frames frame first fit = All-head (λ (x : HFrame). IsTrue (fits_h 2 x.msg)) frame (drop 1 frames) (subst (λ (xs : List HFrame). CanEncode host xs) first fit)

pub rest_fit : (frames : List HFrame) (frame : HFrame) → frames ≡ frame ∷ drop 1 frames → CanEncode host frames → CanEncode host (drop 1 frames)
rest_fit frames frame first fit = All-tail (λ (x : HFrame). IsTrue (fits_h 2 x.msg)) frame (drop 1 frames) (subst (λ (xs : List HFrame). CanEncode host xs) first fit)

pub given_reads : (h : Held) (piece : List ℕ) (frames : List HFrame) (broken_by : Option StreamFault) (k : Held) → Gives host h piece frames broken_by k → broken_by ≡ None → k.failed ≡ false
given_reads h piece frames broken_by k e u = grind arith

pub taken_counted : (e : PlainTermEndpoint) (u : PlainTerminal) (frame : HFrame) (ms : List Tmesg) → IsSound e → take_of e.term frame ≡ Ok (u, ms) → length u.held ≤ e.events
taken_counted e u frame ms s taken = subst (λ hs. length hs ≤ e.events) (sym (take_held e.term u frame ms taken)) s.counted

-- ## Events

none_held : (events : List UserEvent) → length events ≡ 0 → events ≡ []
none_held [] none = refl
none_held (event ∷ events) none = absurd (grind arith)

-- no event is held, so none can act
pub none_acts : (t : PlainTerminal) → length t.held ≡ 0 → act_of t ≡ Ok (t, Idle)
unfolding act_of
none_acts t none = ap (λ (events : List UserEvent). act_on t events) (none_held t.held none)

-- only one thing becomes of the oldest event
pub acted_is : (e : PlainTermEndpoint) (t u : PlainTerminal) (a b : Acted) → act_of e.term ≡ Ok (t, a) → act_of e.term ≡ Ok (u, b) → b ≡ a
acted_is e t u a b one other = grind arith

pub settled_counted : (e : PlainTermEndpoint) (u : PlainTerminal) (acted : Acted) → IsSound e → act_of e.term ≡ Ok (u, acted) → IsDecided acted → length u.held ≤ e.events
settled_counted e u acted s act settled = omega (arith, act_held e.term u acted act settled, s.counted)

pub acted_first : (e g : PlainTermEndpoint) (u : PlainTerminal) (acted : Acted) → IsSound e → act_of e.term ≡ Ok (u, acted) → IsDecided acted → FitMessages (composed_in acted)
    → g ≡ record e { term = u; unwritten = composed_in acted; refusals = e.refusals ++ refusals_from (oldest e) (acted ∷ []); kept = kept_after e.kept (act_touch e.term acted) } → ActsFirst e g
acted_first e g u acted s act settled fit same = grind (arith, act_held)

-- the number of an event that is refused, as it is counted
pub refused_number : (e : PlainTermEndpoint) (u : PlainTerminal) (acted : Acted) → act_of e.term ≡ Ok (u, acted) → IsDecided acted → e.events - length u.held ≡ oldest e
refused_number e u acted act settled = let fewer = act_held e.term u acted act settled in omega (arith, fewer)

-- ## Stamps

pub acted_stamped : (e : PlainTermEndpoint) (u : PlainTerminal) (acted : Acted) → IsSound e → act_of e.term ≡ Ok (u, acted) → e.seen ≤ u.sent
acted_stamped e u acted s act = omega (arith, act_counts e.term u acted act, s.stamped)

-- ## Faults

-- out of memory is none of what the definition answers
pub flush_counted : (t : PlainTerminal) (why : TermFault) → IsFailure (flush_of t) why → end_fault why ≡ fault.Unfinished → IsOk (flush_of t)
unfolding flush_of
flush_counted t why failure is = grind arith

-- the terminal did not receive the oldest frame
pub receive_failed : (e h g : PlainTermEndpoint) (frame : HFrame) (rest : List HFrame) (u : PlainTerminal) (why : EndpointFault TermStop) → e.waiting ≡ frame ∷ rest
    → Tries {A = List Tmesg} e.term (take_of e.term frame) (Err why) u → h ≡ record e { term = u } → g ≡ stopped_by h why → Receives e (Err why) g
receive_failed e h g frame rest u why w q y z = grind arith

-- frames that a framer gives fit in version 2
pub frames_fit : (v : ℕ) (frames : List HFrame) → FitInTurn host v frames → CanEncode host frames
frames_fit v [] fit = All-nil (λ (frame : HFrame). IsTrue (fits_h 2 frame.msg))
frames_fit v (frame ∷ frames) fit = grind (arith, (frames_fit (host.after v frame) frames fit.1))

pub given_fit : (h : Held) (piece : List ℕ) (frames : List HFrame) (broken_by : Option StreamFault) (k : Held) → Gives host h piece frames broken_by k → CanEncode host frames
given_fit h piece frames broken_by k e = grind (arith, frames_fit)

-- a piece was taken in, or all is as it was
pub brought_sound : (e : PlainTermEndpoint) (d k : PlainDuplex HFrame Tmesg TermStop) (piece : List ℕ) (result : Result (Unit {0}) (EndpointFault TermStop))
    → IsSound (with_duplex e d) → TakesPiece host d piece result k → IsSound (with_duplex e k)
brought_sound e d k piece (Ok done) sound (frames, broken_by, rest, gives, is) = subst (λ (x : PlainDuplex HFrame Tmesg TermStop). IsSound (with_duplex e x)) (sym is) (record {
  waiting = given_fit d.framer piece frames broken_by rest gives;
  unwritten = sound.unwritten;
  counted = sound.counted;
  stamped = sound.stamped;
  reads = λ none. given_reads d.framer piece frames broken_by rest gives none;
})
brought_sound e d k piece (Err fault.OutOfMemory) sound (room, is) = subst (λ (x : PlainDuplex HFrame Tmesg TermStop). IsSound (with_duplex e x)) (sym is) sound
brought_sound e d k piece (Err fault.CountFull) sound (full, is) = subst (λ (x : PlainDuplex HFrame Tmesg TermStop). IsSound (with_duplex e x)) (sym is) sound
brought_sound e d k piece (Err fault.Unfinished) sound took = absurd took
brought_sound e d k piece (Err (fault.Stopped why)) sound took = absurd took
