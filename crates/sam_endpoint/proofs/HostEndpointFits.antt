-- What waits in a host end fits: messages that a framer gave, and the frames of an answer.
use Rattle.std.proofs.Common.{Result, Ok, Err, refl, sym}
use Rattle.sam_endpoint.specs.declared.fault.EndpointFault.TheVariants as fault
use Rattle.sam_endpoint.specs.Duplexes.{PlainDuplex, TakesPiece}
use Rattle.sam_endpoint.proofs.Common.{◌≡◌, subst, ℕ, List, [], ◌∷◌, Option, arith, All-nil, All-cons, All-tail, Tmesg, terminal, FitInTurn, Held, FitInPlace, FitsLast, StreamFault, HostStop, EndpointFault, HFrame, PlainHost, CanEncode, Gives, PlainHostEndpoint, IsSound}
use Rattle.sam_mesg.proofs.Versions.{grows_t}
use Rattle.sam_host.proofs.FrameFits.{fit_in_last}

fit_in_turn : (version : ℕ) (ms : List Tmesg) → FitInTurn terminal version ms → CanEncode terminal ms
fit_in_turn version [] fit = All-nil FitsLast
fit_in_turn version (m ∷ ms) fit = All-cons FitsLast m ms (grows_t version m fit.0.fits) (fit_in_turn (terminal.after version m) ms fit.1)

given_fit : (h k : Held) (piece : List ℕ) (ms : List Tmesg) (broken_by : Option StreamFault) → Gives terminal h piece ms broken_by k → CanEncode terminal ms
given_fit h k piece ms broken_by e = grind (arith, fit_in_turn)

-- the oldest message was answered
pub answered_sound : (e g : PlainHostEndpoint) (version : ℕ) (m : Tmesg) → IsSound e → e.waiting ≡ m ∷ g.waiting → FitInPlace version g.unwritten
    → g.broken_by ≡ e.broken_by → g.framer ≡ e.framer → IsSound g
answered_sound e g version m sound waited fit broken_by framer = grind (arith, (All-tail FitsLast m g.waiting (subst (λ (ms : List Tmesg). CanEncode terminal ms) waited sound.waiting)), (fit_in_last version g.unwritten fit))

-- a piece was taken in
pub taken_sound : (e g : PlainHostEndpoint) (piece : List ℕ) → IsSound e → Gives terminal e.framer piece g.waiting g.broken_by g.framer
    → g.unwritten ≡ e.unwritten → IsSound g
taken_sound e g piece sound gave same = grind (arith, given_fit)

-- a host end of these two streams
abbrev pub end_of : PlainHost → List ℕ → PlainDuplex Tmesg HFrame HostStop → PlainHostEndpoint
end_of h writes d = record {
  framer = d.framer;
  host = h;
  waiting = d.waiting;
  broken_by = d.broken_by;
  unwritten = d.unwritten;
  pending_bytes = d.pending_bytes;
  writes = writes;
  stop = d.stop;
}

-- a piece was taken in, or all is as it was
pub brought_sound : (h : PlainHost) (writes : List ℕ) (d k : PlainDuplex Tmesg HFrame HostStop) (piece : List ℕ) (result : Result (Unit {0}) (EndpointFault HostStop))
    → IsSound (end_of h writes d) → TakesPiece terminal d piece result k → IsSound (end_of h writes k)
brought_sound h writes d k piece (Ok done) sound (ms, broken_by, rest, gives, is) =
    subst (λ (x : PlainDuplex Tmesg HFrame HostStop). IsSound (end_of h writes x)) (sym is)
    (taken_sound (end_of h writes d) (end_of h writes (record d { framer = rest; waiting = ms; broken_by = broken_by })) piece sound gives refl)
brought_sound h writes d k piece (Err fault.OutOfMemory) sound (room, is) = subst (λ (x : PlainDuplex Tmesg HFrame HostStop). IsSound (end_of h writes x)) (sym is) sound
brought_sound h writes d k piece (Err fault.CountFull) sound (full, is) = subst (λ (x : PlainDuplex Tmesg HFrame HostStop). IsSound (end_of h writes x)) (sym is) sound
brought_sound h writes d k piece (Err fault.Unfinished) sound took = absurd took
brought_sound h writes d k piece (Err (fault.Stopped why)) sound took = absurd took
