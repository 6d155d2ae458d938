-- The calls of a terminal end, of its steps.
use Rattle.sam_endpoint.proofs.Common.{common_steps, ◌≡◌, refl, ℕ, ◌+◌, inl, inr, List, [], ◌∷◌, length, length-append, None, Ok, Err, arith, rules, HFrame, Acted, TermStop, EndpointFault, PlainTermEndpoint, Calls, FeedsIdle, FlushesIdle, Moves, oldest, ActsAll, ActsFirst, Composes, Gains, ReceivesAll, ReceivesFirst, Resumes, written}
use Rattle.sam_endpoint.specs.declared.fault.TermStop.TheVariants as stop
use Rattle.sam_endpoint.specs.declared.fault.EndpointFault.TheVariants as fault
use Rattle.sam_endpoint.specs.TermEndpoints.{GoesOn, IsIdle}
use Rattle.sam_endpoint.specs.TermSteps.{Answer, Writes}
use Rattle.sam_endpoint.proofs.TermEndpointHeld.{take_held}
use Rattle.sam_endpoint.proofs.TermEndpointMoves.{moves_acted, moves_both, moves_none, moves_received, moves_written}

-- ## The loop over frames

-- what an end has received and written so far, where it runs
pub record Receiving (e : PlainTermEndpoint) (g : PlainTermEndpoint) : Type 0 where
  pub frames : List HFrame
  pub moves : Moves e frames [] g
  pub number : oldest g ≡ oldest e
  pub runs : g.stop ≡ None

pub receiving_none : (e : PlainTermEndpoint) → e.stop ≡ None → Receiving e e
receiving_none e runs = record { frames = []; moves = moves_none e; number = refl; runs = runs }

pub receiving_written : (e g : PlainTermEndpoint) → Receiving e g → Receiving e (written g)
receiving_written e g r = record { frames = r.frames; moves = moves_written e g r.frames [] r.moves; number = r.number; runs = r.runs }

pub receiving_more : (e g k : PlainTermEndpoint) → Receiving e g → g.unwritten ≡ [] → ReceivesFirst g k → Receiving e k
receiving_more e g k r none f = grind (arith, (moves_received e g k r.frames r.moves none f), (take_held g.term f.term f.frame f.composed f.taken))

pub writing_failed : (e g k : PlainTermEndpoint) (why : EndpointFault TermStop) → Receiving e g → Writes g (Err why) k → ReceivesAll e (Err why) k
writing_failed e g k why u w = grind arith

-- ## The loop over events

-- what became of events so far, where it runs
pub record Acting (e : PlainTermEndpoint) (g : PlainTermEndpoint) : Type 0 where
  pub acts : List Acted
  pub moves : Moves e [] acts g
  pub number : oldest g ≡ oldest e + length acts
  pub idle : IsIdle g
  pub runs : g.stop ≡ None

pub acting_none : (e : PlainTermEndpoint) → IsIdle e → e.stop ≡ None → Acting e e
acting_none e idle runs = record { acts = []; moves = moves_none e; number = omega arith; idle = idle; runs = runs }

-- after an event acted
pub record HasActed (e : PlainTermEndpoint) (g : PlainTermEndpoint) : Type 0 where
  pub acts : List Acted
  pub moves : Moves e [] acts g
  pub number : oldest g ≡ oldest e + length acts
  pub waiting : g.waiting ≡ []
  pub runs : g.stop ≡ None

pub acting_more : (e g k : PlainTermEndpoint) → Acting e g → ActsFirst g k → HasActed e k
acting_more e g k a f = grind (arith, (moves_acted e g k), (length-append a.acts (f.acted ∷ [])))

pub acting_written : (e g : PlainTermEndpoint) → HasActed e g → Acting e (written g)
acting_written e g a = grind (arith, moves_written)

pub acting_unwritten : (e g k : PlainTermEndpoint) (why : EndpointFault TermStop) → HasActed e g → Writes g (Err why) k → ActsAll e (Err why) k
acting_unwritten e g k why u w = grind arith

-- ## Going on

-- all frames were received, and then events act
pub going_acts : (e m g : PlainTermEndpoint) (result : Answer) → ReceivesAll e (Ok tt) m → m.broken_by ≡ None → ActsAll m result g → GoesOn e result g
going_acts e m g (Ok done) (received, idle, number, runs) sound (acts, moves, still, quiet, on) = grind (arith, moves_both)
going_acts e m g (Err fault.Unfinished) (received, idle, number, runs) sound (acts, moves, on, left) = grind (arith, moves_both)
going_acts e m g (Err (fault.Stopped (stop.Refused why))) (received, idle, number, runs) sound (acts, moves, still, refused, on) = search (rules, common_steps)
going_acts e m g result u w q = grind arith

-- ## Calls

-- the call could not begin with what it brought
pub call_failed : (e g : PlainTermEndpoint) (why : EndpointFault TermStop) (Brings : PlainTermEndpoint → Type 0) → Resumes e (Err why) g → Calls e (Err why) g Brings
call_failed e g fault.OutOfMemory Brings (runs, goes) = inr (runs, g, Err fault.Unfinished, goes, (refl, refl))
call_failed e g (fault.Stopped why) Brings (inl (was, same)) = inl (why, was, refl, same)
call_failed e g (fault.Stopped why) Brings (inr (runs, goes)) = inr (runs, g, Err (fault.Stopped why), goes, (refl, refl))
call_failed e g why Brings u = grind arith

-- it did what it brought
pub call_brought : (e m g : PlainTermEndpoint) (result : Answer) (Brings : PlainTermEndpoint → Type 0) → Resumes e (Ok tt) m → Brings m → Calls e result g Brings
call_brought e m g result Brings (runs, goes) brings = inr (runs, m, Ok tt, goes, brings)

-- ## What a call brings

pub fed : (e k g : PlainTermEndpoint) (piece : List ℕ) (result : Answer) → Gains e piece (Ok tt) k → GoesOn k result g → FeedsIdle e piece result g
fed e k g piece result taken goes = inl (k, taken, goes)

pub flush_not : (e k : PlainTermEndpoint) (why : EndpointFault TermStop) → Composes e (Err why) k → FlushesIdle e (Err why) k
flush_not e k why u = grind arith
