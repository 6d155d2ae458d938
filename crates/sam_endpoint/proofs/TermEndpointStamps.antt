-- The count of composed messages never goes down, and no frame that is received has a stamp above it.
use Rattle.sam_endpoint.proofs.Common.{◌≡◌, sym, subst, ◌≤◌, List, Option, None, Ok, arith, Tmesg, HFrame, PlainTerminal, Made, act_of, act_on, decided, flush_of, take_of, event_outcome, Verdict, Acted, UserEvent, acted_in, term_in}
use Rattle.sam_term.proofs.CountLaws.{counts-event, counts-flushed, counts-frame}
use Rattle.sam_endpoint.proofs.TermEndpointHeld.{done-term}

pub flush_counts : (t u : PlainTerminal) (ms : List Tmesg) → flush_of t ≡ Ok (u, ms) → t.sent ≤ u.sent
unfolding flush_of
flush_counts t u ms e = grind (arith, counts-flushed)

pub take_counts : (t u : PlainTerminal) (frame : HFrame) (ms : List Tmesg) → take_of t frame ≡ Ok (u, ms) → t.sent ≤ u.sent
unfolding take_of
take_counts t u frame ms e = grind (arith, counts-frame)

-- the stamp of a frame that is received
taken_stamp : (t u : PlainTerminal) (frame : HFrame) (ms : List Tmesg) → take_of t frame ≡ Ok (u, ms) → frame.seen ≤ t.sent
unfolding take_of
taken_stamp t u frame ms e = grind arith

pub take_stamped : (t u : PlainTerminal) (frame : HFrame) (ms : List Tmesg) → take_of t frame ≡ Ok (u, ms) → frame.seen ≤ u.sent
take_stamped t u frame ms e = omega (arith, taken_stamp t u frame ms e, take_counts t u frame ms e)

pub act_counts : (t u : PlainTerminal) (acted : Acted) → act_of t ≡ Ok (u, acted) → t.sent ≤ u.sent
unfolding act_of acted_in term_in
act_counts t u acted e = go t.held e
  where
    same : PlainTerminal → Type 0
    same v = t.sent ≤ v.sent

    decides : (x : UserEvent) (es : List UserEvent) (o : Option Verdict) → decided o t es (event_outcome (record t { held = es }) x) ≡ Ok (u, acted) → t.sent ≤ u.sent
    decides x es None q =
        let made : Made = event_outcome (record t { held = es }) x in
        let more : t.sent ≤ made.0.sent = omega (arith, (counts-event (record t { held = es }) x).sent) in
        subst same (sym (done-term made.0.sent made.0 u made.1 acted q)) more
    decides x es o e = grind (arith, term_in)

    go : (es : List UserEvent) → act_on t es ≡ Ok (u, acted) → t.sent ≤ u.sent
    go es e = grind (arith, same, term_in, decides)
