-- What each step that is not the user's leads to.
use Rattle.sam_rest.proofs.Common.{◌≡◌, true, false, List, [], ◌∷◌, ◌++◌, Option, Some, None, Result, Ok, Err, ◌⊎◌, inl, inr, same_Some, Done, refl, sym, ap, ◌∙◌, subst, arith, append-nil, map-append, first_of_checks, PlainHost, Reply, answer, HostFault, PlainTerminal, Made, act_of, act_on, decided, flush_of, flushed, take_of, frame_outcome, event_checks, event_outcome, if_countable, Verdict, Acted, TermFault, UserEvent, Tmesg, Hmesg, HFrame, PlainWorld, composed_by, step_of, after_act, after_answer, after_compose, host_takes, term_takes, mesgs, IsInOrder, stamped}
use Rattle.sam_world.specs.Drain.{acts}
use Rattle.sam_crossing.specs.declared.event.Event.TheVariants.{Act, Flush, HostTake, TermTake}
use Rattle.sam_term.specs.declared.event.Verdict.TheVariants.{Waits, Refuses}
use Rattle.sam_crossing.specs.Fold.{reply_of}
use Rattle.sam_crossing.specs.Order.{InOrder}
use Rattle.sam_crossing.proofs.Ordered.{HostGoes, host_goes, mesgs_stamped, answer_is}
use Rattle.sam_crossing.proofs.RunLaws.{counted-result}

-- ## The host takes a message

pub record HostTakes (w next : PlainWorld) : Type 0 where
  pub first : Tmesg
  pub rest : List Tmesg
  pub reply : Reply
  pub was : w.up ≡ first ∷ rest
  pub replies : reply_of w.host first ≡ Some reply
  pub host : next.host ≡ reply.0
  pub term : next.term ≡ w.term
  pub up : next.up ≡ rest
  pub down : mesgs next.down ≡ mesgs w.down ++ reply.1

answer_gives : (h : PlainHost) (m : Tmesg) (x : Reply) (r : PlainHost × List HFrame) → reply_of h m ≡ Some x → answer h m ≡ Ok r → r ≡ (x.0, stamped x.0.taken x.1)
unfolding answer
answer_gives h m x r a e = grind (arith, answer_is)

pub host-takes : (w next : PlainWorld) → IsInOrder w → step_of w HostTake ≡ Some next → HostTakes w next
host-takes w next k s = from w.up refl s
  where
    from : (u : List Tmesg) → w.up ≡ u → host_takes w u ≡ Some next → HostTakes w next
    from [] eu s = absurd (grind arith)
    from (m ∷ ms) eu s = by (answer w.host m) refl s
      where
        goes : HostGoes w.host w.term m ms (mesgs w.down)
        goes = host_goes w.host w.term m ms (mesgs w.down) (subst (λ (l : List Tmesg). InOrder w.host w.term l (mesgs w.down)) eu k.ordered)

        r : Reply
        r = goes.reply

        took : PlainWorld
        took = record { host = r.0; term = w.term; up = ms; down = w.down ++ stamped r.0.taken r.1 }

        frames : mesgs (w.down ++ stamped r.0.taken r.1) ≡ mesgs w.down ++ r.1
        frames = map-append (λ (f : HFrame). f.msg) w.down (stamped r.0.taken r.1) ∙ ap (λ (fs : List Hmesg). mesgs w.down ++ fs) (mesgs_stamped r.0.taken r.1)

        by : (a : Result (PlainHost × List HFrame) HostFault) → answer w.host m ≡ a → after_answer (record w { up = ms }) a ≡ Some next → HostTakes w next
        by (Err why) q e = absurd (grind arith)
        by (Ok x) q e =
            let same : x ≡ (r.0, stamped r.0.taken r.1) = answer_gives w.host m r x goes.answers_it q in
            let is : next ≡ took = sym (same_Some _ _ e) ∙ ap (λ (y : PlainHost × List HFrame). record w { host = y.0; up = ms; down = w.down ++ y.1 }) same in
            record {
              first = m;
              rest = ms;
              reply = r;
              was = eu;
              replies = goes.answers_it;
              host = ap (λ (v : PlainWorld). v.host) is;
              term = ap (λ (v : PlainWorld). v.term) is;
              up = ap (λ (v : PlainWorld). v.up) is;
              down = ap (λ (v : PlainWorld). mesgs v.down) is ∙ frames;
            }

-- ## The terminal takes a frame

pub record TermTakes (w next : PlainWorld) : Type 0 where
  pub first : HFrame
  pub rest : List HFrame
  pub was : w.down ≡ first ∷ rest
  pub host : next.host ≡ w.host
  pub term : next.term ≡ (frame_outcome w.term first.msg).0
  pub up : next.up ≡ w.up ++ (frame_outcome w.term first.msg).1
  pub down : next.down ≡ rest

take_gives : (t : PlainTerminal) (frame : HFrame) (r : Made) → take_of t frame ≡ Ok r → frame_outcome t frame.msg ≡ r
unfolding take_of
take_gives t frame r e = grind (arith, counted-result)

pub term-takes : (w next : PlainWorld) → step_of w TermTake ≡ Some next → TermTakes w next
term-takes w next s = from w.down refl s
  where
    from : (u : List HFrame) → w.down ≡ u → term_takes w u ≡ Some next → TermTakes w next
    from [] eu s = absurd (grind arith)
    from (frame ∷ frames) eu s = by (take_of w.term frame) refl s
      where
        by : (a : Result Made TermFault) → take_of w.term frame ≡ a → after_compose (record w { down = frames }) a ≡ Some next → TermTakes w next
        by (Err why) q e = absurd (grind arith)
        by (Ok x) q e =
            let same : x ≡ frame_outcome w.term frame.msg = sym (take_gives w.term frame x q) in
            let is : next ≡ record w { term = (frame_outcome w.term frame.msg).0; up = w.up ++ (frame_outcome w.term frame.msg).1; down = frames } =
            sym (same_Some _ _ e) ∙ ap (λ (y : Made). record w { term = y.0; up = w.up ++ y.1; down = frames }) same in
            record {
              first = frame;
              rest = frames;
              was = eu;
              host = ap (λ (v : PlainWorld). v.host) is;
              term = ap (λ (v : PlainWorld). v.term) is;
              up = ap (λ (v : PlainWorld). v.up) is;
              down = ap (λ (v : PlainWorld). v.down) is;
            }

-- ## A flush

pub record Flushes (w next : PlainWorld) : Type 0 where
  pub is : next ≡ record w { term = (flushed w.term).0; up = w.up ++ (flushed w.term).1 }

pub flush-takes : (w next : PlainWorld) → step_of w Flush ≡ Some next → Flushes w next
unfolding flush_of
flush-takes w next s = by (flush_of w.term) refl s
  where
    by : (a : Result Made TermFault) → flush_of w.term ≡ a → after_compose w a ≡ Some next → Flushes w next
    by (Err why) q e = absurd (grind arith)
    by (Ok x) q e =
        let same : x ≡ flushed w.term = sym (counted-result (flushed w.term).0.sent (flushed w.term) x q) in
        record { is = sym (same_Some _ _ e) ∙ ap (λ (y : Made). record w { term = y.0; up = w.up ++ y.1 }) same }

-- ## An act

-- the oldest event is refused, or done
pub record Acts (w next : PlainWorld) : Type 0 where
  pub first : UserEvent
  pub rest : List UserEvent
  pub was : w.term.held ≡ first ∷ rest
  pub acted : acts (act_of w.term) ≡ true
  pub did : (next ≡ record w { term = record w.term { held = rest } })
      ⊎ ((first_of_checks (event_checks w.term first) ≡ None)
      × (next ≡ record w { term = (event_outcome (record w.term { held = rest }) first).0; up = w.up ++ (event_outcome (record w.term { held = rest }) first).1 }))

-- none is held, or the oldest waits
pub record Idles (w next : PlainWorld) : Type 0 where
  pub idle : acts (act_of w.term) ≡ false
  pub same : next ≡ w

pub act-takes : (w next : PlainWorld) → step_of w Act ≡ Some next → Idles w next ⊎ Acts w next
unfolding act_of
act-takes w next s = from w.term.held refl s
  where
    from : (es : List UserEvent) → w.term.held ≡ es → after_act w (act_on w.term es) ≡ Some next → Idles w next ⊎ Acts w next
    from [] eh s = inl (record {
      idle = ap (λ (l : List UserEvent). acts (act_on w.term l)) eh;
      same = sym (same_Some _ _ s) ∙ ap (λ (l : List Tmesg). record w { up = l }) (append-nil w.up);
    })
    from (e ∷ es) eh s = by (first_of_checks (event_checks w.term e)) refl s
      where
        t : PlainTerminal
        t = record w.term { held = es }

        made : Made
        made = event_outcome t e

        by : (v : Option Verdict) → first_of_checks (event_checks w.term e) ≡ v → after_act w (decided v w.term es made) ≡ Some next → Idles w next ⊎ Acts w next
        by (Some Waits) q x = inl (record {
          idle = ap (λ (l : List UserEvent). acts (act_on w.term l)) eh ∙ ap (λ (v : Option Verdict). acts (decided v w.term es made)) q;
          same = sym (same_Some _ _ x) ∙ ap (λ (l : List Tmesg). record w { up = l }) (append-nil w.up);
        })
        by (Some (Refuses r)) q x =
            inr (record {
              first = e;
              rest = es;
              was = eh;
              acted = ap (λ (l : List UserEvent). acts (act_on w.term l)) eh ∙ ap (λ (v : Option Verdict). acts (decided v w.term es made)) q;
              did = inl (sym (same_Some _ _ x) ∙ ap (λ (l : List Tmesg). record w { term = t; up = l }) (append-nil w.up));
            })
        by None q x = go (if_countable made.0.sent (made.0, Done made.1)) refl x
          where
            go : (a : Result (PlainTerminal × Acted) TermFault) → if_countable made.0.sent (made.0, Done made.1) ≡ a → after_act w a ≡ Some next → Idles w next ⊎ Acts w next
            go (Err why) z y = absurd (grind arith)
            go (Ok r) z y =
                let same : r ≡ (made.0, Done made.1) = sym (counted-result made.0.sent (made.0, Done made.1) r z) in
                let is : next ≡ record w { term = made.0; up = w.up ++ made.1 } =
                sym (same_Some _ _ y) ∙ ap (λ (p : PlainTerminal × Acted). record w { term = p.0; up = w.up ++ composed_by p.1 }) same in
                inr (record {
                  first = e;
                  rest = es;
                  was = eh;
                  acted = ap (λ (l : List UserEvent). acts (act_on w.term l)) eh ∙ ap (λ (v : Option Verdict). acts (decided v w.term es made)) q ∙ ap acts z ∙ ap (λ (p : PlainTerminal × Acted). acts (Ok p)) same;
                  did = inr (q, is);
                })
