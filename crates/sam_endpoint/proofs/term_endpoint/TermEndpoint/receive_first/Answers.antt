use Rattle.sam_endpoint.proofs.Common.{◌≡◌, ◌∙◌, arith, ap, refl, subst, sym, ◌∷◌, drop, Err, option_copied, slice_get, None, HFrame, Tmesg, TermStop, PlainTermEndpoint, shown, Receives, ReceivesFirst}
use Rattle.sam_endpoint.specs.Duplexes.{PlainDuplex}
use Rattle.sam_endpoint.specs.TermSteps.{IsSound}
use Rattle.sam_endpoint.proofs.TermEndpointStamps.{take_stamped}
use Rattle.sam_endpoint.proofs.TermEndpointSteps.{first_fits, first_read, none_first, with_duplex, receive_failed, rest_fit, taken_counted}
use Rattle.sam_endpoint.proofs.term_endpoint.TermEndpoint.receive_first.Goals as goal

pub returns-in_default : goal.returns-in_default
returns-in_default c =
    let e : PlainTermEndpoint = c.args.self.now in
    let none : slice_get e.waiting 0 ≡ None =
    ap (λ (x : PlainTermEndpoint). slice_get x.waiting 0) (sym c.self.view_is) ∙ sym c.first.ensures ∙ ap (λ o. option_copied o) c.in_default.is in
    (none_first e.waiting none, refl)

pub receive_now-requires : goal.receive_now-requires
receive_now-requires c =
    first_fits c.self.inside.duplex.waiting c.in-Some.frame.now
    (first_read c.self.inside.duplex.waiting c.in-Some.frame.now (sym c.first.ensures ∙ ap (λ o. option_copied o) c.in-Some.is)) c.self.invariant.waiting

pub invariant_of-self : goal.invariant_of-self
invariant_of-self c =
    let frame = c.in-Some.frame.now in
    let first : c.self.inside.duplex.waiting ≡ frame ∷ drop 1 c.self.inside.duplex.waiting =
    first_read c.self.inside.duplex.waiting frame (sym c.first.ensures ∙ ap (λ o. option_copied o) c.in-Some.is) in
    let fit = rest_fit c.self.inside.duplex.waiting frame first c.self.invariant.waiting in
    let counted = taken_counted (shown c.self.inside) c.receive_now.new.term frame c.in-Ok.composed c.self.invariant c.in-Ok.ensures.tries in
    let stamped = take_stamped c.self.inside.term c.receive_now.new.term frame c.in-Ok.composed c.in-Ok.ensures.tries in
    let d : PlainDuplex HFrame Tmesg TermStop = c.self.inside.duplex in
    let same : c.leave_over.new.self ≡ record d { waiting = drop 1 d.waiting; unwritten = c.into_vec.result.items } =
    c.leave_over.ensures ∙ ap (λ (x : PlainDuplex HFrame Tmesg TermStop). record x { unwritten = c.into_vec.result.items }) c.drop_oldest.ensures in
    let e : PlainTermEndpoint = record (shown c.self.inside) { term = c.receive_now.new.term; seen = frame.seen; kept = c.note.new.self } in
    subst (λ (x : PlainDuplex HFrame Tmesg TermStop). IsSound (with_duplex e x)) (sym same) (grind (arith, fit, counted, stamped, c.into_vec.ensures, c.in-Ok.ensures.fit))

pub returns-in-Ok : goal.returns-in-Ok
returns-in-Ok c =
    let e : PlainTermEndpoint = shown c.self.inside in
    let frame = c.in-Some.frame.now in
    let u = c.receive_now.new.term in
    let g : PlainTermEndpoint = record e { term = u; waiting = drop 1 c.self.inside.duplex.waiting; unwritten = c.into_vec.result.items; seen = frame.seen; kept = c.note.new.self } in
    let d : PlainDuplex HFrame Tmesg TermStop = c.self.inside.duplex in
    let same : c.leave_over.new.self ≡ record d { waiting = drop 1 d.waiting; unwritten = c.into_vec.result.items } =
    c.leave_over.ensures ∙ ap (λ (x : PlainDuplex HFrame Tmesg TermStop). record x { unwritten = c.into_vec.result.items }) c.drop_oldest.ensures in
    subst (λ (x : PlainDuplex HFrame Tmesg TermStop). ReceivesFirst c.args.self.now (with_duplex g x)) (sym same) (subst (λ (x : PlainTermEndpoint). ReceivesFirst x g) c.self.view_is (record {
      frame = frame;
      rest = drop 1 c.self.inside.duplex.waiting;
      term = u;
      composed = c.in-Ok.composed;
      waited = first_read c.self.inside.duplex.waiting frame (sym c.first.ensures ∙ ap (λ o. option_copied o) c.in-Some.is);
      taken = c.in-Ok.ensures.tries;
      composed_fit = c.in-Ok.ensures.known;
      after = grind (arith, c.into_vec.ensures, c.note.ensures, c.frame_touch-touch.ensures);
    }))

pub returns-in-Err : goal.returns-in-Err
returns-in-Err c =
    let e : PlainTermEndpoint = shown c.self.inside in
    let frame = c.in-Some.frame.now in
    let u = c.receive_now.new.term in
    let why = c.in-Err.fault in
    let failed : Receives e (Err why) c.stop_by.new.self =
    receive_failed e (record e { term = u }) c.stop_by.new.self frame (drop 1 c.self.inside.duplex.waiting) u why
    (first_read c.self.inside.duplex.waiting frame (sym c.first.ensures ∙ ap (λ o. option_copied o) c.in-Some.is)) c.in-Err.ensures.tries refl c.stop_by.ensures.stopped in
    subst (λ (x : PlainTermEndpoint). Receives x (Err c.stop_by.result) c.stop_by.new.self) c.self.view_is (subst (λ r. Receives e (Err r) c.stop_by.new.self) (sym c.stop_by.ensures.answer) failed)
