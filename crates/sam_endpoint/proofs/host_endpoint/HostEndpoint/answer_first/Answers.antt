use Rattle.sam_endpoint.proofs.Common.{◌≡◌, ◌∙◌, ◌++◌, refl, sym, ap, subst, drop, List, ℕ, Ok, HFrame, Tmesg, host, answer, CanEncode, FitFrames, FitInPlace, HostStop, writes_of}
use Rattle.sam_host.proofs.FrameFits.{fit_in_last}
use Rattle.sam_endpoint.specs.Duplexes.{PlainDuplex}
use Rattle.sam_endpoint.specs.HostSteps.{IsSound}
use Rattle.sam_endpoint.proofs.HostEndpointFits.{answered_sound, end_of}
use Rattle.sam_endpoint.proofs.HostEndpointGoing.{first_done}
use Rattle.sam_endpoint.proofs.host_endpoint.HostEndpoint.answer_first.Goals as goal

pub know_frames-requires : goal.know_frames-requires
know_frames-requires c = subst (λ (x : List HFrame). CanEncode host x) (sym c.as_slice.ensures) (fit_in_last c.self.inside.host.version c.in-Ok.frames c.in-Ok.ensures.fit)

pub invariant_of-self-in-Ok : goal.invariant_of-self-in-Ok
invariant_of-self-in-Ok c =
    let d : PlainDuplex Tmesg HFrame HostStop = c.self.inside.duplex in
    let frames : List HFrame = c.into_vec.result.items in
    let k : PlainDuplex Tmesg HFrame HostStop = record d { waiting = drop 1 d.waiting; unwritten = frames } in
    let same : c.leave_over.new.self ≡ k = c.leave_over.ensures ∙ ap (λ (x : PlainDuplex Tmesg HFrame HostStop). record x { unwritten = frames }) c.drop_oldest.ensures in
    subst (λ (x : PlainDuplex Tmesg HFrame HostStop). IsSound (end_of c.handle_lent.new.self c.note.new.writes.items x)) (sym same)
    (answered_sound (end_of c.self.inside.host c.self.inside.writes.items d) (end_of c.handle_lent.new.self c.note.new.writes.items k) c.self.inside.host.version c.oldest-message.result.now
    c.self.invariant c.oldest-message.ensures (subst (λ (x : List HFrame). FitInPlace c.self.inside.host.version x) (sym c.into_vec.ensures) c.in-Ok.ensures.fit) refl refl)

pub returns-in-Ok : goal.returns-in-Ok
returns-in-Ok c =
    let d : PlainDuplex Tmesg HFrame HostStop = c.self.inside.duplex in
    let frames : List HFrame = c.into_vec.result.items in
    let same : c.leave_over.new.self ≡ record d { waiting = drop 1 d.waiting; unwritten = frames } =
    c.leave_over.ensures ∙ ap (λ (x : PlainDuplex Tmesg HFrame HostStop). record x { unwritten = frames }) c.drop_oldest.ensures in
    first_done c.args.self.now (end_of c.self.inside.host c.self.inside.writes.items d) (end_of c.handle_lent.new.self c.note.new.writes.items c.leave_over.new.self)
    c.oldest-message.result.now (drop 1 d.waiting) c.handle_lent.new.self frames c.note.new.writes.items c.self.view_is
    (ap (λ (x : PlainDuplex Tmesg HFrame HostStop). end_of c.handle_lent.new.self c.note.new.writes.items x) same) c.oldest-message.ensures
    (subst (λ (x : List HFrame). answer c.self.inside.host c.oldest-message.result.now ≡ Ok (c.handle_lent.new.self, x)) (sym c.into_vec.ensures) c.in-Ok.ensures.answered)
    (subst FitFrames (sym c.into_vec.ensures) (subst FitFrames c.as_slice.ensures c.know_frames.ensures))
    (c.note.ensures ∙ ap (λ (x : List ℕ). c.reserve.new.self.items ++ x) c.write_in-tag.ensures ∙ ap (λ (x : List ℕ). x ++ writes_of c.self.inside.host c.oldest-message.result.now) c.reserve.ensures.items)
