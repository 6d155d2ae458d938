use Rattle.sam_endpoint.proofs.Common.{◌≡◌, ◌∙◌, ◌∷◌, ap, sym, drop, Tmesg, PlainHostEndpoint}
use Rattle.sam_endpoint.proofs.HostEndpointStepping.{answered_told}
use Rattle.sam_endpoint.proofs.host_endpoint.HostEndpoint.answer_message.Goals as goal

pub returns-clause-steps : goal.returns-clause-steps
returns-clause-steps c =
    let e : PlainHostEndpoint = c.args.self.now in
    let message : Tmesg = c.oldest.result.now in
    let first : e.waiting ≡ message ∷ drop 1 e.waiting =
    ap (λ (x : PlainHostEndpoint). x.waiting) (sym c.self.view_is) ∙ c.oldest.ensures ∙ ap (λ (x : PlainHostEndpoint). message ∷ drop 1 x.waiting) c.self.view_is in
    answered_told e c.answer_first.new.self message c.name_message-kind.result.0 c.name_message-kind.result.1 first c.in_ok-answer_first.ensures
    (ap (λ x. x.0) c.name_message-kind.ensures) (ap (λ x. x.1) c.name_message-kind.ensures)
