use Rattle.sam_endpoint.proofs.Common.{◌≡◌, ◌∙◌, ◌∷◌, ap, sym, subst, arith, drop, Some, Tmesg, PlainHostEndpoint, AnswersFirst}
use Rattle.sam_endpoint.specs.Naming.{file_of_t}
use Rattle.sam_endpoint.proofs.HostEndpointStepping.{answered_told, took_told}
use Rattle.sam_endpoint.proofs.host_endpoint.HostEndpoint.answer_step.Goals as goal
use Rattle.sam_endpoint.proofs.host_endpoint.HostEndpoint.answer_step.Goals.{in-Some+else-count-gt0, in_default}

pub returns-then-count-gt0 : goal.returns-then-count-gt0
returns-then-count-gt0 c =
    let e : PlainHostEndpoint = c.args.self.now in
    let g : PlainHostEndpoint = c.take_edits-count.new.self in
    let message : Tmesg = c.oldest.result.now in
    let first : e.waiting ≡ message ∷ drop 1 e.waiting =
    ap (λ (x : PlainHostEndpoint). x.waiting) (sym c.self.view_is) ∙ c.oldest.ensures ∙ ap (λ (x : PlainHostEndpoint). message ∷ drop 1 x.waiting) c.self.view_is in
    let named : file_of_t message ≡ Some c.in-Some.tag = sym (ap (λ x. x.1) c.name_message-kind.ensures) ∙ c.in-Some.is in
    took_told e g message c.in-Some.tag c.take_edits-count.result first (c.take_edits-count.ensures.took (grind arith)) named

pub returns : goal.returns
returns c =
    let e : PlainHostEndpoint = c.args.self.now in
    let g : PlainHostEndpoint = c.answer_first.new.self in
    let message : Tmesg = c.oldest.result.now in
    let first : e.waiting ≡ message ∷ drop 1 e.waiting =
    ap (λ (x : PlainHostEndpoint). x.waiting) (sym c.self.view_is) ∙ c.oldest.ensures ∙ ap (λ (x : PlainHostEndpoint). message ∷ drop 1 x.waiting) c.self.view_is in
    let same : c.match-tag.self ≡ e = elim c.match-tag.branch [
      | in-Some+else-count-gt0 w ↦ grind arith
      | in_default w ↦ grind arith
    ] in
    let named : c.match-tag.tag ≡ c.name_message-kind.result.1 = elim c.match-tag.branch [
      | in-Some+else-count-gt0 w ↦ grind arith
      | in_default w ↦ grind arith
    ] in
    answered_told e g message c.name_message-kind.result.0 c.match-tag.tag first (subst (λ (x : PlainHostEndpoint). AnswersFirst x g) same c.in_ok-answer_first.ensures)
    (ap (λ x. x.0) c.name_message-kind.ensures) (named ∙ ap (λ x. x.1) c.name_message-kind.ensures)
