use Rattle.sam_endpoint.proofs.Common.{◌≡◌, ◌∙◌, ap, sym, Some, option_copied, slice_get, HFrame, PlainTermEndpoint}
use Rattle.sam_endpoint.specs.Changes.{change_between, frame_touch}
use Rattle.sam_endpoint.proofs.TermEndpointStepping.{change_told, received_told}
use Rattle.sam_endpoint.proofs.term_endpoint.TermEndpoint.receive_step.Goals as goal

pub returns : goal.returns
returns c =
    let e : PlainTermEndpoint = c.args.self.now in
    let g : PlainTermEndpoint = c.receive_first.new.self in
    let frame : HFrame = c.in-Some.frame.now in
    let first : slice_get e.waiting 0 ≡ Some frame =
    ap (λ (x : PlainTermEndpoint). slice_get x.waiting 0) (sym c.self.view_is) ∙ sym c.first.ensures ∙ ap (λ o. option_copied o) c.in-Some.is in
    let changed : c.change_by-change.result ≡ change_between e.term (frame_touch e.term frame.msg) g.term =
    change_told e g frame c.self.inside.term c.self-2.inside.term c.frame_touch-touch.result c.touched_len-before.result c.touched_len.result c.change_by-change.result
    (ap (λ (x : PlainTermEndpoint). x.term) c.self.view_is) (ap (λ (x : PlainTermEndpoint). x.term) c.self-2.view_is) c.frame_touch-touch.ensures c.touched_len-before.ensures
    c.touched_len.ensures c.change_by-change.ensures in
    received_told c.in_ok-receive_first.field-0 e g frame c.name_frame-kind.result.0 c.name_frame-kind.result.1 c.change_by-change.result first c.in_ok-receive_first.ensures
    (ap (λ x. x.0) c.name_frame-kind.ensures) (ap (λ x. x.1) c.name_frame-kind.ensures) changed
