use Rattle.std.proofs.Common.{rules, ◌≡◌, Some, Err, arith}
use Rattle.sam_runes.specs.Slots.{slot}
use Rattle.sam_overlay.proofs.CallLaws.{put_refused}
use Rattle.sam_overlay.proofs.overlay.Overlay.put_up_to.Goals as goal

pub returns-in_err-edit : goal.returns-in_err-edit
returns-in_err-edit c =
    let o = c.args.self.now in
    let l = c.in-Some-at.pending.now in
    let why = c.in_err-edit.field-0.0 in
    let same : c.from_residual.result ≡ Err why = search rules in
    let there : slot o.layers c.args.tag ≡ Some l = grind (arith, c.in-Some-at.ensures, c.self.view_is) in
    rw same (put_refused c.args.up_to o c.args.tag l why there c.in_err-edit.ensures.err)
