use Rattle.sam_rasp.proofs.Common.{◌+◌, ◌-◌, arith, sym, true, false}
use Rattle.sam_rasp.proofs.Rows.{from-part}
use Rattle.sam_rasp.proofs.row.RowPart.hole_from.Goals as goal

pub returns-clause-runes : goal.returns-clause-runes
returns-clause-runes g c =
    let found = c.find-index.result in
    let begins = c.find-index.ensures in
    from-part g.P.Part.members true c.self.inside.parts.items c.as_slice.result.now c.as_slice-2.result.now c.args.self.now found.0 c.args.p (c.args.p - found.1)
    found.1 c.hole_from.result.0 c.as_slice.ensures.value c.as_slice-2.ensures.value (sym c.self.view_is) begins.start (omega (arith, begins.place.0)) c.hole_from.ensures.runes

pub returns-clause-gaps : goal.returns-clause-gaps
returns-clause-gaps g c =
    let found = c.find-index.result in
    let begins = c.find-index.ensures in
    let runes = c.hole_from.result.0 in
    from-part g.P.Part.members false c.self.inside.parts.items c.as_slice.result.now c.as_slice-2.result.now c.args.self.now found.0 (c.args.p + runes)
    ((c.args.p - found.1) + runes) found.1 c.hole_from.result.1 c.as_slice.ensures.value c.as_slice-2.ensures.value (sym c.self.view_is) begins.start
    (omega (arith, begins.place.0)) c.hole_from.ensures.gaps
