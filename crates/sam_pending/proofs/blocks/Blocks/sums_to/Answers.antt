use Rattle.std.proofs.Common.{◌-◌, ◌∙◌}
use Rattle.sam_pending.proofs.MarkLaws.{SumsTo, piece_small, sums_up_to}
use Rattle.sam_pending.proofs.blocks.Blocks.sums_to.Goals as goal

pub sums_in-requires : goal.sums_in-requires
sums_in-requires c =
    let same = c.as_slice-blocks.ensures.value ∙ c.self.view_is in
    piece_small c.args.self.now c.as_slice-blocks.result.now c.pass-start.result.0 (c.args.end - c.pass-start.result.0) same c.requires.fits

done : (c : goal.After-sums_in) → SumsTo c.args.self.now c.args.end c.pass-start.result.1 c.sums_in.result
done c =
    let same = c.as_slice-blocks.ensures.value ∙ c.self.view_is in
    sums_up_to c.args.self.now c.as_slice-blocks.result.now c.pass-start.result.0 c.args.end c.pass-start.result.1 c.sums_in.result same c.pass-start.ensures.limit
    c.pass-start.ensures.passes.sums c.sums_in.ensures c.requires.fits

pub plus-requires-clause-rasp : goal.plus-requires-clause-rasp
plus-requires-clause-rasp c = (done c).fits.rasp

pub plus-requires-clause-waiting : goal.plus-requires-clause-waiting
plus-requires-clause-waiting c = (done c).fits.waiting

pub plus-requires-clause-shown : goal.plus-requires-clause-shown
plus-requires-clause-shown c = (done c).fits.shown

pub returns : goal.returns
returns c =
    let same = c.as_slice-blocks.ensures.value ∙ c.self.view_is in
    c.plus.ensures
    ∙ (sums_up_to c.args.self.now c.as_slice-blocks.result.now c.pass-start.result.0 c.args.end c.pass-start.result.1 c.sums_in.result same c.pass-start.ensures.limit
    c.pass-start.ensures.passes.sums c.sums_in.ensures c.requires.fits).sum
