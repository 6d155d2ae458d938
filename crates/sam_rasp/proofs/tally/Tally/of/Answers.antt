use Rattle.sam_rasp.proofs.Common.{arith, length}
use Rattle.sam_rasp.specs.declared.tally.Measure.TheVariants.{Bytes, Units}
use Rattle.sam_rasp.proofs.Tallies.{all-taken, loaded-is, measure-next}
use Rattle.sam_rasp.proofs.tally.Tally.of.Goals as goal

pub returns-then-wide-eq0 : goal.returns-then-wide-eq0
returns-then-wide-eq0 c =
    let s = c.args.runes.now in
    grind (arith, (loaded-is s (length s) (length s) c.newlines_and_wide-newlines.result.0))

pub loop-place-preserved : goal.loop-place-preserved
loop-place-preserved c =
    let s = c.args.runes.now in
    let i = c.loop-place.place in
    (grind arith, grind (arith, (measure-next Bytes s i c.index-runes-place.result)), grind (arith, (measure-next Units s i c.index-runes-place.result)))

pub returns : goal.returns
returns c =
    let s = c.args.runes.now in
    let is = c.loop-place in
    grind (arith, (all-taken s is.place), (loaded-is s is.bytes is.units c.newlines_and_wide-newlines.result.0))
