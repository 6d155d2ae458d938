use Rattle.sam_rasp.proofs.Common.{arith}
use Rattle.sam_rasp.specs.declared.tally.Measure.TheVariants.{Bytes, Units, Newlines}
use Rattle.sam_rasp.proofs.Tallies.{all-taken, measure-next, narrow}
use Rattle.sam_rasp.proofs.tally.newlines_and_wide.Goals as goal

pub loop-place-preserved : goal.loop-place-preserved
loop-place-preserved c =
    let s = c.args.runes.now in
    let i = c.loop-place.place in
    let x = c.index-runes-place.result in (
      grind arith,
      grind (arith, (measure-next Newlines s i x)),
      grind arith,
      (λ none. (grind (arith, none, (measure-next Bytes s i x), (narrow x)), grind (arith, none, (measure-next Units s i x), (narrow x)))),
    )

pub returns-clause-newlines : goal.returns-clause-newlines
returns-clause-newlines c = grind (arith, (all-taken c.args.runes.now c.loop-place.place))

pub returns-clause-wide : goal.returns-clause-wide
returns-clause-wide c none = grind (arith, none, (all-taken c.args.runes.now c.loop-place.place))
