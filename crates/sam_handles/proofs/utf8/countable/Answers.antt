use Rattle.std.proofs.Common.{sym, arith, length-take, take_all}
use Rattle.sam_handles.proofs.utf8.countable.Goals as goal

pub slice_bounds-result-end : goal.slice_bounds-result-end
slice_bounds-result-end c = omega (arith, length-take 4294967295 c.args.runes.now, c.if-runes-most.true)

pub returns-then-runes-most-clause-few : goal.returns-then-runes-most-clause-few
returns-then-runes-most-clause-few c = omega (arith, length-take 4294967295 c.args.runes.now)

pub returns-else-runes-most-clause-runes : goal.returns-else-runes-most-clause-runes
returns-else-runes-most-clause-runes c = sym (take_all 4294967295 c.args.runes.now c.if-runes-most.false)
