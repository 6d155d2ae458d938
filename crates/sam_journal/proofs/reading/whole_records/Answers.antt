use Rattle.std.proofs.Common.{arith}
use Rattle.sam_journal.proofs.Fronts.{begun, counted, front_found, wholes_found}
use Rattle.sam_journal.proofs.Readings.{none_next}
use Rattle.sam_journal.proofs.reading.whole_records.Goals as goal

pub loop-found-init : goal.loop-found-init
loop-found-init c = begun c.args.random c.args.bytes.now c.requires

pub overflow_add-count : goal.overflow_add-count
overflow_add-count c =
    omega (arith, counted c.args.random c.loop-found.count c.loop-found.end c.args.bytes.now c.loop-found.invariant, c.loop-found.invariant.inside)

pub loop-found-preserved : goal.loop-found-preserved
loop-found-preserved c =
    front_found c.args.random c.loop-found.count c.loop-found.end c.args.bytes.now c.in-Whole.found c.loop-found.invariant c.in-Whole.ensures.0
    c.in-Whole.ensures.1

pub returns : goal.returns
returns c =
    wholes_found c.args.random c.loop-found.count c.loop-found.end c.args.bytes.now c.loop-found.invariant
    (none_next c.args.random c.loop-found.end c.loop-found.count c.args.bytes.now c.next_record.result c.next_record.ensures c.in_default.not-Whole)
