use Rattle.std.proofs.Common.{length, refl, ap, arith, length-drop}
use Rattle.sam_journal.specs.declared.finding.Record.{Record}
use Rattle.sam_journal.proofs.Standing.{Read, both_right, is_found, no_body, no_durable, no_heading, no_room, no_sum, sums_right}
use Rattle.sam_journal.proofs.finding.record_at.Goals as goal

pub returns-then-bytes-place : goal.returns-then-bytes-place
returns-then-bytes-place c = no_room c.args.random c.args.place c.args.bytes.now (omega arith)

pub returns-then-piece-lt-RECORD_BYTES : goal.returns-then-piece-lt-RECORD_BYTES
returns-then-piece-lt-RECORD_BYTES c =
    no_room c.args.random c.args.place c.args.bytes.now
    (omega (arith, ap length c.split_at.ensures.back, length-drop c.args.place c.args.bytes.now))

pub returns-then-piece-len : goal.returns-then-piece-len
returns-then-piece-len c =
    no_body c.args.random c.args.place c.four_at-len.result c.args.bytes.now c.split_at.result.1.now c.split_at.ensures.back c.four_at-len.ensures
    c.four_at-len.type_inv (omega arith)

pub returns-then-durable-place : goal.returns-then-durable-place
returns-then-durable-place c =
    no_durable c.args.random c.args.place c.eight_at-durable.result c.args.bytes.now c.split_at.result.1.now c.split_at.ensures.back
    c.eight_at-durable.ensures c.eight_at-durable.type_inv (omega arith)

pub returns-then-sum_of-four_at : goal.returns-then-sum_of-four_at
returns-then-sum_of-four_at c =
    no_heading c.args.random c.args.place c.sum_of.result c.four_at.result c.args.bytes.now c.split_at.result.1.now c.split_at-2.result.0.now
    c.split_at.ensures.back c.split_at-2.ensures.front c.sum_of.ensures c.sum_of.type_inv c.four_at.ensures c.four_at.type_inv c.if-sum_of-four_at.true

pub returns-then-sum_of_both-four_at : goal.returns-then-sum_of_both-four_at
returns-then-sum_of_both-four_at c =
    no_sum c.args.random c.args.place c.four_at-len.result c.sum_of_both.result c.four_at-2.result c.args.bytes.now c.split_at.result.1.now
    c.split_at-3.result.0.now c.split_at-3.result.1.now c.split_at-4.result.0.now c.split_at.ensures.back c.four_at-len.ensures
    c.four_at-len.type_inv c.split_at-3.ensures.front c.split_at-3.ensures.back c.split_at-4.ensures.front c.sum_of_both.ensures
    c.sum_of_both.type_inv c.four_at-2.ensures c.four_at-2.type_inv c.if-sum_of_both-four_at.true

pub returns : goal.returns
returns c =
    let found : Record = record { place = c.args.place; number = c.eight_at.result; durable = c.eight_at-durable.result; len = c.four_at-len.result } in
    let read : Read c.args.random c.args.place found c.split_at.result.1.now = record {
      number_is = c.eight_at.ensures;
      len_is = c.four_at-len.ensures;
      durable_is = c.eight_at-durable.ensures;
      heading_sum = sums_right c.args.random c.sum_of.result c.four_at.result c.split_at.result.1.now c.split_at-2.result.0.now c.split_at-2.ensures.front
          c.sum_of.ensures c.four_at.ensures c.if-sum_of-four_at.false;
      sum = both_right c.args.random c.four_at-len.result c.sum_of_both.result c.four_at-2.result c.split_at.result.1.now c.split_at-3.result.0.now
          c.split_at-3.result.1.now c.split_at-4.result.0.now c.split_at-3.ensures.front c.split_at-3.ensures.back c.split_at-4.ensures.front
          c.sum_of_both.ensures c.four_at-2.ensures c.if-sum_of_both-four_at.false;
      inside = omega arith;
      number_fits = c.eight_at.type_inv;
      len_fits = c.four_at-len.type_inv;
      durable_fits = c.eight_at-durable.type_inv;
      durable_before = omega arith;
    } in
    is_found c.args.random c.args.place found c.args.bytes.now c.split_at.result.1.now (omega arith) refl c.split_at.ensures.back read
