use Rattle.std.proofs.Common.{refl, ap, arith, length, length-take, ◌+◌, ◌-◌}
use Rattle.std.proofs.lemmas.Slice.{between_to_end}
use Rattle.sam_c.proofs.TypingLaws.{err_ends, last_ends, one_more}
use Rattle.sam_c.proofs.term_typing.type_pieces.Goals as goal

pub slice_bounds-type_piece-end : goal.slice_bounds-type_piece-end
slice_bounds-type_piece-end c = omega (arith, length-take 512 c.loop-rest.rest.now, c.loop-rest-test.true)

pub returns-then-is_err : goal.returns-then-is_err
returns-then-is_err c =
    let l = c.loop-rest in
    err_ends c.args.end.now l.end c.type_piece-answer.new.end c.args.tag c.args.runes.now l.rest.now c.type_piece-answer.result _ l.invariant.stands
    c.loop-rest-test.true c.type_piece-answer.ensures (grind arith) (ap (λ n. length c.args.runes.now - length l.rest.now + n) c.taken_of.ensures)

pub loop-rest-preserved : goal.loop-rest-preserved
loop-rest-preserved c =
    let l = c.loop-rest in record {
      len = refl;
      stands =
          one_more c.args.end.now l.end c.type_piece-answer.new.end c.args.tag c.args.runes.now l.rest.now _ c.type_piece-answer.result l.invariant.stands
          c.loop-rest-test.true c.type_piece-answer.ensures (grind arith) (between_to_end l.rest.now 512 (length l.rest.now) (omega (arith, c.loop-rest-test.true)));
    }

pub returns : goal.returns
returns c =
    let l = c.loop-rest in
    last_ends c.args.end.now l.end c.type_piece-answer-2.new.end c.args.tag c.args.runes.now l.rest.now c.type_piece-answer-2.result _ l.invariant.stands
    c.loop-rest-test.false c.type_piece-answer-2.ensures (ap (λ n. length c.args.runes.now - length l.rest.now + n) c.taken_of-2.ensures)
