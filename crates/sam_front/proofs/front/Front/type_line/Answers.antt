use Rattle.std.proofs.Common.{◌≡◌, length, length-drop, ap, drop, arith}
use Rattle.std.proofs.lemmas.Slice.{between_to_end}
use Rattle.sam_front.specs.Runs.{behind_of}
use Rattle.sam_front.proofs.RunningLaws.{last, one_more, refused}
use Rattle.sam_front.proofs.front.Front.type_line.Goals as goal

pub offset_bounds-rest-count : goal.offset_bounds-rest-count
offset_bounds-rest-count c = omega (arith, c.pieces.invariant.short, c.next_piece-count.ensures.within)

pub returns-then-is_err : goal.returns-then-is_err
returns-then-is_err c =
    let l = c.pieces in
    refused (behind_of (length c.args.typed.now)) l.left c.next_piece-count.result c.args.typed.now l.rest.now c.args.self.now l.self
    c.type_one-came.new.self c.type_one-came.result l.invariant.stands (grind (arith, c.pieces-test.true)) c.next_piece-count.ensures.piece
    (grind (arith, c.if-is_err.true, c.is_err.ensures)) c.type_one-came.ensures

pub pieces-preserved : goal.pieces-preserved
pieces-preserved c =
    let l = c.pieces in
    record {
      few = omega (arith, l.invariant.few);
      short =
          let next : _ ≡ drop c.next_piece-count.result l.rest.now =
          between_to_end l.rest.now c.next_piece-count.result (length l.rest.now) (omega (arith, c.next_piece-count.ensures.within)) in
          omega (arith, l.invariant.short, ap length next, length-drop c.next_piece-count.result l.rest.now);
      stands =
          one_more (behind_of (length c.args.typed.now)) l.left c.next_piece-count.result c.args.typed.now l.rest.now _ c.args.self.now l.self
          c.type_one-came.new.self c.type_one-came.result l.invariant.stands (grind (arith, c.pieces-test.true)) c.next_piece-count.ensures.piece
          (between_to_end l.rest.now c.next_piece-count.result (length l.rest.now) (omega (arith, c.next_piece-count.ensures.within)))
          (grind (arith, c.if-is_err.false, c.is_err.ensures)) c.type_one-came.ensures;
    }

pub returns : goal.returns
returns c =
    last (behind_of (length c.args.typed.now)) c.pieces.left c.args.typed.now c.pieces.rest.now c.args.self.now c.pieces.self c.type_one.new.self
    c.type_one.result c.pieces.invariant.stands (grind (arith, c.pieces-test.false)) c.type_one.ensures
