use Rattle.std.proofs.Common.{◌≡◌, ◌<◌, length, length-drop, ap, drop, arith}
use Rattle.std.proofs.lemmas.Slice.{between_to_end}
use Rattle.sam_client.proofs.BatchLaws.{none_left, one_more, refused}
use Rattle.sam_client.proofs.client.Client.replace_each.Goals as goal

pub returns-then-is_err : goal.returns-then-is_err
returns-then-is_err c =
    let l = c.left in
    refused c.args.tag l.made c.min-count.result c.args.replacements.now l.left.now _ c.args.runes.now l.rest.now c.args.self.now l.self
    c.replace-result.new.self c.replace-result.result l.invariant.stands (grind (arith, c.left-test.true, c.is_empty.ensures)) (grind (arith, c.if-is_err.true, c.is_err.ensures)) c.min-count.ensures
    c.replace-result.ensures

pub left-preserved : goal.left-preserved
left-preserved c =
    let l = c.left in
    let some : 0 < length l.left.now = grind (arith, c.left-test.true, c.is_empty.ensures) in
    let next : _ ≡ drop 1 l.left.now = between_to_end l.left.now 1 (length l.left.now) (omega arith) in
    record {
      count = omega (arith, l.invariant.count, some, ap length next, length-drop 1 l.left.now);
      stands =
          one_more c.args.tag l.made c.min-count.result c.args.replacements.now l.left.now _ _ c.args.runes.now l.rest.now _ c.args.self.now l.self
          c.replace-result.new.self c.replace-result.result l.invariant.stands some (grind (arith, c.if-is_err.false, c.is_err.ensures))
          next c.min-count.ensures (between_to_end l.rest.now c.min-count.result (length l.rest.now) (omega arith)) c.replace-result.ensures;
    }

pub returns : goal.returns
returns c = none_left c.args.tag c.left.made c.args.replacements.now c.left.left.now c.args.runes.now c.left.rest.now c.args.self.now c.left.self
    c.left.invariant.stands (grind (arith, c.left-test.false, c.is_empty.ensures))
