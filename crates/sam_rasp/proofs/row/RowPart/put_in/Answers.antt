use Rattle.sam_rasp.proofs.Common.{arith, PartialText, ◌+◌}
use Rattle.sam_rasp.specs.Rows.{incoming_cells}
use Rattle.sam_rasp.proofs.Changes.{length-put}
use Rattle.sam_rasp.proofs.Rows.{at-index, incoming-some, part-at, set-put, set-same, some-at, some-set, taken-short}
use Rattle.sam_rasp.proofs.row.RowPart.put_in.Goals as goal

pub put-requires-clause-limit : goal.put-requires-clause-limit
put-requires-clause-limit g c =
    let f : PartialText → PartialText = λ r. r in
    let xs = c.args.parts.now.items in
    grind (arith, (at-index f xs c.args.index c.index_mut.result.now), (taken-short f xs (c.args.index + 1)))

pub returns-clause-ok : goal.returns-clause-ok
returns-clause-ok g c =
    let f : PartialText → PartialText = λ r. r in
    let xs = c.args.parts.now.items in
    let x = c.index_mut.result.now in
    let y = c.put.new.self in
    let m = incoming_cells c.args.incoming in
    grind (
      arith,
      (at-index f xs c.args.index x),
      (set-put f xs c.args.index x y c.args.at c.args.end m),
      (set-same f xs c.args.index x y),
      (part-at f xs c.args.index x c.args.at c.args.end),
    )

pub returns-clause-some : goal.returns-clause-some
returns-clause-some g c =
    let f : PartialText → PartialText = λ r. r in
    let xs = c.args.parts.now.items in
    let x = c.index_mut.result.now in
    let y = c.put.new.self in
    let m = incoming_cells c.args.incoming in
    grind (
      arith,
      (incoming-some c.args.incoming),
      (at-index f xs c.args.index x),
      (length-put (f x) m c.args.at c.args.end),
      (some-at f xs c.args.index x),
      (some-set f xs c.args.index y),
    )
