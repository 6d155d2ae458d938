use Rattle.std.proofs.Common.{arith, ◌++◌, ap, subst, ◌∙◌}
use Rattle.sam_note.specs.Writing.{Puts, part}
use Rattle.sam_note.proofs.Putting.{length_piece, part_piece, puts_then}
use Rattle.sam_note.proofs.writing.put_piece.Goals as goal

pub put-requires : goal.put-requires
put-requires c = grind (arith, length_piece)

pub returns : goal.returns
returns c =
    let there = c.args.there in
    let bytes = c.args.bytes.now in
    subst (λ b. Puts c.args.at b c.args.into.now c.put.result c.put.new.into)
    (ap (λ len. part there len ++ part there bytes) c.to_be_bytes.ensures ∙ part_piece there bytes)
    (puts_then c.put-at.ensures c.put.ensures)
