use Rattle.std.proofs.Common.{subst}
use Rattle.sam_note.specs.Writing.{Puts}
use Rattle.sam_note.proofs.Putting.{notes_are, puts_then}
use Rattle.sam_note.proofs.writing.put_note.Goals as goal

pub returns : goal.returns
returns c =
    subst (λ b. Puts 0 b c.args.into.now c.put_piece.result c.put_piece.new.into)
    (notes_are c.args.head.now c.fields-has.result c.args.path.now c.args.copy.now c.args.text.now c.fields-has.ensures)
    (puts_then (puts_then (puts_then c.put_head-at.ensures c.put_piece-at.ensures) c.put_piece-at-2.ensures) c.put_piece.ensures)
