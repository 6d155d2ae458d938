use Rattle.std.proofs.Common.{refl, subst}
use Rattle.sam_note.specs.Writing.{Puts}
use Rattle.sam_note.proofs.Putting.{heads_are, puts_then}
use Rattle.sam_note.proofs.writing.put_head.Goals as goal

pub returns : goal.returns
returns c =
    subst (λ b. Puts 0 b c.args.into.now c.put.result c.put.new.into)
    (heads_are c.args.head.now c.fields-has.result c.number.result _ _ _ _ c.fields-has.ensures c.number.ensures c.to_be_bytes.ensures c.to_be_bytes-2.ensures refl c.to_be_bytes-3.ensures)
    (puts_then (puts_then (puts_then (puts_then c.put-at.ensures c.put-at-2.ensures) c.put-at-3.ensures) c.put-at-4.ensures) c.put.ensures)
