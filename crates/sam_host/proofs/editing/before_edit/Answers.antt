use Rattle.std.proofs.Common.{arith, ◌≡◌, length, refl, Some, slice_get}
use Rattle.std.proofs.lemmas.Option.{slice_get_read}
use Rattle.sam_host.proofs.EditLaws.{edits_next}
use Rattle.sam_host.proofs.editing.before_edit.Goals as goal

pub loop-count-preserved : goal.loop-count-preserved
loop-count-preserved c =
    let ms = c.args.messages.now.items in
    let n = c.loop-count.count in
    let m = c.in-Some.message.now in
    let there : slice_get ms n ≡ Some m = slice_get_read ms (length ms) n m refl (grind arith) c.in-Some.ensures.item.1 in
    grind (arith, (edits_next ms n m there))
