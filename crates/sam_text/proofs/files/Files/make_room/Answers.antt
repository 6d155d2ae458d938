use Rattle.sam_text.proofs.Common.{◌≡◌, arith}
use Rattle.sam_text.proofs.KeptLaws.{kept_lent}
use Rattle.sam_text.proofs.ViewLaws.{slot_facts}
use Rattle.sam_text.specs.Files.{file_in}
use Rattle.sam_text.specs.Views.{plain_slots}
use Rattle.sam_text.proofs.files.Files.make_room.Goals as goal

pub invariant_of-self : goal.invariant_of-self
invariant_of-self c =
    let fs = c.self.inside in
    let same : c.reserve.new.self.plain ≡ file_in (plain_slots fs.slots.items) c.args.tag = grind (arith, slot_facts) in
    kept_lent fs.slots.items fs.snarf fs.pattern fs.work fs.announced c.args.tag c.reserve.new.self c.self.invariant (grind arith) (grind arith) (grind arith) (grind arith) (grind arith)
