use Rattle.sam_text.proofs.Common.{arith}
use Rattle.sam_text.proofs.KeptLaws.{kept_edited}
use Rattle.sam_text.proofs.ViewLaws.{slot_facts}
use Rattle.sam_text.proofs.files.Files.put_in.Goals as goal

pub invariant_of-self-2 : goal.invariant_of-self-2
invariant_of-self-2 c =
    let fs = c.self.inside in
    kept_edited fs.slots.items fs.snarf fs.pattern fs.work fs.announced c.args.tag c.note_edit.new.file c.self.invariant (grind arith) c.facts.ensures.fit c.facts.ensures.name
    (grind (arith, slot_facts)) (grind (arith, slot_facts))
