use Rattle.sam_text.proofs.Common.{arith}
use Rattle.sam_text.proofs.KeptLaws.{kept_changed}
use Rattle.sam_text.proofs.ViewLaws.{slot_facts}
use Rattle.sam_text.proofs.files.Files.change.Goals as goal

pub invariant_of-self : goal.invariant_of-self
invariant_of-self c =
    let fs = c.self.inside in
    kept_changed fs.slots.items fs.snarf fs.pattern fs.work fs.announced c.args.tag c.change.new.self c.args.change c.self.invariant (grind arith) c.facts.ensures.fit c.facts.ensures.name c.requires.clean (grind (arith, slot_facts))
