use Rattle.sam_text.proofs.Common.{arith}
use Rattle.sam_text.proofs.KeptLaws.{kept_lent}
use Rattle.sam_text.proofs.ViewLaws.{slot_facts}
use Rattle.sam_text.proofs.files.Files.change_text.Goals as goal

pub invariant_of-self : goal.invariant_of-self
invariant_of-self c =
    let fs = c.self.inside in
    kept_lent fs.slots.items fs.snarf fs.pattern fs.work fs.announced c.args.tag c.change_text-count.new.self c.self.invariant (grind arith) c.facts.ensures.fit c.facts.ensures.name
    (λ e. absurd (omega (arith, e, c.requires.other))) (λ told. grind (arith, slot_facts))
