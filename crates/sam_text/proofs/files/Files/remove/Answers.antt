use Rattle.sam_text.proofs.Common.{◌≡◌, sym, subst, length, length-map_slots, length-free_slot, free_slot, AreAnnounced, arith, PlainFiles, plain_slots}
use Rattle.sam_text.proofs.KeptLaws.{kept_free, announced_free}
use Rattle.sam_text.proofs.files.Files.remove.Goals as goal

pub invariant_of-self : goal.invariant_of-self
invariant_of-self c =
    let fs : PlainFiles = record { slots = plain_slots c.self.inside.slots.items; snarf = c.self.inside.snarf; pattern = c.self.inside.pattern; work = c.self.inside.work } in
    let sound = kept_free fs c.args.tag c.self.invariant.0 c.requires in
    let told = announced_free c.self.inside.announced fs.slots c.args.tag c.self.invariant.3 in
    let put : plain_slots c.free_in.new.slots.items ≡ free_slot fs.slots c.args.tag = c.free_in.ensures.plain in
    let len : length c.free_in.new.slots.items ≡ length c.self.inside.slots.items = grind (arith, put, length-map_slots, length-free_slot) in
    (grind arith, c.self.invariant.1, omega (arith, len, c.self.invariant.2), subst (λ s. AreAnnounced c.self.inside.announced s) (sym put) told)
