use Rattle.sam_text.proofs.Common.{◌≡◌, ◌<◌, sym, subst, arith, length, length-map_slots, slot_given, announce_all, AreAnnounced, PlainFiles, AreSoundFiles, plain_slots}
use Rattle.sam_text.proofs.KeptLaws.{kept_announce, announced_all}
use Rattle.sam_text.proofs.files.Files.announce_all.Goals as goal

pub invariant_of-self : goal.invariant_of-self
invariant_of-self c =
    let fs : PlainFiles = record { slots = plain_slots c.self.inside.slots.items; snarf = c.self.inside.snarf; pattern = c.self.inside.pattern; work = c.self.inside.work } in
    let sound = kept_announce fs c.self.invariant.0 in
    let after = c.announce_in.new.slots.items in
    let put : plain_slots after ≡ announce_all fs.slots = c.announce_in.ensures.plain in
    let given : 0 < length after = grind (arith, put, length-map_slots, slot_given (announce_all fs.slots) 0 sound.1) in (
      subst (λ ss. AreSoundFiles (record fs { slots = ss })) (sym put) sound,
      grind (arith, given),
      grind arith,
      subst (λ s. AreAnnounced c.len-self-inside.result s) (sym put) (announced_all c.len-self-inside.result fs.slots),
    )
