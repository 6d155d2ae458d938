use Rattle.sam_script.proofs.Common.{◌++◌, ◌∙◌, ◌<◌, ap, None, string_bytes, subst, host_slot}
use Rattle.sam_script.proofs.ShowLaws.{slots_step, slot_there}
use Rattle.sam_script.proofs.showing.push_host_files.Goals as goal

pub loop-tag-preserved : goal.loop-tag-preserved
loop-tag-preserved c =
    let within = subst (λ n. c.loop-tag.tag < n) c.tags-tag-end.ensures.count c.loop-tag-test.true in
    slots_step host_slot (string_bytes c.args.out.now) (string_bytes c.loop-tag.out) (string_bytes c.push_host_slot.new.out) c.args.files.now.plain.slots
    c.loop-tag.tag None within c.loop-tag.invariant
    (c.in_ok-push_host_slot.ensures ∙ ap (λ s. string_bytes c.loop-tag.out ++ host_slot c.loop-tag.tag s)
    (c.file.ensures.plain ∙ slot_there c.args.files.now.plain.slots c.loop-tag.tag within))
