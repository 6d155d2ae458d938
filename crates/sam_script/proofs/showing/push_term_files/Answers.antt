use Rattle.sam_script.proofs.Common.{◌++◌, ◌∙◌, ap, arith, string_bytes, term_slot}
use Rattle.sam_script.proofs.ShowLaws.{slots_step}
use Rattle.sam_script.proofs.showing.push_term_files.Goals as goal

pub loop-tag-preserved : goal.loop-tag-preserved
loop-tag-preserved c =
    slots_step term_slot (string_bytes c.args.out.now) (string_bytes c.loop-tag.out) (string_bytes c.push_term_slot.new.out) c.args.files.now
    c.loop-tag.tag c.index-files-tag.result (omega (arith, c.loop-tag-test.true)) c.loop-tag.invariant
    (c.in_ok-push_term_slot.ensures ∙ ap (λ s. string_bytes c.loop-tag.out ++ term_slot c.loop-tag.tag s) c.index-files-tag.is)
