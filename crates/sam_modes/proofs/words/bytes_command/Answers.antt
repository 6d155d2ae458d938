use Rattle.sam_modes.proofs.Common.{rules, ap₂, ◌∙◌, Bool, ◌||◌, IfOk-weaker, with_rule}
use Rattle.sam_modes.proofs.words.bytes_command.Goals as goal

abbrev either : Bool → Bool → Bool
either a b = a || b

pub returns : goal.returns
returns c =
    IfOk-weaker c.arg.result _ _
    (λ m h. (
      h.shape (search rules) ∙ ap₂ with_rule c.command_named.ensures.app c.option_named-text.ensures.rule,
      h.globals ∙ ap₂ either c.command_named.ensures.local c.option_named-text.ensures.local,
    ))
    c.arg.ensures
