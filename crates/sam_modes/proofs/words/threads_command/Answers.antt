use Rattle.sam_modes.proofs.Common.{rules, ap₂, ◌∙◌, Bool, ◌||◌, IfOk-weaker, with_rule}
use Rattle.sam_modes.proofs.words.threads_command.Goals as goal

abbrev either : Bool → Bool → Bool
either a b = a || b

pub returns : goal.returns
returns c =
    let cut_local = c.in_ok-cut.ensures.globals ∙ ap₂ either c.command_named.ensures.local c.option_named-piece.ensures.local in
    let cut_is = c.in_ok-cut.ensures.shape (search rules) ∙ ap₂ with_rule c.command_named.ensures.app c.option_named-piece.ensures.rule in
    IfOk-weaker c.arg-2.result _ _
    (λ m h. (
      h.shape (search rules) ∙ ap₂ with_rule cut_is c.option_named-cap.ensures.rule,
      h.globals ∙ ap₂ either cut_local c.option_named-cap.ensures.local,
    ))
    c.arg-2.ensures
