use Rattle.sam_modes.proofs.Common.{ap, ap₂, ◌∙◌, IfOk-weaker, App, Shape, with_subcommand}
use Rattle.sam_modes.proofs.words.command.Goals as goal

abbrev top : App → Shape
top a = a.top

pub returns : goal.returns
returns c =
    let bytes = c.in_ok-bytes.ensures in
    let threads = c.in_ok-threads.ensures in
    let first_is = c.in_ok-subcommand.ensures.shape bytes.1 ∙ ap₂ with_subcommand c.bare_command.ensures.app (ap top bytes.0) in
    let second_is = c.in_ok-subcommand-2.ensures.shape c.command_named-replay.ensures.local ∙ ap₂ with_subcommand first_is (ap top c.command_named-replay.ensures.app) in
    IfOk-weaker c.subcommand-3.result _ _ (λ m h. h.shape threads.1 ∙ ap₂ with_subcommand second_is (ap top threads.0)) c.subcommand-3.ensures
