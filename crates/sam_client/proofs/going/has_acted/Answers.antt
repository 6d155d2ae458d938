use Rattle.std.proofs.Common.{◌∙◌, sym, ap, option_copied}
use Rattle.sam_client.proofs.NoteLaws.{left_over}
use Rattle.sam_client.proofs.going.has_acted.Goals as goal

pub returns-in-None-first_frame : goal.returns-in-None-first_frame
returns-in-None-first_frame c =
    left_over c.args.end.now c.is_idle.result (sym c.stopped.ensures ∙ c.in-None.is)
    (sym c.first_frame.ensures ∙ ap option_copied c.in-None-first_frame.is) c.is_idle.ensures
