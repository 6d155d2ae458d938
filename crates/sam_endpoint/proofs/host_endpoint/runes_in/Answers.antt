use Rattle.sam_endpoint.proofs.Common.{ap, ◌∙◌, length, List, ℕ, chars, is_utf8-from_IsUtf8}
use Rattle.sam_endpoint.proofs.HostEndpointFiles.{not_text}
use Rattle.sam_endpoint.proofs.host_endpoint.runes_in.Goals as goal

pub returns-in-Ok : goal.returns-in-Ok
returns-in-Ok c = (is_utf8-from_IsUtf8 _ c.in-Ok.ensures.cases.1, c.count_runes.ensures ∙ ap (λ (x : List ℕ). length (chars x)) c.in-Ok.ensures.cases.0)

pub returns-in-Err : goal.returns-in-Err
returns-in-Err c = not_text c.args.bytes.now c.in-Err.ensures.cases.0
