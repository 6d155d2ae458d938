use Rattle.std.proofs.Common.{◌<◌, ◌≤◌, ◌⊎◌, arith, inl, inr}
use Rattle.std.proofs.lemmas.Bool.{cases_lt}
use Rattle.sam_handles.proofs.OverlayLaws.{no_event}
use Rattle.sam_handles.proofs.event.event_of.Goals as goal

pub returns-in_default-clause-named : goal.returns-in_default-clause-named
returns-in_default-clause-named c =
    let kind = c.args.event.now.kind in
    let outside : (kind < 1) ⊎ (25 ≤ kind) =
    elim (cases_lt kind 1) [ inl lt ↦ inl lt | inr le ↦ elim (cases_lt 24 kind) [ inl past ↦ inr past | inr before ↦ absurd (omega arith) ] ] in
    no_event c.args.event.now c.args.text outside
