use Rattle.std.proofs.Common.{◌≡◌, ◌∙◌, ◌<◌, ap, arith, length, map, refl, rules, slice_get, Some, sym}
use Rattle.std.proofs.lemmas.List.{length-map}
use Rattle.std.proofs.lemmas.Option.{slice_get_read}
use Rattle.sam_overlay.specs.Calls.{IsShownFrom, shown_at}
use Rattle.sam_handles.proofs.OverlayLaws.{waiting_first}
use Rattle.sam_handles.proofs.members.Members.at.Goals as goal

pub returns-in-Waiting-clause-member : goal.returns-in-Waiting-clause-member
returns-in-Waiting-clause-member c =
    let text = shown_at c.in-Some.overlay.now c.in-Some.tag in
    let runes = c.in-Waiting.runes.now in
    let shown : IsShownFrom c.args.place text (map Some runes) = search rules in
    let more : 0 < length runes = grind (arith, length-map, shown.0) in
    let first : slice_get runes 0 ≡ Some c.index-runes-0.result =
    slice_get_read runes (length runes) 0 c.index-runes-0.result refl more (search rules) in
    let is : c.args.self.now ≡ text = search rules in
    sym (ap (λ t. slice_get t c.args.place) is ∙ waiting_first c.args.place text runes c.index-runes-0.result shown first)
