use Rattle.std.proofs.Common.{◌≡◌, arith, [], ◌∷◌}
use Rattle.sam_overlay.proofs.OutcomeLaws.{tells_filled}
use Rattle.sam_overlay.proofs.outcome.rasp_filling.Goals as goal

pub returns : goal.returns
returns c =
    let one : c.push.new.self.items ≡ record { place = c.args.place; from = 0; count = c.args.count } ∷ [] = grind arith in
    tells_filled c.args.place c.args.count c.push.new.self one
