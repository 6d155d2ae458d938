use Rattle.std.proofs.Common.{◌≡◌, sym, subst, None, false, arith}
use Rattle.sam_runes.specs.Slots.{slot}
use Rattle.sam_overlay.specs.Outcomes.{SaysLeft}
use Rattle.sam_overlay.proofs.QueueLaws.{none_left}
use Rattle.sam_overlay.proofs.layers.Layers.is_left.Goals as goal

pub returns-in-None : goal.returns-in-None
returns-in-None c =
    let none : slot c.args.self.now c.args.tag ≡ None = grind (arith, c.at.ensures, c.in-None.is) in
    subst (λ o. SaysLeft c.args.up_to o false) (sym none) (none_left c.args.up_to)
