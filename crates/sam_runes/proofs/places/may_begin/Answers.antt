use Rattle.sam_runes.proofs.Common.{◌+◌, ◌-◌, ◌∙◌, sym, length, get_or_default_zero, arith}
use Rattle.sam_runes.proofs.PlaceSteps.{occurs-in}
use Rattle.sam_runes.proofs.places.may_begin.Goals as goal

pub returns : goal.returns
returns c =
    let t = c.args.runes.now in
    let lit = c.args.lit.now in
    let reach = length lit - 1 in
    let first = c.index-lit-0.is ∙ get_or_default_zero lit 0 c.index-lit-0.result (omega arith) in
    let last = c.index-lit-reach.is ∙ get_or_default_zero lit reach c.index-lit-reach.result (omega arith) in
    λ e p after less there. c.have_both.ensures e (p - c.args.from) (grind arith)
    (occurs-in t lit p 0 c.args.from (p - c.args.from) (c.args.to - c.args.from) there (omega arith) (omega arith) (omega arith) ∙ sym first)
    (occurs-in t lit p reach (c.args.from + reach) (p - c.args.from) ((c.args.to + reach) - (c.args.from + reach)) there (omega arith) (omega arith) (omega arith) ∙ sym last)
