-- What durable records let pass.
use Rattle.std.proofs.Common.{◌≡◌, ℕ, suc, zero, ◌-◌, ◌<◌, List, [], ◌∷◌, length, refl, ap, ◌∙◌, arith}
use Rattle.sam_server.specs.Gates.{passed}
use Rattle.sam_server.specs.declared.gate.Mark.{Mark}

-- one passes
pub passed_on : (count : ℕ) (base mark : Mark) (all marks : List Mark) → 0 < count → all ≡ mark ∷ marks
    → passed count base all ≡ passed (count - 1) mark marks
passed_on zero base mark all marks some is = absurd (omega (arith, some))
passed_on (suc n) base mark all marks some is =
    let less : n ≡ suc n - 1 = omega arith in ap (λ l. passed (suc n) base l) is ∙ ap (λ k. passed k mark marks) less

pub passed_none : (base : Mark) (marks : List Mark) → passed 0 base marks ≡ record { base = base; waiting = marks }
passed_none base marks = refl

pub passed_all : (count : ℕ) (base : Mark) (marks : List Mark) → length marks ≡ 0 → passed count base marks ≡ record { base = base; waiting = marks }
passed_all zero base marks none = refl
passed_all (suc n) base [] none = refl
passed_all (suc n) base (mark ∷ marks) none = absurd (omega (arith, none))

pub ruleset passed_facts = (passed_on, passed_none, passed_all)
