use Rattle.std.proofs.Common.{◌+◌, ◌*◌, ◌-◌, get_or, refl, arith}
use Rattle.sam_runes.proofs.FirstRunes.{none_begins, none_left, decoded, spelled_4}
use Rattle.sam_runes.proofs.first.rune_of_four.Goals as goal

pub returns-in_default : goal.returns-in_default
returns-in_default c = none_begins c.args.bytes.now (λ r is b. omega (arith, b.fourth (omega arith)))

pub returns-in_err-tail : goal.returns-in_err-tail
returns-in_err-tail c = none_left c.from_residual.result _ _ c.from_residual.ensures (none_begins c.args.bytes.now (λ r is b. omega (arith, c.in_err-tail.ensures, b.second (omega arith))))

pub returns-in_err-tail-2 : goal.returns-in_err-tail-2
returns-in_err-tail-2 c = none_left c.from_residual-in_err-tail-2.result
    _ _ c.from_residual-in_err-tail-2.ensures (none_begins c.args.bytes.now (λ r is b. omega (arith, c.in_err-tail-2.ensures, b.third (omega arith))))

pub returns-in_err-code : goal.returns-in_err-code
returns-in_err-code c = none_left c.from_residual-in_err-code.result
    _ _ c.from_residual-in_err-code.ensures (none_begins c.args.bytes.now (λ r is b. omega (arith, c.in_err-code.ensures, b.fourth (omega arith))))

pub returns-then-code-lt65536 : goal.returns-then-code-lt65536
returns-then-code-lt65536 c = none_begins c.args.bytes.now (λ r is b. omega (arith, c.in_ok-tail.ensures, c.in_ok-tail-2.ensures, c.in_ok-code.ensures, b.of_four (omega arith)))

pub returns : goal.returns
returns c =
    let bytes = c.args.bytes.now in
    let s = c.in_ok-tail.field-0 in
    let t = c.in_ok-tail-2.field-0 in
    let u = c.in_ok-code.field-0 in
    decoded bytes 4 ((((get_or bytes 0 0 - 240) * 64 + s) * 64 + t) * 64 + u) c.from_u32.result c.from_u32.ensures.value c.in-len4-up.len_at_least
    (spelled_4 bytes s t u _ c.in-len4-up.len_at_least c.requires.least c.in_ok-tail.ensures c.in_ok-tail-2.ensures c.in_ok-code.ensures refl (omega arith))
    (λ r b. omega (arith, c.in_ok-tail.ensures, c.in_ok-tail-2.ensures, c.in_ok-code.ensures, b.of_four (omega arith)))
