use Rattle.std.proofs.Common.{◌≡◌, drop, length, get_or, ap, arith, length-drop, encode_utf8}
use Rattle.sam_runes.proofs.PlaceLaws.{prefix_taken, prefix_length_within, prefix_over}
use Rattle.sam_runes.proofs.places.prefix_in_bytes.Goals as goal

pub returns-then-len-left-clause-prefix : goal.returns-then-len-left-clause-prefix
returns-then-len-left-clause-prefix c =
    let t = c.args.runes.now in
    let rune : length (encode_utf8 c.index-runes-at.result) ≡ length (encode_utf8 (get_or t c.loop-at.at c.index-runes-at.result)) = ap (λ x. length (encode_utf8 x)) c.index-runes-at.is in
    grind (arith, (prefix_over t c.loop-at.left c.loop-at.at c.index-runes-at.result (omega arith) (omega (arith, rune, c.len_utf8-len.ensures.len))), (prefix_taken t c.args.most))

pub returns-clause-prefix : goal.returns-clause-prefix
returns-clause-prefix c =
    let t = c.args.runes.now in
    grind (arith, (prefix_length_within (drop c.loop-at.at t) c.loop-at.left), (prefix_length_within t c.args.most), (length-drop c.loop-at.at t), (prefix_taken t c.args.most))
