use Rattle.sam_runes.proofs.Common.{length-encode, common_steps, arith, length, length-drop, between_to_end}
use Rattle.std.proofs.lemmas.Bool.Decides.{nat_tests}
use Rattle.sam_runes.proofs.Codes.{read-more, left-none}
use Rattle.sam_runes.proofs.codec.read_utf8.Goals as goal

pub returns-in_default-first_rune : goal.returns-in_default-first_rune
returns-in_default-first_rune c = left-none c.loop-rest.runes.items c.args.bytes.now c.loop-rest.rest.now c.loop-rest.invariant c.in_default-first_rune.ensures (grind (arith, nat_tests))

pub loop-rest-smaller : goal.loop-rest-smaller
loop-rest-smaller c = grind (arith, between_to_end, length-encode, length-drop)

pub loop-rest-preserved : goal.loop-rest-preserved
loop-rest-preserved c =
    let l = c.loop-rest in
    rw c.in-Ok-push.ensures.items
    (read-more l.runes.items l.rest.now _ c.args.bytes.now c.in-Some.rune c.in-Some.len l.invariant c.in-Some.ensures.1 (between_to_end l.rest.now c.in-Some.len (length l.rest.now) (omega arith)))

pub returns : goal.returns
returns c = grind (arith, common_steps, nat_tests)
