use Rattle.sam_script.proofs.Common.{◌≡◌, ◌≢◌, ◌⊎◌, length, arith, true, chars, YieldsList-turn, YieldsList-end, length_push}
use Rattle.std.proofs.lemmas.Iterator.{YieldsList-from_chars}
use Rattle.sam_script.proofs.WordLaws.{turn_escape, turn_rune, turn_fails, turns_end}
use Rattle.sam_script.proofs.words.unescape.Goals as goal

pub loop-rune-preserved-then-not-is_escaped : goal.loop-rune-preserved-then-not-is_escaped
loop-rune-preserved-then-not-is_escaped c =
    let t = YieldsList-turn (YieldsList-from_chars c.args.escaped.now c.utf8.escaped cc) c.loop-rune.yielded _ c.loop-rune.yielded_by _ _ c.in-Some.rune c.in-Some.is c.next.ensures.steps in
    let n = length_push c.loop-rune.yielded c.in-Some.rune in
    grind (arith, n, t, (turn_escape c.loop-rune.runes.items (chars c.args.escaped.now) (chars c.args.escaped.now) (length c.loop-rune.yielded) c.in-Some.rune))

pub returns-in_default : goal.returns-in_default
returns-in_default c =
    let t = YieldsList-turn (YieldsList-from_chars c.args.escaped.now c.utf8.escaped cc) c.loop-rune.yielded _ c.loop-rune.yielded_by _ _ c.in-Some.rune c.in-Some.is c.next.ensures.steps in
    let plain : ((c.in-Some.rune ≡ 92) × (c.loop-rune.is_escaped ≡ true)) ⊎ (c.in-Some.rune ≢ 92) = grind (arith, c.else-rune-eq92.branch) in
    turn_fails c.loop-rune.runes.items (chars c.args.escaped.now) (chars c.args.escaped.now) c.loop-rune.is_escaped (length c.loop-rune.yielded) c.in-Some.rune
    c.loop-rune.invariant t plain cc

pub loop-rune-preserved : goal.loop-rune-preserved
loop-rune-preserved c =
    let t = YieldsList-turn (YieldsList-from_chars c.args.escaped.now c.utf8.escaped cc) c.loop-rune.yielded _ c.loop-rune.yielded_by _ _ c.in-Some.rune c.in-Some.is c.next.ensures.steps in
    let n = length_push c.loop-rune.yielded c.in-Some.rune in
    let plain : ((c.in-Some.rune ≡ 92) × (c.loop-rune.is_escaped ≡ true)) ⊎ (c.in-Some.rune ≢ 92) = grind (arith, c.else-rune-eq92.branch) in
    let turn = turn_rune c.loop-rune.runes.items (chars c.args.escaped.now) (chars c.args.escaped.now) c.loop-rune.is_escaped (length c.loop-rune.yielded) c.in-Some.rune in
    grind (arith, n, t, plain, c.in_ok-push.ensures.items, turn)

pub returns-then-is_escaped : goal.returns-then-is_escaped
returns-then-is_escaped c =
    let t = YieldsList-end (YieldsList-from_chars c.args.escaped.now c.utf8.escaped cc) c.loop-rune.yielded _ c.loop-rune.yielded_by _ _ c.in-None.is c.next.ensures.steps in
    grind (arith, t, (turns_end c.loop-rune.runes.items (chars c.args.escaped.now)))

pub returns : goal.returns
returns c =
    let t = YieldsList-end (YieldsList-from_chars c.args.escaped.now c.utf8.escaped cc) c.loop-rune.yielded _ c.loop-rune.yielded_by _ _ c.in-None.is c.next.ensures.steps in
    grind (arith, t, (turns_end c.loop-rune.runes.items (chars c.args.escaped.now)))
