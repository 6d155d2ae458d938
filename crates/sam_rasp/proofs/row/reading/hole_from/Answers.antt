use Rattle.sam_rasp.proofs.Common.{arith, ◌+◌, true, false}
use Rattle.sam_rasp.specs.Rasp.{sort_from}
use Rattle.sam_rasp.specs.Rows.{members_of}
use Rattle.sam_rasp.proofs.Rows.{hole-after, hole-here, hole-on, length-first}
use Rattle.sam_rasp.proofs.row.reading.hole_from.Goals as goal

pub returns-then-at-more-clause-runes : goal.returns-then-at-more-clause-runes
returns-then-at-more-clause-runes g c =
    let found = c.hole_from-more.result in
    grind (arith, (hole-here g.P.Part.members c.in-Some.first.now c.in-Some.others.now c.loop-first.at found.0 found.1))

pub returns-then-at-more-clause-gaps : goal.returns-then-at-more-clause-gaps
returns-then-at-more-clause-gaps g c =
    let found = c.hole_from-more.result in
    grind (arith, (hole-here g.P.Part.members c.in-Some.first.now c.in-Some.others.now c.loop-first.at found.0 found.1))

pub returns-then-gaps-gt0-clause-runes : goal.returns-then-gaps-gt0-clause-runes
returns-then-gaps-gt0-clause-runes g c =
    let found = c.hole_from-more.result in
    grind (arith, (hole-on g.P.Part.members c.in-Some.first.now c.in-Some.others.now c.loop-first.at found.0 found.1))

pub returns-then-gaps-gt0-clause-gaps : goal.returns-then-gaps-gt0-clause-gaps
returns-then-gaps-gt0-clause-gaps g c =
    let found = c.hole_from-more.result in
    grind (arith, (hole-on g.P.Part.members c.in-Some.first.now c.in-Some.others.now c.loop-first.at found.0 found.1))

pub loop-first-preserved : goal.loop-first-preserved
loop-first-preserved g c =
    let f = g.P.Part.members in
    let first = c.in-Some.first.now in
    let others = c.in-Some.others.now in
    let k = c.saturating_sub-at.result in
    let r = c.hole_from-more.result.0 in
    let m = sort_from true (members_of f others) k in
    let n = sort_from false (members_of f others) (k + m) in
    let on = hole-after f first others c.loop-first.at k r m n in
    (grind (arith, on), grind (arith, on), grind (arith, length-first f first others))
