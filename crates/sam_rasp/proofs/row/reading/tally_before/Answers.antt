use Rattle.sam_rasp.proofs.Common.{arith, ◌-◌}
use Rattle.sam_rasp.specs.Rows.{members_of}
use Rattle.sam_rasp.proofs.Rows.{length-first}
use Rattle.sam_rasp.proofs.Tallies.{before-all, before-here, before-on, front-fits}
use Rattle.sam_rasp.proofs.row.reading.tally_before.Goals as goal

pub plus-requires : goal.plus-requires
plus-requires g c =
    let f = g.P.Part.members in
    (before-here (f c.in-Some.first.now) (members_of f c.in-Some.others.now) (members_of f c.args.parts.now) c.loop-first.tally c.tally_before.result c.loop-first.at
    c.args.p (grind arith) (grind arith) (grind arith) (grind arith)).0

pub returns-then-at-len : goal.returns-then-at-len
returns-then-at-len g c =
    let f = g.P.Part.members in
    let sum =
    (before-here (f c.in-Some.first.now) (members_of f c.in-Some.others.now) (members_of f c.args.parts.now) c.loop-first.tally c.tally_before.result c.loop-first.at
    c.args.p (grind arith) (grind arith) (grind arith) (grind arith)).1 in
    grind (arith, sum)

pub plus-tally-requires : goal.plus-tally-requires
plus-tally-requires g c =
    let f = g.P.Part.members in
    front-fits (f c.in-Some.first.now) (members_of f c.in-Some.others.now) (members_of f c.args.parts.now) c.loop-first.tally c.tally.result (grind arith) (grind arith)
    (grind arith)

pub loop-first-preserved : goal.loop-first-preserved
loop-first-preserved g c =
    let f = g.P.Part.members in
    let first = f c.in-Some.first.now in
    let others = members_of f c.in-Some.others.now in
    let at = c.loop-first in
    let on = before-on first others at.tally c.tally.result at.at (at.at - c.len-len.result) (grind arith) (grind arith) in
    let all = before-all first others at.tally c.tally.result (grind arith) in
    (grind (arith, on), grind (arith, all), grind (arith, length-first f c.in-Some.first.now c.in-Some.others.now))
