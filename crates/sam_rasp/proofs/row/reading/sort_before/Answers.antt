use Rattle.sam_rasp.proofs.Common.{arith}
use Rattle.sam_rasp.specs.Rasp.{sort_before}
use Rattle.sam_rasp.specs.Rows.{members_of}
use Rattle.sam_rasp.proofs.Rows.{before-last, before-others, length-push}
use Rattle.sam_rasp.proofs.row.reading.sort_before.Goals as goal

pub returns-then-at-start-clause-count : goal.returns-then-at-start-clause-count
returns-then-at-start-clause-count g c =
    let last = c.in-Some.last.now in
    let at = c.loop-last in
    grind (arith, (before-last g.P.Part.members c.args.loaded at.rest.now c.in-Some.others.now last at.at at.start c.len-start.result c.sort_before-more.result))

pub loop-last-preserved : goal.loop-last-preserved
loop-last-preserved g c =
    let f = g.P.Part.members in
    let others = c.in-Some.others.now in
    let last = c.in-Some.last.now in
    let at = c.loop-last in
    let more = c.sort_before-more.result in
    let left = sort_before c.args.loaded (members_of f others) c.min-at.result in
    let push = length-push f others last in (
      grind (arith, push),
      grind arith,
      grind arith,
      grind (arith, (before-others f c.args.loaded at.rest.now others last at.at at.start c.len-start.result more left)),
    )
