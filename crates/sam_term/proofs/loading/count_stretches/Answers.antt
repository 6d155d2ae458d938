use Rattle.sam_term.proofs.Common.{ℕ, ◌-◌, arith, most_requests}
use Rattle.sam_term.proofs.Loads.{stretch-in, stretches-next, stretches-over}
use Rattle.sam_term.proofs.loading.count_stretches.Goals as goal

pub loop-count-preserved : goal.loop-count-preserved
loop-count-preserved c =
    let r = c.args.rasp.now in
    let l = c.loop-count in
    let s : ℕ × ℕ = (c.in-Some.start, c.in-Some.asked) in
    let next = stretches-next r l.place c.args.q most_requests l.count s (grind (arith, c.loop-count-test.true)) (grind (arith, c.in-Some.ensures.stretch)) in
    let here = stretch-in r l.place c.args.q s l.invariant.within c.requires.within (grind (arith, c.in-Some.ensures.stretch)) in
    record { within = here.2; count = grind (arith, next, l.invariant.count) }

pub returns-clause-all : goal.returns-clause-all
returns-clause-all c =
    let l = c.loop-count in
    grind (arith, (stretches-over c.args.rasp.now l.place c.args.q (most_requests - l.count)), l.invariant.count, c.loop-count-test.false)
