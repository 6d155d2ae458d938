use Rattle.sam_term.proofs.Common.{ℕ, ◌-◌, arith, append-nil, append_assoc, most_requests}
use Rattle.sam_term.proofs.Loads.{stretch-in, stretches-next, stretches-none, stretches-over}
use Rattle.sam_term.proofs.loading.put_stretches.Goals as goal

pub returns-in_default : goal.returns-in_default
returns-in_default c =
    let l = c.loop in
    grind (arith, append-nil, (stretches-none c.args.rasp.now l.place c.args.range.1 (most_requests - l.counter)), l.invariant.messages, c.in_default.ensures.stretch)

pub put-requires : goal.put-requires
put-requires c =
    let l = c.loop in
    let next = stretches-next c.args.rasp.now l.place c.args.range.1 most_requests l.counter (c.in-Some.start, c.in-Some.asked)
    (grind (arith, c.loop-test.true)) (grind (arith, c.in-Some.ensures.stretch)) in
    grind (arith, next, l.invariant.room)

pub loop-preserved : goal.loop-preserved
loop-preserved c =
    let r = c.args.rasp.now in
    let l = c.loop in
    let s : ℕ × ℕ = (c.in-Some.start, c.in-Some.asked) in
    let next = stretches-next r l.place c.args.range.1 most_requests l.counter s (grind (arith, c.loop-test.true)) (grind (arith, c.in-Some.ensures.stretch)) in
    let here = stretch-in r l.place c.args.range.1 s l.invariant.within c.requires.within (grind (arith, c.in-Some.ensures.stretch)) in
    record {
      within = here.2;
      messages = grind (arith, append_assoc, next, l.invariant.messages, c.put.ensures.messages);
      room = grind (arith, next, l.invariant.room, c.put.ensures.room);
    }

pub returns : goal.returns
returns c =
    let l = c.loop in
    grind (arith, append-nil, (stretches-over c.args.rasp.now l.place c.args.range.1 (most_requests - l.counter)), l.invariant.messages, c.loop-test.false)
