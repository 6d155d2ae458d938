use Rattle.sam_queue.proofs.Common.{[], ◌∷◌, subst, arith, length-append, rules, view, Held, Port, Takes, Whole, seen_in}
use Rattle.sam_queue.proofs.Drains.{full_wholes, full_takes, full_still, full_more, full_begins_still, full_until, full_drained}
use Rattle.sam_queue.proofs.auditing.drain.Goals as goal

pub len_as-held-requires-clause-rule : goal.len_as-held-requires-clause-rule
len_as-held-requires-clause-rule g c = search (rules, arith, full_wholes)

pub pop_as-requires-clause-rule : goal.pop_as-requires-clause-rule
pop_as-requires-clause-rule g c =
    let full = full_still (view c.args.pass.now) c.loop.entries.items (seen_in (view c.loop.pass)) c.requires.knows in
    rw c.loop.invariant.knows (full_takes _ _ full, full_wholes _ _ full)

pub unreachable-requires : goal.unreachable-requires
unreachable-requires g c =
    let none = subst (λ (v : Port g.row.T.Denot). Held 0 (Whole v)) c.loop.invariant.knows c.in-None.ensures.rule.1 in
    let n = full_until (view c.args.pass.now) c.loop.entries.items (seen_in (view c.loop.pass)) c.len_as-held.result c.requires.knows c.len_as-held.ensures.rule.1 none in
    omega (arith, n, c.loop.invariant.many, c.loop-test.true)

pub loop-preserved : goal.loop-preserved
loop-preserved g c =
    let inv = c.loop.invariant in
    let e = c.in-Some.entry in
    let w = view c.pop_as.new.pass in
    let v = view c.args.pass.now in
    let took = subst (λ (u : Port g.row.T.Denot). Takes u e w) inv.knows c.in-Some.ensures.rule in
    let pushed = c.push_reserved.ensures.items in
    grind (
      arith,
      (full_more v c.loop.entries.items (seen_in (view c.loop.pass)) _ e w c.requires.knows took pushed),
      (full_begins_still v c.loop.entries.items (seen_in (view c.loop.pass)) (seen_in v) e w c.requires.knows took inv.begins),
      (length-append c.loop.entries.items (e ∷ [])),
    )

pub learn_as-requires-clause-rule : goal.learn_as-requires-clause-rule
learn_as-requires-clause-rule g c =
    let full = full_still (view c.args.pass.now) c.loop.entries.items (seen_in (view c.loop.pass)) c.requires.knows in
    rw c.loop.invariant.knows (full_wholes _ _ full)

pub returns-clause-all : goal.returns-clause-all
returns-clause-all g c =
    let inv = c.loop.invariant in
    let rule = c.learn_as.ensures.rule in
    full_drained (view c.args.pass.now) c.loop.entries.items (seen_in (view c.loop.pass)) c.len_as-held.result c.requires.knows inv.begins c.len_as-held.ensures.rule.1
    (omega (arith, inv.many, c.loop-test.false, c.loop.auto.counter-end)) (rule.0, subst (λ (u : Port g.row.T.Denot). Whole u rule.0) inv.knows rule.1)
