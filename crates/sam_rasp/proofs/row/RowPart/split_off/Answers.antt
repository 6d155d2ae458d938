use Rattle.sam_rasp.proofs.Common.{arith, drop, length-drop, length-take, take}
use Rattle.sam_rasp.proofs.Common.{members_of}
use Rattle.sam_rasp.proofs.Tallies.{half-tally}
use Rattle.sam_rasp.proofs.Rows.{half-members, half-length, some-drop, some-length, some-take}
use Rattle.sam_rasp.proofs.row.RowPart.split_off.Goals as goal

pub counts-len-requires : goal.counts-len-requires
counts-len-requires g c = grind (arith, (half-length g.P.Part.members c.self.inside.parts.items c.kept_of.result))

pub overflow_sub-self : goal.overflow_sub-self
overflow_sub-self g c = grind (arith, (half-length g.P.Part.members c.self.inside.parts.items c.kept_of.result))

pub minus-self-inside-requires : goal.minus-self-inside-requires
minus-self-inside-requires g c =
    let f = g.P.Part.members in
    let xs = c.self.inside.parts.items in
    let h = c.kept_of.result in
    (half-tally (members_of f xs) (members_of f (take h xs)) (members_of f (drop h xs)) c.self.inside.tally c.counts-len.result.1 (half-members f xs h) (grind arith)
    (grind arith)).0

pub invariant_of-self-2 : goal.invariant_of-self-2
invariant_of-self-2 g c =
    let f = g.P.Part.members in
    let xs = c.self.inside.parts.items in
    let h = c.kept_of.result in
    let half =
    half-tally (members_of f xs) (members_of f (take h xs)) (members_of f (drop h xs)) c.self.inside.tally c.counts-len.result.1 (half-members f xs h) (grind arith)
    (grind arith) in
    grind (arith, half, (half-length f xs h), (some-take f xs h))

pub invariant_of-result : goal.invariant_of-result
invariant_of-result g c =
    let xs = c.self.inside.parts.items in
    let h = c.kept_of.result in
    grind (arith, (half-length g.P.Part.members xs h), (some-drop g.P.Part.members xs h))

pub returns-clause-ok : goal.returns-clause-ok
returns-clause-ok g c =
    let f = g.P.Part.members in
    let xs = c.self.inside.parts.items in
    let h = c.kept_of.result in
    grind (
      arith,
      (half-members f xs h),
      (some-take f xs h),
      (some-drop f xs h),
      (some-length f (take h xs)),
      (some-length f (drop h xs)),
      (length-take h xs),
      (length-drop h xs),
    )
