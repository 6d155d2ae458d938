use Rattle.std.proofs.Common.{◌≡◌, ◌∙◌, ◌+◌, ◌<◌, ap, arith, length, length-set, rules, set, slice_get, Some, sym}
use Rattle.sam_endpoint.proofs.Members.{one-more}
use Rattle.sam_handles.proofs.OverlayLaws.{member_there}
use Rattle.sam_handles.proofs.members.read_members.Goals as goal

pub loop-next-preserved : goal.loop-next-preserved
loop-next-preserved c =
    let i = c.loop-next.invariant in
    let at = c.args.place + c.loop-next.next in
    let less : at < length c.args.members = search (rules, arith) in
    let there : slice_get c.args.members at ≡ Some c.flatten.result =
    member_there c.args.members at c.at.result less (c.at.ensures.member ∙ ap (λ m. slice_get m at) i.same) ∙ ap Some (sym c.flatten.ensures) in
    let here : c.loop-next.next ≡ 0 + c.loop-next.next = omega arith in
    record {
      size = length-set _ _ _ ∙ i.size;
      same = c.at.ensures.unchanged ∙ i.same;
      now =
          one-more c.args.members c.args.place 0 c.loop-next.next c.drawn.result c.flatten.result c.args.into.now c.loop-next.into
          (set c.loop-next.into c.loop-next.next c.drawn.result) (search (rules, arith)) (search (rules, arith)) there (search rules) i.now
          (ap (λ k. set c.loop-next.into k c.drawn.result) here);
    }
