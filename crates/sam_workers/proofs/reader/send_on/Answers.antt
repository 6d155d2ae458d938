use Rattle.sam_workers.proofs.Common.{rules, ◌≡◌, ◌∷◌, ◌++◌, ◌+◌, [], List, length, length-append, map-append, arith, append_assoc, with_item, sent_on, PostView, HFrame, Input}
use Rattle.sam_ends.proofs.GateLaws.{let_on_one}
use Rattle.sam_ends.specs.declared.input.Input.TheVariants.{Host}
use Rattle.sam_workers.proofs.reader.send_on.Goals as goal

-- a frame more
one_more : (p q r : PostView Input) (fs : List HFrame) (f : HFrame) → q ≡ sent_on p fs → r ≡ with_item q (Host f) → r ≡ sent_on p (fs ++ f ∷ [])
one_more p q r fs f before sent = grind (arith, append_assoc, map-append)

pub loop-frame-preserved : goal.loop-frame-preserved
loop-frame-preserved g c =
    let i = c.loop-frame.invariant in
    let sent : c.send.new.self ≡ with_item c.loop-frame.post (Host c.in-Some.frame) = search rules in
    let grown : length c.send.new.self.put ≡ length c.loop-frame.post.put + 1 = grind (arith, length-append) in
    record {
      sent = one_more _ _ _ _ _ i.sent sent;
      left = grind (arith, append_assoc);
      counted = omega (arith, i.counted, grown, c.saturating_add.ensures);
      let_on = let_on_one (g.G.Gate.must_refuse c.args.gate.now 3) _ _ _ _ i.let_on i.counted (search rules) (omega (arith, grown));
    }
