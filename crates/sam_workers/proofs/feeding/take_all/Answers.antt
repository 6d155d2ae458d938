use Rattle.sam_workers.proofs.Common.{◌≡◌, ◌∷◌, ◌++◌, [], List, ◌∙◌, ap, sym, subst, append_assoc, All, IsTrue, rules, All-tail, into_iter_items, fits_h, HFrame}
use Rattle.sam_workers.proofs.Feeds.{one_more}
use Rattle.sam_workers.proofs.feeding.take_all.Goals as goal

pub loop-frame-preserved : goal.loop-frame-preserved
loop-frame-preserved c =
    let i = c.loop-frame.invariant in
    let P : HFrame → Type 0 = λ f. IsTrue (fits_h 2 f.msg) in
    let left : into_iter_items c.loop-frame.frame-iterator ≡ c.in-Some.frame ∷ into_iter_items c.next.new.self = search rules in
    record {
      fit = All-tail P c.in-Some.frame _ (subst (λ (l : List HFrame). All P l) left i.fit);
      left = i.left ∙ ap (λ (l : List HFrame). c.loop-frame.yielded ++ l) left ∙ sym (append_assoc c.loop-frame.yielded (c.in-Some.frame ∷ []) (into_iter_items c.next.new.self));
      took = one_more _ _ _ _ _ _ _ i.took c.in_default.ensures;
    }
