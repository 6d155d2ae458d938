use Rattle.std.proofs.Common.{sym, subst}
use Rattle.sam_overlay.specs.Requests.{AreAsked}
use Rattle.sam_overlay.proofs.MarkLaws.{marked_asked}
use Rattle.sam_overlay.proofs.request.RequestQueue.put_marks.Goals as goal

pub invariant_of-self : goal.invariant_of-self
invariant_of-self c =
    subst AreAsked (sym c.put_all_marks.ensures) (marked_asked c.args.marks.now c.self.inside.waiting.items c.self.invariant)
