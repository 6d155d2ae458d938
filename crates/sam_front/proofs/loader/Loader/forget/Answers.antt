use Rattle.std.proofs.Common.{subst, sym}
use Rattle.sam_front.specs.Loader.{AreOnce}
use Rattle.sam_front.proofs.LoaderLaws.{once_without}
use Rattle.sam_front.proofs.loader.Loader.forget.Goals as goal

pub invariant_of-self : goal.invariant_of-self
invariant_of-self c = record {
  once = subst AreOnce (sym c.remove_file.ensures) (once_without c.args.tag _ c.self.invariant.once);
  least = c.self.invariant.least;
  most = c.self.invariant.most;
}
