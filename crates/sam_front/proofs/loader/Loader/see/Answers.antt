use Rattle.sam_front.proofs.LoaderLaws.{once_put}
use Rattle.sam_front.proofs.loader.Loader.see.Goals as goal

pub invariant_of-self : goal.invariant_of-self
invariant_of-self c = record {
  once = once_put c.put_first.result c.args.seen _ _ c.put_first.ensures.ok c.put_first.ensures.err c.self.invariant.once;
  least = c.self.invariant.least;
  most = c.self.invariant.most;
}
