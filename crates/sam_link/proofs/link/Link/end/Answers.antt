use Rattle.std.proofs.Common.{arith}
use Rattle.std.proofs.Math.ListN.{drop_of_length-le}
use Rattle.sam_link.proofs.link.Link.end.Goals as goal

pub returns : goal.returns
returns c = grind (arith, (drop_of_length-le c.self.inside.hello {i = 42}))
