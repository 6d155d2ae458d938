use Rattle.std.proofs.Common.{arith}
use Rattle.sam_host.proofs.RunLaws.{meaning_inserted}
use Rattle.sam_host.proofs.host.Host.outcome.Goals as goal

pub returns-clause-limit : goal.returns-clause-limit
returns-clause-limit c = grind (arith, (meaning_inserted c.self.inside.files.plain c.args.line.now c.facts.ensures.5))
