use Rattle.std.proofs.Common.{arith}
use Rattle.sam_pending.proofs.JoinLaws.{same_typed}
use Rattle.sam_pending.proofs.run.typed_joined.Goals as goal

pub returns : goal.returns
returns c = same_typed c.args.runes c.args.more c.args.born c.args.died (omega (arith, c.if-runes-more.false))
