use Rattle.sam_pending.proofs.JoinLaws.{same_held, same_option}
use Rattle.sam_pending.proofs.run.held_joined.Goals as goal

pub returns-then-more-count : goal.returns-then-more-count
returns-then-more-count c = same_held c.args.count c.args.more c.args.died c.args.other (same_option c.args.died c.args.other c.if-eq.ensures)
