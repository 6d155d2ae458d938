use Rattle.sam_journal.proofs.FileLaws.{durable_is_kept}
use Rattle.sam_journal.proofs.laws.durable_is_kept.Goals as goal

pub returns : goal.returns
returns c = durable_is_kept
