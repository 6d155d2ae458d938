use Rattle.sam_journal.proofs.FileLaws.{damage_is_told}
use Rattle.sam_journal.proofs.laws.damage_is_told.Goals as goal

pub returns : goal.returns
returns c = damage_is_told
