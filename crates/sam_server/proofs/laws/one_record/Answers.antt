use Rattle.sam_server.proofs.Records.{one_record}
use Rattle.sam_server.proofs.laws.one_record.Goals as goal

pub returns : goal.returns
returns c = one_record
