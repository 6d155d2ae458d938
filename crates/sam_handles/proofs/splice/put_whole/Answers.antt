use Rattle.sam_handles.proofs.DropLaws.{whole_count, whole_bytes}
use Rattle.sam_handles.proofs.splice.put_whole.Goals as goal

pub returns-clause-count : goal.returns-clause-count
returns-clause-count c = whole_count _ _ _ c.fill_utf8.result c.fill_utf8.ensures c.requires

pub returns-clause-bytes : goal.returns-clause-bytes
returns-clause-bytes c = whole_bytes _ _ _ c.fill_utf8.result c.fill_utf8.ensures c.requires
