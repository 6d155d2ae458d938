use Rattle.std.proofs.Common.{length-append, slice_index_or, arith, rules}
use Rattle.sam_world.proofs.GivenLaws.{given_more, names_more, file_there, take_more}
use Rattle.sam_world.proofs.given.given_files.Goals as goal

pub loop-file-preserved : goal.loop-file-preserved
loop-file-preserved c = search (rules, arith, file_there, slice_index_or, given_more, take_more, names_more, length-append)
