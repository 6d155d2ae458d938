use Rattle.sam_term.proofs.Common.{◌≡◌, ◌++◌, take, drop, map_slots, freed_known}
use Rattle.sam_term.proofs.known_files.free_all.Given as goal

abbrev pub invariant-loop-index : goal.invariant-loop-index
invariant-loop-index l = l.files ≡ map_slots freed_known (take l.index l.fn.files) ++ drop l.index l.fn.files
