use Rattle.sam_script.proofs.Common.{◌≡◌, ◌++◌, take, flat_map, string_bytes, file_line}
use Rattle.sam_script.proofs.lines_of_run.push_files.Given as goal

abbrev pub invariant-loop-file : goal.invariant-loop-file
invariant-loop-file l = string_bytes l.out ≡ string_bytes l.fn.out ++ flat_map file_line (take l.file-index l.files)
