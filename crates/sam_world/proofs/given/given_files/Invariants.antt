use Rattle.sam_world.proofs.Common.{◌≡◌, take, length, AreNames, given_of}
use Rattle.sam_world.proofs.given.given_files.Given as goal

abbrev pub invariant-loop-file : goal.invariant-loop-file
invariant-loop-file l = record {
  given : given_of l.given.items ≡ take l.file-index l.files;
  names : AreNames l.given.items;
  count : length l.given.items ≡ l.file-index;
}
