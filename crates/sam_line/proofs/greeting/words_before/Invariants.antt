use Rattle.std.proofs.Common.{◌≤◌, ◌-◌, length}
use Rattle.sam_line.specs.Greeting.{AreWords}
use Rattle.sam_line.proofs.greeting.words_before.Given as goal

abbrev pub invariant-words : goal.invariant-words
invariant-words l = record {
  inside : l.words ≤ length l.bytes;
  before : AreWords l.bytes l.words;
}

abbrev pub decreases-words : goal.decreases-words
decreases-words l = length l.bytes - l.words
