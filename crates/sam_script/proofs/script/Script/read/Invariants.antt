use Rattle.sam_script.proofs.Common.{◌≡◌, length, take, SpellsLines, lines_of}
use Rattle.sam_script.proofs.script.Script.read.Given as goal

-- the lines so far spell the script so far
abbrev pub invariant-loop-line : goal.invariant-loop-line
invariant-loop-line l = (l.number ≡ length l.yielded) × SpellsLines (take (length l.yielded) (lines_of l.bytes)) l.script
