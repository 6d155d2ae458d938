use Rattle.sam_term.proofs.Common.{◌≡◌, ◌++◌, ◌+◌, ◌-◌, ◌≤◌, length, max_runes, pieces}
use Rattle.sam_term.proofs.replacing.cut_in_pieces.Given as goal

-- the pieces so far, and then those of the text that is left
abbrev pub invariant-loop : goal.invariant-loop
invariant-loop l =
    record {
      within : l.place + length l.rest ≤ max_runes;
      left : length (pieces (length l.rest) l.place l.rest) ≡ l.count - l.counter;
      all : l.cut.items ++ pieces (length l.rest) l.place l.rest ≡ pieces (length l.runes) l.p l.runes;
    }
