use Rattle.sam_term.proofs.Common.{◌≡◌, ◌++◌, ◌+◌, ◌≤◌, length, all_composed, most_count, typed_pieces}
use Rattle.std.specs.Vec.Iter.{into_iter_items}
use Rattle.sam_term.proofs.term.Terminal.compose_pieces.Given as goal

-- the pieces that are left
abbrev pub invariant-loop-piece : goal.invariant-loop-piece
invariant-loop-piece l =
    record {
      counts : l.self.sent + length (into_iter_items l.piece-iterator) ≤ most_count;
      room : length (into_iter_items l.piece-iterator) ≤ l.out.room;
      composed : all_composed l.self (typed_pieces l.tag (into_iter_items l.piece-iterator)) ≡ all_composed l.fn.self (typed_pieces l.tag l.fn.cut.items);
      messages : l.out.messages ++ typed_pieces l.tag (into_iter_items l.piece-iterator) ≡ l.fn.out.messages ++ typed_pieces l.tag l.fn.cut.items;
    }
