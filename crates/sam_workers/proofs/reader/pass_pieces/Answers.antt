use Rattle.sam_workers.proofs.Common.{List, ℕ, Some, subst, PassesPiece}
use Rattle.sam_workers.proofs.Passes.{stops}
use Rattle.sam_workers.proofs.reader.pass_pieces.Goals as goal

pub returns-in-Some-pass_piece-clause-passes : goal.returns-in-Some-pass_piece-clause-passes
returns-in-Some-pass_piece-clause-passes g c =
    let P : List ℕ → Type 0 = λ b. PassesPiece c.loop-turn.framer b c.pass_piece.new.framer c.loop-turn.post c.pass_piece.new.post (Some c.in-Some-pass_piece.stop) in
    let passes = subst P c.deref.ensures.value c.in-Some-pass_piece.ensures.passes in
    stops _ _ _ _ _ _ _ c.pass_piece.new.framer _ _ _ c.requires.one c.loop-turn.invariant.so_far c.in-Item.ensures.answer passes
