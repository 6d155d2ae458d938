-- Bytes put into a line piece by piece.
use Rattle.std.proofs.Common.{◌≡◌, ℕ, List, ◌++◌, append-nil, arith}
use Rattle.std.specs.Global.{Vec}
use Rattle.sam_queue.specs.Views.{PostView, with_item}
use Rattle.sam_ends.specs.Cutting.{IsPiece, PutSome}

-- nothing was put as yet
pub put_none : (most : ℕ) (a : PostView (Vec ℕ)) (bytes : List ℕ) → PutSome most a a bytes bytes
put_none most a bytes = grind (arith, append-nil)

pub none_put : (most : ℕ) (a b : PostView (Vec ℕ)) (bytes rest : List ℕ) → b ≡ a → rest ≡ bytes → PutSome most a b bytes rest
none_put most a b bytes rest same unchanged = grind (arith, put_none)

pub one_put : (most : ℕ) (a b : PostView (Vec ℕ)) (bytes rest : List ℕ) (piece : Vec ℕ) → b ≡ with_item a piece → bytes ≡ piece.items ++ rest → IsPiece most piece
    → PutSome most a b bytes rest
one_put most a b bytes rest piece put front fit = grind (arith, append-nil)
