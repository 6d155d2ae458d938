-- The two streams of an end.
use Rattle.std.proofs.Math.Seq.{take-append_seam}
use Rattle.sam_endpoint.proofs.Common.{◌≡◌, ◌∙◌, ap, ◌∷◌, ◌-◌, ℕ, List, [], ◌++◌, append-nil, arith, length, length-append, stream_of, take}
use Rattle.sam_frame.specs.Direction.{Direction}
use Rattle.sam_endpoint.specs.Duplexes.{PlainDuplex}

-- nothing is to be written
pub none_written : {M N S : Type 0} (d : Direction N) (e : PlainDuplex M N S) → e.unwritten ≡ []
    → e ≡ record e { unwritten = []; pending_bytes = e.pending_bytes ++ stream_of d e.unwritten }
none_written d e none = grind (arith, append-nil)

-- one was put behind the others and taken away again
pub one_put : {N : Type 0} (before after : List N) (one : N) (n : ℕ) → after ≡ take (n - 1) (before ++ one ∷ []) → n ≡ length (before ++ one ∷ []) → after ≡ before
one_put before after one n is count =
    let less : n - 1 ≡ length before = omega (arith, count, length-append before (one ∷ [])) in
    is ∙ ap (λ (k : ℕ). take k (before ++ one ∷ [])) less ∙ take-append_seam before (one ∷ [])
