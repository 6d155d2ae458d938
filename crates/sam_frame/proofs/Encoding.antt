-- Messages that are encoded one after another.
use Rattle.std.proofs.Common.{◌≡◌, subst, refl, ℕ, ◌+◌, ◌<◌, ◌≤◌, List, ◌++◌, length, take, get_or, true, append_assoc, arith, IsTrue, Decides, take_all}
use Rattle.std.proofs.Math.Seq.{take-append_seam}
use Rattle.std.proofs.lemmas.List.{take_more}
use Rattle.std.proofs.lemmas.List.Elements.{All-more}
use Rattle.sam_frame.specs.Direction.{Direction, frame_of}
use Rattle.sam_frame.specs.Stream.{CanEncode, stream_of}
use Rattle.sam_frame.proofs.Fronts.{stream_of-append, stream_of-one}
use Rattle.std.proofs.lemmas.Grind.{common_steps}

-- one message more was written
pub one_written : {M : Type 0} (d : Direction M) (before out next : List ℕ) (ms : List M) (i : ℕ) (m : M) → i < length ms → m ≡ get_or ms i m
    → out ≡ before ++ stream_of d (take i ms) → next ≡ out ++ frame_of d m → next ≡ before ++ stream_of d (take (i + 1) ms)
one_written {M} d before out next ms i m l is so_far one = grind (arith, (take_more ms i m l), (stream_of-append d), (stream_of-one d m), (append_assoc before))

-- what was put after is cut off again
pub cut_back : (before more out after : List ℕ) (n : ℕ) → n ≡ length before → out ≡ before ++ more → after ≡ take n out → after ≡ before
cut_back before more out after n long put cut = grind (arith, take-append_seam)

-- ## Which messages can be encoded

-- one message more fits
pub one_fits : {M : Type 0} (d : Direction M) (ms : List M) (i : ℕ) (m : M) → i < length ms → m ≡ get_or ms i m → IsTrue (d.fits 2 m)
    → CanEncode d (take i ms) → CanEncode d (take (i + 1) ms)
one_fits {M} d ms i m l is fits so_far =
    All-more (λ (x : M). IsTrue (d.fits 2 x)) ms i m l so_far (subst (λ (x : M). IsTrue (d.fits 2 x)) is fits)

-- all were looked at
pub all_fit : {M : Type 0} (d : Direction M) (ms : List M) (i : ℕ) → length ms ≤ i → CanEncode d (take i ms) → Decides true (CanEncode d ms)
all_fit {M} d ms i l fit = (λ _. subst (λ (x : List M). CanEncode d x) (take_all i ms l) fit, λ _. refl)

-- what `encode_all` rests on
pub ruleset encode_all_facts = (common_steps, one_written, cut_back)
