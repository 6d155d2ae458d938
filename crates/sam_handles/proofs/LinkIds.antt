-- An id is its 16 bytes.
use Rattle.std.proofs.Common.{◌≡◌, ℕ, List, ◌++◌, length, take, drop, ap, arith, sym, ◌∙◌}
use Rattle.std.proofs.Math.Seq.{take-add}
use Rattle.std.proofs.lemmas.List.{take_all}
use Rattle.sam_mesg.specs.Spelling.{eight}

pub id_again : (bytes : List ℕ) (first last : ℕ) → length bytes ≡ 16 → eight first ≡ take 8 bytes → eight last ≡ take 8 (drop 8 bytes)
    → eight first ++ eight last ≡ bytes
id_again bytes first last whole front rest =
    ap (λ b. b ++ eight last) front ∙ ap (λ b. take 8 bytes ++ b) rest ∙ sym (take-add 8 8 bytes) ∙ take_all 16 bytes (omega (arith, whole))
