-- The runs of all blocks.
use Rattle.std.proofs.Common.{◌≡◌, refl, sym, ap, ◌∙◌, List, [], ◌∷◌, ◌++◌, append_assoc}
use Rattle.sam_pending.specs.Blocks.{flat}
use Rattle.sam_pending.specs.declared.run.Run.{Run}

pub flat-append : (a b : List (List Run)) → flat (a ++ b) ≡ flat a ++ flat b
flat-append [] b = refl
flat-append (x ∷ a) b = ap (λ z. x ++ z) (flat-append a b) ∙ sym (append_assoc x (flat a) (flat b))
