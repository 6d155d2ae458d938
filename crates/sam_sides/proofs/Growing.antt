-- What both sides did, with more at its end.
use Rattle.std.proofs.Common.{List, [], ◌∷◌, ◌++◌, append_assoc, arith}
use Rattle.sam_sides.specs.Sides.{Each, Steps, TermRuns}
use Rattle.sam_sides.specs.declared.log.TermLog.{TermLog}
use Rattle.sam_sides.specs.declared.log.TermLog.TheVariants as log

module _ {X : Type 0} where
  pub each_append : (P : X → Type 0) (xs ys : List X) → Each P xs → Each P ys → Each P (xs ++ ys)
  each_append P [] ys a b = b
  each_append P (x ∷ xs) ys a b = (a.0, each_append P xs ys a.1 b)

module _ {H T M F : Type 0} (s : Steps H T M F) where
  -- the terminal's log grows at its end
  pub term_more : (es : List TermLog) (t u v : T) (fs : List F) (ms : List M) (es' : List TermLog) (fs' : List F) (ms' : List M)
      → TermRuns s t es fs ms u → TermRuns s u es' fs' ms' v → TermRuns s t (es ++ es') (fs ++ fs') (ms ++ ms') v
  term_more [] t u v fs ms es' fs' ms' r q = grind arith
  term_more (log.User e ∷ es) t u v fs ms es' fs' ms' r q = term_more es (s.user t e) u v fs ms es' fs' ms' r q
  term_more (log.Act ∷ es) t u v fs ms es' fs' ms' r q = grind (arith, append_assoc, (term_more es r.0 u v fs r.2 es' fs' ms' r.5 q))
  term_more (log.Flush ∷ es) t u v fs ms es' fs' ms' r q = grind (arith, append_assoc, (term_more es r.0 u v fs r.2 es' fs' ms' r.5 q))
  term_more (log.Take n ∷ es) t u v fs ms es' fs' ms' r q = grind (arith, append_assoc, (term_more es r.2 u v r.1 r.4 es' fs' ms' r.9 q))
