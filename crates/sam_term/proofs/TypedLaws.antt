-- Typing runes in the place of a dot.
use Rattle.sam_term.proofs.Common.{◌≡◌, subst, ℕ, ◌≤◌, ◌+◌, ◌++◌, List, length, map, take, drop, Some, arith, length-take-le, length-map, PartialText, ins_cells, del_cells, window_after_ins, window_after_del, typed_over, Window, take-append_seam, drop-append_seam}

drop-front : (a b : PartialText) (p : ℕ) → length a ≡ p → drop p (a ++ b) ≡ b
drop-front a b p e = subst (λ n. drop n (a ++ b) ≡ b) e (drop-append_seam a b)

-- what comes in where something was taken out
pub over : (r : PartialText) (p q : ℕ) (cells : PartialText) → p ≤ length r → ins_cells (del_cells r p q) p cells ≡ take p r ++ cells ++ drop q r
over r p q cells l = grind (arith, length-take-le, drop-front, take-append_seam)

-- a dot that is cut, and runes that come in its place
pub typed-cut : (w : Window) (s : List ℕ) → w.dot.0 ≤ length w.rasp → record (window_after_ins (window_after_del w w.dot.0 w.dot.1) w.dot.0 (map Some s))
    { dot = (w.dot.0 + length s, w.dot.0 + length s) } ≡ typed_over w s
typed-cut w s l = grind (arith, length-map, over)
