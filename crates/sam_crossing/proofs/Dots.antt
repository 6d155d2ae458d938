-- Dots and views stay in their partial texts as these change.
use Rattle.sam_crossing.proofs.Common.{◌≡◌, ℕ, ◌+◌, ◌-◌, ◌≤◌, List, ◌++◌, length, take, drop, arith, length-append, length-drop, length-take-le, ins, del, PartialText, window_after_ins, window_after_del, Window, IsTidyWindow}

pub length-ins_cells : {X : Type 0} (r cells : List X) (p : ℕ) → p ≤ length r → length (ins r p cells) ≡ length r + length cells
length-ins_cells r cells p l = omega (arith, length-append (take p r ++ cells) (drop p r), length-append (take p r) cells, length-take-le p r l, length-drop p r)

pub length-del_cells : {X : Type 0} (r : List X) (p q : ℕ) → p ≤ q → q ≤ length r → length (del r p q) ≡ length r - (q - p)
length-del_cells r p q l h = let lp : p ≤ length r = omega arith in omega (arith, length-append (take p r) (drop q r), length-take-le p r lp, length-drop q r)

pub tidy-ins : (w : Window) (p : ℕ) (cells : PartialText) → IsTidyWindow w → p ≤ length w.rasp → IsTidyWindow (window_after_ins w p cells)
tidy-ins w p cells t l = grind (arith, length-ins_cells)

pub tidy-del : (w : Window) (p q : ℕ) → IsTidyWindow w → p ≤ q → q ≤ length w.rasp → IsTidyWindow (window_after_del w p q)
tidy-del w p q t l h = grind (arith, length-del_cells)
