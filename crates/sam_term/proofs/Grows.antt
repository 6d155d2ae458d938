-- A terminal stays sound as partial texts grow and shrink.
use Rattle.sam_term.proofs.Common.{◌≡◌, ap, ◌∙◌, ℕ, ◌≤◌, ◌+◌, ◌-◌, true, false, length, Option, Some, arith, length-append, OnOk, is_err, Result, length-take, length-drop, length-map, length-replicate, put_slot, PartialText, ins_cells, del_cells, PlainTerminal, window_at, is_open, put_window, moved_unsent, known_in, IsShort, Window, Unsent}
use Rattle.sam_term.proofs.SlotSteps.{put_again}

-- ## Lengths

pub length-ins_cells : (r : PartialText) (p : ℕ) (cells : PartialText) → p ≤ length r → length (ins_cells r p cells) ≡ length r + length cells
length-ins_cells r p cells l = grind (arith, length-append, length-take, length-drop)

pub length-del_cells : (r : PartialText) (p q : ℕ) → p ≤ q → q ≤ length r → length (del_cells r p q) ≡ length r - (q - p)
length-del_cells r p q o l = grind (arith, length-append, length-take, length-drop)

-- ## Sound terminals

-- unsent runes that move stay as short
pub moved_short : (f : ℕ) (moved : ℕ → ℕ) (o : Option Unsent) → IsShort o → IsShort (moved_unsent f moved o)
unfolding IsShort
moved_short f moved o e = grind arith

-- ## Windows that are lent, and changed or left as they were

pub lent_same : (t : PlainTerminal) (f : ℕ) (w v : Window) → is_open t f ≡ true → w ≡ window_at t f → v ≡ w → put_window t f v ≡ t
lent_same t f w v o e same = ap (λ ss. record t { files = ss }) (ap (λ x. put_slot t.files f (record (known_in t.files f) { window = Some x })) (same ∙ e) ∙ put_again t.files f o)

pub at_ok : {A E X : Type 0} (r : Result A E) → is_err r ≡ false → OnOk r X → X
at_ok r e u = grind arith

-- what a partial text that grows or shrinks rests on
pub ruleset grown_facts = (lent_same, length-ins_cells, length-del_cells, length-map, length-replicate, length-append, length-take, length-drop)
