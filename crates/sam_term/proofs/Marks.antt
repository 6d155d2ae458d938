-- A file that the user changed here: its mark stands beside its window.
use Rattle.sam_term.proofs.Common.{◌≡◌, sym, ap, ◌∙◌, ℕ, true, Some, is_some, arith, unwrap_or, slot-put_same, put_slot-put_slot, PlainTerminal, known_at, window_at, is_open, put_known, put_window, edited, blank_known, blank_window, Window, KnownFile}

edited-known : (t : PlainTerminal) (f : ℕ) → known_at (edited t f) f ≡ record (known_at t f) { changed = true }
edited-known t f = ap (λ s. unwrap_or s blank_known) (slot-put_same t.files f (record (known_at t f) { changed = true }))

pub edited-window : (t : PlainTerminal) (f : ℕ) → window_at (edited t f) f ≡ window_at t f
edited-window t f = ap (λ (k : KnownFile). unwrap_or k.window blank_window) (edited-known t f)

pub edited-open : (t : PlainTerminal) (f : ℕ) → is_open (edited t f) f ≡ is_open t f
edited-open t f = ap (λ (k : KnownFile). is_some k.window) (edited-known t f)

-- a window and the mark, put in either order
abbrev put_both : PlainTerminal → ℕ → Window → PlainTerminal
put_both t f w = put_known t f (record (known_at t f) { window = Some w; changed = true })

window-behind : (t : PlainTerminal) (f : ℕ) (w : Window) → put_window (edited t f) f w ≡ put_both t f w
window-behind t f w = grind (arith, put_slot-put_slot, edited-known)

mark-behind : (t : PlainTerminal) (f : ℕ) (w : Window) → edited (put_window t f w) f ≡ put_both t f w
mark-behind t f w = grind (arith, put_slot-put_slot, slot-put_same)

pub edited-put : (t : PlainTerminal) (f : ℕ) (w : Window) → edited (put_window t f w) f ≡ put_window (edited t f) f w
edited-put t f w = mark-behind t f w ∙ sym (window-behind t f w)

edited-twice : (t : PlainTerminal) (f : ℕ) → edited (edited t f) f ≡ edited t f
edited-twice t f = grind (arith, put_slot-put_slot, edited-known)

-- a file that is marked already, and its window put
pub edited-again : (t : PlainTerminal) (f : ℕ) (w : Window) → edited (put_window (edited t f) f w) f ≡ put_window (edited t f) f w
edited-again t f w = edited-put (edited t f) f w ∙ ap (λ u. put_window u f w) (edited-twice t f)

-- what the mark leaves
pub ruleset mark_facts = (edited-open, edited-window)
