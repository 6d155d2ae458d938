-- Messages that the terminal composes keep both sides in order.
use Rattle.sam_crossing.proofs.Common.{◌≡◌, if◌then◌else◌, ℕ, Bool, true, false, ◌==◌, List, [], ◌∷◌, ◌++◌, Option, None, refl, sym, ap, ◌∙◌, subst, append-nil, append_assoc, arith, del_cells, place_after_del, Tmesg, Ttype, Tcut, Hmesg, PlainHost, lock_of, PlainTerminal, Made, window_at, window_after_del, moved_unsent, del_rasp, edited, cut_rasp, composed, flushed, unsent_message, sends, unchanged, Lens, OpenAt, view, AllComeToSync, AreTidy, IsHeldBack, views, InOrder}
use mathlib.Core.Path.{fun_ext}
use Rattle.sam_term.specs.Term.{made_then}
use Rattle.sam_crossing.proofs.Lenses.{IsFree, IsOpen, exited_of, command_of}
use Rattle.sam_crossing.proofs.Changes.{change_of_lock, change_by, cut_out, changed, Within, IsAllowed, CanCompose}
use Rattle.sam_crossing.proofs.Composing.{composes}
use Rattle.sam_crossing.proofs.Views.{view-made, view-edited, LockOpens, view-composed, unsent-composed, view-flushed, unsent-flushed, tidy-composed, tidy-window, tidy-edited}
use Rattle.sam_crossing.proofs.Dots.{tidy-del}

-- what was made follows a terminal that is in order
abbrev pub Goes : PlainHost → List Tmesg → List Hmesg → Made → Type 0
Goes h up down made = InOrder h made.0 (up ++ made.1) down

pub then_goes : (h : PlainHost) (up : List Tmesg) (down : List Hmesg) (made : Made) (next : PlainTerminal → Made) → Goes h (up ++ made.1) down (next made.0) → Goes h up down (made_then made next)
then_goes h up down made next g = subst (λ (l : List Tmesg). InOrder h (next made.0).0 l down) (append_assoc up made.1 (next made.0).1) g

pub nothing_goes : (h : PlainHost) (t : PlainTerminal) (up : List Tmesg) (down : List Hmesg) → InOrder h t up down → Goes h up down (t, [])
nothing_goes h t up down o = subst (λ (l : List Tmesg). InOrder h t l down) (sym (append-nil up)) o

-- ## The unsent runes

pub flushed_goes : (h : PlainHost) (t : PlainTerminal) (up : List Tmesg) (down : List Hmesg) → InOrder h t up down → Goes h up down (flushed t)
unfolding flushed
flushed_goes h t up down o = grind (arith, append-nil)

pub flushed_views : (t : PlainTerminal) → IsHeldBack (views t) t.unsent → views t ≡ views (flushed t).0
flushed_views t h = fun_ext (λ g. sym (view-flushed t h g))

-- ## One message

-- what is known where the terminal acts by this message
pub record MaySend (v : ℕ → Lens) (m : Tmesg) : Type 0 where
  pub here : exited_of (v 0) ≡ false
  pub free : command_of (v 0) ≡ false
  pub allowed : IsAllowed (change_by m) v
  pub can : CanCompose m v

abbrev pub is_edit : Tmesg → Bool
is_edit (Ttype f p s) = true
is_edit (Tcut f p q) = true
is_edit _ = false

same_change : (m : Tmesg) → is_edit m ≡ false → (g : ℕ) (v : Lens) → changed (change_of_lock (lock_of m)) g v ≡ changed (change_by m) g v
same_change m e g v = grind arith

pub open_is : (P : List (Option ℕ) → Type 0) (v : Lens) → OpenAt P v → IsOpen v
open_is P v e = grind arith

-- the file that a message locks is open, since it rests on that
opens_for : (m : Tmesg) (v : ℕ → Lens) → CanCompose m v → LockOpens (lock_of m) v
opens_for m v e = grind (arith, open_is)

-- a message that the fold carries, and what the terminal shows then
pub carried : (h : PlainHost) (t t2 : PlainTerminal) (up : List Tmesg) (down : List Hmesg) (m : Tmesg) → InOrder h t up down → t.unsent ≡ None → t2.unsent ≡ None
    → AllComeToSync h (λ g. changed (change_by m) g (view g t)) ((up ++ unsent_message t.unsent) ++ m ∷ []) down → ((g : ℕ) → changed (change_by m) g (view g t) ≡ view g t2) → AreTidy t2
    → InOrder h t2 (up ++ m ∷ []) down
carried h t t2 up down m o e e2 k same tidy = grind (arith, append-nil)

pub send_one : (h : PlainHost) (t : PlainTerminal) (up : List Tmesg) (down : List Hmesg) (m : Tmesg) → InOrder h t up down → t.unsent ≡ None → is_edit m ≡ false → MaySend (views t) m
    → InOrder h (composed t m) (up ++ m ∷ []) down
send_one h t up down m o e plain may =
    carried h t (composed t m) up down m o e (unsent-composed t m ∙ e) (composes h (views t) (up ++ unsent_message t.unsent) down m o.kept may.here may.free may.allowed may.can)
    (λ g. sym (view-composed t m (opens_for m (views t) may.can) g ∙ same_change m plain g (view g t))) (tidy-composed t m o.tidy)

-- the unsent runes and then a message
pub sends_goes : (h : PlainHost) (t : PlainTerminal) (up : List Tmesg) (down : List Hmesg) (m : Tmesg) → InOrder h t up down → is_edit m ≡ false → MaySend (views t) m
    → Goes h up down (sends t unchanged (m ∷ []))
sends_goes h t up down m o plain may =
    let there = subst (λ (v : ℕ → Lens). MaySend v m) (flushed_views t o.unsent) may in
    then_goes h up down (flushed t) (λ u. (composed u m, m ∷ [])) (send_one h (flushed t).0 (up ++ (flushed t).1) down m (flushed_goes h t up down o) (unsent-flushed t) plain there)

-- ## A cut

-- what an open file's partial text has
pub has_open : (P : List (Option ℕ) → Type 0) (t : PlainTerminal) (f : ℕ) → OpenAt P (view f t) → P (window_at t f).rasp
has_open P t f o = grind arith

-- the user's mark is no message
edited_views : (t : PlainTerminal) (f : ℕ) → IsOpen (view f t) → views t ≡ views (edited t f)
edited_views t f i = fun_ext (λ g. sym (view-edited t f i g))

edited_order : (h : PlainHost) (t : PlainTerminal) (up : List Tmesg) (down : List Hmesg) (f : ℕ) → InOrder h t up down → IsOpen (view f t) → InOrder h (edited t f) up down
edited_order h t up down f o i = grind (arith, tidy-edited, view-edited, fun_ext)

del_view : (t : PlainTerminal) (f p q : ℕ) → IsOpen (view f t) → (g : ℕ) → view g (del_rasp t f p q) ≡ (if g == f then cut_out p q (view g t) else view g t)
del_view t f p q o g = view-made t f (window_after_del (window_at t f) p q) (cut_out p q) o refl g

pub cut_view : (t : PlainTerminal) (f p q : ℕ) → IsOpen (view f t) → (g : ℕ) → view g (cut_rasp t f p q) ≡ (if g == f then cut_out p q (view g t) else view g t)
cut_view t f p q o g = grind (arith, (view-made (edited t f) f (window_after_del (window_at (edited t f) f) p q) (cut_out p q)), view-edited)

del_one : (h : PlainHost) (t : PlainTerminal) (up : List Tmesg) (down : List Hmesg) (f p q : ℕ) → InOrder h t up down → t.unsent ≡ None → MaySend (views t) (Tcut f p q)
    → InOrder h (composed (del_rasp t f p q) (Tcut f p q)) (up ++ Tcut f p q ∷ []) down
del_one h t up down f p q o e may =
    let within = has_open (Within p q) t f may.can in
    carried h t (composed (del_rasp t f p q) (Tcut f p q)) up down (Tcut f p q) o e (ap (moved_unsent f (place_after_del p q)) e)
    (composes h (views t) (up ++ unsent_message t.unsent) down (Tcut f p q) o.kept may.here may.free may.allowed may.can)
    (λ g. sym (del_view t f p q (open_is (Within p q) (view f t) may.can) g))
    (tidy-window t f (window_after_del (window_at t f) p q) o.tidy (tidy-del (window_at t f) p q (o.tidy f) within.0 within.1))

pub cut_one : (h : PlainHost) (t : PlainTerminal) (up : List Tmesg) (down : List Hmesg) (f p q : ℕ) → InOrder h t up down → t.unsent ≡ None → MaySend (views t) (Tcut f p q)
    → InOrder h (composed (cut_rasp t f p q) (Tcut f p q)) (up ++ Tcut f p q ∷ []) down
cut_one h t up down f p q o e may =
    let i = open_is (Within p q) (view f t) may.can in
    del_one h (edited t f) up down f p q (edited_order h t up down f o i) e (subst (λ (v : ℕ → Lens). MaySend v (Tcut f p q)) (edited_views t f i) may)

pub exited_cut : (b : Bool) (p q : ℕ) (v : Lens) → exited_of (if b then cut_out p q v else v) ≡ exited_of v
exited_cut b p q v = grind arith

pub command_cut : (b : Bool) (p q : ℕ) (v : Lens) → command_of (if b then cut_out p q v else v) ≡ command_of v
command_cut b p q v = grind arith

pub free_cut : (b : Bool) (p q : ℕ) (v : Lens) → IsFree v → IsFree (if b then cut_out p q v else v)
free_cut b p q v e = grind arith

pub open_cut : (P Q : List (Option ℕ) → Type 0) (p q : ℕ) (v : Lens) → OpenAt P v → ((r : List (Option ℕ)) → P r → Q (del_cells r p q)) → OpenAt Q (cut_out p q v)
open_cut P Q p q v e u = grind arith
