-- What of the terminal concerns one file, after its steps of composing.
use Rattle.sam_crossing.proofs.Common.{◌≡◌, if◌then◌else◌, ℕ, true, ◌==◌, Some, None, arith, unwrap_or, slot-put_same, slot-put_other, Tmesg, Lock, FileLock, Window, KnownFile, lock_of, PlainTerminal, known_at, window_at, put_known, put_window, edited, composed, flushed, blank_window, Open, Lens, lens, slot_of_window, view, IsTidyWindow, AreTidy, IsHeldBack, views}
use Rattle.sam_crossing.proofs.Lenses.{IsOpen}
use Rattle.sam_crossing.proofs.Changes.{changed, change_of_lock}

-- ## A file that is put

pub view-put : (t : PlainTerminal) (f : ℕ) (x : KnownFile) (g : ℕ) → view g (put_known t f x) ≡ (if g == f then lens t.command_lock t.has_exited t.version (slot_of_window x.window) else view g t)
view-put t f x g = grind (arith, slot-put_same, slot-put_other)

-- a window of an open file whose partial text and locks stay
pub view-kept : (t : PlainTerminal) (f : ℕ) (w : Window) → IsOpen (view f t) → w.rasp ≡ (window_at t f).rasp → w.locks ≡ (window_at t f).locks → (g : ℕ) → view g (put_window t f w) ≡ view g t
view-kept t f w o r k g = grind (arith, view-put)

-- the user's mark on an open file shows in no lens
pub view-edited : (t : PlainTerminal) (f : ℕ) → IsOpen (view f t) → (g : ℕ) → view g (edited t f) ≡ view g t
view-edited t f o g = grind (arith, view-put)

-- a window of an open file that is changed so
pub view-made : (t : PlainTerminal) (f : ℕ) (w : Window) (change : Lens → Lens) → IsOpen (view f t)
    → lens t.command_lock t.has_exited t.version (Open w.rasp w.locks) ≡ change (lens t.command_lock t.has_exited t.version (Open (window_at t f).rasp (window_at t f).locks)) → (g : ℕ)
    → view g (put_window t f w) ≡ (if g == f then change (view g t) else view g t)
view-made t f w change o e g = grind (arith, view-put)

-- ## Locks

abbrev pub LockOpens : Lock → (ℕ → Lens) → Type 0
LockOpens (FileLock f) views = IsOpen (views f)
LockOpens _ views = Unit

-- one message that is composed takes its lock, and changes nothing else that the views show
pub view-composed : (t : PlainTerminal) (m : Tmesg) → LockOpens (lock_of m) (views t) → (g : ℕ) → view g (composed t m) ≡ changed (change_of_lock (lock_of m)) g (view g t)
view-composed t m e g = grind (arith, view-put, view-kept)

-- ## The unsent runes

pub unsent-composed : (t : PlainTerminal) (m : Tmesg) → (composed t m).unsent ≡ t.unsent
unsent-composed t m = grind arith

-- runes that were held back are composed: the views stay
pub view-flushed : (t : PlainTerminal) → IsHeldBack (views t) t.unsent → (g : ℕ) → view g (flushed t).0 ≡ view g t
unfolding flushed
view-flushed t h g = grind (arith, view-put)

pub unsent-flushed : (t : PlainTerminal) → (flushed t).0.unsent ≡ None
unfolding flushed
unsent-flushed t = grind arith

-- ## Dots and views lie in their texts

pub tidy-put : (t : PlainTerminal) (f : ℕ) (x : KnownFile) → AreTidy t → IsTidyWindow (unwrap_or x.window blank_window) → AreTidy (put_known t f x)
tidy-put t f x all here g = grind (arith, slot-put_same, slot-put_other)

pub tidy-window : (t : PlainTerminal) (f : ℕ) (w : Window) → AreTidy t → IsTidyWindow w → AreTidy (put_window t f w)
tidy-window t f w all here = tidy-put t f (record (known_at t f) { window = Some w }) all here

pub tidy-edited : (t : PlainTerminal) (f : ℕ) → AreTidy t → AreTidy (edited t f)
tidy-edited t f all = tidy-put t f (record (known_at t f) { changed = true }) all (all f)

pub tidy-composed : (t : PlainTerminal) (m : Tmesg) → AreTidy t → AreTidy (composed t m)
tidy-composed t m all = grind (arith, slot-put_same, slot-put_other)

pub tidy-flushed : (t : PlainTerminal) → AreTidy t → AreTidy (flushed t).0
unfolding flushed
tidy-flushed t all = grind arith
