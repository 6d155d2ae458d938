-- What is under way to a file that is free changes neither its window nor the mark of the user there.
use Rattle.sam_crossing.proofs.Common.{◌≡◌, ℕ, Bool, true, false, not, ◌==◌, ◌&&◌, subst, List, [], ◌∷◌, Some, refl, sym, ap, ◌∙◌, true≢false, arith, unwrap_or, eqb-true, eq-eqb, slot-put_other, slot-free_other, Hmesg, Hbindname, Hnewname, Hmovname, Hgrow, Hdata, Horigin, Hunlockfile, Hsetdot, Hgrowdata, Hmoveto, Hclean, Hdirty, Hcut, Hdelname, Hclose, Hexit, KnownFile, Window, PlainTerminal, known_at, window_of, put_known, blank_known, effect, took_bindname, took_data, took_grow, took_growdata, took_cut, took_unlockfile, took_close, took_exit, Lens, IsGuarded, frees, is_crossing, is_freeing, action, at_file, run}
use Rattle.sam_crossing.proofs.Lenses.{IsFree}
use Rattle.sam_crossing.proofs.Runs.{frees_nothing}
use Rattle.sam_local.specs.Local.{all_taken, clean_known}
use Rattle.sam_local.proofs.Sights.{sight, turned}
use Rattle.sam_local.proofs.Frames.{turn, is_gentle, past-frame, sight-taken, known-put_same}

-- ## Frames that leave a file alone, or stand before one that frees a lock

-- the frame gives the file f another name, or says that it is clean; or that it is dirty, if that counts
abbrev pub is_mark : Bool → ℕ → Hmesg → Bool
is_mark b f (Hclean g) = f == g
is_mark b f (Hdirty g) = b && (f == g)
is_mark b f (Hmovname g s) = f == g
is_mark b f _ = false

-- after each such frame stands one that frees a lock
abbrev pub MarksGuarded : Bool → ℕ → List Hmesg → Type 0
MarksGuarded b f [] = Unit {0}
MarksGuarded b f (m ∷ ms) = (is_mark b f m ≡ true → frees (at_file f ms) ≡ true) × MarksGuarded b f ms

-- so it is where fewer frames count
pub marks-less : (b : Bool) (f : ℕ) (ms : List Hmesg) → MarksGuarded true f ms → MarksGuarded b f ms
marks-less true f ms c = c
marks-less false f [] c = tt
marks-less false f (m ∷ ms) c = ((λ e. c.0 (counts m e)), marks-less false f ms c.1)
  where
    counts : (m : Hmesg) → is_mark false f m ≡ true → is_mark true f m ≡ true
    counts (Hdirty g) e = absurd (true≢false (sym e))
    counts m e = e

-- and where none does that says that the file is dirty
pub marks-some : (b : Bool) (f : ℕ) (ms : List Hmesg) → MarksGuarded b f ms → MarksGuarded false f ms
marks-some true f ms c = marks-less false f ms c
marks-some false f ms c = c

abbrev pub AreGentle : ℕ → List Hmesg → Type 0
AreGentle f [] = Unit {0}
AreGentle f (m ∷ ms) = (is_gentle f m ≡ true) × AreGentle f ms

-- nor does the frame name or mark the file
abbrev pub AreCalm : Bool → ℕ → List Hmesg → Type 0
AreCalm b f [] = Unit {0}
AreCalm b f (m ∷ ms) = (is_gentle f m ≡ true) × (is_mark b f m ≡ false) × AreCalm b f ms

gentle_when : (b : Bool) (f : ℕ) (m : Hmesg) → is_crossing (action f m) ≡ false → is_freeing (action f m) ≡ false → is_mark b f m ≡ false → is_gentle f m ≡ true
gentle_when b f m c e u = grind arith

calm_quiet : (b : Bool) (f : ℕ) (ms : List Hmesg) → frees (at_file f ms) ≡ false → IsGuarded (at_file f ms) → MarksGuarded b f ms → AreCalm b f ms
calm_quiet b f [] e g c = tt
calm_quiet b f (m ∷ ms) e g c = grind (arith, (gentle_when b), (calm_quiet b f ms))

pub calm_free : (b : Bool) (f : ℕ) (ms : List Hmesg) (v w : Lens) → IsFree v → run (at_file f ms) v ≡ Some w → IsGuarded (at_file f ms) → MarksGuarded b f ms → AreCalm b f ms
calm_free b f ms v w free r g c = calm_quiet b f ms (frees_nothing (at_file f ms) v w free r) g c

pub calm_gentle : (b : Bool) (f : ℕ) (ms : List Hmesg) → AreCalm b f ms → AreGentle f ms
calm_gentle b f [] c = tt
calm_gentle b f (m ∷ ms) c = (c.0, calm_gentle b f ms c.2)

-- ## They change no window of the file

known-put_elsewhere : (t : PlainTerminal) (g f : ℕ) (x : KnownFile) → not (f == g) ≡ true → known_at (put_known t g x) f ≡ known_at t f
known-put_elsewhere t g f x e = ap (λ s. unwrap_or s blank_known) (slot-put_other t.files g f x (λ q. grind (arith, (eq-eqb f g (sym q)))))

known-free_elsewhere : (t : PlainTerminal) (g f : ℕ) → not (f == g) ≡ true → known_at (effect t (Hdelname g)) f ≡ known_at t f
known-free_elsewhere t g f e = ap (λ s. unwrap_or s blank_known) (slot-free_other t.files g f (λ q. grind (arith, (eq-eqb f g (sym q)))))

-- another name, or another mark
window-marked : (t : PlainTerminal) (g f : ℕ) (x : KnownFile) → x.window ≡ window_of t g → window_of (put_known t g x) f ≡ window_of t f
window-marked t g f x e = by (f == g) refl
  where
    by : (b : Bool) → (f == g) ≡ b → window_of (put_known t g x) f ≡ window_of t f
    by true q = rw (eqb-true f g q) (ap (λ (k : KnownFile). k.window) (known-put_same t g x) ∙ e)
    by false q = ap (λ (k : KnownFile). k.window) (known-put_elsewhere t g f x (ap not q))

window-kept : (t : PlainTerminal) (f : ℕ) (m : Hmesg) → is_gentle f m ≡ true → window_of (effect t m) f ≡ window_of t f
unfolding took_bindname took_data took_grow took_growdata took_cut took_unlockfile took_close took_exit
window-kept t f (Hmovname g s) e = window-marked t g f _ refl
window-kept t f (Hdirty g) e = window-marked t g f _ refl
window-kept t f (Hbindname g) e = ap (λ (k : KnownFile). k.window) (known-put_elsewhere t g f _ e)
window-kept t f (Hnewname g) e = ap (λ (k : KnownFile). k.window) (known-put_elsewhere t g f _ e)
window-kept t f (Hgrow g p n) e = ap (λ (k : KnownFile). k.window) (known-put_elsewhere t g f _ e)
window-kept t f (Hdata g p s) e = ap (λ (k : KnownFile). k.window) (known-put_elsewhere t g f _ e)
window-kept t f (Horigin g p) e = ap (λ (k : KnownFile). k.window) (known-put_elsewhere t g f _ e)
window-kept t f (Hunlockfile g) e = ap (λ (k : KnownFile). k.window) (known-put_elsewhere t g f _ e)
window-kept t f (Hsetdot g p q) e = ap (λ (k : KnownFile). k.window) (known-put_elsewhere t g f _ e)
window-kept t f (Hgrowdata g p s) e = ap (λ (k : KnownFile). k.window) (known-put_elsewhere t g f _ e)
window-kept t f (Hmoveto g p) e = ap (λ (k : KnownFile). k.window) (known-put_elsewhere t g f _ e)
window-kept t f (Hclean g) e = ap (λ (k : KnownFile). k.window) (known-put_elsewhere t g f _ e)
window-kept t f (Hcut g p n) e = ap (λ (k : KnownFile). k.window) (known-put_elsewhere t g f _ e)
window-kept t f (Hdelname g) e = ap (λ (k : KnownFile). k.window) (known-free_elsewhere t g f e)
window-kept t f (Hclose g) e = ap (λ (k : KnownFile). k.window) (known-put_elsewhere t g f _ e)
window-kept t f Hexit e = absurd (true≢false (sym e))
window-kept t f m e = refl

pub window-stays : (f : ℕ) (ms : List Hmesg) (t : PlainTerminal) → AreGentle f ms → window_of (all_taken t ms) f ≡ window_of t f
window-stays f [] t g = refl
window-stays f (m ∷ ms) t g = window-stays f ms (effect t m) g.1 ∙ window-kept t f m g.0

-- ## Calm frames change nothing of it

-- what is kept of a file, but for its dirty mark where that doesn't count
abbrev pub counted_in : Bool → KnownFile → KnownFile
counted_in true known = known
counted_in false known = clean_known known

pub counted-name : (b : Bool) (k l : KnownFile) → counted_in b k ≡ counted_in b l → k.name ≡ l.name
counted-name true k l e = ap (λ (x : KnownFile). x.name) e
counted-name false k l e = ap (λ (x : KnownFile). x.name) e

pub counted-changed : (b : Bool) (k l : KnownFile) → counted_in b k ≡ counted_in b l → k.changed ≡ l.changed
counted-changed true k l e = ap (λ (x : KnownFile). x.changed) e
counted-changed false k l e = ap (λ (x : KnownFile). x.changed) e

unmarked : (f g : ℕ) → (f == g) ≡ false → not (f == g) ≡ true
unmarked f g e = ap not e

dirty-kept : (b : Bool) (t : PlainTerminal) (f g : ℕ) → is_mark b f (Hdirty g) ≡ false → counted_in b (known_at (effect t (Hdirty g)) f) ≡ counted_in b (known_at t f)
dirty-kept true t f g n = known-put_elsewhere t g f _ (unmarked f g n)
dirty-kept false t f g n = by (f == g) refl
  where
    by : (b : Bool) → (f == g) ≡ b → clean_known (known_at (effect t (Hdirty g)) f) ≡ clean_known (known_at t f)
    by true q =
        subst (λ (k : ℕ). clean_known (known_at (effect t (Hdirty k)) f) ≡ clean_known (known_at t f)) (eqb-true f g q)
        (ap clean_known (known-put_same t f (record (known_at t f) { dirty = true })))
    by false q = ap clean_known (known-put_elsewhere t g f _ (unmarked f g q))

known-kept : (b : Bool) (t : PlainTerminal) (f : ℕ) (m : Hmesg) → is_gentle f m ≡ true → is_mark b f m ≡ false → counted_in b (known_at (effect t m) f) ≡ counted_in b (known_at t f)
unfolding took_bindname took_data took_grow took_growdata took_cut took_unlockfile took_close took_exit
known-kept b t f (Hmovname g s) e n = ap (counted_in b) (known-put_elsewhere t g f _ (unmarked f g n))
known-kept b t f (Hdirty g) e n = dirty-kept b t f g n
known-kept b t f (Hbindname g) e n = ap (counted_in b) (known-put_elsewhere t g f _ e)
known-kept b t f (Hnewname g) e n = ap (counted_in b) (known-put_elsewhere t g f _ e)
known-kept b t f (Hgrow g p m) e n = ap (counted_in b) (known-put_elsewhere t g f _ e)
known-kept b t f (Hdata g p s) e n = ap (counted_in b) (known-put_elsewhere t g f _ e)
known-kept b t f (Horigin g p) e n = ap (counted_in b) (known-put_elsewhere t g f _ e)
known-kept b t f (Hunlockfile g) e n = ap (counted_in b) (known-put_elsewhere t g f _ e)
known-kept b t f (Hsetdot g p q) e n = ap (counted_in b) (known-put_elsewhere t g f _ e)
known-kept b t f (Hgrowdata g p s) e n = ap (counted_in b) (known-put_elsewhere t g f _ e)
known-kept b t f (Hmoveto g p) e n = ap (counted_in b) (known-put_elsewhere t g f _ e)
known-kept b t f (Hclean g) e n = ap (counted_in b) (known-put_elsewhere t g f _ e)
known-kept b t f (Hcut g p m) e n = ap (counted_in b) (known-put_elsewhere t g f _ e)
known-kept b t f (Hdelname g) e n = ap (counted_in b) (known-free_elsewhere t g f e)
known-kept b t f (Hclose g) e n = ap (counted_in b) (known-put_elsewhere t g f _ e)
known-kept b t f Hexit e n = absurd (true≢false (sym e))
known-kept b t f m e n = refl

pub known-stays : (b : Bool) (f : ℕ) (ms : List Hmesg) (t : PlainTerminal) → AreCalm b f ms → counted_in b (known_at (all_taken t ms) f) ≡ counted_in b (known_at t f)
known-stays b f [] t c = refl
known-stays b f (m ∷ ms) t c = known-stays b f ms (effect t m) c.2 ∙ known-kept b t f m c.0 c.1

-- ## What the user changes there moves past them

pub past-frames : (f : ℕ) (x : Window → Bool) (y : Window → Window) (ms : List Hmesg) (t : PlainTerminal) → AreGentle f ms
    → sight (all_taken (turned t f (turn x y)) ms) ≡ sight (turned (all_taken t ms) f (turn x y))
past-frames f x y [] t g = refl
past-frames f x y (m ∷ ms) t g =
    sight-taken ms (effect (turned t f (turn x y)) m) (turned (effect t m) f (turn x y)) (past-frame t f x y m g.0) ∙ past-frames f x y ms (effect t m) g.1
