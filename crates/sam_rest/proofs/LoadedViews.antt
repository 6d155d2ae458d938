-- The view of a file: what comes to it, and what is kept from the view on.
use Rattle.sam_crossing.proofs.Common.{◌≡◌, ℕ, Bool, true, false, ◌==◌, ◌||◌, List, [], ◌∷◌, ◌++◌, Option, None, is_some, unwrap_or, ◌⊎◌, inl, inr, refl, sym, ap, ◌∙◌, subst, true≢false, arith, eq-eqb, eqb-true, not-false, slot-put_same, slot-put_other, Tmesg, Trequest, Hmesg, Hclean, Hdata, Hunlockfile, PlainHost, KnownFile, Window, PlainTerminal, window_of, is_open, composed, flushed, took_unlockfile, took_bindname, took_data, took_grow, took_growdata, took_cut, took_close, took_exit, Action, Needs_open, Join, Bind, Close, Leave, Grow, Insert, Cut, Place, Free_file, Exit, closes, frees, IsGuarded, at_file, action, effect, blank_window}
use Rattle.sam_rasp.specs.Rasp.{hole_within}
use Rattle.sam_runes.specs.Slots.{Slots}
use Rattle.sam_term.specs.Term.{view_end}
use Rattle.sam_term.specs.Windows.{known_in}
use Rattle.sam_term.proofs.Composes.{flushed-files}
use Rattle.sam_local.proofs.Frames.{is_gentle}
use Rattle.sam_local.proofs.Gentle.{window-stays}
use Rattle.sam_rest.specs.Loaded.{IsLoaded}
use Rattle.sam_rest.proofs.Work.{coming}
use Rattle.sam_crossing.proofs.Lenses.{exits, AreSkips}
use Rattle.sam_rest.proofs.Actions.{is_fill, left, AwaitsAll}

-- ## What comes to a file whose view was set

abbrev pub is_moving : Action → Bool
is_moving Join = true
is_moving Bind = true
is_moving Close = true
is_moving Leave = true
is_moving (Grow p n) = true
is_moving (Insert p s) = true
is_moving (Cut p n) = true
is_moving (Place p q) = true
is_moving Exit = true
is_moving _ = false

abbrev pub is_asking : Action → Bool
is_asking Needs_open = true
is_asking Free_file = true
is_asking _ = false

-- some of them makes the terminal ask for a gap, if there is one
abbrev pub brings : List Action → Bool
brings [] = false
brings (a ∷ s) = is_asking a || brings s

-- nothing moves, and after each Hdata something makes the terminal ask again
abbrev pub IsCalm : List Action → Type 0
IsCalm [] = Unit {0}
IsCalm (a ∷ s) = (is_moving a ≡ false) × (is_fill a ≡ true → brings s ≡ true) × IsCalm s

pub brings-first : (s u : List Action) → brings s ≡ true → brings (s ++ u) ≡ true
brings-first [] u e = absurd (true≢false (sym e))
brings-first (a ∷ s) u e = grind (arith, (brings-first s u))

pub brings-last : (s u : List Action) → brings u ≡ true → brings (s ++ u) ≡ true
brings-last [] u e = e
brings-last (a ∷ s) u e = grind (arith, (brings-last s u e))

pub calm-both : (s u : List Action) → IsCalm s → IsCalm u → IsCalm (s ++ u)
calm-both [] u c d = d
calm-both (a ∷ s) u c d = (c.0, (λ e. brings-first s u (c.1 e)), calm-both s u c.2 d)

pub calm-stays : (s : List Action) → IsCalm s → (closes s || exits s) ≡ false
calm-stays [] c = refl
calm-stays (a ∷ s) c = grind (arith, (calm-stays s c.2))

pub calm-skips : (s : List Action) → AreSkips s → IsCalm s
calm-skips [] k = tt
calm-skips (a ∷ s) k = grind (arith, (calm-skips s k.1))

-- where nothing makes it ask, nothing is awaited
pub none-awaited : (s : List Action) (n : ℕ) → IsCalm s → brings s ≡ false → AwaitsAll n s → n ≡ 0
none-awaited [] n c e k = k
none-awaited (a ∷ s) n c e k = grind (arith, (none-awaited s (left a n)))

-- what is under way to a free file is calm
pub calm-free : (s : List Action) → IsGuarded s → frees s ≡ false → IsCalm s
calm-free [] g e = tt
calm-free (a ∷ s) g e = grind (arith, (calm-free s))

-- ## The view of a file where nothing moves

abbrev IsLoadedIn : Option Window → Type 0
IsLoadedIn o = let w = unwrap_or o blank_window in hole_within w.rasp w.view_start (view_end w) ≡ None

pub record SameView (u t : PlainTerminal) (f : ℕ) : Type 0 where
  pub opened : is_open u f ≡ is_open t f
  pub loaded : IsLoaded t f → IsLoaded u f

pub same-window : (u t : PlainTerminal) (f : ℕ) → window_of u f ≡ window_of t f → SameView u t f
same-window u t f e = record { opened = ap is_some e; loaded = λ l. subst IsLoadedIn (sym e) l }

view-cleaned : (t : PlainTerminal) (f : ℕ) → window_of (effect t (Hclean f)) f ≡ window_of t f
view-cleaned t f = grind (arith, slot-put_same)

view-unlocked : (t : PlainTerminal) (f : ℕ) → is_open t f ≡ true → SameView (effect t (Hunlockfile f)) t f
unfolding took_unlockfile
view-unlocked t f o = grind (arith, slot-put_same)

view-other : (t : PlainTerminal) (f : ℕ) (m : Hmesg) → is_gentle f m ≡ false → is_moving (action f m) ≡ false → is_fill (action f m) ≡ false → is_open t f ≡ true
    → SameView (effect t m) t f
view-other t f (Hclean g) q mv fl o =
    let same : f ≡ g = eqb-true f g (not-false (f == g) q) in
    subst (λ (x : ℕ). SameView (effect t (Hclean x)) t f) same (same-window (effect t (Hclean f)) t f (view-cleaned t f))
view-other t f (Hunlockfile g) q mv fl o =
    let same : f ≡ g = eqb-true f g (not-false (f == g) q) in
    subst (λ (x : ℕ). SameView (effect t (Hunlockfile x)) t f) same (view-unlocked t f o)
view-other t f m q mv fl o = absurd (grind arith)

pub view-stays : (t : PlainTerminal) (f : ℕ) (m : Hmesg) → is_moving (action f m) ≡ false → is_fill (action f m) ≡ false → is_open t f ≡ true → SameView (effect t m) t f
view-stays t f m mv fl o = by (is_gentle f m) refl
  where
    by : (b : Bool) → is_gentle f m ≡ b → SameView (effect t m) t f
    by true q = same-window (effect t m) t f (window-stays f (m ∷ []) t (q, tt))
    by false q = view-other t f m q mv fl o

pub view-requested : (t : PlainTerminal) (g p q f : ℕ) → is_open t f ≡ true → SameView (composed t (Trequest g p q)) t f
view-requested t g p q f o = by (g == f) refl
  where
    by : (b : Bool) → (g == f) ≡ b → SameView (composed t (Trequest g p q)) t f
    by true e = subst (λ (x : ℕ). SameView (composed t (Trequest x p q)) t f) (sym (eqb-true g f e)) (grind (arith, slot-put_same))
    by false e = same-window (composed t (Trequest g p q)) t f (elsewhere e)
      where
        elsewhere : (g == f) ≡ false → window_of (composed t (Trequest g p q)) f ≡ window_of t f
        elsewhere e = grind (arith, slot-put_same, slot-put_other, (eq-eqb g f))

pub view-flushed : (t : PlainTerminal) (f : ℕ) → SameView (flushed t).0 t f
view-flushed t f = same-window (flushed t).0 t f (ap (λ (fs : Slots KnownFile). (known_in fs f).window) (flushed-files t))

pub view-then : (u t s : PlainTerminal) (f : ℕ) → SameView u t f → SameView t s f → SameView u s f
view-then u t s f a b = record { opened = a.opened ∙ b.opened; loaded = λ l. a.loaded (b.loaded l) }

pub open-fill : (t : PlainTerminal) (f : ℕ) (m : Hmesg) → is_fill (action f m) ≡ true → is_open t f ≡ true → is_open (effect t m) f ≡ true
unfolding took_data
open-fill t f (Hdata g p s) e o = grind (arith, slot-put_same, slot-put_other, (eq-eqb g f))
open-fill t f m e o = absurd (grind arith)

pub here-stays : (t : PlainTerminal) (f : ℕ) (m : Hmesg) → is_moving (action f m) ≡ false → (effect t m).has_exited ≡ t.has_exited
unfolding took_bindname took_data took_grow took_growdata took_cut took_unlockfile took_close took_exit
here-stays t f m e = grind arith

pub flushed-exited : (t : PlainTerminal) → (flushed t).0.has_exited ≡ t.has_exited
unfolding flushed
flushed-exited t = grind arith

-- ## What is kept from the view on

pub record IsShown (f : ℕ) (h : PlainHost) (t : PlainTerminal) (up : List Tmesg) (down : List Hmesg) : Type 0 where
  pub calm : IsCalm (at_file f (coming h t up down))
  pub opened : is_open t f ≡ true
  pub here : t.has_exited ≡ false
  pub served : IsLoaded t f ⊎ (brings (at_file f (coming h t up down)) ≡ true)

-- the same comes, and the view is the same
pub shown-same : (f : ℕ) (h k : PlainHost) (t u : PlainTerminal) (up line : List Tmesg) (down more : List Hmesg) → coming h t up down ≡ coming k u line more → SameView u t f → u.has_exited ≡ t.has_exited
    → IsShown f h t up down → IsShown f k u line more
shown-same f h k t u up line down more e v x s = record {
  calm = subst (λ (fs : List Hmesg). IsCalm (at_file f fs)) e s.calm;
  opened = v.opened ∙ s.opened;
  here = x ∙ s.here;
  served = by s.served;
}
  where
    by : IsLoaded t f ⊎ (brings (at_file f (coming h t up down)) ≡ true) → IsLoaded u f ⊎ (brings (at_file f (coming k u line more)) ≡ true)
    by (inl l) = inl (v.loaded l)
    by (inr b) = inr (subst (λ (fs : List Hmesg). brings (at_file f fs) ≡ true) e b)
