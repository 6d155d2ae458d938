-- Editors at rest whose sides differ in a few fields: a change of a host and of a terminal is the change of the editor that they are at rest.
use Rattle.sam_crossing.proofs.Common.{◌≡◌, ℕ, zero, suc, ◌+◌, ◌≤◌, Bool, true, false, ◌==◌, List, [], ◌∷◌, length, map, Option, Some, None, unwrap_or, refl, sym, ap, ◌∙◌, subst, true≢false, arith, cases_Bool, inl, inr, option_map, eqb-true, eq-eqb, length-map, Slots, put_slot, free_slot, slot-put_same, slot-put_other, put_slot-put_slot, length-drop, length-take, length-take-le, part, PlainFile, PlainFiles, blank_file, file_at, put_file, PlainHost, with_file, KnownFile, Window, PlainTerminal, window_at, is_open, put_known, blank_window, place_after_ins, place_after_del, ◌-◌, Hunlockfile, effect, took_unlockfile}
use Rattle.sam_local.specs.Local.{whole_window, whole_file, whole_slots, at_rest}
use Rattle.sam_local.specs.Editing.{with_host_file, with_known}
use Rattle.sam_local.proofs.Sights.{bare, sight, sight-rest, rests, sight-put}
use Rattle.sam_local.proofs.Uncounted.{rest}
use Rattle.sam_local.proofs.Ahead.{sight-window}

-- ## Files of a host

pub file-put : (fs : PlainFiles) (f : ℕ) (x : PlainFile) → file_at (put_file fs f x) f ≡ x
file-put fs f x = ap (λ (s : Option PlainFile). unwrap_or s blank_file) (slot-put_same fs.slots f x)

pub file-other : (fs : PlainFiles) (f g : ℕ) (x : PlainFile) → (g == f) ≡ false → file_at (put_file fs f x) g ≡ file_at fs g
file-other fs f g x e = ap (λ (s : Option PlainFile). unwrap_or s blank_file) (slot-put_other fs.slots f g x (λ q. true≢false (sym (eq-eqb g f (sym q)) ∙ e)))

-- the texts of two hosts are the same, but at one file
abbrev pub SameBut : ℕ → PlainFiles → PlainFiles → Type 0
SameBut f fs gs = (g : ℕ) → (g == f) ≡ false → (file_at gs g).text ≡ (file_at fs g).text

pub same-but : (fs : PlainFiles) (f : ℕ) (x : PlainFile) → SameBut f fs (put_file fs f x)
same-but fs f x g e = ap (λ (y : PlainFile). y.text) (file-other fs f g x e)

-- ## Whole texts

unequal : (m n : ℕ) → ((m ≡ n) → ⊥) → (m == n) ≡ false
unequal m n e = elim (cases_Bool (m == n)) [ inl q ↦ absurd (e (eqb-true m n q)) | inr q ↦ q ]

whole-twice : (text : List ℕ) (known : KnownFile) → whole_file text (whole_file text known) ≡ whole_file text known
whole-twice text known = λ i. record known { window = by known.window i }
  where
    by : (w : Option Window) → option_map (whole_window text) (option_map (whole_window text) w) ≡ option_map (whole_window text) w
    by None = refl
    by (Some w) = refl

slot-twice : (old new : List ℕ) (s : Option KnownFile) → new ≡ old → option_map (whole_file new) (option_map (whole_file old) s) ≡ option_map (whole_file old) s
slot-twice old new None e = refl
slot-twice old new (Some known) e = ap (λ (text : List ℕ). Some (whole_file text (whole_file old known))) e ∙ ap Some (whole-twice old known)

pub whole-again : (fs gs : PlainFiles) (n : ℕ) (ss : Slots KnownFile) → ((g : ℕ) → n ≤ g → (file_at gs g).text ≡ (file_at fs g).text)
    → whole_slots gs n (whole_slots fs n ss) ≡ whole_slots fs n ss
whole-again fs gs n [] same = refl
whole-again fs gs n (s ∷ ss) same =
    λ i. slot-twice (file_at fs n).text (file_at gs n).text s (same n (omega arith)) i ∷ whole-again fs gs (suc n) ss (λ g l. same g (omega (arith, l))) i

pub whole-put : (fs gs : PlainFiles) (ss : Slots KnownFile) (n f k : ℕ) (x : KnownFile) → n + f ≡ k → SameBut k fs gs
    → whole_slots gs n (put_slot (whole_slots fs n ss) f x) ≡ put_slot (whole_slots fs n ss) f (whole_file (file_at gs k).text x)
whole-put fs gs [] n zero k x e same = let here : n ≡ k = omega (arith, e) in ap (λ (m : ℕ). Some (whole_file (file_at gs m).text x) ∷ []) here
whole-put fs gs [] n (suc f) k x e same = ap (λ (rest : Slots KnownFile). None ∷ rest) (whole-put fs gs [] (suc n) f k x (omega (arith, e)) same)
whole-put fs gs (s ∷ ss) n zero k x e same =
    let here : n ≡ k = omega (arith, e) in
    λ i. Some (whole_file (file_at gs (here i)).text x) ∷ whole-again fs gs (suc n) ss (λ g l. same g (unequal g k (λ q. absurd (omega (arith, l, q, here))))) i
whole-put fs gs (s ∷ ss) n (suc f) k x e same =
    λ i. slot-twice (file_at fs n).text (file_at gs n).text s (same n (unequal n k (λ q. absurd (omega (arith, q, e))))) i
    ∷ whole-put fs gs ss (suc n) f k x (omega (arith, e)) same i

pub whole-free : (fs gs : PlainFiles) (ss : Slots KnownFile) (n f k : ℕ) → n + f ≡ k → SameBut k fs gs
    → whole_slots gs n (free_slot (whole_slots fs n ss) f) ≡ free_slot (whole_slots fs n ss) f
whole-free fs gs [] n f k e same = refl
whole-free fs gs (s ∷ ss) n zero k e same =
    let here : n ≡ k = omega (arith, e) in
    ap (λ (rest : Slots KnownFile). None ∷ rest) (whole-again fs gs (suc n) ss (λ g l. same g (unequal g k (λ q. absurd (omega (arith, l, q, here))))))
whole-free fs gs (s ∷ ss) n (suc f) k e same =
    λ i. slot-twice (file_at fs n).text (file_at gs n).text s (same n (unequal n k (λ q. absurd (omega (arith, q, e))))) i
    ∷ whole-free fs gs ss (suc n) f k (omega (arith, e)) same i

-- ## Editors

-- what of two is seen alike
pub sight-same : (t : PlainTerminal) (f : ℕ) (x y : KnownFile) → bare x ≡ bare y → sight (put_known t f x) ≡ sight (put_known t f y)
sight-same t f x y e = sight-put t f x ∙ ap (λ (known : KnownFile). put_known (sight t) f known) e ∙ sym (sight-put t f y)

-- a terminal with nothing unsent, held or locked but its windows
abbrev pub stilled : PlainTerminal → PlainTerminal
stilled z = record z { command_lock = false; unsent = None; held = []; sent = 0 }

module _ (k : PlainHost) (x : PlainTerminal) (j : PlainHost) (y z : PlainTerminal) (files : z.files ≡ (at_rest k x).term.files) where
  -- the terminal has another file there
  pub kept-file : (f : ℕ) (known : KnownFile) → SameBut f k.files j.files → sight y ≡ sight (put_known z f known)
      → at_rest j y ≡ with_known (record { host = rest j; term = stilled z }) f known
  kept-file f known same e = rests j y (put_known z f known) e ∙ (λ i. record { host = rest j; term = record (stilled z) { files = put i } })
    where
      text : List ℕ
      text = (file_at j.files f).text

      put : whole_slots j.files 0 (put_slot z.files f known) ≡ put_slot z.files f (whole_file text known)
      put =
          ap (λ (ss : Slots KnownFile). whole_slots j.files 0 (put_slot ss f known)) files ∙ whole-put k.files j.files x.files 0 f f known (omega arith) same
          ∙ ap (λ (ss : Slots KnownFile). put_slot ss f (whole_file text known)) (sym files)

  -- the terminal's files stay
  pub kept-all : ((g : ℕ) → (file_at j.files g).text ≡ (file_at k.files g).text) → sight y ≡ sight z → at_rest j y ≡ record { host = rest j; term = stilled z }
  kept-all same e = rests j y z e ∙ (λ i. record { host = rest j; term = record (stilled z) { files = again i } })
    where
      again : whole_slots j.files 0 z.files ≡ z.files
      again = ap (whole_slots j.files 0) files ∙ whole-again k.files j.files 0 x.files (λ g l. same g) ∙ sym files

-- both sides have another file there
pub kept-both : (k : PlainHost) (x y : PlainTerminal) (f : ℕ) (file : PlainFile) (known : KnownFile) → sight y ≡ sight (put_known (at_rest k x).term f known)
    → at_rest (with_file k f file) y ≡ with_known (with_host_file (at_rest k x) f file) f known
kept-both k x y f file known e = kept-file k x (with_file k f file) y (at_rest k x).term refl f known (same-but k.files f file) e

-- the terminal alone has another file there
pub kept-here : (k : PlainHost) (x y : PlainTerminal) (f : ℕ) (known : KnownFile) → sight y ≡ sight (put_known (at_rest k x).term f known)
    → at_rest k y ≡ with_known (at_rest k x) f known
kept-here k x y f known e = kept-file k x k y (at_rest k x).term refl f known (λ g n. refl) e

-- a terminal of the same sight, at rest
pub back : (h : PlainHost) (t x : PlainTerminal) → sight x ≡ sight (at_rest h t).term → at_rest (rest h) x ≡ at_rest h t
back h t x e = rests h x t (e ∙ sight-rest h t)

-- ## Places

pub none-deleted : (p q place : ℕ) → (p == q) ≡ true → place_after_del p q place ≡ place
none-deleted p q place e = let same : p ≡ q = eqb-true p q e in grind (arith, same)

pub none-inserted : (p place : ℕ) → place_after_ins p 0 place ≡ place
none-inserted p place = grind arith

-- cells that come in are as many as their runes
pub as-many : (p : ℕ) (s : List ℕ) (place : ℕ) → place_after_ins p (length (map {A = ℕ} {B = Option ℕ} Some s)) place ≡ place_after_ins p (length s) place
as-many p s place = ap (λ (n : ℕ). place_after_ins p n place) (length-map s Some)

-- ## Files and windows that are put in

pub file-twice : (h : PlainHost) (f : ℕ) (a b : PlainFile) → with_file (with_file h f a) f b ≡ with_file h f b
file-twice h f a b = λ i. record h { files = record h.files { slots = put_slot-put_slot h.files.slots f a b i } }

-- a file of the same text
pub same-text : (fs : PlainFiles) (f : ℕ) (x : PlainFile) → x.text ≡ (file_at fs f).text → (g : ℕ) → (file_at (put_file fs f x) g).text ≡ (file_at fs g).text
same-text fs f x e g = by (g == f) refl
  where
    by : (b : Bool) → (g == f) ≡ b → (file_at (put_file fs f x) g).text ≡ (file_at fs g).text
    by true q =
        let same : g ≡ f = eqb-true g f q in
        subst (λ (n : ℕ). (file_at (put_file fs f x) n).text ≡ (file_at fs n).text) (sym same) (ap (λ (y : PlainFile). y.text) (file-put fs f x) ∙ e)
    by false q = same-but fs f x g q

-- the same marks, dots and views
pub same-bare : (known : KnownFile) (a b : Bool) (v w : Window) → a ≡ b → v.dot ≡ w.dot → v.view_start ≡ w.view_start → v.view_length ≡ w.view_length
    → bare (record known { changed = a; window = Some v }) ≡ bare (record known { changed = b; window = Some w })
same-bare known a b v w ea ed es el =
    λ i. record known { changed = ea i; window = Some (record blank_window { dot = ed i; view_start = es i; view_length = el i }) }

-- an open window shows the whole text
pub unlock-sight : (x : PlainTerminal) (f : ℕ) → is_open x f ≡ true → sight (effect x (Hunlockfile f)) ≡ sight x
unfolding took_unlockfile
unlock-sight x f o = sight-window x f (record (window_at x f) { locks = (window_at x f).locks - 1 }) o refl

pub part-length : (t : List ℕ) (p q : ℕ) → p ≤ q → q ≤ length t → q - p ≡ length (part t p q)
part-length t p q l m = grind (arith, length-drop, length-take-le, length-take)
