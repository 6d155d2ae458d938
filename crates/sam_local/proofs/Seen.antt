-- Frames of one file, one after another: what they leave of the file, as far as a sight tells.
use Rattle.sam_crossing.proofs.Common.{◌≡◌, ℕ, ◌+◌, ◌-◌, Bool, true, false, ◌&&◌, ◌||◌, if◌then◌else◌, List, [], ◌∷◌, ◌++◌, length, map, replicate, reverse, flat_map, Option, Some, None, refl, sym, ap, ◌∙◌, arith, append-nil, nat_le, nat_lt, most_in_message, length-map, PlainFiles, file_at, grown, told_edit, when, Hmesg, Hgrow, Hgrowdata, Hcut, Hsetdot, Hmoveto, Hdirty, Hunlockfile, KnownFile, Window, PlainTerminal, known_at, window_at, is_open, put_known, window_after_ins, window_after_del, place_after_ins, place_after_del, effect, took_grow, took_growdata, took_cut, took_unlockfile}
use Rattle.std.proofs.lemmas.List.{length-replicate, reverse-append}
use Rattle.std.proofs.lemmas.List.Concat.{flat_map-append}
use Rattle.sam_runes.specs.declared.edit.Edit.{Edit}
use Rattle.sam_host.specs.Host.{told_edits}
use Rattle.sam_local.specs.Local.{all_taken}
use Rattle.sam_local.specs.Editing.{moved_window, edited_window}
use Rattle.sam_local.proofs.Sights.{bare, sight, turned}
use Rattle.sam_local.proofs.Frames.{in_window, sight-taken, taken-append, together}
use Rattle.sam_local.proofs.Ahead.{sight-window}
use Rattle.sam_local.proofs.Whole.{sight-same, none-inserted}

-- a place is where it was where nothing goes
kept-place : (p q place : ℕ) → nat_lt p q ≡ false → place ≡ place_after_del p q place
kept-place p q place e = grind (arith, e)

-- the window once these runes came in at p
abbrev pub ins_window : ℕ → List ℕ → Window → Window
ins_window p s w = record w { dot = (place_after_ins p (length s) w.dot.0, place_after_ins p (length s) w.dot.1); view_start = place_after_ins p (length s) w.view_start }

-- the window once what stands from p to q went
abbrev pub del_window : ℕ → ℕ → Window → Window
del_window p q w = record w { dot = (place_after_del p q w.dot.0, place_after_del p q w.dot.1); view_start = place_after_del p q w.view_start }

-- what is kept of a file with this window
abbrev pub in_it : KnownFile → Window → KnownFile
in_it known w = record known { window = Some w }

pub same-places : (known : KnownFile) (v w : Window) → v.dot ≡ w.dot → v.view_start ≡ w.view_start → v.view_length ≡ w.view_length → bare (in_it known v) ≡ bare (in_it known w)
same-places known v w d s l = λ i. bare (in_it known (record v { dot = d i; view_start = s i; view_length = l i }))

-- the edit that is told last is the first of the text
last-edit : (fs : PlainFiles) (f : ℕ) (e : Edit) (es : List Edit) → told_edits fs f (e ∷ es) ≡ told_edits fs f es ++ told_edit fs f e
last-edit fs f e es =
    ap (flat_map (told_edit fs f)) (reverse-append (e ∷ []) es) ∙ flat_map-append (told_edit fs f) (reverse es) (e ∷ [])
    ∙ ap (λ (ms : List Hmesg). told_edits fs f es ++ ms) (append-nil (told_edit fs f e))

module _ (z : PlainTerminal) (f : ℕ) where
  -- the sight of the terminal is that of z with this file
  abbrev pub Seen : PlainTerminal → KnownFile → Type 0
  Seen x known = sight x ≡ sight (put_known z f known)

  pub seen-alike : (x : PlainTerminal) (a b : KnownFile) → Seen x a → bare a ≡ bare b → Seen x b
  seen-alike x a b s e = s ∙ sight-same z f a b e

  pub seen-effect : (x : PlainTerminal) (known : KnownFile) (m : Hmesg) (d : KnownFile → KnownFile) → Seen x known → sight (effect (put_known z f known) m) ≡ sight (turned (put_known z f known) f d)
      → Seen (effect x m) (d known)
  seen-effect x known m d s e = sight-taken (m ∷ []) x (put_known z f known) s ∙ e ∙ ap sight (together z f (λ k. known) d)

  -- the terminal itself
  pub seen-first : is_open z f ≡ true → Seen z (in_it (known_at z f) (window_at z f))
  seen-first o = sym (sight-window z f (window_at z f) o refl)

  pub seen-dot : (x : PlainTerminal) (known : KnownFile) (w : Window) (p q : ℕ) → Seen x (in_it known w) → Seen (effect x (Hsetdot f p q)) (in_it known (record w { dot = (p, q) }))
  seen-dot x known w p q s = seen-effect x (in_it known w) (Hsetdot f p q) (in_window (λ w. record w { dot = (p, q) })) s refl

  pub seen-view : (x : PlainTerminal) (known : KnownFile) (w : Window) (p : ℕ) → Seen x (in_it known w) → Seen (effect x (Hmoveto f p)) (in_it known (record w { view_start = p }))
  seen-view x known w p s = seen-effect x (in_it known w) (Hmoveto f p) (in_window (λ w. record w { view_start = p })) s refl

  pub seen-unlock : (x : PlainTerminal) (known : KnownFile) (w : Window) → Seen x (in_it known w) → Seen (effect x (Hunlockfile f)) (in_it known w)
  unfolding took_unlockfile
  seen-unlock x known w s = seen-effect x (in_it known w) (Hunlockfile f) (in_window (λ w. record w { locks = w.locks - 1 })) s refl
      ∙ sight-same z f (in_it known (record w { locks = w.locks - 1 })) (in_it known w) refl

  pub seen-grown : (fs : PlainFiles) (x : PlainTerminal) (known : KnownFile) (w : Window) (p : ℕ) (s : List ℕ) → (file_at fs f).opened ≡ true → Seen x (in_it known w)
      → Seen (all_taken x (grown fs f p s)) (in_it known (ins_window p s w))
  unfolding grown when took_grow took_growdata
  seen-grown fs x known w p [] o e =
      let none = none-inserted p in
      seen-alike (all_taken x (grown fs f p [])) (in_it known w) (in_it known (ins_window p [] w)) (ap (λ (b : Bool). sight (all_taken x (if b && false then (Hgrowdata f p [] ∷ []) else []))) o ∙ e)
      (same-places known w (ins_window p [] w) (λ i. (sym (none w.dot.0) i, sym (none w.dot.1) i)) (sym (none w.view_start)) refl)
  seen-grown fs x known w p (c ∷ s) o e = ap (λ (b : Bool). sight (all_taken x (if b && true then (if nat_le (length (c ∷ s)) most_in_message then Hgrowdata f p (c ∷ s) else Hgrow f p (length (c ∷ s))) ∷ [] else []))) o ∙ by (nat_le (length (c ∷ s)) most_in_message)
    where
      moved : (n : ℕ) → n ≡ length (c ∷ s) → (place : ℕ) → place_after_ins p n place ≡ place_after_ins p (length (c ∷ s)) place
      moved n e place = ap (λ (n : ℕ). place_after_ins p n place) e

      by : (b : Bool) → Seen (all_taken x ((if b then Hgrowdata f p (c ∷ s) else Hgrow f p (length (c ∷ s))) ∷ [])) (in_it known (ins_window p (c ∷ s) w))
      by true =
          let y : Window → Window = λ w. window_after_ins w p (map Some (c ∷ s)) in
          let move = moved (length (map {A = ℕ} {B = Option ℕ} Some (c ∷ s))) (length-map (c ∷ s) Some) in
          seen-alike (effect x (Hgrowdata f p (c ∷ s))) (in_it known (y w)) (in_it known (ins_window p (c ∷ s) w)) (seen-effect x (in_it known w) (Hgrowdata f p (c ∷ s)) (in_window y) e refl)
          (same-places known (y w) (ins_window p (c ∷ s) w) (λ i. (move w.dot.0 i, move w.dot.1 i)) (move w.view_start) refl)
      by false =
          let cells : List (Option ℕ) = replicate (length (c ∷ s)) None in
          let y : Window → Window = λ w. window_after_ins w p cells in
          let move = moved (length cells) (length-replicate (length (c ∷ s)) None) in
          seen-alike (effect x (Hgrow f p (length (c ∷ s)))) (in_it known (y w)) (in_it known (ins_window p (c ∷ s) w)) (seen-effect x (in_it known w) (Hgrow f p (length (c ∷ s))) (in_window y) e refl)
          (same-places known (y w) (ins_window p (c ∷ s) w) (λ i. (move w.dot.0 i, move w.dot.1 i)) (move w.view_start) refl)

  -- a file becomes dirty
  pub seen-dirty : (x : PlainTerminal) (known : KnownFile) (b : Bool) → Seen x known → Seen (all_taken x (when b (Hdirty f ∷ []))) (record known { dirty = known.dirty || b })
  unfolding when
  seen-dirty x known true e =
      seen-alike (effect x (Hdirty f)) (record known { dirty = true }) (record known { dirty = known.dirty || true }) (seen-effect x known (Hdirty f) (λ known. record known { dirty = true }) e refl)
      (ap (λ (b : Bool). bare (record known { dirty = b })) (sym (or-true known.dirty)))
    where
      or-true : (b : Bool) → (b || true) ≡ true
      or-true true = refl
      or-true false = refl
  seen-dirty x known false e = seen-alike x known (record known { dirty = known.dirty || false }) e (ap (λ (b : Bool). bare (record known { dirty = b })) (sym (or-false known.dirty)))
    where
      or-false : (b : Bool) → (b || false) ≡ b
      or-false true = refl
      or-false false = refl

  -- ## Edits of command lines

  seen-gone : (x : PlainTerminal) (known : KnownFile) (w : Window) (p q : ℕ) → Seen x (in_it known w) → Seen (all_taken x (when (nat_lt p q) (Hcut f p (q - p) ∷ []))) (in_it known (del_window p q w))
  unfolding when took_cut
  seen-gone x known w p q s = by (nat_lt p q) refl
    where
      by : (b : Bool) → nat_lt p q ≡ b → Seen (all_taken x (if b then Hcut f p (q - p) ∷ [] else [])) (in_it known (del_window p q w))
      by true e =
          let end : p + (q - p) ≡ q = grind (arith, e) in
          let y : Window → Window = λ w. window_after_del w p (p + (q - p)) in
          seen-alike (effect x (Hcut f p (q - p))) (in_it known (y w)) (in_it known (del_window p q w)) (seen-effect x (in_it known w) (Hcut f p (q - p)) (in_window y) s refl)
          (λ i. bare (in_it known (del_window p (end i) w)))
      by false e =
          let kept = λ (place : ℕ). kept-place p q place e in
          seen-alike x (in_it known w) (in_it known (del_window p q w)) s (same-places known w (del_window p q w) (λ i. (kept w.dot.0 i, kept w.dot.1 i)) (kept w.view_start) refl)

  seen-edit : (fs : PlainFiles) (x : PlainTerminal) (known : KnownFile) (w : Window) (e : Edit) → (file_at fs f).opened ≡ true → Seen x (in_it known w)
      → Seen (all_taken x (told_edit fs f e)) (in_it known (moved_window (e.p, e.q) e.text w))
  unfolding told_edit
  seen-edit fs x known w e o s =
      let gone = when (nat_lt e.p e.q) (Hcut f e.p (e.q - e.p) ∷ []) in
      ap sight (taken-append gone (grown fs f e.p e.text) x)
      ∙ seen-grown fs (all_taken x gone) known (del_window e.p e.q w) e.p e.text o (seen-gone x known w e.p e.q s)

  pub seen-edits : (fs : PlainFiles) (known : KnownFile) (w : Window) (o : (file_at fs f).opened ≡ true) (es : List Edit) (x : PlainTerminal) → Seen x (in_it known w)
      → Seen (all_taken x (told_edits fs f es)) (in_it known (edited_window es w))
  seen-edits fs known w o [] x s = s
  seen-edits fs known w o (e ∷ es) x s =
      ap (λ (ms : List Hmesg). sight (all_taken x ms)) (last-edit fs f e es) ∙ ap sight (taken-append (told_edits fs f es) (told_edit fs f e) x)
      ∙ seen-edit fs (all_taken x (told_edits fs f es)) known (edited_window es w) e o (seen-edits fs known w o es x s)
