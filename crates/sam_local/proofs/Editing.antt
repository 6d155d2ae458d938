-- What each event does to the editor without a network: typing and cuts, and what one message does.
use Rattle.sam_crossing.proofs.Common.{◌≡◌, ℕ, zero, suc, ◌+◌, ◌-◌, ◌≤◌, Bool, true, false, not, ◌==◌, ◌&&◌, ◌||◌, if◌then◌else◌, List, [], ◌∷◌, ◌++◌, length, take, drop, Option, Some, None, is_some, unwrap_or, refl, sym, ap, ◌∙◌, subst, true≢false, arith, not-false, eqb-true, append-nil, length-take-le, length-map, Slots, slot, put_slot, free_slot, slot-free_other, part, ins, del, PlainFile, blank_file, file_at, put_file, cut_file, typed_file, Tworkfile, Ttype, Tcut, Tsnarf, Twrite, Tclose, Tsetsnarf, Texit, Hunlockfile, Hexit, eq-eqb, PlainHost, Reply, counted, reply_to, with_file, with_files, reply_type, reply_cut, reply_snarf, reply_setsnarf, reply_write, reply_close, reply_workfile, reply_exit, Window, KnownFile, UserEvent, PlainTerminal, known_at, window_at, is_open, put_known, effect, took_close, took_exit, event_outcome, place_after_ins, place_after_del, InOrder}
use Rattle.sam_runes.specs.Texts.{is_empty}
use Rattle.sam_text.specs.Files.{is_changed, with_work, without_file, written_file}
use Rattle.std.proofs.Math.Seq.{take-append_seam, drop-append_seam}
use Rattle.sam_term.specs.declared.event.UserEvent.TheVariants.{Typed, Select, Cut, Snarf, Close, Write, Work, Exit, SetSnarf}
use Rattle.sam_term.specs.declared.event.Verdict.{Verdict}
use Rattle.sam_term.specs.Events.{is_command_line}
use Rattle.sam_term.specs.Term.{freed_known}
use Rattle.sam_crossing.proofs.Passing.{passed}
use Rattle.sam_local.specs.Local.{PlainEditor, at_rest, all_taken, carried_unless, carried}
use Rattle.sam_local.specs.Editing.{IsReached, text_in, dot_in, May, replaced, moved_window, with_host_file, with_known, with_window, with_edit, with_typing, with_snarf, over, RefusedDoesNothing, SelectSets, CutMoves, SnarfCopies, SetSnarfSets, WriteSaves, CloseDrops, WorkSets, ExitEnds}
use Rattle.sam_local.proofs.Sights.{bare, sight, rests, turned, map-twice}
use Rattle.sam_local.proofs.Frames.{bare-freed, turn, known-put_same}
use Rattle.sam_local.proofs.Ahead.{opened-is}
use Rattle.sam_local.proofs.Checks.{rest-window}
use Rattle.sam_local.proofs.Uncounted.{rest}
use Rattle.sam_local.proofs.Events.{is_cut, cut_window, typed_window, turn_nothing}
use Rattle.sam_local.proofs.Editors.{reached-stands, acted, after-none, after-one, after-two, open-here}
use Rattle.sam_local.proofs.Whole.{file-put, SameBut, same-but, whole-free, sight-same, kept-file, kept-all, kept-both, kept-here, back, none-deleted, none-inserted, as-many, file-twice, same-text, same-bare, unlock-sight, part-length}

-- what holds of each pair at rest holds of each editor that was reached
pub reached : (P : PlainEditor → Type 0) → ((h : PlainHost) (t : PlainTerminal) → InOrder (rest h) (at_rest h t).term [] [] → P (at_rest h t)) → (editor : PlainEditor) → IsReached editor → P editor
reached P all editor r =
    let s = reached-stands editor r in
    subst P s.whole (all editor.host editor.term (subst (λ (x : PlainEditor). InOrder x.host x.term [] []) (sym s.whole) s.order))

-- ## Refusals

pub refused_does_nothing : RefusedDoesNothing
refused_does_nothing editor e why q = ap (λ (v : Option Verdict). carried_unless v editor (event_outcome editor.term e)) q

-- ## Texts

pub type-plain : (h : PlainHost) (f p : ℕ) (s : List ℕ) → is_command_line f s ≡ false
    → reply_to h (Ttype f p s) ≡ (with_file h f (typed_file f (file_at h.files f) p s), [])
unfolding reply_type
type-plain h f p s plain = rw plain refl

pub replaced-cut : (t : List ℕ) (p q : ℕ) → del t p q ≡ replaced t (p, q) []
replaced-cut t p q = ap (λ (xs : List ℕ). xs ++ drop q t) (sym (append-nil (take p t)))

pub replaced-ins : (t s : List ℕ) (p q : ℕ) → (p == q) ≡ true → ins t p s ≡ replaced t (p, q) s
replaced-ins t s p q e = ap (λ (n : ℕ). (take p t ++ s) ++ drop n t) (eqb-true p q e)

take-front : (t u : List ℕ) (p : ℕ) → p ≤ length t → take p (take p t ++ u) ≡ take p t
take-front t u p l = subst (λ (n : ℕ). take n (take p t ++ u) ≡ take p t) (length-take-le p t l) (take-append_seam (take p t) u)

drop-front : (t u : List ℕ) (p : ℕ) → p ≤ length t → drop p (take p t ++ u) ≡ u
drop-front t u p l = subst (λ (n : ℕ). drop n (take p t ++ u) ≡ u) (length-take-le p t l) (drop-append_seam (take p t) u)

pub replaced-both : (t s : List ℕ) (p q : ℕ) → p ≤ length t → ins (del t p q) p s ≡ replaced t (p, q) s
replaced-both t s p q l = λ i. (take-front t (drop q t) p l i ++ s) ++ drop-front t (drop q t) p l i

-- ## Windows

place-first : (p q : ℕ) → p ≤ q → place_after_del p q p ≡ p + 0
place-first p q l = grind arith

place-last : (p q : ℕ) → p ≤ q → place_after_del p q q ≡ p + 0
place-last p q l = grind arith

pub cut-dot : (w : Window) → w.dot.0 ≤ w.dot.1 → (cut_window w).dot ≡ (w.dot.0 + 0, w.dot.0 + 0)
cut-dot w l = by (w.dot.0 == w.dot.1) refl
  where
    by : (b : Bool) → (w.dot.0 == w.dot.1) ≡ b → (cut_window w).dot ≡ (w.dot.0 + 0, w.dot.0 + 0)
    by true e =
        let first : w.dot.0 ≡ w.dot.0 + 0 = omega arith in
        let last : w.dot.1 ≡ w.dot.0 + 0 = sym (eqb-true w.dot.0 w.dot.1 e) ∙ first in
        rw e (λ i. (first i, last i))
    by false e = rw e (λ i. (place-first w.dot.0 w.dot.1 l i, place-last w.dot.0 w.dot.1 l i))

pub cut-view : (w : Window) → (cut_window w).view_start ≡ place_after_del w.dot.0 w.dot.1 w.view_start
cut-view w = by (w.dot.0 == w.dot.1) refl
  where
    by : (b : Bool) → (w.dot.0 == w.dot.1) ≡ b → (cut_window w).view_start ≡ place_after_del w.dot.0 w.dot.1 w.view_start
    by true e = rw e (sym (none-deleted w.dot.0 w.dot.1 w.view_start e))
    by false e = rw e refl

pub cut-length : (w : Window) → (cut_window w).view_length ≡ w.view_length
cut-length w = by (w.dot.0 == w.dot.1) refl
  where
    by : (b : Bool) → (w.dot.0 == w.dot.1) ≡ b → (cut_window w).view_length ≡ w.view_length
    by true e = rw e refl
    by false e = rw e refl

-- ## Files

-- the file once the user put s in the place of d
abbrev pub put_in : ℕ → PlainFile → ℕ × ℕ → List ℕ → PlainFile
put_in f file d s = record file { text = replaced file.text d s; dot = (d.0 + length s, d.0 + length s); dirty = is_changed f file }

-- what is dirty stays so
dirty-twice : (f : ℕ) (file : PlainFile) (p q : ℕ) → is_changed f (cut_file f file p q) ≡ is_changed f file
dirty-twice f file p q = by (f == 0)
  where
    by : (b : Bool) → (if b then (if b then file.dirty else true) else true) ≡ (if b then file.dirty else true)
    by true = refl
    by false = refl

pub cut-in : (f : ℕ) (file : PlainFile) (p q : ℕ) → cut_file f file p q ≡ put_in f file (p, q) []
cut-in f file p q =
    let end : p ≡ p + 0 = omega arith in
    λ i. record file { text = replaced-cut file.text p q i; dot = (end i, end i); dirty = is_changed f file }

pub typed-in : (f : ℕ) (file : PlainFile) (p q : ℕ) (s : List ℕ) → (p == q) ≡ true → typed_file f file p s ≡ put_in f file (p, q) s
typed-in f file p q s e = λ i. record file { text = replaced-ins file.text s p q e i; dot = (p + length s, p + length s); dirty = is_changed f file }

-- a cut, and then s typed in its place
pub both-in : (f : ℕ) (file : PlainFile) (p q : ℕ) (s : List ℕ) → p ≤ length file.text → typed_file f (cut_file f file p q) p s ≡ put_in f file (p, q) s
both-in f file p q s l =
    λ i. record file { text = replaced-both file.text s p q l i; dot = (p + length s, p + length s); dirty = dirty-twice f file p q i }

-- ## Typing

and-false : (b : Bool) → (b && false) ≡ false
and-false true = refl
and-false false = refl

pub typing-none : (editor : PlainEditor) (f : ℕ) (s : List ℕ) → ((dot_in editor f).0 == (dot_in editor f).1 && is_empty s) ≡ true → with_typing editor f s ≡ editor
typing-none editor f s e = rw e refl

pub typing-some : (editor : PlainEditor) (f : ℕ) (s : List ℕ) → ((dot_in editor f).0 == (dot_in editor f).1 && is_empty s) ≡ false
    → let w = window_at editor.term f in
    with_typing editor f s ≡ with_edit editor f w.dot s (record (moved_window w.dot s w) { dot = (w.dot.0 + length s, w.dot.0 + length s) })
typing-some editor f s e = rw e refl

-- what is put in and dropped
free-put : {X : Type 0} (ss : Slots X) (f : ℕ) (x y : X) → slot ss f ≡ Some y → free_slot (put_slot ss f x) f ≡ free_slot ss f
free-put [] f x y e = grind arith
free-put (s ∷ ss) zero x y e = refl
free-put (s ∷ ss) (suc f) x y e = ap (λ rest. s ∷ rest) (free-put ss f x y e)

-- the end of the session frees what no sight tells of
pub sight-exit : (x : PlainTerminal) → sight (effect x Hexit) ≡ sight (record x { has_exited = true })
unfolding took_exit
sight-exit x = λ i. record (sight x) { has_exited = true; files = map-twice bare freed_known bare-freed x.files i }

module _ (h : PlainHost) (t : PlainTerminal) (o : InOrder (rest h) (at_rest h t).term [] []) (f : ℕ) where
  abbrev editor : PlainEditor
  editor = at_rest h t

  abbrev term : PlainTerminal
  term = (at_rest h t).term

  abbrev known : KnownFile
  known = known_at (at_rest h t).term f

  abbrev w : Window
  w = window_at (at_rest h t).term f

  abbrev file : PlainFile
  file = file_at h.files f

  abbrev text : List ℕ
  text = (file_at h.files f).text

  pub tidy : w.dot.0 ≤ w.dot.1
  tidy = (o.tidy f).0

  pub ends : is_open (at_rest h t).term f ≡ true → w.dot.1 ≤ length text
  ends opened = omega (arith, (o.tidy f).1, ap (λ (x : Window). length x.rasp) (rest-window h t f (open-here h t o f ∙ opened)), length-map text Some)

  pub within : is_open (at_rest h t).term f ≡ true → w.dot.0 ≤ length text
  within opened = omega (arith, tidy, ends opened)

  -- the window once s is typed in the place of the dot
  abbrev pub typed_here : List ℕ → Window
  typed_here s = record (moved_window w.dot s w) { dot = (w.dot.0 + length s, w.dot.0 + length s) }

  -- what the terminal keeps then
  abbrev pub edited_here : List ℕ → KnownFile
  edited_here s = record known { changed = true; window = Some (typed_here s) }

  -- a dot that isn't empty goes
  pub cut-seen : (z : PlainTerminal) → z.files ≡ term.files → (w.dot.0 == w.dot.1) ≡ false
      → sight (put_known z f (turn is_cut cut_window known)) ≡ sight (put_known z f (edited_here []))
  cut-seen z e x =
      sight-same z f (turn is_cut cut_window known) (edited_here [])
      (same-bare known (is_cut w || known.changed) true (cut_window w) (typed_here []) (ap (λ (b : Bool). not b || known.changed) x) (cut-dot w tidy)
      (cut-view w ∙ sym (none-inserted w.dot.0 (place_after_del w.dot.0 w.dot.1 w.view_start))) (cut-length w))

  typed-seen : (s : List ℕ) → sight (put_known term f (turn (λ w. true) (typed_window s) known)) ≡ sight (put_known term f (edited_here s))
  typed-seen s =
      sight-same term f (turn (λ w. true) (typed_window s) known) (edited_here s)
      (same-bare known true true (typed_window s w) (typed_here s) refl refl (as-many w.dot.0 s (cut_window w).view_start ∙ ap (place_after_ins w.dot.0 (length s)) (cut-view w)) (cut-length w))

  typed-nothing : May editor (Typed f []) → carried editor (Typed f []) ≡ with_typing editor f []
  unfolding reply_cut
  typed-nothing may = by (w.dot.0 == w.dot.1) refl
    where
      by : (b : Bool) → (w.dot.0 == w.dot.1) ≡ b → carried editor (Typed f []) ≡ with_typing editor f []
      by true x =
          after-none h t o (Typed f []) may (rw x refl)
          ∙ back h t (turned term f (turn is_cut cut_window)) (turn_nothing term f (not-false (is_open term f) (passed term (Typed f []) may).opened) (w.dot.0 == w.dot.1) x)
          ∙ sym (typing-none editor f [] (ap (λ (b : Bool). b && true) x))
      by false x =
          after-one h t o (Typed f []) (Tcut f w.dot.0 w.dot.1) may (rw x refl)
          ∙ kept-both h t (turned term f (turn is_cut cut_window)) f (cut_file f file w.dot.0 w.dot.1) (edited_here []) (cut-seen term refl x)
          ∙ ap (λ (x : PlainFile). with_known (with_host_file editor f x) f (edited_here [])) (cut-in f file w.dot.0 w.dot.1)
          ∙ sym (typing-some editor f [] (ap (λ (b : Bool). b && true) x))

  -- typing that comes to a host with this file
  typing-comes : (c : ℕ) (s : List ℕ) (x : PlainFile) → x ≡ put_in f file w.dot (c ∷ s)
      → at_rest (with_file h f x) (turned term f (turn (λ w. true) (typed_window (c ∷ s)))) ≡ with_typing editor f (c ∷ s)
  typing-comes c s x e =
      kept-both h t (turned term f (turn (λ w. true) (typed_window (c ∷ s)))) f x (edited_here (c ∷ s)) (typed-seen (c ∷ s))
      ∙ ap (λ (x : PlainFile). with_known (with_host_file editor f x) f (edited_here (c ∷ s))) e ∙ sym (typing-some editor f (c ∷ s) (and-false (w.dot.0 == w.dot.1)))

  -- the host once c ∷ s is typed in the place of the dot, where it is empty and where it isn't
  pub typed-alone : (c : ℕ) (s : List ℕ) → (w.dot.0 == w.dot.1) ≡ true
      → at_rest (with_file h f (typed_file f file w.dot.0 (c ∷ s))) (turned term f (turn (λ w. true) (typed_window (c ∷ s)))) ≡ with_typing editor f (c ∷ s)
  typed-alone c s x = typing-comes c s (typed_file f file w.dot.0 (c ∷ s)) (typed-in f file w.dot.0 w.dot.1 (c ∷ s) x)

  abbrev pub cut_host : PlainHost
  cut_host = with_file (rest h) f (cut_file f file w.dot.0 w.dot.1)

  abbrev pub typed_onto : PlainHost → List ℕ → PlainHost
  typed_onto k s = with_file k f (typed_file f (file_at k.files f) w.dot.0 s)

  pub typed-both : (c : ℕ) (s : List ℕ) → is_open term f ≡ true
      → at_rest (typed_onto (counted cut_host) (c ∷ s)) (turned term f (turn (λ w. true) (typed_window (c ∷ s)))) ≡ with_typing editor f (c ∷ s)
  typed-both c s opened =
      let cut = cut_file f file w.dot.0 w.dot.1 in
      let both = typed_file f (file_at (put_file h.files f cut) f) w.dot.0 (c ∷ s) in
      let y = turned term f (turn (λ w. true) (typed_window (c ∷ s))) in
      ap (λ (k : PlainHost). at_rest k y) (file-twice h f cut both)
      ∙ typing-comes c s both (ap (λ (x : PlainFile). typed_file f x w.dot.0 (c ∷ s)) (file-put h.files f cut) ∙ both-in f file w.dot.0 w.dot.1 (c ∷ s) (within opened))

  typed-some : (c : ℕ) (s : List ℕ) → is_command_line f (c ∷ s) ≡ false → May editor (Typed f (c ∷ s)) → carried editor (Typed f (c ∷ s)) ≡ with_typing editor f (c ∷ s)
  unfolding reply_cut
  typed-some c s plain may = by (w.dot.0 == w.dot.1) refl
    where
      e : UserEvent
      e = Typed f (c ∷ s)

      p : ℕ
      p = w.dot.0

      y : PlainTerminal
      y = turned term f (turn (λ w. true) (typed_window (c ∷ s)))

      by : (b : Bool) → (w.dot.0 == w.dot.1) ≡ b → carried editor e ≡ with_typing editor f (c ∷ s)
      by true x =
          after-one h t o e (Ttype f p (c ∷ s)) may (rw x refl) ∙ ap (λ (r : Reply). at_rest r.0 (all_taken y r.1)) (type-plain (rest h) f p (c ∷ s) plain) ∙ typed-alone c s x
      by false x =
          after-two h t o e (Tcut f p w.dot.1) (Ttype f p (c ∷ s)) cut_host may (rw x refl) refl (acted h t o e may).running
          ∙ ap (λ (r : Reply). at_rest r.0 (all_taken y ([] ++ r.1))) (type-plain (counted cut_host) f p (c ∷ s) plain)
          ∙ typed-both c s (not-false (is_open term f) (passed term e may).opened)

  pub typed : (s : List ℕ) → is_command_line f s ≡ false → May editor (Typed f s) → carried editor (Typed f s) ≡ with_typing editor f s
  typed [] plain may = typed-nothing may
  typed (c ∷ s) plain may = typed-some c s plain may

  -- ## Cuts and the snarf buffer

  abbrev dotted : List ℕ
  dotted = part text w.dot.0 w.dot.1

  dotted-length : is_open term f ≡ true → w.dot.1 - w.dot.0 ≡ length dotted
  dotted-length opened = part-length text w.dot.0 w.dot.1 tidy (ends opened)

  -- the host with this snarf buffer
  abbrev snarfed : PlainHost
  snarfed = with_files (rest h) (record h.files { snarf = dotted })

  -- the terminal that was told of n runes
  abbrev told_of : ℕ → PlainTerminal
  told_of n = record term { snarf_length = n }

  cut-moves : May editor (Cut f) → (w.dot.0 == w.dot.1) ≡ false → carried editor (Cut f) ≡ with_typing (with_snarf editor dotted) f []
  unfolding reply_cut reply_snarf
  cut-moves may x =
      let p = w.dot.0 in
      let q = w.dot.1 in
      let size = dotted-length (not-false (is_open term f) (passed term (Cut f) may).opened) in
      let known_cut = turn is_cut cut_window known in
      let cut = cut_file f file p q in
      after-two h t o (Cut f) (Tsnarf f p q) (Tcut f p q) snarfed may (rw x refl) refl (acted h t o (Cut f) may).running
      ∙ kept-file h t (with_file snarfed f cut) (record (turned term f (turn is_cut cut_window)) { snarf_length = q - p }) (told_of (length dotted)) refl f (edited_here []) (same-but h.files f cut)
      (cut-seen (told_of (q - p)) refl x ∙ ap (λ (n : ℕ). sight (put_known (told_of n) f (edited_here []))) size)
      ∙ ap (λ (x : PlainFile). with_known (with_host_file (with_snarf editor dotted) f x) f (edited_here [])) (cut-in f file p q)
      ∙ sym (typing-some (with_snarf editor dotted) f [] (ap (λ (b : Bool). b && true) x))

  snarf-copies : May editor (Snarf f) → (w.dot.0 == w.dot.1) ≡ false → carried editor (Snarf f) ≡ with_snarf editor dotted
  unfolding reply_snarf
  snarf-copies may x =
      after-one h t o (Snarf f) (Tsnarf f w.dot.0 w.dot.1) may (rw x refl)
      ∙ kept-all h t snarfed (told_of (w.dot.1 - w.dot.0)) (told_of (length dotted)) refl (λ g. refl)
      (ap (λ (n : ℕ). sight (told_of n)) (dotted-length (not-false (is_open term f) (passed term (Snarf f) may).opened)))

  -- ## Others

  select-sets : (p q : ℕ) → May editor (Select f p q) → carried editor (Select f p q) ≡ with_window editor f (record w { dot = (p, q) })
  select-sets p q may =
      let set : Window → Window = λ w. record w { dot = (p, q) } in
      after-none h t o (Select f p q) may refl
      ∙ kept-here h t (turned term f (turn (λ w. false) set)) f (record known { window = Some (set w) })
      (sight-same term f (turn (λ w. false) set known) (record known { window = Some (set w) }) refl)

  write-saves : May editor (Write f) → carried editor (Write f) ≡ with_known (with_host_file editor f (written_file file)) f (record known { dirty = false; changed = false })
  unfolding reply_write
  write-saves may =
      let clean = record known { dirty = false; changed = false } in
      let y = put_known term f clean in
      after-one h t o (Write f) (Twrite f) may refl
      ∙ kept-both h t (effect y (Hunlockfile f)) f (written_file file) clean
      (unlock-sight y f (ap (λ (k : KnownFile). is_some k.window) (known-put_same term f clean) ∙ not-false (is_open term f) (passed term (Write f) may).opened))

  close-drops : May editor (Close f)
      → carried editor (Close f) ≡ record editor { host = with_files editor.host (without_file h.files f); term = record term { files = free_slot term.files f } }
  unfolding reply_close took_close
  close-drops may =
      let opened = not-false (is_open term f) (passed term (Close f) may).opened in
      let k = with_files (rest h) (without_file h.files f) in
      let gone = record term { files = free_slot term.files f } in
      let seen = free-put term.files f (record known { window = None }) known (opened-is term f opened) in
      let same : SameBut f h.files k.files = λ g n. ap (λ (s : Option PlainFile). (unwrap_or s blank_file).text) (slot-free_other h.files.slots f g (λ q. true≢false (sym (eq-eqb g f (sym q)) ∙ n))) in
      after-one h t o (Close f) (Tclose f) may refl
      ∙ rests k (record (put_known term f (record known { window = None })) { files = free_slot (put_slot term.files f (record known { window = None })) f }) gone (ap (λ (ss : Slots KnownFile). sight (record term { files = ss })) seen)
      ∙ (λ i. record editor { host = k; term = record term { files = whole-free h.files k.files t.files 0 f f (omega arith) same i } })

  work-sets : May editor (Work f)
      → carried editor (Work f) ≡ record editor { host = with_files editor.host (with_work h.files f w.dot.0 w.dot.1); term = record term { current = Some f } }
  unfolding reply_workfile
  work-sets may =
      let at = record term { current = Some f } in
      after-one h t o (Work f) (Tworkfile f w.dot.0 w.dot.1) may refl
      ∙ kept-all h t (with_files (rest h) (with_work h.files f w.dot.0 w.dot.1)) at at refl (same-text h.files f (record file { dot = w.dot }) refl) refl

module _ (h : PlainHost) (t : PlainTerminal) (o : InOrder (rest h) (at_rest h t).term [] []) where
  set-snarf-sets : (s : List ℕ) → May (at_rest h t) (SetSnarf s) → carried (at_rest h t) (SetSnarf s) ≡ with_snarf (at_rest h t) s
  unfolding reply_setsnarf
  set-snarf-sets s may =
      let told = record (at_rest h t).term { snarf_length = length s } in
      after-one h t o (SetSnarf s) (Tsetsnarf s) may refl ∙ kept-all h t (with_files (rest h) (record h.files { snarf = s })) told told refl (λ g. refl) refl

  exit-ends : May (at_rest h t) Exit → carried (at_rest h t) Exit ≡ over (at_rest h t)
  unfolding reply_exit took_exit
  exit-ends may =
      let x = (at_rest h t).term in
      let left = record x { has_exited = true } in
      after-one h t o Exit Texit may refl
      ∙ kept-all h t (record (rest h) { is_done = true }) (effect x Hexit) left refl (λ g. refl) (sight-exit x)

-- ## The laws

pub select_sets : SelectSets
select_sets editor f p q r =
    reached (λ x. May x (Select f p q) → carried x (Select f p q) ≡ with_window x f (record (window_at x.term f) { dot = (p, q) })) (λ h t o. select-sets h t o f p q) editor r

pub cut_moves : CutMoves
cut_moves editor f r =
    reached
    (λ x. May x (Cut f) → let d = dot_in x f in ((d.0 == d.1) ≡ false) → carried x (Cut f) ≡ with_typing (with_snarf x (part (text_in x f) d.0 d.1)) f [])
    (λ h t o. cut-moves h t o f) editor r

pub snarf_copies : SnarfCopies
snarf_copies editor f r =
    reached (λ x. May x (Snarf f) → let d = dot_in x f in ((d.0 == d.1) ≡ false) → carried x (Snarf f) ≡ with_snarf x (part (text_in x f) d.0 d.1)) (λ h t o. snarf-copies h t o f) editor r

pub set_snarf_sets : SetSnarfSets
set_snarf_sets editor s r = reached (λ x. May x (SetSnarf s) → carried x (SetSnarf s) ≡ with_snarf x s) (λ h t o. set-snarf-sets h t o s) editor r

pub write_saves : WriteSaves
write_saves editor f r =
    reached
    (λ x. May x (Write f) → carried x (Write f) ≡ with_known (with_host_file x f (written_file (file_at x.host.files f))) f (record (known_at x.term f) { dirty = false; changed = false }))
    (λ h t o. write-saves h t o f) editor r

pub close_drops : CloseDrops
close_drops editor f r =
    reached
    (λ x. May x (Close f)
    → carried x (Close f) ≡ record x { host = with_files x.host (without_file x.host.files f); term = record x.term { files = free_slot x.term.files f } })
    (λ h t o. close-drops h t o f) editor r

pub work_sets : WorkSets
work_sets editor f r =
    reached
    (λ x. May x (Work f) → let d = dot_in x f in
    carried x (Work f) ≡ record x { host = with_files x.host (with_work x.host.files f d.0 d.1); term = record x.term { current = Some f } })
    (λ h t o. work-sets h t o f) editor r

pub exit_ends : ExitEnds
exit_ends editor r = reached (λ x. May x Exit → carried x Exit ≡ over x) exit-ends editor r
