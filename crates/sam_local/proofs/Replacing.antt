-- An edit of any length: its messages do to the host what it does at once.
use Rattle.sam_crossing.proofs.Common.{◌≡◌, ℕ, zero, suc, ◌+◌, ◌≤◌, Bool, true, false, ◌==◌, ◌&&◌, if◌then◌else◌, List, [], ◌∷◌, ◌++◌, length, map, take, drop, Option, Some, is_some, refl, sym, ap, ◌∙◌, subst, true≢false, arith, not-false, append-nil, same_Some, length-map, length-drop, length-ins, length-del, take-append-drop, slot, slot-put_same, has_file, is_empty, most_in_message, ins, PlainFile, PlainFiles, file_at, put_file, cut_file, typed_file, Tmesg, Ttype, Tcut, PlainHost, Reply, counted, reply_to, reply_cut, reply_of, answers, with_file, Window, KnownFile, UserEvent, PlainTerminal, known_at, window_at, is_open, put_known, window_after_del, pieces, typed_pieces, edit_messages, place_after_ins, InOrder}
use Rattle.sam_text.proofs.EditSteps.{typed_joined}
use Rattle.sam_term.specs.declared.event.UserEvent.TheVariants.{Edit}
use Rattle.sam_runes.specs.Texts.{ends_line}
use Rattle.sam_crossing.proofs.Passing.{Passed, passed}
use Rattle.sam_crossing.proofs.Folds.{Answered, answered}
use Rattle.sam_crossing.proofs.Replacing.{pieces_step, pieces-nothing}
use Rattle.sam_local.specs.Local.{PlainEditor, at_rest, all_taken, carried}
use Rattle.sam_local.specs.Editing.{May, moved_window, with_edit, EditReplaces, EditOfNothingKeeps}
use Rattle.sam_local.proofs.Sights.{sight, put-again, turned}
use Rattle.sam_local.proofs.Frames.{turn}
use Rattle.sam_local.proofs.Checks.{rest-window}
use Rattle.sam_local.proofs.Uncounted.{rest}
use Rattle.sam_local.proofs.Events.{altered_by, edit_turn, replaced_window, nothing-told}
use Rattle.sam_local.proofs.Editors.{replied-is, Acted, acted, after-none, open-here, has-open}
use Rattle.sam_local.proofs.Whole.{file-put, file-twice, sight-same, same-bare, kept-both, back, as-many}
use Rattle.sam_local.proofs.Editing.{reached, type-plain, put_in, cut-in, typed-in, both-in}
use Rattle.sam_local.proofs.Looking.{keeps}

-- ## Files that are there

slot-is : (fs : PlainFiles) (f : ℕ) → has_file fs f ≡ true → slot fs.slots f ≡ Some (file_at fs f)
slot-is fs f e = grind (arith, e)

has-put : (fs : PlainFiles) (f : ℕ) (x : PlainFile) → has_file (put_file fs f x) f ≡ true
has-put fs f x = ap is_some (slot-put_same fs.slots f x)

-- ## The host

-- the reply without frames of a host that goes on, by which this file stands at f, and all else as it was
record Written (h : PlainHost) (f : ℕ) (file : PlainFile) (r : Reply) : Type 0 where
  frames : r.1 ≡ []
  is : rest r.0 ≡ rest (with_file h f file)

module _ (f : ℕ) (plain : (f == 0) ≡ false) where
  -- one message that is answered by nothing
  one-written : (h : PlainHost) (m : Tmesg) (x : PlainFile) (r : Reply) → h.is_done ≡ false → reply_to h m ≡ (with_file h f x, []) → reply_of h m ≡ Some r → r ≡ (counted (with_file h f x), [])
  one-written h m x r d is e = replied-is h m r d e ∙ ap (λ (y : Reply). (counted y.0, y.1)) is

  type-written : (h : PlainHost) (p : ℕ) (s : List ℕ) (r : Reply) → h.is_done ≡ false → reply_of h (Ttype f p s) ≡ Some r → r ≡ (counted (with_file h f (typed_file f (file_at h.files f) p s)), [])
  type-written h p s r d e =
      one-written h (Ttype f p s) (typed_file f (file_at h.files f) p s) r d (type-plain h f p s (ap (λ (b : Bool). b && ends_line s) plain)) e

  -- then more messages, of which the last file is known
  then-written : (h : PlainHost) (x y : PlainFile) (r more : Reply) → Written (counted (with_file h f x)) f y more → r ≡ (more.0, [] ++ more.1) → Written h f y r
  then-written h x y r more w is = record {
    frames = ap (λ (z : Reply). z.1) is ∙ w.frames;
    is = ap (λ (z : Reply). rest z.0) is ∙ w.is ∙ ap rest (file-twice h f x y);
  }

  -- the file once a text is typed in pieces; where it is empty there are none
  abbrev typed_if : PlainFile → ℕ → List ℕ → PlainFile
  typed_if file p [] = file
  typed_if file p (c ∷ s) = typed_file f file p (c ∷ s)

  typed-on : (file : PlainFile) (p : ℕ) (a b : List ℕ) → p ≤ length file.text → typed_if (typed_file f file p a) (p + length a) b ≡ typed_file f file p (a ++ b)
  typed-on file p a [] l = ap (λ (x : List ℕ). typed_file f file p x) (sym (append-nil a))
  typed-on file p a (c ∷ b) l = typed_joined f file p a (c ∷ b) l

  abbrev PiecesWritten : ℕ → Type 0
  PiecesWritten n = (h : PlainHost) (p : ℕ) (s : List ℕ) (r : Reply) → h.is_done ≡ false → has_file h.files f ≡ true → length s ≤ n → p ≤ length (file_at h.files f).text
      → answers h (typed_pieces f (pieces n p s)) ≡ Some r → Written h f (typed_if (file_at h.files f) p s) r

  none-written : (n : ℕ) (h : PlainHost) (p : ℕ) (r : Reply) → has_file h.files f ≡ true → answers h (typed_pieces f (pieces n p [])) ≡ Some r → Written h f (file_at h.files f) r
  none-written n h p r has e =
      let is : (h, []) ≡ r = same_Some _ _ (sym (ap (λ (xs : List (ℕ × List ℕ)). answers h (typed_pieces f xs)) (pieces-nothing n p)) ∙ e) in
      record {
        frames = sym (ap (λ (z : Reply). z.1) is);
        is = sym (ap (λ (z : Reply). rest z.0) is) ∙ (λ i. rest (record h { files = record h.files { slots = sym (put-again h.files.slots f (file_at h.files f) (slot-is h.files f has)) i } }));
      }

  some-written : (n c : ℕ) (h : PlainHost) (p : ℕ) (s : List ℕ) (r : Reply) → PiecesWritten n → h.is_done ≡ false → length (c ∷ s) ≤ suc n → p ≤ length (file_at h.files f).text
      → answers h (typed_pieces f (pieces (suc n) p (c ∷ s))) ≡ Some r → Written h f (typed_file f (file_at h.files f) p (c ∷ s)) r
  some-written n c h p s r more d fuel l e =
      let a : List ℕ = take most_in_message (c ∷ s) in
      let b : List ℕ = drop most_in_message (c ∷ s) in
      let file : PlainFile = file_at h.files f in
      let x : PlainFile = typed_file f file p a in
      let k : PlainHost = counted (with_file h f x) in
      let ms : List Tmesg = typed_pieces f (pieces n (p + length a) b) in
      let there : file_at k.files f ≡ x = file-put h.files f x in
      let parts : Answered h (Ttype f p a) ms r = answered h (Ttype f p a) ms r (sym (ap (λ (xs : List (ℕ × List ℕ)). answers h (typed_pieces f xs)) (pieces_step n p c s)) ∙ e) in
      let first : parts.first ≡ (k, []) = type-written h p a parts.first d parts.now in
      let later : answers k ms ≡ Some parts.rest = sym (ap (λ (z : Reply). answers z.0 ms) first) ∙ parts.later in
      let size : length (ins file.text p a) ≡ length file.text + length a = length-ins file.text a p l in
      let place : p + length a ≤ length (file_at k.files f).text =
      subst (λ (z : PlainFile). p + length a ≤ length z.text) (sym there) (omega (arith, size, l)) in
      let last = more k (p + length a) b parts.rest d (has-put h.files f x) (omega (arith, length-drop most_in_message (c ∷ s), fuel)) place later in
      let whole : typed_if (file_at k.files f) (p + length a) b ≡ typed_file f file p (c ∷ s) =
      ap (λ (z : PlainFile). typed_if z (p + length a) b) there ∙ typed-on file p a b l ∙ ap (λ (z : List ℕ). typed_file f file p z) (take-append-drop most_in_message (c ∷ s)) in
      then-written h x (typed_file f file p (c ∷ s)) r parts.rest (subst (λ (z : PlainFile). Written k f z parts.rest) whole last) (parts.whole ∙ ap (λ (z : Reply). (parts.rest.0, z.1 ++ parts.rest.1)) first)

  pieces-written : (n : ℕ) → PiecesWritten n
  pieces-written n h p [] r d has fuel l e = none-written n h p r has e
  pieces-written zero h p (c ∷ s) r d has fuel l e = absurd (omega (arith, fuel))
  pieces-written (suc n) h p (c ∷ s) r d has fuel l e = some-written n c h p s r (pieces-written n) d fuel l e

  -- ## The whole

  cut-whole : (file : PlainFile) (p q : ℕ) (s : List ℕ) → p ≤ length file.text → typed_if (cut_file f file p q) p s ≡ put_in f file (p, q) s
  cut-whole file p q [] l = cut-in f file p q
  cut-whole file p q (c ∷ s) l = both-in f file p q (c ∷ s) l

  messages-written : (h : PlainHost) (p q : ℕ) (s : List ℕ) (r : Reply) → h.is_done ≡ false → has_file h.files f ≡ true → p ≤ q → q ≤ length (file_at h.files f).text → (p == q && is_empty s) ≡ false
      → answers h (edit_messages f p q s) ≡ Some r → Written h f (put_in f (file_at h.files f) (p, q) s) r
  unfolding reply_cut
  messages-written h p q s r d has up within some e = go (p == q) refl s refl e
    where
      file : PlainFile
      file = file_at h.files f

      x : PlainFile
      x = cut_file f file p q

      k : PlainHost
      k = counted (with_file h f x)

      there : file_at k.files f ≡ x
      there = file-put h.files f x

      place : p ≤ length (file_at k.files f).text
      place = subst (λ (z : PlainFile). p ≤ length z.text) (sym there) (omega (arith, length-del file.text p q up within))

      go : (none : Bool) → (p == q) ≡ none → (s1 : List ℕ) → s ≡ s1 → answers h ((if none then [] else Tcut f p q ∷ []) ++ typed_pieces f (pieces (length s) p s)) ≡ Some r
          → Written h f (put_in f file (p, q) s) r
      go true same [] is told = absurd (true≢false (sym (ap (λ (b : Bool). b && true) same) ∙ ap (λ (z : List ℕ). (p == q) && is_empty z) (sym is) ∙ some))
      go true same (c ∷ s1) is told = subst (λ (z : List ℕ). Written h f (put_in f file (p, q) z) r) (sym is)
          (subst (λ (z : PlainFile). Written h f z r) (typed-in f file p q (c ∷ s1) same)
          (subst (λ (z : List ℕ). Written h f (typed_if file p z) r) is (pieces-written (length s) h p s r d has (omega arith) (omega (arith, up, within)) told)))
      go false same s1 is told =
          let ms : List Tmesg = typed_pieces f (pieces (length s) p s) in
          let parts : Answered h (Tcut f p q) ms r = answered h (Tcut f p q) ms r told in
          let first : parts.first ≡ (k, []) = one-written h (Tcut f p q) x parts.first d refl parts.now in
          let later : answers k ms ≡ Some parts.rest = sym (ap (λ (z : Reply). answers z.0 ms) first) ∙ parts.later in
          let last = pieces-written (length s) k p s parts.rest d (has-put h.files f x) (omega arith) place later in
          let whole : typed_if (file_at k.files f) p s ≡ put_in f file (p, q) s = ap (λ (z : PlainFile). typed_if z p s) there ∙ cut-whole file p q s (omega (arith, up, within)) in
          then-written h x (put_in f file (p, q) s) r parts.rest (subst (λ (z : PlainFile). Written k f z parts.rest) whole last) (parts.whole ∙ ap (λ (z : Reply). (parts.rest.0, z.1 ++ parts.rest.1)) first)

-- ## The editor

abbrev Replaces : ℕ → ℕ → ℕ → List ℕ → PlainEditor → Type 0
Replaces f p q s editor =
    May editor (Edit f p q s) → (p == q && is_empty s) ≡ false
    → carried editor (Edit f p q s) ≡ with_edit editor f (p, q) s (moved_window (p, q) s (window_at editor.term f))

module _ (h : PlainHost) (t : PlainTerminal) (o : InOrder (rest h) (at_rest h t).term [] []) (f p q : ℕ) (s : List ℕ) where
  abbrev e : UserEvent
  e = Edit f p q s

  abbrev term : PlainTerminal
  term = (at_rest h t).term

  abbrev known : KnownFile
  known = known_at (at_rest h t).term f

  abbrev w : Window
  w = window_at (at_rest h t).term f

  abbrev text : List ℕ
  text = (file_at h.files f).text

  abbrev change : KnownFile → KnownFile
  change = turn (λ w. true) (replaced_window p q s)

  abbrev moved : KnownFile
  moved = record known { changed = true; window = Some (moved_window (p, q) s w) }

  replaces : Replaces f p q s (at_rest h t)
  replaces may some =
      a.is ∙ (λ i. at_rest a.reply.0 (all_taken (altered_by term (edit_turn (some i) f p q s)) (done.frames i)))
      ∙ ap (λ (k : PlainHost). at_rest k (turned term f change)) done.is ∙ kept-both h t (turned term f change) f (put_in f (file_at h.files f) (p, q) s) moved seen
    where
      a : Acted h t o e
      a = acted h t o e may

      pass : Passed term e
      pass = passed term e may

      opened : is_open term f ≡ true
      opened = not-false (is_open term f) pass.opened

      range : (p ≤ q) × (q ≤ length text)
      range =
          let size : length w.rasp ≡ length text = ap (λ (w : Window). length w.rasp) (rest-window h t f (open-here h t o f ∙ opened)) ∙ length-map text Some in
          grind (arith, pass.place, size)

      done : Written (rest h) f (put_in f (file_at h.files f) (p, q) s) a.reply
      done = messages-written f pass.other (rest h) p q s a.reply a.running (has-open h t o f opened) range.0 range.1 some a.folds

      dots : (place : ℕ) → place_after_ins p (length (map {A = ℕ} {B = Option ℕ} Some s)) place ≡ place_after_ins p (length s) place
      dots = as-many p s

      seen : sight (turned term f change) ≡ sight (put_known term f moved)
      seen =
          let v = window_after_del w p q in
          sight-same term f (change known) moved
          (same-bare known true true (replaced_window p q s w) (moved_window (p, q) s w) refl (λ i. (dots v.dot.0 i, dots v.dot.1 i)) (dots v.view_start) refl)

  nothing-keeps : (p == q && is_empty s) ≡ true → May (at_rest h t) e → carried (at_rest h t) e ≡ at_rest h t
  nothing-keeps none may =
      after-none h t o e may (nothing-told f p q s none) ∙ ap (λ (b : Bool). at_rest (rest h) (altered_by term (edit_turn b f p q s))) none ∙ back h t term refl

-- ## The laws

pub edit_replaces : EditReplaces
edit_replaces editor f p q s r = reached (Replaces f p q s) (λ h t o. replaces h t o f p q s) editor r

pub edit_of_nothing_keeps : EditOfNothingKeeps
edit_of_nothing_keeps editor f p q s r none =
    reached (λ x. carried x (Edit f p q s) ≡ x) (λ h t o. keeps (at_rest h t) (Edit f p q s) (nothing-keeps h t o f p q s none)) editor r
