-- What an Edit makes, in the order of the code: the window is changed first, and the messages are composed after that.
use Rattle.sam_term.proofs.Edits.{make_facts, flushed-messages, unsent-flushed}
use Rattle.sam_term.proofs.Acts.{first_is, passes, test_at, made_of}
use Rattle.sam_term.proofs.Common.{◌≡◌, refl, ap, ◌∙◌, ℕ, ◌≤◌, ◌+◌, ◌-◌, ◌++◌, true, false, List, [], ◌∷◌, length, map, Some, None, ◌==◌, ◌&&◌, arith, length-append, length-map, nat_eq, not, is_empty, max_runes, slot-put_same, slot-put_other, length-take, length-drop, take, drop, sym, subst, inl, inr, ◌⊎◌, ◌≢◌, Option, FitsWindow, IsSound, FitsUnsent, IsShort, PartialText, place_after_ins, place_after_del, cut_rasp, ins_rasp, PlainTerminal, window_at, put_window, window_after_del, window_after_ins, edited, all_composed, composed, edit_messages, event_outcome, flushed, made_by_edit, pieces, replaced, replaced_in, unsent_message, edit_file, edit_range, edit_runes, one_if, UserEvent, Edit, is_editing, first_event, free_first, made_first, Unsent, Window, Tmesg}
use Rattle.std.proofs.lemmas.Bool.Decides.{eqb_tells}
use Rattle.sam_term.proofs.TypedLaws.{over}
use Rattle.sam_term.proofs.TypedMade.{put-flushed}
use Rattle.sam_term.proofs.Composes.{put-put, window-put_same, flushed-files}
use Rattle.sam_term.proofs.Marks.{edited-window, edited-put}
use Rattle.sam_term.proofs.SlotSteps.{open_known}

-- ## The window

window-replaced : (w : Window) (p q : ℕ) (s : List ℕ) → p ≤ length w.rasp → window_after_ins (window_after_del w p q) p (map Some s) ≡ replaced_in w p q s
window-replaced w p q s l = grind (arith, length-map, over)

-- where nothing is unsent
cut-none : (t : PlainTerminal) (f p q : ℕ) → t.unsent ≡ None → cut_rasp t f p q ≡ put_window (edited t f) f (window_after_del (window_at t f) p q)
cut-none t f p q e = grind (arith, (edited-window t f))

ins-none : (t : PlainTerminal) (f p : ℕ) (cells : PartialText) → t.unsent ≡ None → ins_rasp t f p cells ≡ put_window t f (window_after_ins (window_at t f) p cells)
ins-none t f p cells e = grind arith

replaced-put : (t : PlainTerminal) (f p q : ℕ) (s : List ℕ) → t.unsent ≡ None → p ≤ length (window_at t f).rasp
    → replaced t f p q s ≡ put_window (edited t f) f (replaced_in (window_at t f) p q s)
replaced-put t f p q s e l =
    let v = window_after_del (window_at t f) p q in
    let cells = map {A = ℕ} {B = Option ℕ} Some s in
    ap (λ u. ins_rasp u f p cells) (cut-none t f p q e)
    ∙ (ins-none (put_window (edited t f) f v) f p cells e
    ∙ (ap (λ w. put_window (put_window (edited t f) f v) f (window_after_ins w p cells)) (window-put_same (edited t f) f v)
    ∙ (put-put (edited t f) f v (window_after_ins v p cells)
    ∙ ap (λ w. put_window (edited t f) f w) (window-replaced (window_at t f) p q s l))))

window-put_other : (t : PlainTerminal) (f g : ℕ) (w : Window) → f ≢ g → window_at (put_window t f w) g ≡ window_at t g
window-put_other t f g w other = grind (arith, slot-put_other)

-- its places stay in the partial text
place-within : (p q n place len : ℕ) → p ≤ q → q ≤ len → place ≤ len → place_after_ins p n (place_after_del p q place) ≤ len - (q - p) + n
place-within p q n place len o l w = grind arith

places-ordered : (p q n a b : ℕ) → p ≤ q → a ≤ b → place_after_ins p n (place_after_del p q a) ≤ place_after_ins p n (place_after_del p q b)
places-ordered p q n a b o l = grind arith

length-replaced : (r : PartialText) (p q : ℕ) (s : List ℕ) → p ≤ q → q ≤ length r → length (take p r ++ map {A = ℕ} {B = Option ℕ} Some s ++ drop q r) ≡ length r - (q - p) + length s
length-replaced r p q s o l = grind (arith, length-append, length-map, length-take, length-drop)

fits-replaced : (n : ℕ) (w : Window) (p q : ℕ) (s : List ℕ) → FitsWindow n w → p ≤ q → q ≤ length w.rasp → length w.rasp + length s ≤ max_runes + (q - p)
    → FitsWindow n (replaced_in w p q s)
fits-replaced n w p q s fits o l room =
    let size = length-replaced w.rasp p q s o l in
    record {
      locks = fits.locks;
      awaited = fits.awaited;
      dot_start = places-ordered p q (length s) w.dot.0 w.dot.1 o fits.dot_start;
      dot_end = rw size (place-within p q (length s) w.dot.1 (length w.rasp) o l fits.dot_end);
      view = rw size (place-within p q (length s) w.view_start (length w.rasp) o l fits.view);
      size = rw size (omega (arith, room, o, l));
    }

-- a terminal stays sound as a range gives way to runes
pub sound-replaced : (t : PlainTerminal) (f p q : ℕ) (s : List ℕ) → IsSound t → p ≤ q → q ≤ length (window_at t f).rasp
    → length (window_at t f).rasp + length s ≤ max_runes + (q - p) → IsSound (record (put_window t f (replaced_in (window_at t f) p q s)) { unsent = None })
unfolding FitsUnsent IsShort
sound-replaced t f p q s sound o l room = record { countable = sound.countable; windows = λ g. by g (eqb_tells f g); unsent = tt; short = tt }
  where
    w : Window
    w = replaced_in (window_at t f) p q s

    fits : FitsWindow t.sent w
    fits = fits-replaced t.sent (window_at t f) p q s (sound.windows f) o l room

    by : (g : ℕ) → ((nat_eq f g ≡ true) × (f ≡ g)) ⊎ ((nat_eq f g ≡ false) × (f ≢ g)) → FitsWindow t.sent (window_at (put_window t f w) g)
    by g (inl x) = subst (λ h. FitsWindow t.sent (window_at (put_window t f w) h)) x.1 (subst (λ v. FitsWindow t.sent v) (sym (window-put_same t f w)) fits)
    by g (inr x) = subst (λ v. FitsWindow t.sent v) (sym (window-put_other t f g w x.1)) (sound.windows g)

pub sound-put : (t : PlainTerminal) (f p q : ℕ) (s : List ℕ) (w : Window) (u : Option Unsent) → IsSound t → p ≤ q → q ≤ length (window_at t f).rasp
    → length (window_at t f).rasp + length s ≤ max_runes + (q - p) → w ≡ replaced_in (window_at t f) p q s → u ≡ None
    → IsSound (record (put_window t f w) { unsent = u })
sound-put t f p q s w u sound o l room e none =
    subst (λ v. IsSound (record (put_window t f w) { unsent = v })) (sym none)
    (subst (λ v. IsSound (record (put_window t f v) { unsent = None })) (sym e) (sound-replaced t f p q s sound o l room))

-- ## The event

pub made-edit : (t : PlainTerminal) (f p q : ℕ) (s : List ℕ) → (p == q && is_empty s) ≡ false → p ≤ length (window_at t f).rasp
    → event_outcome t (Edit f p q s) ≡ (
      all_composed (put_window (edited (flushed t).0 f) f (replaced_in (window_at t f) p q s)) (edit_messages f p q s),
      (flushed t).1 ++ edit_messages f p q s,
    )
unfolding made_by_edit
made-edit t f p q s e l = grind (arith, (replaced-put (flushed t).0 f p q s (unsent-flushed t)), flushed-files)

-- messages composed one list after the other
pub composed-more : (t : PlainTerminal) (ms ns : List Tmesg) → all_composed t (ms ++ ns) ≡ all_composed (all_composed t ms) ns
composed-more t [] ns = refl
composed-more t (m ∷ ms) ns = composed-more (composed t m) ms ns

pub edit_count : (t : PlainTerminal) (f p q : ℕ) (s : List ℕ) → first_event t.held ≡ Edit f p q s → (p == q && is_empty s) ≡ false
    → length (made_first t).1 ≡ length (unsent_message t.unsent) + one_if (not (p == q)) + length (pieces (length s) p s)
unfolding made_by_edit
edit_count t f p q s first some = grind (arith, (made_of t (Edit f p q s) first), flushed-messages, length-append, length-map)

-- ## The oldest event

pub edit-as : (x e : UserEvent) (f : ℕ) (r : ℕ × ℕ) (s : List ℕ) → is_editing x ≡ true → x ≡ e → f ≡ edit_file e → r ≡ edit_range e → s ≡ edit_runes e
    → x ≡ Edit f r.0 r.1 s
edit-as x e f r s i same file range runes = grind arith

pub edit_within : (t : PlainTerminal) (f p q : ℕ) (s : List ℕ) → free_first t ≡ None → first_event t.held ≡ Edit f p q s → (p ≤ q) × (q ≤ length (window_at t f).rasp)
unfolding test_at
edit_within t f p q s n h = grind (arith, (passes t (Edit f p q s) 7 n h))

pub edit_fits : (t : PlainTerminal) (f p q : ℕ) (s : List ℕ) → free_first t ≡ None → first_event t.held ≡ Edit f p q s
    → length (window_at t f).rasp + length s ≤ max_runes + (q - p)
unfolding test_at
edit_fits t f p q s n h = grind (arith, (passes t (Edit f p q s) 9 n h), (edit_within t f p q s n h))

-- its text fits, and lies within the longest text as it is typed
pub edit_end : (t : PlainTerminal) (f p q : ℕ) (s : List ℕ) → free_first t ≡ None → first_event t.held ≡ Edit f p q s → p + length s ≤ max_runes
edit_end t f p q s n h = let within = edit_within t f p q s n h in omega (arith, edit_fits t f p q s n h, within.0, within.1)

pub edit_short : (t : PlainTerminal) (f p q : ℕ) (s : List ℕ) → free_first t ≡ None → first_event t.held ≡ Edit f p q s → length s ≤ max_runes
edit_short t f p q s n h = omega (arith, edit_end t f p q s n h)

pub made-edit_none : (t : PlainTerminal) (f p q : ℕ) (s : List ℕ) → (p == q && is_empty s) ≡ true → event_outcome t (Edit f p q s) ≡ (t, [])
unfolding made_by_edit
made-edit_none t f p q s e = grind arith

-- what `make_edit` rests on
pub ruleset make_edit_facts = (make_facts, first_is, edit-as, edit_within, edit_fits, nat_eq)

-- what replacing a range rests on
pub ruleset replace_facts = (make_facts, made-edit, put-flushed, composed-more, edit_within, edit_fits, edited-put, open_known, slot-put_same)
