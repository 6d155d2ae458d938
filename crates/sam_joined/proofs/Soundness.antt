-- A terminal stays sound as it takes frames, acts and composes its unsent runes.
use Rattle.std.proofs.Common.{◌≡◌, ◌≢◌, ◌∙◌, refl, sym, ap, subst, ℕ, ◌+◌, ◌-◌, ◌≤◌, ◌⊎◌, inl, inr, Bool, true, false, ◌==◌, ◌&&◌, if◌then◌else◌, List, [], ◌∷◌, length, length-append, length-drop, length-take, map, replicate, unwrap_or, Option, Some, None, Result, Ok, Err, nat_eq, arith}
use Rattle.std.proofs.lemmas.Bool.Decides.{eqb_tells}
use Rattle.std.proofs.lemmas.List.{length-map, length-replicate}
use Rattle.sam_runes.specs.Checks.{first_of_checks}
use Rattle.sam_runes.specs.Slots.{Slots, free_slot, map_slots}
use Rattle.sam_runes.specs.Texts.{is_empty, max_runes, most_count, most_in_message}
use Rattle.sam_runes.proofs.SlotLaws.{slot-free_same, slot-free_other, slot-map}
use Rattle.sam_rasp.specs.Rasp.{PartialText, del_cells, ins_cells, load_cells, place_after_del, place_after_ins}
use Rattle.sam_mesg.specs.declared.hmesg.HFrame.{HFrame}
use Rattle.sam_mesg.specs.declared.hmesg.Hmesg.{Hmesg}
use Rattle.sam_mesg.specs.declared.hmesg.Hmesg.TheVariants.{Hack, Hbindname, Hcheck, Hclean, Hclose, Hcut, Hdata, Hdelname, Hdirty, Hexit, Hgrow, Hgrowdata, Hmoveto, Hmovname, Hnewname, Horigin, Hsetdot, Hunlockfile}
use Rattle.sam_mesg.specs.declared.tmesg.Tmesg.{Tmesg}
use Rattle.sam_mesg.specs.declared.tmesg.Tmesg.TheVariants.{Tack, Tcut, Tpaste, Tsnarf}
use Rattle.sam_term.specs.Events.{is_command_line, lock_of}
use Rattle.sam_term.specs.Locking.{awaited_with, is_request, lock_added}
use Rattle.sam_term.specs.Sound.{FitsWindow, IsSound}
unfoldable use Rattle.sam_term.specs.Sound.{FitsUnsent, IsShort}
use Rattle.sam_term.specs.Term.{Made, PlainTerminal, act_on, all_composed, composed, cut_rasp, cuts_dot, decided, edit_messages, edited, event_checks, event_outcome, frame_checks, frame_outcome, freed_known, has_bad_place, has_empty_dot, has_long_text, if_countable, is_known, is_open, ins_rasp, del_rasp, joined, joins, kept_unsent, known_at, made_then, makes_too_long, moved_unsent, put_known, put_window, rasp_at, replaced, sends, sends_all, sends_if, typed_rasp, types, unchanged, unsent_message, unsent_without, wanted, window_after_del, window_after_ins, window_at}
unfoldable use Rattle.sam_term.specs.Term.{act_of, all_wanted, flush_of, flushed, made_by_cut, made_by_edit, made_by_load, made_by_paste, made_by_snarf, made_by_type, made_by_view, requested, take_of, took_bindname, took_close, took_cut, took_data, took_exit, took_grow, took_growdata, took_unlockfile}
use Rattle.sam_term.specs.Windows.{blank_known, blank_window, window_in}
use Rattle.sam_term.specs.declared.event.Acted.{Acted}
use Rattle.sam_term.specs.declared.event.Acted.TheVariants.{Done}
use Rattle.sam_term.specs.declared.event.UserEvent.{UserEvent}
use Rattle.sam_term.specs.declared.event.UserEvent.TheVariants.{Cut, Edit, Flush, Load, Paste, Select, Snarf, Typed, View}
use Rattle.sam_term.specs.declared.event.Verdict.{Verdict}
use Rattle.sam_term.specs.declared.event.Verdict.TheVariants.{Refuses, Waits}
use Rattle.sam_term.specs.declared.fault.TermFault.{TermFault}
use Rattle.sam_term.specs.declared.lock.Lock.{Lock}
use Rattle.sam_term.specs.declared.lock.Lock.TheVariants.{CommandLock, FileLock, NoLock}
use Rattle.sam_term.specs.declared.records.KnownFile.{KnownFile}
use Rattle.sam_term.specs.declared.records.Unsent.{Unsent}
use Rattle.sam_term.specs.declared.records.Window.{Window}
use Rattle.sam_term.proofs.Acts.{none_holds, test_at}
use Rattle.sam_term.proofs.Composes.{composed_by, flushed-files}
use Rattle.sam_term.proofs.Marks.{edited-window}
use Rattle.sam_term.proofs.TermLaws.{known-put, rasp-all_composed, rasp-change}

-- ## What is sound but for the count of messages, which each call tests at its end

record Parts (n : ℕ) (files : Slots KnownFile) (o : Option Unsent) : Type 0 where
  windows : (f : ℕ) → FitsWindow n (window_in files f)
  unsent : FitsUnsent files o
  short : IsShort o

abbrev Holds : PlainTerminal → Type 0
Holds t = Parts t.sent t.files t.unsent

parts_of : (t : PlainTerminal) → IsSound t → Holds t
parts_of t s = record { windows = s.windows; unsent = s.unsent; short = s.short }

sound_of : (t : PlainTerminal) → t.sent ≤ most_count → Holds t → IsSound t
sound_of t counts h = record { countable = counts; windows = h.windows; unsent = h.unsent; short = h.short }

none-unsent : (n : ℕ) (files : Slots KnownFile) (o : Option Unsent) → Parts n files o → Parts n files None
unfolding FitsUnsent IsShort
none-unsent n files o h = record { windows = h.windows; unsent = tt; short = tt }

-- ## One file among others

abbrev window_known : KnownFile → Window
window_known known = unwrap_or known.window blank_window

if-fits : (b : Bool) (n : ℕ) (v w : Window) → FitsWindow n v → FitsWindow n w → FitsWindow n (if b then v else w)
if-fits true n v w one other = one
if-fits false n v w one other = other

windows-put : (t : PlainTerminal) (g : ℕ) (x : KnownFile) → Holds t → FitsWindow t.sent (window_known x) → (f : ℕ) → FitsWindow t.sent (window_at (put_known t g x) f)
windows-put t g x h fits f =
    subst (λ w. FitsWindow t.sent w) (sym (known-put window_known t g x f)) (if-fits (g == f) t.sent (window_known x) (window_at t f) fits (h.windows f))

-- unsent runes of a file whose places move
moved-fits : (t : PlainTerminal) (g : ℕ) (x : KnownFile) (move : ℕ → ℕ) (o : Option Unsent)
    → ((p : ℕ) → p ≤ length (rasp_at t g) → move p ≤ length (window_known x).rasp) → FitsUnsent t.files o → FitsUnsent (put_known t g x).files (moved_unsent g move o)
unfolding FitsUnsent
moved-fits t g x move None within fits = tt
moved-fits t g x move (Some u) within fits = go (eqb_tells u.file g)
  where
    go : ((nat_eq u.file g ≡ true) × (u.file ≡ g)) ⊎ ((nat_eq u.file g ≡ false) × (u.file ≢ g)) → FitsUnsent (put_known t g x).files (moved_unsent g move (Some u))
    go (inl (e, here)) = grind (arith, (known-put window_known t g x g), (within u.place))
    go (inr (e, other)) = grind (arith, (known-put window_known t g x u.file))

short-moved : (g : ℕ) (move : ℕ → ℕ) (o : Option Unsent) → IsShort o → IsShort (moved_unsent g move o)
unfolding IsShort
short-moved g move None s = tt
short-moved g move (Some u) s = grind arith

moved-stay : (g : ℕ) (o : Option Unsent) → moved_unsent g (λ p. p) o ≡ o
moved-stay g None = refl
moved-stay g (Some u) = grind arith

-- a file is put whose window fits, and whose places move
moved-holds : (t : PlainTerminal) (g : ℕ) (x : KnownFile) (move : ℕ → ℕ) → Holds t → FitsWindow t.sent (window_known x)
    → ((p : ℕ) → p ≤ length (rasp_at t g) → move p ≤ length (window_known x).rasp) → Parts t.sent (put_known t g x).files (moved_unsent g move t.unsent)
moved-holds t g x move h fits within =
    record { windows = windows-put t g x h fits; unsent = moved-fits t g x move t.unsent within h.unsent; short = short-moved g move t.unsent h.short }

-- and where they stay
known-holds : (t : PlainTerminal) (g : ℕ) (x : KnownFile) → Holds t → FitsWindow t.sent (window_known x) → length (rasp_at t g) ≤ length (window_known x).rasp → Holds (put_known t g x)
known-holds t g x h fits longer =
    subst (λ o. Parts t.sent (put_known t g x).files o) (moved-stay g t.unsent) (moved-holds t g x (λ p. p) h fits (λ p within. omega (arith, within, longer)))

window-holds : (t : PlainTerminal) (g : ℕ) (w : Window) → Holds t → FitsWindow t.sent w → length (rasp_at t g) ≤ length w.rasp → Holds (put_window t g w)
window-holds t g w h fits longer = known-holds t g (record (known_at t g) { window = Some w }) h fits longer

-- ## Composing

counted-window : (n : ℕ) (w : Window) → FitsWindow n w → FitsWindow (n + 1) w
counted-window n w f =
    record { locks = omega (arith, f.locks); awaited = omega (arith, f.awaited); dot_start = f.dot_start; dot_end = f.dot_end; view = f.view; size = f.size }

counted-parts : (n : ℕ) (files : Slots KnownFile) (o : Option Unsent) → Parts n files o → Parts (n + 1) files o
counted-parts n files o h = record { windows = λ f. counted-window n (window_in files f) (h.windows f); unsent = h.unsent; short = h.short }

awaited-less : (b : Bool) (n m : ℕ) → n ≤ m → awaited_with b n ≤ m + 1
awaited-less true n m l = omega (arith, l)
awaited-less false n m l = omega (arith, l)

locked-window : (n : ℕ) (b : Bool) (w : Window) → FitsWindow n w → FitsWindow (n + 1) (record w { locks = w.locks + 1; awaited = awaited_with b w.awaited })
locked-window n b w f =
    record { locks = omega (arith, f.locks); awaited = awaited-less b w.awaited n f.awaited; dot_start = f.dot_start; dot_end = f.dot_end; view = f.view; size = f.size }

added-holds : (l : Lock) (b : Bool) (t : PlainTerminal) → Holds t → Holds (lock_added l b t)
added-holds NoLock b t h = counted-parts t.sent t.files t.unsent h
added-holds CommandLock b t h = counted-parts t.sent t.files t.unsent h
added-holds (FileLock g) b t h =
    let w = window_at t g in
    window-holds (record t { sent = t.sent + 1 }) g (record w { locks = w.locks + 1; awaited = awaited_with b w.awaited })
    (counted-parts t.sent t.files t.unsent h) (locked-window t.sent b w (h.windows g)) (omega arith)

composed-holds : (t : PlainTerminal) (m : Tmesg) → Holds t → Holds (composed t m)
composed-holds t m h = subst (λ u. Holds u) (sym (composed_by t m)) (added-holds (lock_of m) (is_request m) t h)

all-hold : (t : PlainTerminal) (ms : List Tmesg) → Holds t → Holds (all_composed t ms)
all-hold t [] h = h
all-hold t (m ∷ ms) h = all-hold (composed t m) ms (composed-holds t m h)

flushed-holds : (t : PlainTerminal) → Holds t → Holds (flushed t).0
unfolding flushed
flushed-holds t h = all-hold (record t { unsent = None }) (unsent_message t.unsent) (none-unsent t.sent t.files t.unsent h)

sends-holds : (t : PlainTerminal) (ms : List Tmesg) → Holds t → Holds (sends t unchanged ms).0
sends-holds t ms h = all-hold (flushed t).0 ms (flushed-holds t h)

sends_if-holds : (o : Option Tmesg) (t : PlainTerminal) → Holds t → Holds (sends_if o t).0
sends_if-holds None t h = h
sends_if-holds (Some m) t h = sends-holds t (m ∷ []) h

sends_all-holds : (ms : List Tmesg) (t : PlainTerminal) → Holds t → Holds (sends_all ms t).0
sends_all-holds [] t h = h
sends_all-holds (m ∷ ms) t h = sends-holds t (m ∷ ms) h

requested-holds : (t : PlainTerminal) (f : ℕ) → Holds t → Holds (requested t f).0
unfolding requested
requested-holds t f h = sends_if-holds (wanted t f) t h

-- ## Places that move

ins-length : (r cells : PartialText) (p : ℕ) → length (ins_cells r p cells) ≡ length r + length cells
ins-length r cells p = grind (arith, length-append, length-take, length-drop)

del-length : (r : PartialText) (p q : ℕ) → p ≤ q → q ≤ length r → length (del_cells r p q) ≡ length r - (q - p)
del-length r p q up within = grind (arith, length-append, length-take, length-drop)

load-length : (r : PartialText) (p : ℕ) (s : List ℕ) → p + length s ≤ length r → length (load_cells r p s) ≡ length r
load-length r p s within = grind (arith, length-append, length-take, length-drop, length-map)

ins-within : (p n place len : ℕ) → place ≤ len → place_after_ins p n place ≤ len + n
ins-within p n place len l = grind arith

ins-ordered : (p n a b : ℕ) → a ≤ b → place_after_ins p n a ≤ place_after_ins p n b
ins-ordered p n a b l = grind arith

del-within : (p q place len : ℕ) → p ≤ q → q ≤ len → place ≤ len → place_after_del p q place ≤ len - (q - p)
del-within p q place len up within l = grind arith

del-ordered : (p q a b : ℕ) → p ≤ q → a ≤ b → place_after_del p q a ≤ place_after_del p q b
del-ordered p q a b up l = grind arith

ins-window : (n : ℕ) (w : Window) (p : ℕ) (cells : PartialText) → FitsWindow n w → length w.rasp + length cells ≤ max_runes → FitsWindow n (window_after_ins w p cells)
ins-window n w p cells f room =
    let size = ins-length w.rasp cells p in
    record {
      locks = f.locks;
      awaited = f.awaited;
      dot_start = ins-ordered p (length cells) w.dot.0 w.dot.1 f.dot_start;
      dot_end = rw size (ins-within p (length cells) w.dot.1 (length w.rasp) f.dot_end);
      view = rw size (ins-within p (length cells) w.view_start (length w.rasp) f.view);
      size = rw size room;
    }

del-window : (n : ℕ) (w : Window) (p q : ℕ) → FitsWindow n w → p ≤ q → q ≤ length w.rasp → FitsWindow n (window_after_del w p q)
del-window n w p q f up within =
    let size = del-length w.rasp p q up within in
    record {
      locks = f.locks;
      awaited = f.awaited;
      dot_start = del-ordered p q w.dot.0 w.dot.1 up f.dot_start;
      dot_end = rw size (del-within p q w.dot.1 (length w.rasp) up within f.dot_end);
      view = rw size (del-within p q w.view_start (length w.rasp) up within f.view);
      size = rw size (omega (arith, f.size));
    }

ins-holds : (t : PlainTerminal) (g p : ℕ) (cells : PartialText) → Holds t → length (rasp_at t g) + length cells ≤ max_runes → Holds (ins_rasp t g p cells)
ins-holds t g p cells h room =
    moved-holds t g (record (known_at t g) { window = Some (window_after_ins (window_at t g) p cells) }) (place_after_ins p (length cells)) h
    (ins-window t.sent (window_at t g) p cells (h.windows g) room)
    (λ place l. rw (ins-length (rasp_at t g) cells p) (ins-within p (length cells) place (length (rasp_at t g)) l))

del-holds : (t : PlainTerminal) (g p q : ℕ) → Holds t → p ≤ q → q ≤ length (rasp_at t g) → Holds (del_rasp t g p q)
del-holds t g p q h up within =
    moved-holds t g (record (known_at t g) { window = Some (window_after_del (window_at t g) p q) }) (place_after_del p q) h
    (del-window t.sent (window_at t g) p q (h.windows g) up within)
    (λ place l. rw (del-length (rasp_at t g) p q up within) (del-within p q place (length (rasp_at t g)) up within l))

-- ## Frames

blank-fits : (n : ℕ) → FitsWindow n blank_window
blank-fits n = record { locks = omega arith; awaited = omega arith; dot_start = omega arith; dot_end = omega arith; view = omega arith; size = omega arith }

-- a file without a window has no text
unopened-empty : (t : PlainTerminal) (g : ℕ) (w : Window) → is_open t g ≡ false → length (rasp_at t g) ≤ length w.rasp
unopened-empty t g w e = grind arith

unknown-empty : (t : PlainTerminal) (g : ℕ) (w : Window) → is_known t g ≡ false → length (rasp_at t g) ≤ length w.rasp
unknown-empty t g w e = grind arith

same-windows : (n : ℕ) (fs gs : Slots KnownFile) (o : Option Unsent) → ((f : ℕ) → window_in gs f ≡ window_in fs f) → Parts n fs o → Parts n gs o
unfolding FitsUnsent
same-windows n fs gs o same h = record { windows = λ f. subst (λ w. FitsWindow n w) (sym (same f)) (h.windows f); unsent = unsent o h.unsent; short = h.short }
  where
    unsent : (o : Option Unsent) → FitsUnsent fs o → FitsUnsent gs o
    unsent None fits = tt
    unsent (Some u) fits = subst (λ w. u.place ≤ length w.rasp) (sym (same u.file)) fits

free-window : (t : PlainTerminal) (g : ℕ) → is_open t g ≡ false → (f : ℕ) → window_in (free_slot t.files g) f ≡ window_at t f
free-window t g closed f = go (eqb_tells g f)
  where
    go : ((nat_eq g f ≡ true) × (g ≡ f)) ⊎ ((nat_eq g f ≡ false) × (g ≢ f)) → window_in (free_slot t.files g) f ≡ window_at t f
    go (inl (e, here)) = grind (arith, (slot-free_same t.files g))
    go (inr (e, other)) = grind (arith, (slot-free_other t.files g f))

-- unsent runes of a file that is closed are dropped
closed-unsent : (t : PlainTerminal) (g : ℕ) (x : KnownFile) (o : Option Unsent) → FitsUnsent t.files o → FitsUnsent (put_known t g x).files (unsent_without g o)
unfolding FitsUnsent
closed-unsent t g x None fits = tt
closed-unsent t g x (Some u) fits = go (eqb_tells u.file g)
  where
    go : ((nat_eq u.file g ≡ true) × (u.file ≡ g)) ⊎ ((nat_eq u.file g ≡ false) × (u.file ≢ g)) → FitsUnsent (put_known t g x).files (unsent_without g (Some u))
    go (inl (e, here)) = grind arith
    go (inr (e, other)) = grind (arith, (known-put window_known t g x u.file))

closed-short : (g : ℕ) (o : Option Unsent) → IsShort o → IsShort (unsent_without g o)
unfolding IsShort
closed-short g None s = tt
closed-short g (Some u) s = grind arith

close-holds : (t : PlainTerminal) (g : ℕ) → Holds t → Holds (took_close t g)
unfolding took_close
close-holds t g h =
    let x : KnownFile = record (known_at t g) { window = None } in
    record { windows = windows-put t g x h (blank-fits t.sent); unsent = closed-unsent t g x t.unsent h.unsent; short = closed-short g t.unsent h.short }

freed-window : (files : Slots KnownFile) (f : ℕ) → window_in (map_slots freed_known files) f ≡ record (window_in files f) { locks = 0; awaited = 0 }
freed-window files f = grind (arith, (slot-map freed_known files f))

exit-holds : (t : PlainTerminal) → Holds t → Holds (took_exit t)
unfolding took_exit FitsUnsent
exit-holds t h = record { windows = λ f. subst (λ w. FitsWindow t.sent w) (sym (freed-window t.files f)) (freed f (h.windows f)); unsent = unsent t.unsent h.unsent; short = h.short }
  where
    freed : (f : ℕ) → FitsWindow t.sent (window_at t f) → FitsWindow t.sent (record (window_at t f) { locks = 0; awaited = 0 })
    freed f w = record { locks = omega arith; awaited = omega arith; dot_start = w.dot_start; dot_end = w.dot_end; view = w.view; size = w.size }

    unsent : (o : Option Unsent) → FitsUnsent t.files o → FitsUnsent (map_slots freed_known t.files) o
    unsent None fits = tt
    unsent (Some u) fits = subst (λ w. u.place ≤ length w.rasp) (sym (freed-window t.files u.file)) fits

-- the window of an open file gets other places
placed-holds : (t : PlainTerminal) (g : ℕ) (d : ℕ × ℕ) (p n : ℕ) → Holds t → d.0 ≤ d.1 → d.1 ≤ length (rasp_at t g) → p ≤ length (rasp_at t g)
    → Holds (put_window t g (record (window_at t g) { dot = d; view_start = p; view_length = n }))
placed-holds t g d p n h up within view =
    let w = h.windows g in
    window-holds t g (record (window_at t g) { dot = d; view_start = p; view_length = n }) h
    (record { locks = w.locks; awaited = w.awaited; dot_start = up; dot_end = within; view = view; size = w.size }) (omega arith)

unlocked-holds : (t : PlainTerminal) (g : ℕ) → Holds t → Holds (took_unlockfile t g)
unfolding took_unlockfile
unlocked-holds t g h =
    let w = h.windows g in
    window-holds t g (record (window_at t g) { locks = (window_at t g).locks - 1 }) h
    (record { locks = omega (arith, w.locks); awaited = w.awaited; dot_start = w.dot_start; dot_end = w.dot_end; view = w.view; size = w.size }) (omega arith)

data-holds : (t : PlainTerminal) (g p : ℕ) (s : List ℕ) → p + length s ≤ length (rasp_at t g) → Holds t → Holds (took_data t g p s)
unfolding took_data
data-holds t g p s within h =
    let w = h.windows g in
    let size = load-length (rasp_at t g) p s within in
    window-holds t g (record (window_at t g) { rasp = load_cells (rasp_at t g) p s; awaited = (window_at t g).awaited - 1 }) h
    (record { locks = w.locks; awaited = omega (arith, w.awaited); dot_start = w.dot_start; dot_end = rw size w.dot_end; view = rw size w.view; size = rw size w.size })
    (omega (arith, size))

acknowledged-holds : (b : Bool) (t : PlainTerminal) (ms : List Tmesg) → Holds t → Holds (if b then (t, []) else sends t unchanged ms).0
acknowledged-holds true t ms h = h
acknowledged-holds false t ms h = sends-holds t ms h

frame-holds : (t : PlainTerminal) (m : Hmesg) → first_of_checks (frame_checks t m) ≡ None → Holds t → Holds (frame_outcome t m).0
unfolding took_bindname took_grow took_growdata took_cut
frame-holds t (Hbindname g) free h = window-holds t g blank_window h (blank-fits t.sent) (unopened-empty t g blank_window (grind (arith, free)))
frame-holds t (Hnewname g) free h = known-holds t g blank_known h (blank-fits t.sent) (unknown-empty t g blank_window (grind (arith, free)))
frame-holds t (Hmovname g s) free h = known-holds t g (record (known_at t g) { name = s }) h (h.windows g) (omega arith)
frame-holds t (Hgrow g p n) free h = ins-holds t g p (replicate n None) h (grind (arith, free, length-replicate))
frame-holds t (Hcheck g) free h = requested-holds t g h
frame-holds t (Hdata g p s) free h = data-holds t g p s (grind (arith, free)) h
frame-holds t (Horigin g p) free h =
    let w = h.windows g in placed-holds t g (window_at t g).dot p (window_at t g).view_length h w.dot_start w.dot_end (grind (arith, free))
frame-holds t (Hunlockfile g) free h = requested-holds (took_unlockfile t g) g (unlocked-holds t g h)
frame-holds t (Hsetdot g p q) free h =
    let w = h.windows g in placed-holds t g (p, q) (window_at t g).view_start (window_at t g).view_length h (grind (arith, free)) (grind (arith, free)) w.view
frame-holds t (Hgrowdata g p s) free h = ins-holds t g p (map Some s) h (grind (arith, free, length-map))
frame-holds t (Hmoveto g p) free h =
    let w = h.windows g in placed-holds t g (window_at t g).dot p (window_at t g).view_length h w.dot_start w.dot_end (grind (arith, free))
frame-holds t (Hclean g) free h = known-holds t g (record (known_at t g) { dirty = false; changed = false }) h (h.windows g) (omega arith)
frame-holds t (Hdirty g) free h = known-holds t g (record (known_at t g) { dirty = true }) h (h.windows g) (omega arith)
frame-holds t (Hcut g p n) free h = del-holds t g p (p + n) h (omega arith) (grind (arith, free))
frame-holds t (Hdelname g) free h = same-windows t.sent t.files (free_slot t.files g) t.unsent (free-window t g (grind (arith, free))) h
frame-holds t (Hclose g) free h = close-holds t g h
frame-holds t Hack free h = acknowledged-holds t.has_exited t (Tack ∷ []) h
frame-holds t Hexit free h = exit-holds t h
frame-holds t m free h = h

taken-is : (t u : PlainTerminal) (frame : HFrame) (ms : List Tmesg) → take_of t frame ≡ Ok (u, ms)
    → (u ≡ (frame_outcome t frame.msg).0) × (first_of_checks (frame_checks t frame.msg) ≡ None) × (u.sent ≤ most_count)
unfolding take_of
taken-is t u frame ms e = grind arith

pub frames_stay_sound : (t u : PlainTerminal) (frame : HFrame) (ms : List Tmesg) → take_of t frame ≡ Ok (u, ms) → IsSound t → IsSound u
frames_stay_sound t u frame ms taken sound =
    let is = taken-is t u frame ms taken in
    sound_of u is.2 (subst (λ v. Holds v) (sym is.0) (frame-holds t frame.msg is.1 (parts_of t sound)))

flushed-is : (t u : PlainTerminal) (ms : List Tmesg) → flush_of t ≡ Ok (u, ms) → (u ≡ (flushed t).0) × (u.sent ≤ most_count)
unfolding flush_of
flushed-is t u ms e = grind arith

pub flushes_stay_sound : (t u : PlainTerminal) (ms : List Tmesg) → flush_of t ≡ Ok (u, ms) → IsSound t → IsSound u
flushes_stay_sound t u ms flushes sound =
    let is = flushed-is t u ms flushes in
    sound_of u is.1 (subst (λ v. Holds v) (sym is.0) (flushed-holds t (parts_of t sound)))

-- ## Events

edited-holds : (t : PlainTerminal) (g : ℕ) → Holds t → Holds (edited t g)
edited-holds t g h = known-holds t g (record (known_at t g) { changed = true }) h (h.windows g) (omega arith)

cut-holds : (t : PlainTerminal) (g p q : ℕ) → Holds t → p ≤ q → q ≤ length (rasp_at t g) → Holds (cut_rasp t g p q)
cut-holds t g p q h up within = del-holds (edited t g) g p q (edited-holds t g h) up (subst (λ w. q ≤ length w.rasp) (sym (edited-window t g)) within)

flushed-rasp : (t : PlainTerminal) (g : ℕ) → rasp_at (flushed t).0 g ≡ rasp_at t g
flushed-rasp t g = ap (λ files. (window_in files g).rasp) (flushed-files t)

cut-sends : (t : PlainTerminal) (g p q : ℕ) (ms : List Tmesg) → Holds t → p ≤ q → q ≤ length (rasp_at t g) → Holds (sends t (λ u. cut_rasp u g p q) ms).0
cut-sends t g p q ms h up within =
    all-hold (cut_rasp (flushed t).0 g p q) ms
    (cut-holds (flushed t).0 g p q (flushed-holds t h) up (subst (λ r. q ≤ length r) (sym (flushed-rasp t g)) within))

cuts-hold : (t : PlainTerminal) (g : ℕ) → Holds t → Holds (cuts_dot t g).0
cuts-hold t g h = go (has_empty_dot t g)
  where
    d : ℕ × ℕ
    d = (window_at t g).dot

    cut : Made
    cut = sends t (λ u. cut_rasp u g d.0 d.1) (Tcut g d.0 d.1 ∷ [])

    go : (b : Bool) → Holds (if b then (t, []) else cut).0
    go true = h
    go false = cut-sends t g d.0 d.1 (Tcut g d.0 d.1 ∷ []) h (h.windows g).dot_start (h.windows g).dot_end

-- and what is left of the text
cut-left : (t : PlainTerminal) (g p q : ℕ) (ms : List Tmesg) → p ≤ q → q ≤ length (rasp_at t g)
    → length (rasp_at (sends t (λ u. cut_rasp u g p q) ms).0 g) ≡ length (rasp_at t g) - (q - p)
cut-left t g p q ms up within =
    let u = (flushed t).0 in
    ap length (rasp-all_composed (cut_rasp u g p q) ms g ∙ rasp-change (λ r. del_cells r p q) (edited u g) g _ g refl)
    ∙ grind (arith, (edited-window u g), (flushed-rasp t g), (del-length (rasp_at t g) p q up within), nat_eq)

cuts-left : (t : PlainTerminal) (g : ℕ) → Holds t
    → length (rasp_at (cuts_dot t g).0 g) ≡ length (rasp_at t g) - ((window_at t g).dot.1 - (window_at t g).dot.0)
cuts-left t g h = go (has_empty_dot t g) refl
  where
    d : ℕ × ℕ
    d = (window_at t g).dot

    cut : Made
    cut = sends t (λ u. cut_rasp u g d.0 d.1) (Tcut g d.0 d.1 ∷ [])

    go : (b : Bool) → has_empty_dot t g ≡ b → length (rasp_at (if b then (t, []) else cut).0 g) ≡ length (rasp_at t g) - (d.1 - d.0)
    go true e = grind (arith, e)
    go false e = cut-left t g d.0 d.1 (Tcut g d.0 d.1 ∷ []) (h.windows g).dot_start (h.windows g).dot_end

-- runes become unsent
unsent-holds : (t : PlainTerminal) (g p : ℕ) (s : List ℕ) → Holds t → p ≤ length (rasp_at t g) → length s ≤ most_in_message → Holds (kept_unsent t g p s).0
unfolding FitsUnsent IsShort
unsent-holds t g p s h within short = go (joins t.unsent g p s) refl
  where
    apart : Parts (flushed t).0.sent (flushed t).0.files (Some (joined None g p s))
    apart =
        let u = flushed-holds t h in
        record { windows = u.windows; unsent = subst (λ r. p ≤ length r) (sym (flushed-rasp t g)) within; short = short }

    behind : (o : Option Unsent) → FitsUnsent t.files o → joins o g p s ≡ true → FitsUnsent t.files (Some (joined o g p s))
    behind None fits e = within
    behind (Some u) fits e = fits

    few : (o : Option Unsent) → joins o g p s ≡ true → IsShort (Some (joined o g p s))
    few None e = short
    few (Some u) e = grind (arith, e, length-append)

    go : (b : Bool) → joins t.unsent g p s ≡ b
        → Holds (if b then (record t { unsent = Some (joined t.unsent g p s) }, []) else made_then (flushed t) (λ u. (record u { unsent = Some (joined None g p s) }, []))).0
    go true e = record { windows = h.windows; unsent = behind t.unsent h.unsent e; short = few t.unsent e }
    go false e = apart

unsent-rasp : (t : PlainTerminal) (g p : ℕ) (s : List ℕ) → rasp_at (kept_unsent t g p s).0 g ≡ rasp_at t g
unsent-rasp t g p s = grind (arith, (flushed-rasp t g))

typed-holds : (t : PlainTerminal) (g p : ℕ) (s : List ℕ) → Holds t → p ≤ length (rasp_at t g) → length (rasp_at t g) + length s ≤ max_runes → Holds (typed_rasp t g p s)
typed-holds t g p s h within room =
    let u : PlainTerminal = ins_rasp (edited t g) g p (map Some s) in
    let same : rasp_at (edited t g) g ≡ rasp_at t g = ap (λ w. w.rasp) (edited-window t g) in
    let put : Holds u = ins-holds (edited t g) g p (map Some s) (edited-holds t g h) (grind (arith, same, length-map)) in
    let size : length (rasp_at u g) ≡ length (rasp_at t g) + length s =
    ap length (rasp-change (λ r. ins_cells r p (map Some s)) (edited t g) g _ g refl)
    ∙ grind (arith, same, (ins-length (rasp_at t g) (map Some s) p), length-map, nat_eq) in
    placed-holds u g (p + length s, p + length s) (window_at u g).view_start (window_at u g).view_length put (omega arith) (omega (arith, size, within)) (put.windows g).view

types-hold : (t : PlainTerminal) (g p : ℕ) (s : List ℕ) → Holds t → p ≤ length (rasp_at t g) → length (rasp_at t g) + length s ≤ max_runes → length s ≤ most_in_message
    → Holds (types t g p s).0
types-hold t g p s h within room short =
    let u : PlainTerminal = (kept_unsent t g p s).0 in
    let same = unsent-rasp t g p s in
    go (is_command_line g s) (typed_rasp u g p s)
    (typed-holds u g p s (unsent-holds t g p s h within short) (subst (λ r. p ≤ length r) (sym same) within) (subst (λ r. length r + length s ≤ max_runes) (sym same) room))
  where
    go : (b : Bool) (typed : PlainTerminal) → Holds typed → Holds (if b then flushed typed else (typed, [])).0
    go true typed holds = flushed-holds typed holds
    go false typed holds = holds

replaced-holds : (t : PlainTerminal) (g p q : ℕ) (s : List ℕ) → Holds t → p ≤ q → q ≤ length (rasp_at t g) → length (rasp_at t g) - (q - p) + length s ≤ max_runes
    → Holds (replaced t g p q s)
replaced-holds t g p q s h up within room =
    let u : PlainTerminal = cut_rasp t g p q in
    let size : length (rasp_at u g) ≡ length (rasp_at t g) - (q - p) =
    ap length (rasp-change (λ r. del_cells r p q) (edited t g) g _ g refl)
    ∙ grind (arith, (edited-window t g), (del-length (rasp_at t g) p q up within), nat_eq) in
    ins-holds u g p (map Some s) (cut-holds t g p q h up within) (grind (arith, size, length-map, room))

-- an event's outcome
record Leaves (made : Made) : Type 0 where
  holds : Holds made.0

leaves-plain : (t : PlainTerminal) (ms : List Tmesg) → Holds t → Leaves (sends t unchanged ms)
leaves-plain t ms h = record { holds = sends-holds t ms h }

if-holds : (b : Bool) (x y : Made) → Holds x.0 → Holds y.0 → Holds (if b then x else y).0
if-holds true x y one other = one
if-holds false x y one other = other

event-holds : (t : PlainTerminal) (e : UserEvent) → has_bad_place t e ≡ false → has_long_text t e ≡ false → makes_too_long t e ≡ false → Holds t → Holds (event_outcome t e).0
unfolding made_by_type made_by_cut made_by_paste made_by_snarf made_by_view made_by_load made_by_edit
event-holds t (Typed g s) place short room h =
    let w = h.windows g in
    let d : ℕ × ℕ = (window_at t g).dot in
    let u : PlainTerminal = (cuts_dot t g).0 in
    let left = cuts-left t g h in
    if-holds (is_empty s) (u, []) (types u g d.0 s) (cuts-hold t g h)
    (types-hold u g d.0 s (cuts-hold t g h) (omega (arith, left, w.dot_start, w.dot_end)) (grind (arith, left, room)) (grind (arith, short)))
event-holds t (Select g p q) place short room h =
    placed-holds t g (p, q) (window_at t g).view_start (window_at t g).view_length h (grind (arith, place)) (grind (arith, place)) (h.windows g).view
event-holds t (Cut g) place short room h =
    let w = h.windows g in
    let d : ℕ × ℕ = (window_at t g).dot in
    if-holds (has_empty_dot t g) (t, []) (sends t (λ u. cut_rasp u g d.0 d.1) (Tsnarf g d.0 d.1 ∷ Tcut g d.0 d.1 ∷ [])) h
    (cut-sends t g d.0 d.1 (Tsnarf g d.0 d.1 ∷ Tcut g d.0 d.1 ∷ []) h w.dot_start w.dot_end)
event-holds t (Paste g) place short room h = sends-holds (cuts_dot t g).0 (Tpaste g (window_at t g).dot.0 ∷ []) (cuts-hold t g h)
event-holds t (Snarf g) place short room h =
    let d : ℕ × ℕ = (window_at t g).dot in
    if-holds (has_empty_dot t g) (t, []) (sends t unchanged (Tsnarf g d.0 d.1 ∷ [])) h (sends-holds t (Tsnarf g d.0 d.1 ∷ []) h)
event-holds t (View g p n) place short room h =
    let w = h.windows g in requested-holds (put_window t g (record (window_at t g) { view_start = p; view_length = n })) g
    (placed-holds t g (window_at t g).dot p n h w.dot_start w.dot_end (grind (arith, place)))
event-holds t (Load g p n) place short room h =
    let w = h.windows g in
    let u : PlainTerminal = put_window t g (record (window_at t g) { view_start = p; view_length = n }) in
    sends_all-holds (all_wanted u g) u (placed-holds t g (window_at t g).dot p n h w.dot_start w.dot_end (grind (arith, place)))
event-holds t (Edit g p q s) place short room h =
    let same = flushed-rasp t g in
    let range : (p ≤ q) × (q ≤ length (rasp_at t g)) = grind (arith, place) in
    if-holds (p == q && is_empty s) (t, []) (sends t (λ u. replaced u g p q s) (edit_messages g p q s)) h
    (all-hold (replaced (flushed t).0 g p q s) (edit_messages g p q s)
    (replaced-holds (flushed t).0 g p q s (flushed-holds t h) range.0 (subst (λ r. q ≤ length r) (sym same) range.1)
    (subst (λ r. length r - (q - p) + length s ≤ max_runes) (sym same) (grind (arith, room)))))
event-holds t Flush place short room h = flushed-holds t h
event-holds t e place short room h = let leaves : Leaves (event_outcome t e) = leaves-plain t _ h in leaves.holds

-- what stands against an event is the same once it is held no longer
same-tests : (t : PlainTerminal) (es : List UserEvent) (e : UserEvent)
    → (has_bad_place (record t { held = es }) e ≡ has_bad_place t e) × (has_long_text (record t { held = es }) e ≡ has_long_text t e)
    × (makes_too_long (record t { held = es }) e ≡ makes_too_long t e)
same-tests t es (Typed g s) = (refl, refl, refl)
same-tests t es e = (refl, refl, refl)

outcome-holds : (t : PlainTerminal) (es : List UserEvent) (e : UserEvent) → first_of_checks (event_checks t e) ≡ None → Holds t → Holds (event_outcome (record t { held = es }) e).0
unfolding test_at
outcome-holds t es e free h =
    let same = same-tests t es e in
    event-holds (record t { held = es }) e (same.0 ∙ none_holds (event_checks t e) 7 free) (same.1 ∙ none_holds (event_checks t e) 8 free)
    (same.2 ∙ none_holds (event_checks t e) 9 free) h

done-is : (n : ℕ) (made : Made) (u : PlainTerminal) (acted : Acted) → if_countable {A = PlainTerminal × Acted} n (made.0, Done made.1) ≡ Ok (u, acted)
    → (u ≡ made.0) × (n ≤ most_count)
done-is n made u acted e = grind arith

left_of : PlainTerminal → Result (PlainTerminal × Acted) TermFault → PlainTerminal
left_of t (Ok x) = x.0
left_of t (Err why) = t

pub acts_stay_sound : (t u : PlainTerminal) (acted : Acted) → act_of t ≡ Ok (u, acted) → IsSound t → IsSound u
unfolding act_of left_of
acts_stay_sound t u acted act sound = go t.held refl act
  where
    to : (v : PlainTerminal) → u ≡ v → IsSound v → IsSound u
    to v same is = subst (λ x. IsSound x) (sym same) is

    decides : (e : UserEvent) (es : List UserEvent) (o : Option Verdict) → first_of_checks (event_checks t e) ≡ o
        → decided o t es (event_outcome (record t { held = es }) e) ≡ Ok (u, acted) → IsSound u
    decides e es None free q =
        let made : Made = event_outcome (record t { held = es }) e in
        let is = done-is made.0.sent made u acted q in
        to made.0 is.0 (sound_of made.0 is.1 (outcome-holds t es e free (parts_of t sound)))
    decides e es (Some Waits) stands q = to t (sym (ap (left_of t) q)) sound
    decides e es (Some (Refuses r)) stands q =
        to (record t { held = es }) (sym (ap (left_of t) q)) (sound_of (record t { held = es }) sound.countable (parts_of t sound))

    go : (es : List UserEvent) → t.held ≡ es → act_on t es ≡ Ok (u, acted) → IsSound u
    go [] held q = to t (sym (ap (left_of t) q)) sound
    go (e ∷ es) held q = decides e es (first_of_checks (event_checks t e)) refl q
