-- What typing makes, in the order of the code: the window is changed first, and the messages are composed after that.
use Rattle.sam_term.proofs.Edits.{make_facts, later, cut_made, cuts_none, cut-unsent, flushed-idle, flushed-messages}
use Rattle.sam_term.proofs.Grows.{grown_facts}
use Rattle.sam_term.proofs.FileSteps.{file_puts}
use Rattle.sam_term.proofs.Acts.{first_is, passes, test_at, made_of}
use Rattle.sam_term.proofs.Common.{◌≡◌, refl, ℕ, ◌≤◌, ◌+◌, ◌-◌, ◌++◌, Bool, true, false, List, [], ◌∷◌, length, map, Option, Some, None, ◌==◌, arith, length-append, nat_eq, not, ◌&&◌, option_map, ltb-false, eq-eqb, ne_eqb, length-map, is_empty, max_runes, most_in_message, PlainTerminal, Made, window_at, put_window, window_after_del, edited, cut_rasp, ins_rasp, set_dot_of, all_composed, flushed, unsent_message, made_then, joins, joined, typed_rasp, types, cuts_dot, event_outcome, made_by_type, is_command_line, UserEvent, Typed, typed_over, joined_at, lengthened, shortened, typed_file, typed_runes, cut_message, one_if, flushed_if, IsSound, FitsUnsent, IsShort, first_event, free_first, made_first, is_typing, Window, Unsent, Tmesg, Tcut, take-append_seam, slot-put_same, slot-put_other, length-take, length-drop}
use Rattle.sam_term.proofs.TypedLaws.{typed-cut}
use Rattle.sam_term.proofs.Composes.{put-put, window-put_same, flushed-files}
use Rattle.sam_term.proofs.Marks.{edited-window, edited-again, edited-put}
use Rattle.sam_term.proofs.SlotSteps.{open_known}

-- ## The window

-- runes that come in at p, with the dot after them
abbrev placed : PlainTerminal → ℕ → ℕ → List ℕ → PlainTerminal
placed t f p s = set_dot_of (ins_rasp t f p (map Some s)) f (p + length s, p + length s)

-- at an empty dot
placed-empty : (t : PlainTerminal) (f : ℕ) (s : List ℕ) (j : Unsent) → (window_at t f).dot.0 ≡ (window_at t f).dot.1 → j.place ≤ (window_at t f).dot.0
    → placed (record t { unsent = Some j }) f (window_at t f).dot.0 s ≡ record (put_window t f (typed_over (window_at t f) s)) { unsent = Some j }
placed-empty t f s j e l = grind (arith, window-put_same, put-put, length-map)

-- where a dot was cut
placed-filled : (t : PlainTerminal) (f : ℕ) (s : List ℕ) (j : Unsent) (n : ℕ) → j.place ≤ (window_at t f).dot.0 → (window_at t f).dot.0 ≤ length (window_at t f).rasp
    → placed (record (put_window t f (window_after_del (window_at t f) (window_at t f).dot.0 (window_at t f).dot.1)) { unsent = Some j; sent = n }) f
    (window_at t f).dot.0 s ≡ record (put_window t f (typed_over (window_at t f) s)) { unsent = Some j; sent = n }
placed-filled t f s j n l within = grind (arith, window-put_same, put-put, typed-cut)

-- the user types runes at an empty dot
typed-empty : (t : PlainTerminal) (f : ℕ) (s : List ℕ) (j : Unsent) → (window_at t f).dot.0 ≡ (window_at t f).dot.1 → j.place ≤ (window_at t f).dot.0
    → typed_rasp (record t { unsent = Some j }) f (window_at t f).dot.0 s ≡ record (put_window (edited t f) f (typed_over (window_at t f) s)) { unsent = Some j }
typed-empty t f s j e l = grind (arith, (edited-window t f), (placed-empty (edited t f) f s j))

-- the user types runes where a dot was cut, so the file is marked twice
typed-filled : (t : PlainTerminal) (f : ℕ) (s : List ℕ) (j : Unsent) (n : ℕ) → j.place ≤ (window_at t f).dot.0 → (window_at t f).dot.0 ≤ length (window_at t f).rasp
    → typed_rasp (record (cut_rasp t f (window_at t f).dot.0 (window_at t f).dot.1) { unsent = Some j; sent = n }) f (window_at t f).dot.0 s ≡ record
    (put_window (edited t f) f (typed_over (window_at t f) s)) { unsent = Some j; sent = n }
typed-filled t f s j n l within = grind (arith, (edited-window t f), (placed-filled (edited t f) f s j n), (edited-again t f))

-- ## The event

by-steps : (t : PlainTerminal) (f : ℕ) (s : List ℕ) → is_empty s ≡ false → event_outcome t (Typed f s) ≡ made_then (cuts_dot t f) (λ u. types u f (window_at t f).dot.0 s)
unfolding made_by_type
by-steps t f s e = grind arith

-- after unsent runes
abbrev behind : (t : PlainTerminal) (f : ℕ) (s : List ℕ) (d : ℕ × ℕ) → PlainTerminal
behind t f s d = record (put_window (edited t f) f (typed_over (window_at t f) s)) { unsent = Some (joined t.unsent f d.0 s) }

joins-place : (o : Option Unsent) (f p : ℕ) (s : List ℕ) → joins o f p s ≡ true → (joined o f p s).place ≤ p
joins-place o f p s e = grind arith

pub made-behind_dot : (t : PlainTerminal) (f : ℕ) (s : List ℕ) → is_empty s ≡ false → (window_at t f).dot.0 ≡ (window_at t f).dot.1
    → joins t.unsent f (window_at t f).dot.0 s ≡ true → event_outcome t (Typed f s) ≡ flushed_if (is_command_line f s) (behind t f s (window_at t f).dot)
made-behind_dot t f s some e j = grind (arith, (by-steps t f s some), (cuts_none t f (window_at t f).dot refl e), (typed-empty t f s), (joins-place t.unsent f))

-- apart from them
abbrev pub apart : PlainTerminal → ℕ → List ℕ → ℕ × ℕ → PlainTerminal
apart t f s d =
    record (all_composed (put_window (edited (flushed t).0 f) f (typed_over (window_at t f) s)) (cut_message f d)) { unsent = Some (joined None f d.0 s) }

abbrev pub made_apart : PlainTerminal → ℕ → List ℕ → ℕ × ℕ → Made
made_apart t f s d =
    ((flushed_if (is_command_line f s) (apart t f s d)).0, ((flushed t).1 ++ cut_message f d) ++ (flushed_if (is_command_line f s) (apart t f s d)).1)

abbrev apart_with : PlainTerminal → ℕ → List ℕ → ℕ → Window → List Tmesg → PlainTerminal
apart_with t f s p w ms =
    record (all_composed (put_window (edited (flushed t).0 f) f (typed_over w s)) ms) { unsent = Some (joined None f p s) }

apart-empty : (t : PlainTerminal) (f : ℕ) (s : List ℕ) → (window_at t f).dot.0 ≡ (window_at t f).dot.1
    → typed_rasp (record (flushed t).0 { unsent = Some (joined None f (window_at t f).dot.0 s) }) f (window_at t f).dot.0 s ≡ apart_with t f s (window_at t f).dot.0 (window_at t f) []
apart-empty t f s e = grind (arith, (typed-empty (flushed t).0 f s (joined None f (window_at (flushed t).0 f).dot.0 s)), flushed-files)

apart-filled : (t : PlainTerminal) (f : ℕ) (s : List ℕ) → (window_at t f).dot.0 ≤ length (window_at t f).rasp
    → typed_rasp (record (cut_made t f (window_at t f).dot).0 { unsent = Some (joined None f (window_at t f).dot.0 s) }) f (window_at t f).dot.0 s ≡
    apart_with t f s (window_at t f).dot.0 (window_at t f) (Tcut f (window_at t f).dot.0 (window_at t f).dot.1 ∷ [])
apart-filled t f s l = grind (arith, (typed-filled (flushed t).0 f s (joined None f (window_at (flushed t).0 f).dot.0 s) ((flushed t).0.sent + 1)), flushed-files)

made-apart_none : (t : PlainTerminal) (f : ℕ) (s : List ℕ) → is_empty s ≡ false → (window_at t f).dot.0 ≡ (window_at t f).dot.1
    → joins t.unsent f (window_at t f).dot.0 s ≡ false → event_outcome t (Typed f s) ≡ made_apart t f s (window_at t f).dot
made-apart_none t f s some e j = grind (arith, (by-steps t f s some), (apart-empty t f s e), nat_eq, eq-eqb)

pub made-apart : (t : PlainTerminal) (f : ℕ) (s : List ℕ) → is_empty s ≡ false → (window_at t f).dot.0 ≤ length (window_at t f).rasp
    → ((window_at t f).dot.0 == (window_at t f).dot.1 && joins t.unsent f (window_at t f).dot.0 s) ≡ false → event_outcome t (Typed f s) ≡ made_apart t f s (window_at t f).dot
made-apart t f s some l h = grind (arith, made-apart_none, by-steps, cut-unsent, apart-filled, nat_eq, ne_eqb, flushed-idle)

-- ## Composing after the change of the window

-- the unsent runes are composed after the user changed a window, as if it were before
pub put-flushed : (t : PlainTerminal) (f : ℕ) (w : Window) → all_composed (record (put_window (edited t f) f w) { unsent = None }) (unsent_message t.unsent) ≡ put_window (edited (flushed t).0 f) f w
unfolding flushed
put-flushed t f w = grind arith

-- composing the cut of a dot leaves the window that was put
pub window-cut : (t : PlainTerminal) (f : ℕ) (w : Window) (d : ℕ × ℕ) → window_at (all_composed (put_window t f w) (cut_message f d)) f ≡ w
window-cut t f w d = grind (arith, window-put_same)

-- ## Counting

pub flush-count : (b : Bool) (t : PlainTerminal) (j : Unsent) → t.unsent ≡ Some j → length (flushed_if b t).1 ≡ one_if b
flush-count b t j e = grind (arith, flushed-messages)

pub behind_count : (t : PlainTerminal) (f : ℕ) (s : List ℕ) → first_event t.held ≡ Typed f s → is_empty s ≡ false → (window_at t f).dot.0 ≡ (window_at t f).dot.1
    → joins t.unsent f (window_at t f).dot.0 s ≡ true → length (made_first t).1 ≡ one_if (is_command_line f s)
behind_count t f s first some e j = grind (arith, (made_of t (Typed f s) first), (made-behind_dot (later t) f s some e j), flush-count)

pub apart_count : (t : PlainTerminal) (f : ℕ) (s : List ℕ) → first_event t.held ≡ Typed f s → is_empty s ≡ false → (window_at t f).dot.0 ≤ length (window_at t f).rasp
    → ((window_at t f).dot.0 == (window_at t f).dot.1 && joins t.unsent f (window_at t f).dot.0 s) ≡ false
    → length (made_first t).1 ≡ length (unsent_message t.unsent) + one_if (not ((window_at t f).dot.0 == (window_at t f).dot.1)) + one_if (is_command_line f s)
apart_count t f s first some l h = grind (arith, (made_of t (Typed f s) first), (made-apart (later t) f s some l h), flushed-messages)

-- ## The oldest event

pub typed-as : (x e : UserEvent) (f : ℕ) (s : List ℕ) → is_typing x ≡ true → x ≡ e → f ≡ typed_file e → s ≡ typed_runes e → x ≡ Typed f s
typed-as x e f s i same file runes = grind arith

pub few-typed : (t : PlainTerminal) (f : ℕ) (s : List ℕ) → free_first t ≡ None → first_event t.held ≡ Typed f s → length s ≤ most_in_message
unfolding test_at
few-typed t f s n h = ltb-false most_in_message (length s) (passes t (Typed f s) 8 n h)

pub typed-fits : (t : PlainTerminal) (f : ℕ) (s : List ℕ) → free_first t ≡ None → first_event t.held ≡ Typed f s
    → length (window_at t f).rasp + length s ≤ max_runes + ((window_at t f).dot.1 - (window_at t f).dot.0)
unfolding test_at
typed-fits t f s n h = grind (arith, (passes t (Typed f s) 9 n h))

-- unsent runes that get more after them are those that they are joined to
pub lengthened-joined : (o : Option Unsent) (f p : ℕ) (s : List ℕ) → joins o f p s ≡ true → option_map (lengthened s) o ≡ Some (joined o f p s)
lengthened-joined o f p s e = grind arith

-- and cut back they are what they were
pub shortened-again : (o : Option Unsent) (s : List ℕ) → option_map (shortened (length s)) (option_map (lengthened s) o) ≡ o
shortened-again None s = refl
shortened-again (Some u) s = grind (arith, (length-append u.runes s), (take-append_seam u.runes s))

-- a terminal stays sound as runes are typed after the unsent ones
pub sound-joined : (t : PlainTerminal) (f : ℕ) (s : List ℕ) → IsSound t → (window_at t f).dot.0 ≡ (window_at t f).dot.1 → length (window_at t f).rasp + length s ≤ max_runes
    → joins t.unsent f (window_at t f).dot.0 s ≡ true → IsSound (joined_at t f s)
unfolding FitsUnsent IsShort
sound-joined t f s sound same fits e = grind (arith, slot-put_same, slot-put_other, length-append, length-map, length-take, length-drop)

-- what `make_typed` rests on
pub ruleset make_typed_facts = (typed-as, few-typed)

-- what runes rest on that join the unsent ones
pub ruleset joined_facts = (first_is, file_puts, grown_facts, lengthened-joined, shortened-again)

-- what typing apart from the unsent runes rests on
pub ruleset apart_facts = (make_facts, made-apart, put-flushed, window-cut, few-typed, typed-fits, edited-put, open_known, slot-put_same)

-- what typing after them rests on
pub ruleset behind_facts = (make_facts, made-behind_dot, flush-count, typed-fits, edited-put, open_known, slot-put_same)
