-- Without a Load a file awaits one request at most.
use Rattle.sam_term.proofs.Common.{◌≡◌, refl, ℕ, ◌+◌, ◌≤◌, Bool, false, List, [], ◌∷◌, ◌++◌, Option, Some, None, if◌then◌else◌, arith, ◌==◌, eqb-true, slot-put_same, slot-put_other, UserEvent, Typed, Select, Cut, Paste, Snarf, View, Load, Flush, PlainTerminal, Made, window_at, put_window, flushed, made_then, sends, sends_if, unchanged, requested, wanted, shown_from, types, event_outcome, made_by_type, made_by_cut, made_by_paste, made_by_snarf, made_by_view, frame_outcome, took_unlockfile, Window, Tmesg, Tack, Hmesg, Hcheck, Hunlockfile, Hack, made_by_edit, Edit, replaced, edit_messages, typed_pieces, pieces, is_empty, ◌&&◌, length}
use Rattle.sam_term.specs.LockCounts.{asks_for, requests, awaited_left}
use Rattle.sam_term.specs.Loading.{is_load, RuleWaits, EventsAskOnce, FramesAskOnce}
use Rattle.sam_term.proofs.LockLaws.{event_awaits, frame_awaits}

pub rule_waits : RuleWaits
rule_waits t f l = grind arith

-- what was made asks for no data of f
record Quiet (f : ℕ) (made : Made) : Type 0 where
  none : requests f made.1 ≡ 0

requests-append : (f : ℕ) (ms ns : List Tmesg) → requests f (ms ++ ns) ≡ requests f ms + requests f ns
requests-append f [] ns = omega arith
requests-append f (m ∷ ms) ns = grind (arith, (requests-append f ms ns))

quiet-flushed : (f : ℕ) (t : PlainTerminal) → Quiet f (flushed t)
unfolding flushed
quiet-flushed f t = grind arith

quiet-then : (f : ℕ) (made : Made) (next : PlainTerminal → Made) → Quiet f made → Quiet f (next made.0) → Quiet f (made_then made next)
quiet-then f made next a b = grind (arith, requests-append)

quiet-if : (f : ℕ) (b : Bool) (x y : Made) → Quiet f x → Quiet f y → Quiet f (if b then x else y)
quiet-if f b x y e u = grind arith

quiet-none : (f : ℕ) (t : PlainTerminal) → Quiet f (t, [])
quiet-none f t = record { none = refl }

quiet-sends : (f : ℕ) (t : PlainTerminal) (change : PlainTerminal → PlainTerminal) (ms : List Tmesg) → requests f ms ≡ 0 → Quiet f (sends t change ms)
quiet-sends f t change ms e = grind (arith, requests-append, (quiet-flushed f t))

asks-pieces : (f g : ℕ) (xs : List (ℕ × List ℕ)) → requests f (typed_pieces g xs) ≡ 0
asks-pieces f g [] = refl
asks-pieces f g (x ∷ xs) = grind (arith, (asks-pieces f g xs))

asks-edit : (f g p q : ℕ) (s : List ℕ) → requests f (edit_messages g p q s) ≡ 0
asks-edit f g p q s = grind (arith, requests-append, (asks-pieces f g (pieces (length s) p s)))

quiet-types : (f : ℕ) (t : PlainTerminal) (g p : ℕ) (s : List ℕ) → Quiet f (types t g p s)
quiet-types f t g p s = search (arith, quiet-then, quiet-if, quiet-none, quiet-flushed)

-- what was made asks for data of f once at most, and only where none are awaited
record Once (f : ℕ) (t : PlainTerminal) (made : Made) : Type 0 where
  once : (window_at t f).awaited ≤ 1 → (window_at t f).awaited + requests f made.1 ≤ 1

once-quiet : (f : ℕ) (t : PlainTerminal) (made : Made) → Quiet f made → Once f t made
once-quiet f t made q = record { once = λ l. grind (arith, q.none) }

-- the rule asks where none are awaited
asks-wanted : (f : ℕ) (u : PlainTerminal) (g : ℕ) (m : Tmesg) → wanted u g ≡ Some m → ((window_at u g).awaited ≡ 0) × (asks_for f m ≡ (if g == f then 1 else 0))
asks-wanted f u g m e = grind arith

once-requested : (f : ℕ) (t u : PlainTerminal) (g : ℕ) → (window_at u f).awaited ≡ (window_at t f).awaited → Once f t (requested u g)
unfolding requested
once-requested f t u g e = go (wanted u g) refl
  where
    go : (o : Option Tmesg) → wanted u g ≡ o → Once f t (sends_if o u)
    go None w = once-quiet f t (u, []) (quiet-none f u)
    go (Some m) w = record { once = λ few. grind (arith, requests-append, (quiet-flushed f u), (asks-wanted f u g m w), (eqb-true g f), e, few) }

awaited-put : (t : PlainTerminal) (g : ℕ) (w : Window) (f : ℕ) → w.awaited ≡ (window_at t g).awaited → (window_at (put_window t g w) f).awaited ≡ (window_at t f).awaited
awaited-put t g w f e = grind (arith, slot-put_same, slot-put_other)

once-event : (f : ℕ) (t : PlainTerminal) (e : UserEvent) → is_load e ≡ false → Once f t (event_outcome t e)
unfolding made_by_type made_by_cut made_by_paste made_by_snarf made_by_view made_by_edit
once-event f t (Typed g s) l = once-quiet f t _ (search (arith, quiet-then, quiet-if, quiet-none, quiet-types, quiet-sends))
once-event f t (Select g p q) l = once-quiet f t _ (quiet-none f _)
once-event f t (Cut g) l = once-quiet f t _ (search (arith, quiet-if, quiet-none, quiet-sends))
once-event f t (Paste g) l = once-quiet f t _ (search (arith, quiet-then, quiet-if, quiet-none, quiet-sends))
once-event f t (Snarf g) l = once-quiet f t _ (search (arith, quiet-if, quiet-none, quiet-sends))
once-event f t (View g p n) l = once-requested f t (shown_from t g p n) g (awaited-put t g _ f refl)
once-event f t (Load g p n) l = grind arith
once-event f t (Edit g p q s) l =
    let change = λ (u : PlainTerminal). replaced u g p q s in
    let quiet = quiet-sends f t change (edit_messages g p q s) (asks-edit f g p q s) in
    once-quiet f t _ (quiet-if f (p == q && is_empty s) (t, []) (sends t change (edit_messages g p q s)) (quiet-none f t) quiet)
once-event f t Flush l = once-quiet f t _ (quiet-flushed f t)
once-event f t _ l = once-quiet f t _ (quiet-sends f t unchanged _ refl)

pub events_ask_once : EventsAskOnce
events_ask_once t e f l few = grind (arith, (event_awaits t e f), ((once-event f t e l).once few))

once-frame : (f : ℕ) (t : PlainTerminal) (m : Hmesg) → Once f t (frame_outcome t m)
unfolding took_unlockfile
once-frame f t (Hcheck g) = once-requested f t t g refl
once-frame f t (Hunlockfile g) = once-requested f t (took_unlockfile t g) g (awaited-put t g _ f refl)
once-frame f t Hack = once-quiet f t _ (quiet-if f t.has_exited (t, []) (sends t unchanged (Tack ∷ [])) (quiet-none f t) (quiet-sends f t unchanged (Tack ∷ []) refl))
once-frame f t _ = once-quiet f t _ (quiet-none f _)

left-less : (m : Hmesg) (f n : ℕ) → awaited_left m f n ≤ n
left-less m f n = grind arith

pub frames_ask_once : FramesAskOnce
frames_ask_once t m f few = grind (arith, (frame_awaits t m f), ((once-frame f t m).once few), (left-less m f (window_at t f).awaited))
