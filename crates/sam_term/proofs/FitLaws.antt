-- What is composed fits in the terminal's version.
use Rattle.sam_term.proofs.Common.{◌≡◌, ◌≤◌, ◌++◌, refl, sym, ap, ◌∙◌, subst, ℕ, Bool, true, false, List, [], ◌∷◌, length, length-append, Option, Some, None, if◌then◌else◌, arith, map, ltb-false, le-leb, is_empty, most_in_message, first_of_checks, place_after_ins, place_after_del, hole_within, Unsent, is_command_line, file_of, UserEvent, Typed, Select, Cut, Paste, Snarf, View, Load, SetSnarf, Flush, all_fit, IsSound, IsShort, PlainTerminal, Made, window_at, cut_rasp, all_composed, flushed, unsent_message, made_then, sends, sends_all, sends_if, unchanged, requested, request_for, requests_for, gaps_shown, all_wanted, shown_from, view_end, joins, joined, kept_unsent, typed_rasp, types, cuts_dot, event_outcome, made_by_type, made_by_cut, made_by_paste, made_by_snarf, made_by_view, made_by_load, frame_outcome, moved_unsent, event_checks, has_long_text, took_unlockfile, Tmesg, Tpaste, Hmesg, made_by_edit, Edit, replaced, edit_messages, typed_pieces, pieces, cut_message, ◌&&◌, ◌==◌, ◌+◌, zero, suc, drop, length-take}
use Rattle.sam_term.proofs.Acts.{none_holds, test_at}
use Rattle.sam_term.proofs.Edits.{unsent-all, unsent-flushed}
use Rattle.sam_term.proofs.Grows.{moved_short}

-- the messages fit in version v, and so will the unsent runes
record Good (v : ℕ) (made : Made) : Type 0 where
  fits : all_fit v made.1 ≡ true
  short : IsShort made.0.unsent

short-none : (o : Option Unsent) → o ≡ None → IsShort o
unfolding IsShort
short-none o e = subst (λ x. IsShort x) (sym e) tt

fit-append : (v : ℕ) (ms ns : List Tmesg) → all_fit v ms ≡ true → all_fit v ns ≡ true → all_fit v (ms ++ ns) ≡ true
fit-append v [] ns a b = b
fit-append v (m ∷ ms) ns a b = grind (arith, (fit-append v ms ns))

fit-unsent : (v : ℕ) (o : Option Unsent) → IsShort o → all_fit v (unsent_message o) ≡ true
unfolding IsShort
fit-unsent v o e = grind arith

good-flushed : (v : ℕ) (t : PlainTerminal) → IsShort t.unsent → Good v (flushed t)
unfolding flushed
good-flushed v t k = grind (arith, fit-unsent, short-none)

good-then : (v : ℕ) (made : Made) (next : PlainTerminal → Made) → Good v made → Good v (next made.0) → Good v (made_then made next)
good-then v made next a b = record { fits = fit-append v made.1 (next made.0).1 a.fits b.fits; short = b.short }

good-if : (v : ℕ) (b : Bool) (x y : Made) → (b ≡ true → Good v x) → (b ≡ false → Good v y) → Good v (if b then x else y)
good-if v b x y e u = grind arith

good-all : (v : ℕ) (t : PlainTerminal) (ms : List Tmesg) → t.unsent ≡ None → all_fit v ms ≡ true → Good v (all_composed t ms, ms)
good-all v t ms e f = record { fits = f; short = short-none _ (unsent-all t ms ∙ e) }

good-sends : (v : ℕ) (t : PlainTerminal) (change : PlainTerminal → PlainTerminal) (ms : List Tmesg) → IsShort t.unsent
    → ((u : PlainTerminal) → u.unsent ≡ None → (change u).unsent ≡ None) → all_fit v ms ≡ true → Good v (sends t change ms)
good-sends v t change ms k same f = search (arith, good-then, good-flushed, good-all, unsent-flushed)

good-plain : (v : ℕ) (t : PlainTerminal) (ms : List Tmesg) → IsShort t.unsent → all_fit v ms ≡ true → Good v (sends t unchanged ms)
good-plain v t ms k f = good-sends v t unchanged ms k (λ u e. e) f

del-none : (f p q : ℕ) (u : PlainTerminal) → u.unsent ≡ None → (cut_rasp u f p q).unsent ≡ None
del-none f p q u e = ap (λ o. moved_unsent f (place_after_del p q) o) e

good-cuts : (v : ℕ) (t : PlainTerminal) (f : ℕ) → IsShort t.unsent → Good v (cuts_dot t f)
good-cuts v t f k = search (arith, good-if, good-sends, del-none)

short-joined : (o : Option Unsent) (f p : ℕ) (s : List ℕ) → joins o f p s ≡ true → IsShort (Some (joined o f p s))
unfolding IsShort
short-joined o f p s e = grind (arith, length-append)

good-kept : (v : ℕ) (t : PlainTerminal) (f p : ℕ) (s : List ℕ) → IsShort t.unsent → length s ≤ most_in_message → Good v (kept_unsent t f p s)
unfolding IsShort
good-kept v t f p s k few = search (arith, good-if, short-joined, good-then, good-flushed)

good-types : (v : ℕ) (t : PlainTerminal) (f p : ℕ) (s : List ℕ) → IsShort t.unsent → length s ≤ most_in_message → Good v (types t f p s)
good-types v t f p s k few =
    let kept = good-kept v t f p s k few in
    let u = (kept_unsent t f p s).0 in
    let typed = typed_rasp u f p s in
    let moved = moved_short f (place_after_ins p (length (map {A = ℕ} {B = Option ℕ} Some s))) u.unsent kept.short in
    good-then v (kept_unsent t f p s) (λ w. let x = typed_rasp w f p s in if is_command_line f s then flushed x else (x, [])) kept
    (good-if v (is_command_line f s) (flushed typed) (typed, []) (λ e. good-flushed v typed moved) (λ e. record { fits = refl; short = moved }))

good-sends_if : (v : ℕ) (t : PlainTerminal) (o : Option (ℕ × ℕ)) (f : ℕ) → IsShort t.unsent → Good v (sends_if (request_for f o) t)
good-sends_if v t None f k = record { fits = refl; short = k }
good-sends_if v t (Some h) f k = good-sends v t (λ u. u) _ k (λ u e. e) refl

good-requested : (v : ℕ) (t : PlainTerminal) (f : ℕ) → IsShort t.unsent → Good v (requested t f)
unfolding requested
good-requested v t f k = grind (arith, (good-sends_if v t (hole_within (window_at t f).rasp (window_at t f).view_start (view_end (window_at t f))) f k))

fit-requests : (v f : ℕ) (xs : List (ℕ × ℕ)) → all_fit v (requests_for f xs) ≡ true
fit-requests v f [] = refl
fit-requests v f (x ∷ xs) = fit-requests v f xs

fit-wanted : (v : ℕ) (t : PlainTerminal) (f : ℕ) → all_fit v (all_wanted t f) ≡ true
unfolding all_wanted
fit-wanted v t f = fit-requests v f (gaps_shown t f)

good-sends_all : (v : ℕ) (ms : List Tmesg) (t : PlainTerminal) → IsShort t.unsent → all_fit v ms ≡ true → Good v (sends_all ms t)
good-sends_all v [] t k e = record { fits = refl; short = k }
good-sends_all v (m ∷ ms) t k e = good-plain v t (m ∷ ms) k e

fit-pieces : (v f n p : ℕ) (s : List ℕ) → all_fit v (typed_pieces f (pieces n p s)) ≡ true
unfolding pieces
fit-pieces v f zero p s = refl
fit-pieces v f (suc n) p [] = refl
fit-pieces v f (suc n) p (c ∷ s) = grind (arith, (fit-pieces v f n (p + most_in_message) (drop most_in_message (c ∷ s))), (length-take most_in_message (c ∷ s)), le-leb)

fit-cut : (v f p q : ℕ) → all_fit v (cut_message f (p, q)) ≡ true
fit-cut v f p q = grind arith

fit-edit : (v f p q : ℕ) (s : List ℕ) → all_fit v (edit_messages f p q s) ≡ true
fit-edit v f p q s = fit-append v (cut_message f (p, q)) (typed_pieces f (pieces (length s) p s)) (fit-cut v f p q) (fit-pieces v f (length s) p s)

replaced-none : (f p q : ℕ) (s : List ℕ) (u : PlainTerminal) → u.unsent ≡ None → (replaced u f p q s).unsent ≡ None
replaced-none f p q s u e = ap (λ o. moved_unsent f (place_after_ins p (length (map {A = ℕ} {B = Option ℕ} Some s))) o) (del-none f p q u e)

few_typed : (t : PlainTerminal) (f : ℕ) (s : List ℕ) → has_long_text t (Typed f s) ≡ false → length s ≤ most_in_message
few_typed t f s e = ltb-false most_in_message (length s) e

good-event : (t : PlainTerminal) (e : UserEvent) → IsShort t.unsent → has_long_text t e ≡ false → Good t.version (event_outcome t e)
unfolding made_by_type made_by_cut made_by_paste made_by_snarf made_by_view made_by_load made_by_edit
good-event t (Typed f s) k h =
    let v = t.version in
    let cuts = good-cuts v t f k in
    let u = (cuts_dot t f).0 in
    good-then v (cuts_dot t f) (λ w. if is_empty s then (w, []) else types w f (window_at t f).dot.0 s) cuts
    (good-if v (is_empty s) (u, []) (types u f (window_at t f).dot.0 s) (λ e. record { fits = refl; short = cuts.short })
    (λ e. good-types v u f (window_at t f).dot.0 s cuts.short (few_typed t f s h)))
good-event t (Select f p q) k h = record { fits = refl; short = k }
good-event t (Cut f) k h = search (arith, good-if, good-sends, del-none)
good-event t (Paste f) k h =
    let cuts = good-cuts t.version t f k in
    good-then t.version (cuts_dot t f) (λ u. sends u unchanged (Tpaste f (window_at t f).dot.0 ∷ [])) cuts
    (good-plain t.version (cuts_dot t f).0 (Tpaste f (window_at t f).dot.0 ∷ []) cuts.short refl)
good-event t (Snarf f) k h = grind (arith, (good-plain t.version t))
good-event t (View f p n) k h = grind (arith, (good-requested t.version))
good-event t (Load f p n) k h = good-sends_all t.version (all_wanted (shown_from t f p n) f) (shown_from t f p n) k (fit-wanted t.version (shown_from t f p n) f)
good-event t (Edit f p q s) k h =
    let change = λ (u : PlainTerminal). replaced u f p q s in
    good-if t.version (p == q && is_empty s) (t, []) (sends t change (edit_messages f p q s)) (λ e. record { fits = refl; short = k })
    (λ e. good-sends t.version t change (edit_messages f p q s) k (λ u n. replaced-none f p q s u n) (fit-edit t.version f p q s))
good-event t (SetSnarf s) k h = search (arith, ltb-false, le-leb, good-plain)
good-event t Flush k h = good-flushed t.version t k
good-event t _ k h = good-plain t.version t _ k refl

long_text : (t : PlainTerminal) (e : UserEvent) → first_of_checks (event_checks t e) ≡ None → has_long_text t e ≡ false
unfolding test_at
long_text t e n = none_holds (event_checks t e) 8 n

-- what an event composes fits in the version
pub event_fits : (t : PlainTerminal) (e : UserEvent) → IsSound t → first_of_checks (event_checks t e) ≡ None → all_fit t.version (event_outcome t e).1 ≡ true
event_fits t e s n = (good-event t e s.short (long_text t e n)).fits

pub flush_fits : (t : PlainTerminal) → IsSound t → all_fit t.version (flushed t).1 ≡ true
flush_fits t s = (good-flushed t.version t s.short).fits

-- what the answer to a frame composes fits in the version
pub frame_fits : (t : PlainTerminal) (m : Hmesg) → IsSound t → all_fit t.version (frame_outcome t m).1 ≡ true
unfolding took_unlockfile
frame_fits t m e = grind (arith, good-requested, good-if, good-plain)

-- an event on a file that is done found neither the command lock nor a lock of the file
pub event_finds_no_lock : (t : PlainTerminal) (e : UserEvent) (f : ℕ) → file_of e ≡ Some f → first_of_checks (event_checks t e) ≡ None → (t.command_lock ≡ false) × ((window_at t f).locks ≡ 0)
unfolding test_at
event_finds_no_lock t e f names n = grind arith
