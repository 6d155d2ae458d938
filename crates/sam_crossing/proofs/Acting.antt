-- An event that nothing stands against keeps both sides in order.
use Rattle.sam_crossing.proofs.Common.{◌&&◌, ◌≡◌, ℕ, ◌+◌, ◌-◌, ◌≤◌, Bool, true, false, not, ◌==◌, if◌then◌else◌, nat_lt, List, [], ◌∷◌, ◌++◌, length, Option, None, refl, sym, ap, ◌∙◌, subst, eqb-true, eq-eqb, append_assoc, arith, ltb-false, not-false, max_runes, is_empty, del-nothing, del_cells, Tmesg, Tversion, Trequest, Torigin, Ttype, Tcut, Tpaste, Tsnarf, Tdclick, Tack, Hmesg, PlainHost, CommandLock, NoLock, Window, is_command_line, UserEvent, PlainTerminal, window_at, put_window, is_open, has_empty_dot, cut_rasp, composed, all_composed, edit_messages, replaced, flushed, sends, unchanged, requested, cuts_dot, types, event_outcome, made_by_type, made_by_cut, made_by_paste, made_by_snarf, made_by_view, made_by_load, made_by_edit, all_wanted, gaps_shown, requests_for, sends_all, Lens, OpenAt, Anything, view, AreTidy, IsTidyWindow, views, InOrder}
use Rattle.sam_term.specs.declared.event.UserEvent.TheVariants.{Typed, Select, Cut, Paste, Snarf, Dclick, Scroll, View, Load, Edit, Version, Flush}
use Rattle.sam_crossing.proofs.Lenses.{IsFree, IsOpen, exited_of, command_of}
use Rattle.sam_crossing.proofs.Changes.{type_change, change_by, cut_out, Within, IsAllowed, CanCompose}
use Rattle.sam_crossing.proofs.Folds.{requests, acknowledges}
use Rattle.sam_crossing.proofs.Views.{view-composed, view-kept, unsent-composed, unsent-flushed, tidy-composed, tidy-window}
use Rattle.sam_crossing.proofs.Dots.{length-del_cells}
use Rattle.sam_crossing.proofs.Passing.{Passed, free_at, open_free, opened_at, known_at_view, all_free}
use Rattle.sam_crossing.proofs.Sending.{Goes, then_goes, nothing_goes, flushed_goes, flushed_views, MaySend, is_edit, carried, send_one, sends_goes, cut_view, cut_one, open_is, exited_cut, command_cut, free_cut, open_cut}
use Rattle.sam_crossing.proofs.Typing.{types_goes}
use Rattle.sam_crossing.proofs.Replacing.{Wide, MayReplace, replaced_goes}

-- ## Requests, and acknowledgements

-- one request, under whatever locks
one_request : (h : PlainHost) (t : PlainTerminal) (up : List Tmesg) (down : List Hmesg) (f p n : ℕ) → InOrder h t up down → t.unsent ≡ None → IsOpen (view f t) → t.has_exited ≡ false
    → InOrder h (composed t (Trequest f p n)) (up ++ Trequest f p n ∷ []) down
one_request h t up down f p n o e i here =
    carried h t (composed t (Trequest f p n)) up down (Trequest f p n) o e (unsent-composed t (Trequest f p n) ∙ e)
    (requests h (views t) _ down f p n o.kept i here) (λ g. sym (view-composed t (Trequest f p n) i g)) (tidy-composed t (Trequest f p n) o.tidy)

-- which leaves the file open
still_open : (t : PlainTerminal) (f p n : ℕ) → IsOpen (view f t) → IsOpen (view f (composed t (Trequest f p n)))
still_open t f p n i = grind (arith, (view-composed t (Trequest f p n) i f), (eq-eqb f f refl))

-- one request after another
each_request : (h : PlainHost) (t : PlainTerminal) (up : List Tmesg) (down : List Hmesg) (f : ℕ) (xs : List (ℕ × ℕ)) → InOrder h t up down → t.unsent ≡ None → IsOpen (view f t) → t.has_exited ≡ false
    → InOrder h (all_composed t (requests_for f xs)) (up ++ requests_for f xs) down
each_request h t up down f [] o e i here = nothing_goes h t up down o
each_request h t up down f (x ∷ xs) o e i here =
    let m = Trequest f x.0 x.1 in
    rw (← append_assoc up (m ∷ []) (requests_for f xs))
    (each_request h (composed t m) (up ++ m ∷ []) down f xs (one_request h t up down f x.0 x.1 o e i here) (unsent-composed t m ∙ e) (still_open t f x.0 x.1 i) here)

-- the unsent runes, and then these requests
sent_requests : (h : PlainHost) (t : PlainTerminal) (up : List Tmesg) (down : List Hmesg) (f : ℕ) (xs : List (ℕ × ℕ)) → InOrder h t up down → IsOpen (view f t) → t.has_exited ≡ false
    → Goes h up down (sends t unchanged (requests_for f xs))
sent_requests h t up down f xs o is_open here =
    let same = flushed_views t o.unsent in
    then_goes h up down (flushed t) (λ u. (all_composed u (requests_for f xs), requests_for f xs))
    (each_request h (flushed t).0 (up ++ (flushed t).1) down f xs (flushed_goes h t up down o) (unsent-flushed t) (subst (λ (x : ℕ → Lens). IsOpen (x f)) same is_open)
    (sym (ap (λ (v : ℕ → Lens). exited_of (v 0)) same) ∙ here))

sent_request : (h : PlainHost) (t : PlainTerminal) (up : List Tmesg) (down : List Hmesg) (f p n : ℕ) → InOrder h t up down → IsOpen (view f t) → t.has_exited ≡ false
    → Goes h up down (sends t (λ u. u) (Trequest f p n ∷ []))
sent_request h t up down f p n o is_open here = sent_requests h t up down f ((p, n) ∷ []) o is_open here

-- all gaps of a view
loaded_goes : (h : PlainHost) (t : PlainTerminal) (up : List Tmesg) (down : List Hmesg) (f : ℕ) → InOrder h t up down → IsOpen (view f t) → t.has_exited ≡ false
    → Goes h up down (sends_all (all_wanted t f) t)
unfolding all_wanted
loaded_goes h t up down f o is_open here = go (gaps_shown t f)
  where
    go : (xs : List (ℕ × ℕ)) → Goes h up down (sends_all (requests_for f xs) t)
    go [] = nothing_goes h t up down o
    go (x ∷ xs) = sent_requests h t up down f (x ∷ xs) o is_open here

-- the request rule, whatever locks are held
pub requested_goes : (h : PlainHost) (t : PlainTerminal) (up : List Tmesg) (down : List Hmesg) (f : ℕ) → InOrder h t up down → Goes h up down (requested t f)
unfolding requested
requested_goes h t up down f o = grind (arith, (nothing_goes h t up down o), (sent_request h t up down f))

pub acknowledged_goes : (h : PlainHost) (t : PlainTerminal) (up : List Tmesg) (down : List Hmesg) → InOrder h t up down → Goes h up down (sends t unchanged (Tack ∷ []))
acknowledged_goes h t up down o =
    let e = unsent-flushed t in
    let u = flushed_goes h t up down o in
    then_goes h up down (flushed t) (λ u. (composed u Tack, Tack ∷ []))
    (carried h (flushed t).0 _ (up ++ (flushed t).1) down Tack u e e (acknowledges h (views (flushed t).0) _ down u.kept) (λ g. refl) u.tidy)

-- ## The dot is cut

dot_open : (t : PlainTerminal) (f : ℕ) → AreTidy t → t.command_lock ≡ false → not (is_open t f) ≡ false → nat_lt 0 (window_at t f).locks ≡ false
    → OpenAt (Within (window_at t f).dot.0 (window_at t f).dot.1) (view f t)
dot_open t f tidy free opened unlocked = grind (arith, open_free, (tidy f))

-- what was made is in order, and the file is as free as before
record DotCut (h : PlainHost) (t : PlainTerminal) (up : List Tmesg) (down : List Hmesg) (f : ℕ) : Type 1 where
  goes : Goes h up down (cuts_dot t f)
  may : (m : Tmesg) → IsAllowed (change_by m) (views (cuts_dot t f).0) → CanCompose m (views (cuts_dot t f).0) → MaySend (views (cuts_dot t f).0) m
  free : (g : ℕ) → IsFree (view g t) → IsFree (view g (cuts_dot t f).0)
  opens : (P Q : List (Option ℕ) → Type 0) → OpenAt P (view f t) → ((r : List (Option ℕ)) → P r → Q (del_cells r (window_at t f).dot.0 (window_at t f).dot.1)) → OpenAt Q (view f (cuts_dot t f).0)

dot_cut : {e : UserEvent} (h : PlainHost) (t : PlainTerminal) (up : List Tmesg) (down : List Hmesg) (f : ℕ) → InOrder h t up down → Passed t e → not (is_open t f) ≡ false
    → nat_lt 0 (window_at t f).locks ≡ false → DotCut h t up down f
dot_cut h t up down f o pass opened unlocked = record {
  goes = goes (has_empty_dot t f);
  may = λ m a c.
      let s = shown (has_empty_dot t f) refl 0 in
      record { here = ap exited_of s ∙ exited_cut _ p q (view 0 t) ∙ pass.here; free = ap command_of s ∙ command_cut _ p q (view 0 t) ∙ pass.free; allowed = a; can = c };
  free = λ g i. rw (shown (has_empty_dot t f) refl g) (free_cut (g == f) p q (view g t) i);
  opens = λ P Q o h. rw (shown (has_empty_dot t f) refl f, eq-eqb f f refl) (open_cut P Q p q (view f t) o h);
}
  where
    p : ℕ
    p = (window_at t f).dot.0

    q : ℕ
    q = (window_at t f).dot.1

    may : MaySend (views (flushed t).0) (Tcut f p q)
    may = rw (← flushed_views t o.unsent) (record { here = pass.here; free = pass.free; allowed = free_at t f pass.free unlocked; can = dot_open t f o.tidy pass.free opened unlocked })

    goes : (b : Bool) → Goes h up down (if b then (t, []) else sends t (λ u. cut_rasp u f p q) (Tcut f p q ∷ []))
    goes true = nothing_goes h t up down o
    goes false = then_goes h up down (flushed t) (λ u. (composed (cut_rasp u f p q) (Tcut f p q), Tcut f p q ∷ []))
        (cut_one h (flushed t).0 (up ++ (flushed t).1) down f p q (flushed_goes h t up down o) (unsent-flushed t) may)

    shown : (b : Bool) → has_empty_dot t f ≡ b → (g : ℕ)
        → view g (if b then (t, []) else sends t (λ u. cut_rasp u f p q) (Tcut f p q ∷ [])).0 ≡ (if g == f then cut_out p q (view g t) else view g t)
    shown true e g = grind (arith, del-nothing, (eqb-true p q e))
    shown false e g = cut_view (flushed t).0 f p q (open_is (Within p q) (view f (flushed t).0) may.can) g
        ∙ ap (λ (v : ℕ → Lens). (if g == f then cut_out p q (v g) else v g)) (sym (flushed_views t o.unsent))

-- ## Windows that are shown otherwise

-- a window of an open file, with its partial text and locks, and another dot or view
shown_goes : (h : PlainHost) (t : PlainTerminal) (up : List Tmesg) (down : List Hmesg) (f : ℕ) (w : Window) → InOrder h t up down → IsOpen (view f t) → w.rasp ≡ (window_at t f).rasp
    → w.locks ≡ (window_at t f).locks → IsTidyWindow w → InOrder h (put_window t f w) up down
shown_goes h t up down f w o i r k tidy = grind (arith, tidy-window, view-kept)

-- ## Every event

-- one that composes this message and nothing else
sent : {e : UserEvent} (h : PlainHost) (t : PlainTerminal) (up : List Tmesg) (down : List Hmesg) (m : Tmesg) → InOrder h t up down → Passed t e → is_edit m ≡ false → IsAllowed (change_by m) (views t)
    → CanCompose m (views t) → Goes h up down (sends t unchanged (m ∷ []))
sent h t up down m o p plain allowed can = sends_goes h t up down m o plain (record { here = p.here; free = p.free; allowed = allowed; can = can })

-- an event that only sends its message needs no row
pub event_goes : (h : PlainHost) (t : PlainTerminal) (up : List Tmesg) (down : List Hmesg) (e : UserEvent) → InOrder h t up down → Passed t e → Goes h up down (event_outcome t e)
unfolding made_by_view made_by_load made_by_snarf made_by_type made_by_paste made_by_cut made_by_edit
event_goes h t up down (Typed f s) o pass = then_goes h up down (cuts_dot t f) (λ u. if is_empty s then (u, []) else types u f p s) (go s refl)
  where
    p : ℕ
    p = (window_at t f).dot.0

    cut : DotCut h t up down f
    cut = dot_cut h t up down f o pass pass.opened pass.unlocked

    Wide : List (Option ℕ) → Type 0
    Wide r = let q = (window_at t f).dot.1 in (p ≤ q) × (q ≤ length r) × (length r - (q - p) + length s ≤ max_runes)

    room : OpenAt (λ r. (p ≤ length r) × (length r + length s ≤ max_runes)) (view f (cuts_dot t f).0)
    room = cut.opens Wide _ (open_free Wide t f pass.free pass.opened pass.unlocked ((o.tidy f).0, (o.tidy f).1, ltb-false max_runes _ pass.room)) (grind (arith, length-del_cells))

    allowed : (line : Bool) → is_command_line f s ≡ line → IsAllowed (type_change (if line then CommandLock else NoLock) f p s) (views (cuts_dot t f).0)
    allowed line e = grind (arith, cut.free, free_at, all_free, pass.all_unlocked)

    go : (x : List ℕ) → s ≡ x → Goes h (up ++ (cuts_dot t f).1) down (if is_empty x then ((cuts_dot t f).0, []) else types (cuts_dot t f).0 f p x)
    go [] e = nothing_goes h _ _ down cut.goes
    go (c ∷ x) e = types_goes h (cuts_dot t f).0 _ down f p c x cut.goes (rw (← e) (cut.may (Ttype f p s) (allowed (is_command_line f s) refl) room))
event_goes h t up down (Select f a b) o p = nothing_goes h _ up down
    (shown_goes h t up down f (record (window_at t f) { dot = (a, b) }) o (opened_at t f (not-false (is_open t f) p.opened)) refl refl (grind (arith, p.place, (o.tidy f))))
-- what goes is kept by the host first
event_goes h t up down (Cut f) o pass = go (has_empty_dot t f)
  where
    p : ℕ
    p = (window_at t f).dot.0

    q : ℕ
    q = (window_at t f).dot.1

    both : (u : PlainTerminal) (line : List Tmesg) → InOrder h u line down → u.unsent ≡ None → views t ≡ views u
        → InOrder h (all_composed (cut_rasp u f p q) (Tsnarf f p q ∷ Tcut f p q ∷ [])) (line ++ Tsnarf f p q ∷ Tcut f p q ∷ []) down
    both u line i e v =
        let within = dot_open t f o.tidy pass.free pass.opened pass.unlocked in
        let may : (m : Tmesg) → IsAllowed (change_by m) (views t) → CanCompose m (views t) → MaySend (views u) m =
        λ m a c. rw (← v) (record { here = pass.here; free = pass.free; allowed = a; can = c }) in
        let one = send_one h u line down (Tsnarf f p q) i e refl (may (Tsnarf f p q) tt within) in
        rw (← append_assoc line (Tsnarf f p q ∷ []) (Tcut f p q ∷ [])) (cut_one h (composed u (Tsnarf f p q)) _ down f p q one e (may (Tcut f p q) (free_at t f pass.free pass.unlocked) within))

    go : (b : Bool) → Goes h up down (if b then (t, []) else sends t (λ u. cut_rasp u f p q) (Tsnarf f p q ∷ Tcut f p q ∷ []))
    go true = nothing_goes h t up down o
    go false =
        then_goes h up down (flushed t) (λ u. (all_composed (cut_rasp u f p q) (Tsnarf f p q ∷ Tcut f p q ∷ []), Tsnarf f p q ∷ Tcut f p q ∷ []))
        (both (flushed t).0 (up ++ (flushed t).1) (flushed_goes h t up down o) (unsent-flushed t) (flushed_views t o.unsent))
event_goes h t up down (Paste f) o pass =
    let p = (window_at t f).dot.0 in
    let cut = dot_cut h t up down f o pass pass.opened pass.unlocked in
    let place : OpenAt (Within p p) (view f (cuts_dot t f).0) =
    cut.opens (Within p (window_at t f).dot.1) (Within p p) (dot_open t f o.tidy pass.free pass.opened pass.unlocked) (grind (arith, length-del_cells)) in
    then_goes h up down (cuts_dot t f) (λ u. sends u unchanged (Tpaste f p ∷ []))
    (sends_goes h _ _ down (Tpaste f p) cut.goes refl (cut.may (Tpaste f p) (cut.free f (free_at t f pass.free pass.unlocked)) place))
event_goes h t up down (Snarf f) o p = grind (arith, (nothing_goes h t up down o), (sends_goes h t up down))
event_goes h t up down (Dclick f a) o p =
    sent h t up down (Tdclick f a) o p refl (free_at t f p.free p.unlocked) (open_free (Within a a) t f p.free p.opened p.unlocked (grind (arith, p.place)))
event_goes h t up down (Scroll f n) o p =
    let a = (window_at t f).view_start in
    sent h t up down (Torigin f a n) o p refl (free_at t f p.free p.unlocked) (open_free (Within a a) t f p.free p.opened p.unlocked (omega arith, (o.tidy f).2))
event_goes h t up down (View f a n) o p = requested_goes h _ up down f
    (shown_goes h t up down f (record (window_at t f) { view_start = a; view_length = n }) o (opened_at t f (not-false (is_open t f) p.opened)) refl refl (grind (arith, p.place, (o.tidy f))))
event_goes h t up down (Load f a n) o p =
    let w = record (window_at t f) { view_start = a; view_length = n } in
    let i = opened_at t f (not-false (is_open t f) p.opened) in
    loaded_goes h (put_window t f w) up down f (shown_goes h t up down f w o i refl refl (grind (arith, p.place, (o.tidy f)))) (rw (view-kept t f w i refl refl f) i) p.here
event_goes h t up down (Edit f a b s) o pass = go (a == b && is_empty s)
  where
    may : MayReplace h down f pass.other a b s (views t)
    may = record { here = pass.here; free = pass.free; room = open_free (Wide a b s) t f pass.free pass.opened pass.unlocked (grind (arith, pass.place, pass.room)) }

    go : (none : Bool) → Goes h up down (if none then (t, []) else sends t (λ u. replaced u f a b s) (edit_messages f a b s))
    go true = nothing_goes h t up down o
    go false = then_goes h up down (flushed t) (λ u. (all_composed (replaced u f a b s) (edit_messages f a b s), edit_messages f a b s))
        (replaced_goes h (flushed t).0 (up ++ (flushed t).1) down f a b s pass.other (flushed_goes h t up down o) (unsent-flushed t)
        (subst (λ (v : ℕ → Lens). MayReplace h down f pass.other a b s v) (flushed_views t o.unsent) may))
event_goes h t up down (Version v) o p = grind (arith, (sent h t up down (Tversion v) o p refl (all_free t p.free p.all_unlocked)))
event_goes h t up down Flush o p = flushed_goes h t up down o
event_goes h t up down _ o p = search (sent, free_at, all_free, open_free Anything, dot_open, known_at_view)
