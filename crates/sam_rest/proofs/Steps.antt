-- Every step keeps what is awaited.
use Rattle.sam_crossing.proofs.Common.{◌≡◌, ℕ, ◌+◌, Bool, true, false, not, if◌then◌else◌, List, [], ◌∷◌, ◌++◌, Option, Some, None, ◌⊎◌, inl, inr, refl, sym, ap, ◌∙◌, subst, arith, ◌&&◌, append_assoc, not-false, Tmesg, Trequest, Tack, Hmesg, Hcheck, Hunlockfile, Hack, PlainHost, Reply, Unsent, PlainTerminal, Made, window_at, is_open, put_window, frame_outcome, event_outcome, flushed, unsent_message, sends, sends_all, unchanged, requests_for, all_wanted, requested, made_by_view, made_by_load, UserEvent, Lens, AllComeToSync, InOrder, at_file, action, answers, reply_of, replied_then, effect, view, views}
use mathlib.Core.Path.{fun_ext}
use Rattle.sam_term.specs.Term.{wanted, sends_if, request_for, gaps_shown}
use Rattle.sam_term.specs.LockCounts.{requests, awaited_left}
use Rattle.sam_term.specs.declared.event.UserEvent.TheVariants.{View, Load}
use Rattle.sam_term.proofs.LockLaws.{event_awaits, flush_awaits, frame_awaits}
use Rattle.sam_crossing.specs.Fold.{after_frames}
use Rattle.sam_crossing.specs.View.{composed_for}
use Rattle.sam_crossing.proofs.Lenses.{IsOpen}
use Rattle.sam_crossing.proofs.Folds as folds
use Rattle.sam_crossing.proofs.FrameMoves.{take_law}
use Rattle.sam_crossing.proofs.Views.{view-kept}
use Rattle.sam_crossing.proofs.Passing.{Passed}
use Rattle.sam_local.proofs.Folds.{Parted}
use Rattle.sam_local.proofs.Takes.{unsent-left}
use Rattle.sam_rest.proofs.Actions.{left, AwaitsAll}
use Rattle.sam_rest.proofs.Kept.{frames_of, coming_to, AreAwaited, answers-up, awaited-plain, requests-append, flush-asks, awaited-sends}
use Rattle.sam_rest.proofs.Frames.{eqb-sym}
use Rattle.sam_rest.proofs.Quiet.{quiet-event}

-- ## The host takes a message

pub awaited-host : (h : PlainHost) (t : PlainTerminal) (m : Tmesg) (up : List Tmesg) (down : List Hmesg) (r : Reply) → reply_of h m ≡ Some r → InOrder r.0 t up (down ++ r.1)
    → AreAwaited h t (m ∷ up) down → AreAwaited r.0 t up (down ++ r.1)
awaited-host h t m up down r e n k f = subst (AwaitsAll (window_at t f).awaited) same (k f)
  where
    p : Parted r.0 up (unsent_message t.unsent) (n.kept.ahead, n.kept.frames)
    p = answers-up r.0 t up (down ++ r.1) n

    both : answers h (m ∷ up) ≡ Some (p.first.0, r.1 ++ p.first.1)
    both = ap (λ (o : Option Reply). replied_then o (λ k. answers k up)) e ∙ ap (after_frames r.1) p.now

    same : coming_to f h (m ∷ up) down ≡ coming_to f r.0 up (down ++ r.1)
    same = ap (λ (o : Option Reply). at_file f (down ++ frames_of o)) both ∙ ap (at_file f) (sym (append_assoc down r.1 p.first.1))
        ∙ sym (ap (λ (o : Option Reply). at_file f ((down ++ r.1) ++ frames_of o)) p.now)

-- ## A flush

pub awaited-flush : (h : PlainHost) (t : PlainTerminal) (up : List Tmesg) (down : List Hmesg) → InOrder h t up down → AreAwaited h t up down
    → AreAwaited h (flushed t).0 (up ++ (flushed t).1) down
unfolding flushed
awaited-flush h t up down o k f =
    let same : (window_at (flushed t).0 f).awaited ≡ (window_at t f).awaited =
    flush_awaits t f ∙ ap (λ (n : ℕ). (window_at t f).awaited + n) (flush-asks f t) ∙ (omega arith) in
    rw same (awaited-plain f (window_at t f).awaited h up (unsent_message t.unsent) down (o.kept.ahead, o.kept.frames) o.kept.folds (flush-asks f t) (k f))

-- ## What was made

-- messages of which each asks for data of an open file are requests alone
pub record Asking (h : PlainHost) (t : PlainTerminal) (up : List Tmesg) (down : List Hmesg) (made : Made) : Type 0 where
  pub by : PlainTerminal
  pub file : ℕ
  pub stretches : List (ℕ × ℕ)
  pub is : made ≡ sends by unchanged (requests_for file stretches)
  pub kept : AllComeToSync h (views by) (up ++ unsent_message by.unsent) down
  pub opened : IsOpen (view file by)
  pub here : by.has_exited ≡ false

-- what was made asks for nothing, or is requests
abbrev pub Makes : PlainHost → PlainTerminal → List Tmesg → List Hmesg → Made → Type 0
Makes h t up down made = ((f : ℕ) → requests f made.1 ≡ 0) ⊎ Asking h t up down made

pub awaited-made : (h : PlainHost) (t : PlainTerminal) (up : List Tmesg) (down : List Hmesg) (made : Made) → Makes h t up down made → InOrder h made.0 (up ++ made.1) down → (f n : ℕ)
    → AwaitsAll n (coming_to f h up down) → AwaitsAll (n + requests f made.1) (coming_to f h (up ++ made.1) down)
awaited-made h t up down made (inl none) o f n a =
    let p = answers-up h made.0 (up ++ made.1) down o in
    let same : n + requests f made.1 ≡ n = ap (λ (k : ℕ). n + k) (none f) ∙ (omega arith) in
    rw same (awaited-plain f n h up made.1 down p.first p.now (none f) a)
awaited-made h t up down made (inr asks) o f n a =
    let p = answers-up h made.0 (up ++ made.1) down o in
    let same : made.1 ≡ (flushed asks.by).1 ++ requests_for asks.file asks.stretches = ap (λ (x : Made). x.1) asks.is in
    let there : answers h (up ++ ((flushed asks.by).1 ++ requests_for asks.file asks.stretches)) ≡ Some p.first = ap (λ (l : List Tmesg). answers h (up ++ l)) (sym same) ∙ p.now in
    subst (λ (l : List Tmesg). AwaitsAll (n + requests f l) (coming_to f h (up ++ l) down)) (sym same)
    (awaited-sends h asks.by up down asks.kept asks.file asks.stretches p.first asks.opened asks.here there f n a)

-- ## A frame

pub open-view : (t : PlainTerminal) (f : ℕ) → is_open t f ≡ true → IsOpen (view f t)
open-view t f o = grind arith

-- what is wanted is a request, of a file that is open while the session goes on
pub record Wants (t : PlainTerminal) (f : ℕ) (m : Tmesg) : Type 0 where
  pub place : ℕ
  pub many : ℕ
  pub is : m ≡ Trequest f place many
  pub opened : is_open t f ≡ true
  pub here : t.has_exited ≡ false

pub wants : (t : PlainTerminal) (f : ℕ) (m : Tmesg) → wanted t f ≡ Some m → Wants t f m
wants t f m e = by (is_open t f) t.has_exited _ _ refl refl e
  where
    by : (o x b : Bool) (hole : Option (ℕ × ℕ)) → is_open t f ≡ o → t.has_exited ≡ x → (if o && not x && b then request_for f hole else None) ≡ Some m → Wants t f m
    by true false true (Some g) q y e = grind arith
    by o x b hole q y e = absurd (grind arith)

made-wanted : (h : PlainHost) (t u : PlainTerminal) (up : List Tmesg) (down : List Hmesg) → AllComeToSync h (views u) (up ++ unsent_message u.unsent) down → (f : ℕ)
    → Makes h t up down (sends_if (wanted u f) u)
made-wanted h t u up down k f = by (wanted u f) refl
  where
    by : (o : Option Tmesg) → wanted u f ≡ o → Makes h t up down (sends_if o u)
    by None e = inl (λ g. refl)
    by (Some m) e =
        let w = wants u f m e in
        inr (record {
          by = u;
          file = f;
          stretches = (w.place, w.many) ∷ [];
          is = ap (λ (x : Tmesg). sends u unchanged (x ∷ [])) w.is;
          kept = k;
          opened = open-view u f w.opened;
          here = w.here;
        })

made-frame : (h : PlainHost) (t u : PlainTerminal) (up : List Tmesg) (down : List Hmesg) (m : Hmesg) → effect t m ≡ u → AllComeToSync h (views u) (up ++ unsent_message u.unsent) down
    → Makes h t up down (sends_if (composed_for t m) u)
made-frame h t u up down (Hcheck f) e k = subst (λ (z : PlainTerminal). Makes h t up down (sends_if (wanted z f) u)) (sym e) (made-wanted h t u up down k f)
made-frame h t u up down (Hunlockfile f) e k = subst (λ (z : PlainTerminal). Makes h t up down (sends_if (wanted z f) u)) (sym e) (made-wanted h t u up down k f)
made-frame h t u up down Hack e k = by t.has_exited
  where
    by : (b : Bool) → Makes h t up down (sends_if (if b then None else Some Tack) u)
    by true = inl (λ g. refl)
    by false = inl (λ g. omega (arith, requests-append g (flushed u).1 (Tack ∷ []), flush-asks g u))
made-frame h t u up down m e k = inl (λ g. grind arith)

left-is : (m : Hmesg) (f n : ℕ) → awaited_left m f n ≡ left (action f m) n
left-is m f n = grind (arith, eqb-sym)

-- what the terminal shows once it has taken the frame, before it composes anything
pub taken : (h : PlainHost) (t : PlainTerminal) (up : List Tmesg) (m : Hmesg) (down : List Hmesg) → InOrder h t up (m ∷ down)
    → AllComeToSync h (views (effect t m)) (up ++ unsent_message (effect t m).unsent) down
taken h t up m down o =
    let moves = take_law t m (folds.frame_moves h (views t) (up ++ unsent_message t.unsent) m down o.kept) in
    subst (λ (n : Option Unsent). AllComeToSync h (views (effect t m)) (up ++ unsent_message n) down) (sym (unsent-left h t up m down o))
    (folds.term_takes h (views t) (views (effect t m)) (up ++ unsent_message t.unsent) m down o.kept moves.moves)

pub composes-is : (h : PlainHost) (t : PlainTerminal) (up : List Tmesg) (m : Hmesg) (down : List Hmesg) → InOrder h t up (m ∷ down)
    → frame_outcome t m ≡ sends_if (composed_for t m) (effect t m)
composes-is h t up m down o = (take_law t m (folds.frame_moves h (views t) (up ++ unsent_message t.unsent) m down o.kept)).composes

pub awaited-frame : (h : PlainHost) (t : PlainTerminal) (up : List Tmesg) (m : Hmesg) (down : List Hmesg) → InOrder h t up (m ∷ down)
    → InOrder h (frame_outcome t m).0 (up ++ (frame_outcome t m).1) down → AreAwaited h t up (m ∷ down) → AreAwaited h (frame_outcome t m).0 (up ++ (frame_outcome t m).1) down
awaited-frame h t up m down o n k f =
    let made : Makes h t up down (frame_outcome t m) =
    subst (Makes h t up down) (sym (composes-is h t up m down o)) (made-frame h t (effect t m) up down m refl (taken h t up m down o)) in
    let before : AwaitsAll (awaited_left m f (window_at t f).awaited) (coming_to f h up down) =
    subst (λ (j : ℕ). AwaitsAll j (coming_to f h up down)) (sym (left-is m f (window_at t f).awaited)) ((k f).1) in
    subst (λ (j : ℕ). AwaitsAll j (coming_to f h (up ++ (frame_outcome t m).1) down)) (sym (frame_awaits t m f))
    (awaited-made h t up down (frame_outcome t m) made n f (awaited_left m f (window_at t f).awaited) before)

-- ## An event

pub looking : (h : PlainHost) (t : PlainTerminal) (up : List Tmesg) (down : List Hmesg) (f p n : ℕ) → InOrder h t up down → is_open t f ≡ true → t.has_exited ≡ false
    → AllComeToSync h (views (put_window t f (record (window_at t f) { view_start = p; view_length = n })))
    (up ++ unsent_message t.unsent) down
looking h t up down f p n o opened here =
    subst (λ (v : ℕ → Lens). AllComeToSync h v (up ++ unsent_message t.unsent) down)
    (fun_ext (λ g. sym (view-kept t f (record (window_at t f) { view_start = p; view_length = n }) (open-view t f opened) refl refl g))) o.kept

made-event : (h : PlainHost) (t : PlainTerminal) (up : List Tmesg) (down : List Hmesg) (e : UserEvent) → InOrder h t up down → Passed t e → Makes h t up down (event_outcome t e)
unfolding made_by_view made_by_load requested all_wanted
made-event h t up down (View f p n) o pass =
    let u = put_window t f (record (window_at t f) { view_start = p; view_length = n }) in
    made-wanted h t u up down (looking h t up down f p n o (not-false (is_open t f) pass.opened) pass.here) f
made-event h t up down (Load f p n) o pass = by (gaps_shown u f)
  where
    u : PlainTerminal
    u = put_window t f (record (window_at t f) { view_start = p; view_length = n })

    opened : is_open t f ≡ true
    opened = not-false (is_open t f) pass.opened

    by : (xs : List (ℕ × ℕ)) → Makes h t up down (sends_all (requests_for f xs) u)
    by [] = inl (λ g. refl)
    by (x ∷ xs) = inr (record {
      by = u;
      file = f;
      stretches = x ∷ xs;
      is = refl;
      kept = looking h t up down f p n o opened pass.here;
      opened = rw (view-kept t f (record (window_at t f) { view_start = p; view_length = n }) (open-view t f opened) refl refl f) (open-view t f opened);
      here = pass.here;
    })
made-event h t up down e o pass = inl (λ g. (quiet-event g t e (grind arith)).none)

pub awaited-event : (h : PlainHost) (t : PlainTerminal) (up : List Tmesg) (down : List Hmesg) (e : UserEvent) → InOrder h t up down → Passed t e
    → InOrder h (event_outcome t e).0 (up ++ (event_outcome t e).1) down → AreAwaited h t up down → AreAwaited h (event_outcome t e).0 (up ++ (event_outcome t e).1) down
awaited-event h t up down e o pass n k f =
    subst (λ (j : ℕ). AwaitsAll j (coming_to f h (up ++ (event_outcome t e).1) down)) (sym (event_awaits t e f))
    (awaited-made h t up down (event_outcome t e) (made-event h t up down e o pass) n f (window_at t f).awaited (k f))
