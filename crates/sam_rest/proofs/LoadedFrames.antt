-- A frame that a host answers a request for runes by, and what it shows of them.
use Rattle.sam_crossing.proofs.Common.{◌≡◌, ℕ, Bool, true, false, not, ◌==◌, ◌&&◌, ◌||◌, if◌then◌else◌, List, [], ◌∷◌, ◌++◌, Option, Some, None, ◌⊎◌, inl, inr, refl, sym, ap, ◌∙◌, subst, true≢false, arith, append-nil, eq-eqb, eqb-true, slot-put_same, slot-put_other, Tmesg, Trequest, Tack, Hmesg, Hcheck, Hdata, Hunlockfile, Hack, PlainHost, Reply, counted, Unsent, KnownFile, PlainTerminal, Made, window_at, is_open, frame_outcome, composed, flushed, unsent_message, took_unlockfile, Action, Needs_open, Fill, Free_file, closes, AllComeToSync, InOrder, file_in, at_file, action, answers, reply_of, effect, view, views}
use Rattle.sam_rasp.specs.Rasp.{hole_within}
use Rattle.sam_runes.specs.Slots.{Slots}
use Rattle.sam_term.specs.Term.{view_end, wanted, sends_if, request_for}
use Rattle.sam_crossing.specs.Frames.{only}
use Rattle.sam_crossing.specs.View.{composed_for}
use Rattle.sam_local.proofs.Takes.{unsent-left}
use Rattle.sam_rest.proofs.Steps.{taken, composes-is, wants, open-view}
use Rattle.sam_term.specs.Windows.{known_in}
use Rattle.sam_term.proofs.Composes.{flushed-files}
use Rattle.sam_crossing.proofs.Guards.{at_file-append}
use Rattle.sam_rest.specs.Loaded.{IsLoaded}
use Rattle.sam_rest.proofs.Gaps.{data_at, data_of}
use Rattle.sam_rest.proofs.Frames.{request-none, request-data}
use Rattle.sam_rest.proofs.Kept.{frames_of, AreAwaited, awaited-plain, data-there, data-elsewhere}
use Rattle.sam_rest.proofs.Work.{coming, sent-one}
use Rattle.sam_crossing.proofs.Lenses.{IsOpen, exits}
use Rattle.sam_rest.proofs.Actions.{is_fill, left, AwaitsAll, NoAnswer, Answer, answered_how}
use Rattle.sam_crossing.proofs.Folds as folds
use Rattle.sam_rest.proofs.LoadedViews.{is_asking, brings, IsCalm, brings-first, brings-last, calm-both, calm-stays, calm-skips, none-awaited, SameView, same-window, view-stays, view-requested, view-flushed, view-then, open-fill, here-stays, flushed-exited, IsShown}

-- ## What a request is answered by

abbrev data_frames : ℕ → ℕ → List ℕ → List Hmesg
data_frames g place x = Hdata g place x ∷ Hunlockfile g ∷ []

record Mute (k : PlainHost) (s : List Action) (g p q : ℕ) : Type 0 where
  replies : reply_of k (Trequest g p q) ≡ Some (counted k, [])
  ends : (closes s || exits s) ≡ true

record Tells (k : PlainHost) (g p q : ℕ) : Type 0 where
  place : ℕ
  runes : List ℕ
  replies : reply_of k (Trequest g p q) ≡ Some (counted k, data_frames g place runes)

reply-how : (h : PlainHost) (u : PlainTerminal) (up : List Tmesg) (down : List Hmesg) (k : AllComeToSync h (views u) (up ++ unsent_message u.unsent) down) (g p q : ℕ) → IsOpen (view g u) → u.has_exited ≡ false
    → Mute k.ahead (at_file g (coming h u up down)) g p q ⊎ Tells k.ahead g p q
reply-how h u up down k g p q o x = by (answered_how s (view g u) k.ahead.is_done k.ahead.version (file_in k.ahead.files.slots g) (k.each g) o x)
  where
    s : List Action
    s = at_file g (down ++ k.frames)

    by : NoAnswer s (view g u) k.ahead.is_done (file_in k.ahead.files.slots g) ⊎ Answer s (view g u) k.ahead.is_done (file_in k.ahead.files.slots g)
        → Mute k.ahead (at_file g (coming h u up down)) g p q ⊎ Tells k.ahead g p q
    by (inl mute) = inl (record {
      replies = request-none k.ahead g p q mute.none;
      ends = subst (λ (r : Option Reply). (closes (at_file g (down ++ frames_of r)) || exits (at_file g (down ++ frames_of r))) ≡ true) (sym k.folds) mute.ends;
    })
    by (inr answer) = inr (record {
      place = data_at answer.text p;
      runes = data_of answer.text p q;
      replies = request-data k.ahead g p q answer.text answer.runs answer.opened;
    })

-- ## A frame

module _ (f : ℕ) (h : PlainHost) (u : PlainTerminal) (up : List Tmesg) (down : List Hmesg) (k : AllComeToSync h (views u) (up ++ unsent_message u.unsent) down)
    (calm : IsCalm (at_file f (coming h u up down))) (opened : is_open u f ≡ true) (here : u.has_exited ≡ false) where
  abbrev Served : Type 0
  Served = IsLoaded u f ⊎ (brings (at_file f (coming h u up down)) ≡ true)

  pub silent : Served → IsShown f h u (up ++ []) down
  silent served = subst (λ (l : List Tmesg). IsShown f h u l down) (sym (append-nil up)) (record { calm = calm; opened = opened; here = here; served = served })

  -- one message more, that is answered by these frames and leaves the view
  sent : (x : Tmesg) (r : Reply) → reply_of k.ahead x ≡ Some r → SameView (composed (flushed u).0 x) u f → (composed (flushed u).0 x).has_exited ≡ u.has_exited → IsCalm (at_file f r.1)
      → Served ⊎ (brings (at_file f r.1) ≡ true) → IsShown f h (composed (flushed u).0 x) (up ++ ((flushed u).1 ++ x ∷ [])) down
  sent x r e v same more served = record {
    calm = subst IsCalm (sym comes) (calm-both (at_file f (coming h u up down)) (at_file f r.1) calm more);
    opened = v.opened ∙ opened;
    here = same ∙ here;
    served = by served;
  }
    where
      comes : at_file f (coming h (composed (flushed u).0 x) (up ++ ((flushed u).1 ++ x ∷ [])) down) ≡ at_file f (coming h u up down) ++ at_file f r.1
      comes = ap (at_file f) (sent-one h u up down x k r e).comes ∙ at_file-append f (coming h u up down) r.1

      by : Served ⊎ (brings (at_file f r.1) ≡ true)
          → IsLoaded (composed (flushed u).0 x) f ⊎ (brings (at_file f (coming h (composed (flushed u).0 x) (up ++ ((flushed u).1 ++ x ∷ [])) down)) ≡ true)
      by (inl (inl l)) = inl (v.loaded l)
      by (inl (inr b)) = inr (ap brings comes ∙ brings-first (at_file f (coming h u up down)) (at_file f r.1) b)
      by (inr b) = inr (ap brings comes ∙ brings-last (at_file f (coming h u up down)) (at_file f r.1) b)

  acked : Served → IsShown f h (composed (flushed u).0 Tack) (up ++ ((flushed u).1 ++ Tack ∷ [])) down
  acked served = sent Tack (counted k.ahead, []) (grind arith) (same-window (composed (flushed u).0 Tack) u f (ap (λ (fs : Slots KnownFile). (known_in fs f).window) (flushed-files u))) (flushed-exited u) tt (inl served)

  pub asked : (g p q : ℕ) → IsOpen (view g u) → (g ≡ f) ⊎ Served → IsShown f h (composed (flushed u).0 (Trequest g p q)) (up ++ ((flushed u).1 ++ Trequest g p q ∷ [])) down
  asked g p q o served = by (reply-how h u up down k g p q o here)
    where
      sees : SameView (composed (flushed u).0 (Trequest g p q)) u f
      sees = view-then (composed (flushed u).0 (Trequest g p q)) (flushed u).0 u f (view-requested (flushed u).0 g p q f ((view-flushed u f).opened ∙ opened)) (view-flushed u f)

      mute : (g ≡ f) ⊎ Served → Mute k.ahead (at_file g (coming h u up down)) g p q → Served
      mute (inl same) m = absurd (true≢false (sym (subst (λ (y : ℕ). (closes (at_file y (coming h u up down)) || exits (at_file y (coming h u up down))) ≡ true) same m.ends) ∙ calm-stays (at_file f (coming h u up down)) calm))
      mute (inr s) m = s

      there : (t : Tells k.ahead g p q) → g ≡ f → at_file f (data_frames g t.place t.runes) ≡ Fill t.place t.runes ∷ Free_file ∷ []
      there t same = subst (λ (y : ℕ). at_file y (data_frames g t.place t.runes) ≡ Fill t.place t.runes ∷ Free_file ∷ []) same (data-there g t.place t.runes)

      tells : (t : Tells k.ahead g p q) (b : Bool) → (f == g) ≡ b → (g ≡ f) ⊎ Served → IsShown f h (composed (flushed u).0 (Trequest g p q)) (up ++ ((flushed u).1 ++ Trequest g p q ∷ [])) down
      tells t true e s =
          let is = there t (sym (eqb-true f g e)) in
          sent (Trequest g p q) (counted k.ahead, data_frames g t.place t.runes) t.replies sees (flushed-exited u) (subst IsCalm (sym is) (refl, (λ c. refl), (refl, (λ c. absurd (true≢false (sym c))), tt)))
          (inr (ap brings is))
      tells t false e (inl same) = absurd (true≢false (sym (eq-eqb f g (sym same)) ∙ e))
      tells t false e (inr s) =
          sent (Trequest g p q) (counted k.ahead, data_frames g t.place t.runes) t.replies sees (flushed-exited u) (calm-skips (at_file f (data_frames g t.place t.runes)) (data-elsewhere g f t.place t.runes e)) (inl s)

      by : Mute k.ahead (at_file g (coming h u up down)) g p q ⊎ Tells k.ahead g p q → IsShown f h (composed (flushed u).0 (Trequest g p q)) (up ++ ((flushed u).1 ++ Trequest g p q ∷ [])) down
      by (inl m) = sent (Trequest g p q) (counted k.ahead, []) m.replies sees (flushed-exited u) tt (inl (mute served m))
      by (inr t) = tells t (f == g) refl served

-- where the request rule finds nothing to ask for, and nothing is awaited, the view has no gap
loaded-none : (t : PlainTerminal) (f : ℕ) → wanted t f ≡ None → is_open t f ≡ true → t.has_exited ≡ false → (window_at t f).awaited ≡ 0 → IsLoaded t f
loaded-none t f n o x a = by (is_open t f) t.has_exited ((window_at t f).awaited == 0) (hole_within (window_at t f).rasp (window_at t f).view_start (view_end (window_at t f))) o x (eq-eqb (window_at t f).awaited 0 a) refl n
  where
    by : (p q r : Bool) (hole : Option (ℕ × ℕ)) → p ≡ true → q ≡ false → r ≡ true
        → hole_within (window_at t f).rasp (window_at t f).view_start (view_end (window_at t f)) ≡ hole → (if p && not q && r then request_for f hole else None) ≡ None → IsLoaded t f
    by true false true None a b c e n = e
    by true false true (Some g) a b c e n = absurd (grind arith)
    by p q r hole a b c e n = absurd (grind arith)

-- what the request rule makes
pub wanting : (f : ℕ) (h : PlainHost) (u : PlainTerminal) (up : List Tmesg) (down : List Hmesg) (k : AllComeToSync h (views u) (up ++ unsent_message u.unsent) down) → IsCalm (at_file f (coming h u up down))
    → is_open u f ≡ true → u.has_exited ≡ false → (g : ℕ) → ((f == g) ≡ false → IsLoaded u f ⊎ (brings (at_file f (coming h u up down)) ≡ true))
    → ((f == g) ≡ true → AwaitsAll (window_at u f).awaited (at_file f (coming h u up down)))
    → IsShown f h (sends_if (wanted u g) u).0 (up ++ (sends_if (wanted u g) u).1) down
wanting f h u up down k calm opened here g other awaits = from (wanted u g) refl
  where
    frames : List Action
    frames = at_file f (coming h u up down)

    loaded : (b : Bool) → brings frames ≡ b → (f == g) ≡ true → wanted u g ≡ None → IsLoaded u f ⊎ (brings frames ≡ true)
    loaded true q e n = inr q
    loaded false q e n =
        inl (loaded-none u f (ap (wanted u) (eqb-true f g e) ∙ n) opened here (none-awaited frames (window_at u f).awaited calm q (awaits e)))

    served : (b : Bool) → (f == g) ≡ b → wanted u g ≡ None → IsLoaded u f ⊎ (brings frames ≡ true)
    served true e n = loaded (brings frames) refl e n
    served false e n = other e

    which : (b : Bool) → (f == g) ≡ b → (g ≡ f) ⊎ (IsLoaded u f ⊎ (brings frames ≡ true))
    which true e = inl (sym (eqb-true f g e))
    which false e = inr (other e)

    from : (x : Option Tmesg) → wanted u g ≡ x → IsShown f h (sends_if x u).0 (up ++ (sends_if x u).1) down
    from None n = silent f h u up down k calm opened here (served (f == g) refl n)
    from (Some x) n =
        let w = wants u g x n in
        subst (λ (y : Tmesg). IsShown f h (sends_if (Some y) u).0 (up ++ (sends_if (Some y) u).1) down) (sym w.is)
        (asked f h u up down k calm opened here g w.place w.many (open-view u g w.opened) (which (f == g) refl))

left-asking : (b : Bool) (n : ℕ) → (left (only b Needs_open) n ≡ n) × (left (only b Free_file) n ≡ n)
left-asking true n = (refl, refl)
left-asking false n = (refl, refl)

awaited-unlocked : (t : PlainTerminal) (g f : ℕ) → (window_at (effect t (Hunlockfile g)) f).awaited ≡ (window_at t f).awaited
unfolding took_unlockfile
awaited-unlocked t g f = grind (arith, slot-put_same, slot-put_other)

pub shown-frame : (f : ℕ) (h : PlainHost) (t : PlainTerminal) (up : List Tmesg) (m : Hmesg) (down : List Hmesg) → InOrder h t up (m ∷ down) → AreAwaited h t up (m ∷ down)
    → IsShown f h t up (m ∷ down) → IsShown f h (frame_outcome t m).0 (up ++ (frame_outcome t m).1) down
shown-frame f h t up m down o awaits s =
    subst (λ (x : Made). IsShown f h x.0 (up ++ x.1) down) (sym (composes-is h t up m down o)) (by m refl)
  where
    u : PlainTerminal
    u = effect t m

    k : AllComeToSync h (views u) (up ++ unsent_message u.unsent) down
    k = taken h t up m down o

    frames : List Action
    frames = at_file f (coming h u up down)

    whole : coming h t up (m ∷ down) ≡ m ∷ coming h u up down
    whole = ap (λ (n : Option Unsent). m ∷ (down ++ frames_of (answers h (up ++ unsent_message n)))) (sym (unsent-left h t up m down o))

    calm : IsCalm (action f m ∷ frames)
    calm = subst (λ (fs : List Hmesg). IsCalm (at_file f fs)) whole s.calm

    here : u.has_exited ≡ false
    here = here-stays t f m calm.0 ∙ s.here

    opened : is_open u f ≡ true
    opened = fills-or (is_fill (action f m)) refl
      where
        fills-or : (b : Bool) → is_fill (action f m) ≡ b → is_open u f ≡ true
        fills-or true q = open-fill t f m q s.opened
        fills-or false q = (view-stays t f m calm.0 q s.opened).opened ∙ s.opened

    before : IsLoaded t f ⊎ (brings (action f m ∷ frames) ≡ true)
    before = served s.served
      where
        served : IsLoaded t f ⊎ (brings (at_file f (coming h t up (m ∷ down))) ≡ true) → IsLoaded t f ⊎ (brings (action f m ∷ frames) ≡ true)
        served (inl l) = inl l
        served (inr b) = inr (subst (λ (fs : List Hmesg). brings (at_file f fs) ≡ true) whole b)

    plain : is_asking (action f m) ≡ false → IsLoaded u f ⊎ (brings frames ≡ true)
    plain mute = fills-or (is_fill (action f m)) refl before
      where
        fills-or : (b : Bool) → is_fill (action f m) ≡ b → IsLoaded t f ⊎ (brings (action f m ∷ frames) ≡ true) → IsLoaded u f ⊎ (brings frames ≡ true)
        fills-or true q x = inr (calm.1 q)
        fills-or false q (inl l) = inl ((view-stays t f m calm.0 q s.opened).loaded l)
        fills-or false q (inr b) = inr (ap (λ (z : Bool). z || brings frames) (sym mute) ∙ b)

    waits : AwaitsAll (left (action f m) (window_at t f).awaited) frames
    waits = awaited-plain f (left (action f m) (window_at t f).awaited) h up (unsent_message u.unsent) down (k.ahead, k.frames) k.folds (grind arith) ((awaits f).1)

    Out : Option Tmesg → Type 0
    Out x = IsShown f h (sends_if x u).0 (up ++ (sends_if x u).1) down

    asks : (g : ℕ) (y : Hmesg) → y ≡ m → ((f == g) ≡ false → is_asking (action f y) ≡ false) → ((n : ℕ) → left (action f y) n ≡ n) → (window_at (effect t y) f).awaited ≡ (window_at t f).awaited
        → Out (wanted (effect t y) g)
    asks g y e other stays same =
        subst (λ (v : PlainTerminal). Out (wanted v g)) (sym (ap (effect t) e))
        (wanting f h u up down k calm.2 opened here g (λ q. plain (ap (λ (z : Hmesg). is_asking (action f z)) (sym e) ∙ other q))
        (λ q. subst (λ (n : ℕ). AwaitsAll n frames)
        (ap (λ (z : Hmesg). left (action f z) (window_at t f).awaited) (sym e) ∙ stays (window_at t f).awaited ∙ sym same ∙ ap (λ (z : Hmesg). (window_at (effect t z) f).awaited) e) waits))

    by : (y : Hmesg) → y ≡ m → Out (composed_for t y)
    by (Hcheck g) e = asks g (Hcheck g) e (λ q. rw q refl) (λ n. (left-asking (f == g) n).0) refl
    by (Hunlockfile g) e = asks g (Hunlockfile g) e (λ q. rw q refl) (λ n. (left-asking (f == g) n).1) (awaited-unlocked t g f)
    by Hack e = sees t.has_exited
      where
        kept-still : Served f h u up down k calm.2 opened here
        kept-still = plain (ap (λ (z : Hmesg). is_asking (action f z)) (sym e))

        sees : (b : Bool) → Out (if b then None else Some Tack)
        sees true = silent f h u up down k calm.2 opened here kept-still
        sees false = acked f h u up down k calm.2 opened here kept-still
    by y e = silent f h u up down k calm.2 opened here (plain (ap (λ (z : Hmesg). is_asking (action f z)) (sym e) ∙ (grind arith)))
