-- What a view asked for has come once the session is at rest.
use Rattle.sam_crossing.proofs.Common.{◌≡◌, ℕ, Bool, true, false, not, ◌==◌, List, [], ◌∷◌, ◌++◌, Option, Some, None, ◌⊎◌, inl, inr, refl, sym, ap, ◌∙◌, subst, true≢false, arith, append-nil, eq-eqb, eqb-true, not-false, slot-put_same, slot-put_other, Tmesg, Trequest, Hmesg, PlainHost, Reply, Unsent, Window, PlainTerminal, Made, window_at, is_open, frame_outcome, composed, flushed, unsent_message, AllComeToSync, InOrder, at_file, answers, view, views, append_assoc, option_map, nat_lt, all_composed, requests_for, sends_all, gaps_shown, made_by_load, all_wanted, ◌-◌, ◌+◌, Lens}
use Rattle.sam_rasp.specs.Rasp.{hole_within}
use Rattle.sam_term.specs.Term.{view_end, front_of, most_requests, stretches, set_dot_of}
use Rattle.sam_rest.proofs.Steps.{open-view, looking}
use Rattle.sam_rest.proofs.Common.{Result, Ok, Err, same_Some, Done, first_of_checks, act_of, act_on, decided, if_countable, after_act, event_checks, event_outcome, Verdict, Acted, TermFault, UserEvent, HFrame, PlainWorld, step_of, mesgs, IsInOrder, made_by_view, requested}
use Rattle.sam_term.specs.declared.event.UserEvent.TheVariants.{View, Load, Select}
use Rattle.sam_term.specs.Term.{put_window}
use Rattle.sam_crossing.specs.declared.event.Event.{Event}
use Rattle.sam_crossing.specs.declared.event.Event.TheVariants.{User, Add, Mark, Act, Flush, HostTake, TermTake}
use Rattle.sam_crossing.proofs.OrderLaws.{steps_in_order}
use Rattle.sam_crossing.proofs.RunLaws.{counted-result}
use Rattle.sam_crossing.proofs.Passing.{Passed, passed, held_passed, free_at}
use Rattle.sam_crossing.proofs.Runs.{frees_nothing}
use Rattle.sam_crossing.proofs.Views.{view-kept, view-composed, unsent-composed, unsent-flushed}
use Rattle.sam_local.proofs.Ahead.{opened-put, window-put}
use Rattle.sam_local.proofs.Held.{event-held}
use Rattle.sam_rest.specs.Rest.{is_from_outside, Applies, LeadsOn}
use Rattle.sam_rest.specs.Loaded.{ViewsAreLoaded, Shows, only_looks, OnlyLook}
use Rattle.sam_rest.proofs.Taking.{HostTakes, host-takes, TermTakes, term-takes, Flushes, flush-takes, Idles, Acts, act-takes}
use Rattle.sam_rest.proofs.Ends.{IsKept, kept-of, keeps-step, after-host, after-term}
use Rattle.sam_rest.proofs.Done.{parts}
use Rattle.sam_rest.specs.Loaded.{IsLoaded}
use Rattle.sam_rest.proofs.Kept.{frames_of, AreAwaited, awaited-plain}
use Rattle.sam_rest.proofs.Work.{coming, coming-host, coming-flush}
use Rattle.sam_crossing.proofs.Lenses.{IsFree, IsOpen}
use Rattle.sam_rest.proofs.Actions.{AwaitsAll}
use Rattle.sam_crossing.specs.Order.{IsHeldBack}
use Rattle.sam_crossing.proofs.Changes.{Lock, changed}
use Rattle.sam_crossing.proofs.Sending.{flushed_views}
use Rattle.sam_term.proofs.Loads.{stretches-some}
use mathlib.Core.Path.{fun_ext}
use Rattle.sam_crossing.proofs.Folds as folds
use Rattle.sam_term.proofs.Edits.{flushed-held}
use Rattle.sam_term.specs.declared.event.UserEvent.TheVariants as user
use Rattle.sam_rest.proofs.LoadedViews.{brings, IsCalm, calm-free, SameView, same-window, view-requested, view-flushed, flushed-exited, IsShown, shown-same}
use Rattle.sam_rest.proofs.LoadedFrames.{silent, asked, wanting, shown-frame}

-- ## One request after another

-- what is under way and what is composed come to sync, and the unsent runes are held back
record Lined (h : PlainHost) (u : PlainTerminal) (up : List Tmesg) (down : List Hmesg) : Type 0 where
  kept : AllComeToSync h (views u) (up ++ unsent_message u.unsent) down
  unsent : IsHeldBack (views u) u.unsent

flushed-none : (v : PlainTerminal) → v.unsent ≡ None → flushed v ≡ (v, [])
unfolding flushed
flushed-none v e = ap (λ (n : Option Unsent). (all_composed (record v { unsent = None }) (unsent_message n), unsent_message n)) e ∙ (λ i. (record v { unsent = sym e i }, []))

lined-request : (h : PlainHost) (u : PlainTerminal) (up : List Tmesg) (down : List Hmesg) (g p q : ℕ) → Lined h u up down → is_open u g ≡ true → u.has_exited ≡ false
    → Lined h (composed (flushed u).0 (Trequest g p q)) (up ++ ((flushed u).1 ++ Trequest g p q ∷ [])) down
unfolding flushed
lined-request h u up down g p q l o x = record {
  kept = subst (λ (v : ℕ → Lens). AllComeToSync h v (more ++ unsent_message z.unsent) down) same (subst (λ (k : List Tmesg). AllComeToSync h (λ f. changed (Lock g) f (view f u)) k down) line (folds.requests h (views u) (up ++ unsent_message u.unsent) down g p q l.kept i x));
  unsent = subst (IsHeldBack (views z)) (sym none) tt;
}
  where
    z : PlainTerminal
    z = composed (flushed u).0 (Trequest g p q)

    more : List Tmesg
    more = up ++ (unsent_message u.unsent ++ Trequest g p q ∷ [])

    i : IsOpen (view g u)
    i = open-view u g o

    none : z.unsent ≡ None
    none = unsent-composed (flushed u).0 (Trequest g p q) ∙ unsent-flushed u

    line : (up ++ unsent_message u.unsent) ++ Trequest g p q ∷ [] ≡ more ++ unsent_message z.unsent
    line = append_assoc up (unsent_message u.unsent) (Trequest g p q ∷ []) ∙ sym (append-nil more) ∙ sym (ap (λ (n : Option Unsent). more ++ unsent_message n) none)

    flushes : views u ≡ views (flushed u).0
    flushes = flushed_views u l.unsent

    same : (λ f. changed (Lock g) f (view f u)) ≡ views z
    same = fun_ext (λ f. ap (λ (v : ℕ → Lens). changed (Lock g) f (v f)) flushes ∙ sym (view-composed (flushed u).0 (Trequest g p q) (subst (λ (v : ℕ → Lens). IsOpen (v g)) flushes i) f))

-- requests of one file, where nothing is unsent: of f, or where f was shown before
requests-shown : (f g : ℕ) (xs : List (ℕ × ℕ)) (h : PlainHost) (v : PlainTerminal) (up : List Tmesg) (down : List Hmesg) → Lined h v up down → v.unsent ≡ None → is_open v g ≡ true → IsShown f h v up down
    → IsShown f h (all_composed v (requests_for g xs)) (up ++ requests_for g xs) down
requests-shown f g [] h v up down l e o s = subst (λ (k : List Tmesg). IsShown f h v k down) (sym (append-nil up)) s
requests-shown f g (x ∷ xs) h v up down l e o s =
    subst (λ (k : List Tmesg). IsShown f h (all_composed (composed v m) (requests_for g xs)) k down) (append_assoc up (m ∷ []) (requests_for g xs))
    (requests-shown f g xs h (composed v m) (up ++ m ∷ []) down
    (subst (λ (z : Made). Lined h (composed z.0 m) (up ++ (z.1 ++ m ∷ [])) down) (flushed-none v e) (lined-request h v up down g x.0 x.1 l o s.here)) (unsent-composed v m ∙ e) ((view-requested v g x.0 x.1 g o).opened ∙ o)
    (subst (λ (z : Made). IsShown f h (composed z.0 m) (up ++ (z.1 ++ m ∷ [])) down) (flushed-none v e) (asked f h v up down l.kept s.calm s.opened s.here g x.0 x.1 (open-view v g o) (inr s.served))))
  where
    m : Tmesg
    m = Trequest g x.0 x.1

-- ## The act that shows a file

-- the file from p on
abbrev turned : PlainTerminal → ℕ → ℕ → ℕ → PlainTerminal
turned t f p n = put_window t f (record (window_at t f) { view_start = p; view_length = n })

record Turned (f : ℕ) (h : PlainHost) (u : PlainTerminal) (up : List Tmesg) (down : List Hmesg) : Type 0 where
  lined : Lined h u up down
  opened : is_open u f ≡ true
  here : u.has_exited ≡ false
  calm : IsCalm (at_file f (coming h u up down))
  waits : AwaitsAll (window_at u f).awaited (at_file f (coming h u up down))

turns : (f p n : ℕ) (h : PlainHost) (t : PlainTerminal) (up : List Tmesg) (down : List Hmesg) → InOrder h t up down → AreAwaited h t up down → t.has_exited ≡ false → t.command_lock ≡ false
    → not (is_open t f) ≡ false → nat_lt 0 (window_at t f).locks ≡ false → Turned f h (turned t f p n) up down
turns f p n h t up down o awaits here command closed locked = record {
  lined = record { kept = k; unsent = subst (λ (v : ℕ → Lens). IsHeldBack v t.unsent) (fun_ext (λ g. sym (kept g))) o.unsent };
  opened = opened-put t f (record (window_at t f) { view_start = p; view_length = n });
  here = here;
  calm = subst (λ (r : Option Reply). IsCalm (at_file f (down ++ frames_of r))) (sym k.folds)
      (calm-free (at_file f (down ++ k.frames)) (k.each f).guarded (frees_nothing (at_file f (down ++ k.frames)) (view f u) (k.each f).final free (k.each f).runs));
  waits = subst (λ (j : ℕ). AwaitsAll j (at_file f (coming h u up down))) (sym same)
      (awaited-plain f (window_at t f).awaited h up (unsent_message u.unsent) down (k.ahead, k.frames) k.folds (grind arith) (awaits f));
}
  where
    u : PlainTerminal
    u = turned t f p n

    opened : is_open t f ≡ true
    opened = not-false (is_open t f) closed

    k : AllComeToSync h (views u) (up ++ unsent_message u.unsent) down
    k = looking h t up down f p n o opened here

    kept : (g : ℕ) → view g u ≡ view g t
    kept g = view-kept t f (record (window_at t f) { view_start = p; view_length = n }) (open-view t f opened) refl refl g

    free : IsFree (view f u)
    free = subst IsFree (sym (kept f)) (free_at t f command locked)

    same : (window_at u f).awaited ≡ (window_at t f).awaited
    same = ap (λ (x : Window). x.awaited) (window-put t f (record (window_at t f) { view_start = p; view_length = n }))

-- where no stretch of gaps is in the view, no gap is
loaded-stretches : (u : PlainTerminal) (f : ℕ) → gaps_shown u f ≡ [] → IsLoaded u f
loaded-stretches u f e = by (hole_within w.rasp w.view_start (view_end w)) refl
  where
    w : Window
    w = window_at u f

    by : (hole : Option (ℕ × ℕ)) → hole_within w.rasp w.view_start (view_end w) ≡ hole → IsLoaded u f
    by None q = q
    by (Some g) q =
        absurd (empty-list (front_of g) (stretches w.rasp ((front_of g).0 + (front_of g).1) (view_end w) (most_requests - 1))
        (sym e ∙ stretches-some w.rasp w.view_start (view_end w) most_requests (front_of g) (omega arith) (sym (ap (option_map front_of) q))))
      where
        empty-list : (x : ℕ × ℕ) (xs : List (ℕ × ℕ)) → [] ≡ x ∷ xs → ⊥
        empty-list x xs e = grind arith

-- requests of a file: of f, or where f was shown before
loads-shown : (f g : ℕ) (h : PlainHost) (u : PlainTerminal) (up : List Tmesg) (down : List Hmesg) → Lined h u up down → is_open u g ≡ true → IsCalm (at_file f (coming h u up down)) → is_open u f ≡ true
    → u.has_exited ≡ false → (xs : List (ℕ × ℕ)) → (xs ≡ [] → IsLoaded u f ⊎ (brings (at_file f (coming h u up down)) ≡ true))
    → (g ≡ f) ⊎ (IsLoaded u f ⊎ (brings (at_file f (coming h u up down)) ≡ true))
    → IsShown f h (sends_all (requests_for g xs) u).0 (up ++ (sends_all (requests_for g xs) u).1) down
loads-shown f g h u up down l og calm opened here [] none which = silent f h u up down l.kept calm opened here (none refl)
loads-shown f g h u up down l og calm opened here (x ∷ xs) none which =
    subst (λ (k : List Tmesg). IsShown f h (all_composed z (requests_for g xs)) k down) line
    (requests-shown f g xs h z (up ++ ((flushed u).1 ++ m ∷ [])) down (lined-request h u up down g x.0 x.1 l og here) empty still
    (asked f h u up down l.kept calm opened here g x.0 x.1 (open-view u g og) which))
  where
    m : Tmesg
    m = Trequest g x.0 x.1

    z : PlainTerminal
    z = composed (flushed u).0 m

    empty : z.unsent ≡ None
    empty = unsent-composed (flushed u).0 m ∙ unsent-flushed u

    still : is_open z g ≡ true
    still = (view-requested (flushed u).0 g x.0 x.1 g ((view-flushed u g).opened ∙ og)).opened ∙ (view-flushed u g).opened ∙ og

    line : (up ++ ((flushed u).1 ++ m ∷ [])) ++ requests_for g xs ≡ up ++ ((flushed u).1 ++ m ∷ requests_for g xs)
    line = append_assoc up ((flushed u).1 ++ m ∷ []) (requests_for g xs) ∙ ap (λ (k : List Tmesg). up ++ k) (append_assoc (flushed u).1 (m ∷ []) (requests_for g xs))

outcome-shown : (f : ℕ) (e : UserEvent) (h : PlainHost) (t : PlainTerminal) (up : List Tmesg) (down : List Hmesg) → Shows e f → InOrder h t up down → AreAwaited h t up down → Passed t e
    → IsShown f h (event_outcome t e).0 (up ++ (event_outcome t e).1) down
unfolding made_by_view made_by_load requested all_wanted
outcome-shown f (View g p n) h t up down shows o awaits pass =
    let u = turns g p n h t up down o awaits pass.here pass.free pass.opened pass.unlocked in
    rw (← shows) (wanting g h (turned t g p n) up down u.lined.kept u.calm u.opened u.here g (λ e. absurd (true≢false (sym (eq-eqb g g refl) ∙ e))) (λ e. u.waits))
outcome-shown f (Load g p n) h t up down shows o awaits pass =
    let u = turns g p n h t up down o awaits pass.here pass.free pass.opened pass.unlocked in
    rw (← shows) (loads-shown g g h (turned t g p n) up down u.lined u.opened u.calm u.opened u.here (gaps_shown (turned t g p n) g) (λ e. inl (loaded-stretches (turned t g p n) g e)) (inl refl))
outcome-shown f e h t up down shows o awaits pass = absurd (grind arith)

-- ## The acts of those that only look

view-turned : (t : PlainTerminal) (g p n f : ℕ) → (g == f) ≡ false → SameView (turned t g p n) t f
view-turned t g p n f e = same-window (turned t g p n) t f (grind (arith, slot-put_other, (eq-eqb g f)))

view-selected : (t : PlainTerminal) (g p q f : ℕ) → is_open t g ≡ true → SameView (set_dot_of t g (p, q)) t f
view-selected t g p q f o = by (g == f) refl
  where
    by : (b : Bool) → (g == f) ≡ b → SameView (set_dot_of t g (p, q)) t f
    by true e = subst (λ (x : ℕ). SameView (set_dot_of t g (p, q)) t x) (eqb-true g f e) (grind (arith, slot-put_same))
    by false e = same-window (set_dot_of t g (p, q)) t f (grind (arith, slot-put_other, (eq-eqb g f)))

look-shown : (f : ℕ) (e : UserEvent) (h : PlainHost) (t : PlainTerminal) (up : List Tmesg) (down : List Hmesg) → only_looks e ≡ true → InOrder h t up down → AreAwaited h t up down → Passed t e
    → IsShown f h t up down → IsShown f h (event_outcome t e).0 (up ++ (event_outcome t e).1) down
unfolding made_by_view made_by_load requested all_wanted
look-shown f (View g p n) h t up down look o awaits pass s = by (g == f) refl
  where
    by : (b : Bool) → (g == f) ≡ b → IsShown f h (event_outcome t (View g p n)).0 (up ++ (event_outcome t (View g p n)).1) down
    by true e = outcome-shown f (View g p n) h t up down (eqb-true g f e) o awaits pass
    by false e =
        let u = turns g p n h t up down o awaits pass.here pass.free pass.opened pass.unlocked in
        let now : IsShown f h (turned t g p n) up down = shown-same f h h t (turned t g p n) up up down down refl (view-turned t g p n f e) refl s in
        wanting f h (turned t g p n) up down u.lined.kept now.calm now.opened now.here g (λ q. now.served) (λ q. absurd (true≢false (sym (eq-eqb g f (sym (eqb-true f g q))) ∙ e)))
look-shown f (Load g p n) h t up down look o awaits pass s = by (g == f) refl
  where
    by : (b : Bool) → (g == f) ≡ b → IsShown f h (event_outcome t (Load g p n)).0 (up ++ (event_outcome t (Load g p n)).1) down
    by true e = outcome-shown f (Load g p n) h t up down (eqb-true g f e) o awaits pass
    by false e =
        let u = turns g p n h t up down o awaits pass.here pass.free pass.opened pass.unlocked in
        let now : IsShown f h (turned t g p n) up down = shown-same f h h t (turned t g p n) up up down down refl (view-turned t g p n f e) refl s in
        loads-shown f g h (turned t g p n) up down u.lined u.opened now.calm now.opened now.here (gaps_shown (turned t g p n) g) (λ q. now.served) (inr now.served)
look-shown f (Select g p q) h t up down look o awaits pass s =
    subst (λ (k : List Tmesg). IsShown f h (set_dot_of t g (p, q)) k down) (sym (append-nil up))
    (shown-same f h h t (set_dot_of t g (p, q)) up up down down refl (view-selected t g p q f (not-false (is_open t g) pass.opened)) refl s)
look-shown f user.Flush h t up down look o awaits pass s =
    shown-same f h h t (flushed t).0 up (up ++ (flushed t).1) down down (coming-flush h t up down) (view-flushed t f) (flushed-exited t) s
look-shown f e h t up down look o awaits pass s = absurd (grind arith)

-- ## Runs

abbrev At : ℕ → PlainWorld → Type 0
At f w = IsShown f w.host w.term w.up (mesgs w.down)

shown-step : (f : ℕ) (w next : PlainWorld) (e : Event) → IsKept w → OnlyLook w.term.held → Applies w e next → At f w → At f next × OnlyLook next.term.held
shown-step f w next e k looks a s = by e refl
  where
    n : IsInOrder next
    n = steps_in_order w next e k.order a.stepped

    act : Idles w next ⊎ Acts w next → At f next × OnlyLook next.term.held
    act (inl idle) = absurd (a.changes idle.same)
    act (inr acts) = did acts.did
      where
        t : PlainTerminal
        t = record w.term { held = acts.rest }

        made : Made
        made = event_outcome t acts.first

        both : OnlyLook (acts.first ∷ acts.rest)
        both = subst OnlyLook acts.was looks

        there : InOrder w.host t w.up (mesgs w.down)
        there = record { kept = k.order.ordered.kept; tidy = k.order.ordered.tidy; unsent = k.order.ordered.unsent }

        now : At f (record w { term = t })
        now = shown-same f w.host w.host w.term t w.up w.up (mesgs w.down) (mesgs w.down) refl (same-window t w.term f refl) refl s

        did : (next ≡ record w { term = t })
            ⊎ ((first_of_checks (event_checks w.term acts.first) ≡ None) × (next ≡ record w { term = made.0; up = w.up ++ made.1 }))
            → At f next × OnlyLook next.term.held
        did (inl is) = (subst (At f) (sym is) now, subst (λ (v : PlainWorld). OnlyLook v.term.held) (sym is) both.1)
        did (inr done) = (
          subst (At f) (sym done.1) (look-shown f acts.first w.host t w.up (mesgs w.down) both.0 there k.awaited (held_passed w.term acts.rest acts.first (passed w.term acts.first done.0)) now),
          subst (λ (v : PlainWorld). OnlyLook v.term.held) (sym done.1) (subst OnlyLook (sym (event-held t acts.first)) both.1),
        )

    same-held : next.term.held ≡ w.term.held → OnlyLook next.term.held
    same-held e = subst OnlyLook (sym e) looks

    host : HostTakes w next → At f next
    host t =
        let down = mesgs w.down in
        let order : InOrder t.reply.0 w.term t.rest (mesgs w.down ++ t.reply.1) = grind (arith, n.ordered) in
        let was : IsShown f w.host w.term (t.first ∷ t.rest) (mesgs w.down) = subst (λ (l : List Tmesg). IsShown f w.host w.term l (mesgs w.down)) t.was s in
        let now : IsShown f t.reply.0 w.term t.rest (mesgs w.down ++ t.reply.1) =
        shown-same f w.host t.reply.0 w.term w.term (t.first ∷ t.rest) t.rest (mesgs w.down) (mesgs w.down ++ t.reply.1)
        (coming-host w.host w.term t.first t.rest (mesgs w.down) t.reply t.replies order) (same-window w.term w.term f refl) refl was in
        subst (λ (x : PlainHost). IsShown f x next.term next.up (mesgs next.down)) (sym t.host)
        (subst (λ (x : PlainTerminal). IsShown f t.reply.0 x next.up (mesgs next.down)) (sym t.term)
        (subst (λ (x : List Tmesg). IsShown f t.reply.0 w.term x (mesgs next.down)) (sym t.up) (subst (IsShown f t.reply.0 w.term t.rest) (sym t.down) now)))

    term : TermTakes w next → At f next
    term t =
        let m = t.first.msg in
        let before : mesgs w.down ≡ t.first.msg ∷ mesgs t.rest = ap mesgs t.was in
        let now : IsShown f w.host (frame_outcome w.term t.first.msg).0 (w.up ++ (frame_outcome w.term t.first.msg).1) (mesgs t.rest) =
        shown-frame f w.host w.term w.up t.first.msg (mesgs t.rest) (subst (InOrder w.host w.term w.up) before k.order.ordered) (subst (AreAwaited w.host w.term w.up) before k.awaited)
        (subst (IsShown f w.host w.term w.up) before s) in
        subst (λ (x : PlainHost). IsShown f x next.term next.up (mesgs next.down)) (sym t.host)
        (subst (λ (x : PlainTerminal). IsShown f w.host x next.up (mesgs next.down)) (sym t.term)
        (subst (λ (x : List Tmesg). IsShown f w.host (frame_outcome w.term t.first.msg).0 x (mesgs next.down)) (sym t.up)
        (subst (λ (x : List HFrame). IsShown f w.host (frame_outcome w.term t.first.msg).0 (w.up ++ (frame_outcome w.term t.first.msg).1) (mesgs x)) (sym t.down) now)))

    flush : Flushes w next → At f next
    flush t =
        subst (At f) (sym t.is)
        (shown-same f w.host w.host w.term (flushed w.term).0 w.up (w.up ++ (flushed w.term).1) (mesgs w.down) (mesgs w.down) (coming-flush w.host w.term w.up (mesgs w.down)) (view-flushed w.term f)
        (flushed-exited w.term) s)

    by : (x : Event) → e ≡ x → At f next × OnlyLook next.term.held
    by (User x) q = absurd (true≢false (ap is_from_outside (sym q) ∙ a.own))
    by (Add name text) q = absurd (true≢false (ap is_from_outside (sym q) ∙ a.own))
    by (Mark f) q = absurd (true≢false (ap is_from_outside (sym q) ∙ a.own))
    by Act q = act (act-takes w next (ap (step_of w) (sym q) ∙ a.stepped))
    by Flush q = let t = flush-takes w next (ap (step_of w) (sym q) ∙ a.stepped) in (flush t, same-held (ap (λ (v : PlainWorld). v.term.held) t.is ∙ flushed-held w.term))
    by HostTake q = let t = host-takes w next k.order (ap (step_of w) (sym q) ∙ a.stepped) in (host t, same-held (after-host w next k n t).held)
    by TermTake q = let t = term-takes w next (ap (step_of w) (sym q) ∙ a.stepped) in (term t, same-held (after-term w next k n t).held)

shown-leads : (f : ℕ) (es : List Event) (w v : PlainWorld) → IsKept w → OnlyLook w.term.held → At f w → LeadsOn w es v → At f v
shown-leads f [] w v k looks s l = subst (At f) (sym l) s
shown-leads f (e ∷ es) w v k looks s l =
    let now = shown-step f w l.0 e k looks l.1 s in
    shown-leads f es l.0 v (keeps-step w e l.0 k l.1.stepped) now.1 now.0 l.2

view-acts : (w next : PlainWorld) (f : ℕ) (e : UserEvent) (later : List UserEvent) → Shows e f → IsKept w → w.term.held ≡ e ∷ later → first_of_checks (event_checks w.term e) ≡ None → step_of w Act ≡ Some next
    → At f next × (next.term.held ≡ later)
unfolding act_of
view-acts w next f e later shows k held none s = go (if_countable made.0.sent (made.0, Done made.1)) refl
  where
    t : PlainTerminal
    t = record w.term { held = later }

    made : Made
    made = event_outcome t e

    there : InOrder w.host t w.up (mesgs w.down)
    there = record { kept = k.order.ordered.kept; tidy = k.order.ordered.tidy; unsent = k.order.ordered.unsent }

    shown : At f (record w { term = made.0; up = w.up ++ made.1 })
    shown = outcome-shown f e w.host t w.up (mesgs w.down) shows there k.awaited (held_passed w.term later e (passed w.term e none))

    acted : after_act w (if_countable made.0.sent (made.0, Done made.1)) ≡ Some next
    acted = sym (ap (λ (l : List UserEvent). after_act w (act_on w.term l)) held ∙ ap (λ (v : Option Verdict). after_act w (decided v w.term later made)) none) ∙ s

    go : (a : Result (PlainTerminal × Acted) TermFault) → if_countable made.0.sent (made.0, Done made.1) ≡ a → At f next × (next.term.held ≡ later)
    go (Err why) q = absurd (grind (arith, acted))
    go (Ok r) q =
        let same : (made.0, Done made.1) ≡ r = counted-result made.0.sent (made.0, Done made.1) r q in
        let is : record w { term = made.0; up = w.up ++ made.1 } ≡ next =
        same_Some _ _ (ap (λ (x : PlainTerminal × Acted). after_act w (Ok x)) same ∙ ap (after_act w) (sym q) ∙ acted) in
        (subst (At f) is shown, ap (λ (v : PlainWorld). v.term.held) (sym is) ∙ event-held t e)

pub views_are_loaded : ViewsAreLoaded
views_are_loaded w next v f e later es shows looks r held none s leads done =
    let k = kept-of w r in
    let acted = view-acts w next f e later shows k held none s in
    let last = shown-leads f es next v (keeps-step w Act next k s) (subst OnlyLook (sym acted.1) looks) acted.0 leads in
    by last.served
  where
    quiet : coming v.host v.term v.up (mesgs v.down) ≡ []
    quiet = let x = parts v done.rests in (λ i. mesgs (x.down i) ++ frames_of (answers v.host (x.up i ++ unsent_message (x.unsent i))))

    by : IsLoaded v.term f ⊎ (brings (at_file f (coming v.host v.term v.up (mesgs v.down))) ≡ true) → IsLoaded v.term f
    by (inl l) = l
    by (inr b) = absurd (true≢false (sym b ∙ ap (λ (fs : List Hmesg). brings (at_file f fs)) quiet))
