-- Steps come to an end.
use Rattle.std.proofs.Common.{true≢false}
use Rattle.sam_rest.proofs.Common.{◌≡◌, ℕ, zero, suc, ◌+◌, ◌<◌, ◌≤◌, false, List, [], ◌∷◌, ◌++◌, length, Option, Some, None, ◌⊎◌, inl, inr, same_Some, refl, sym, ap, ◌∙◌, subst, arith, append-nil, PlainTerminal, Made, frame_outcome, event_outcome, first_of_checks, event_checks, UserEvent, Tmesg, new_world, PlainWorld, step_of, mesgs, IsInOrder, WasReached}
use Rattle.sam_term.specs.Term.{unsent_message, all_composed}
use Rattle.sam_term.specs.declared.records.Unsent.{Unsent}
use Rattle.sam_term.proofs.Edits.{flushed-held}
use Rattle.sam_crossing.specs.declared.event.Event.{Event}
use Rattle.sam_crossing.specs.declared.event.Event.TheVariants.{User, Add, Mark, Act, Flush, HostTake, TermTake}
use Rattle.sam_crossing.proofs.RunLaws.{run_keeps}
use Rattle.std.proofs.Common.{Bool, true}
use Rattle.sam_runes.specs.Slots.{Slots}
use Rattle.sam_text.specs.Files.{PlainFile}
use Rattle.sam_host.specs.Host.{PlainHost, Reply, given_slots, with_given}
use Rattle.sam_host.specs.Laws.{AreGiven}
use Rattle.sam_mesg.specs.declared.hmesg.Hmesg.{Hmesg}
use Rattle.sam_term.specs.Term.{window_at}
use Rattle.sam_crossing.proofs.Common.{append_assoc, answers, at_file, view, run, Action}
use Rattle.sam_crossing.specs.Joining.{with_more, is_heard}
use Rattle.sam_crossing.proofs.Guards.{at_file-append}
use Rattle.sam_crossing.proofs.MoreFiles.{Split, split, nothing_more, one_more, given_both, given_kept, deaf_reply, unheard_is, heard_frees, frees-behind, answers_after}
use Rattle.sam_local.proofs.Folds.{Parted}
use Rattle.sam_rest.proofs.Actions.{AwaitsAll}
use Rattle.sam_rest.proofs.Kept.{frames_of, coming_to, answers-up}
use Rattle.sam_rest.proofs.Joined.{with_joined, both-more, order-joined, joined-step}
use Rattle.sam_runes.proofs.SlotLaws.{slot_given}
use Rattle.sam_host.specs.Host.{told_dirty}
use Rattle.sam_host.specs.Marking.{marked}
use Rattle.sam_crossing.proofs.Marking.{marked-more, told-more, shown-more}
use Rattle.sam_rest.proofs.Marked.{awaited-mark, mark-frames}
use Rattle.sam_crossing.proofs.OrderLaws.{joins_step, marks_step, starts_in_order, steps_in_order}
use Rattle.sam_crossing.specs.Order.{InOrder}
use Rattle.sam_crossing.proofs.Passing.{passed, held_passed}
use Rattle.sam_local.proofs.Held.{event-held, frame-held}
use Rattle.sam_rest.specs.Rest.{Applies, LeadsOn, StepsEnd, is_from_outside}
use Rattle.sam_rest.proofs.Taking.{HostTakes, host-takes, TermTakes, term-takes, Flushes, flush-takes, Idles, Acts, act-takes}
use Rattle.sam_rest.proofs.Kept.{AreAwaited}
use Rattle.sam_rest.proofs.Steps.{awaited-host, awaited-flush, awaited-frame, awaited-event}
unfoldable use Rattle.sam_rest.proofs.Work.{work}
unfoldable use Rattle.sam_term.specs.Term.{flushed}
use Rattle.sam_rest.proofs.Work.{work-host, work-flush, work-frame}

-- ## What is kept

-- also where files join now, however many
pub record IsKept (w : PlainWorld) : Type 0 where
  pub order : IsInOrder w
  pub awaited : AreAwaited w.host w.term w.up (mesgs w.down)
  pub joined : (more : List (List ℕ × List ℕ)) → AreGiven more → AreAwaited (with_more w.host (given_slots more)) w.term w.up (mesgs w.down)

-- how much is left to do in w, but for what the held events will do
abbrev pub left_in : PlainWorld → ℕ
left_in w = work w.host w.term w.up (mesgs w.down)

-- a step that is no act: what is awaited is kept, there is less to do, and the same events are held
pub record IsLess (w next : PlainWorld) : Type 0 where
  pub awaited : AreAwaited next.host next.term next.up (mesgs next.down)
  pub less : left_in next < left_in w
  pub held : next.term.held ≡ w.term.held

pub after-host : (w next : PlainWorld) → IsKept w → IsInOrder next → HostTakes w next → IsLess w next
after-host w next k n s =
    let order : InOrder s.reply.0 w.term s.rest (mesgs w.down ++ s.reply.1) = grind (arith, n.ordered) in
    let was : AreAwaited w.host w.term (s.first ∷ s.rest) (mesgs w.down) = subst (λ (l : List Tmesg). AreAwaited w.host w.term l (mesgs w.down)) s.was k.awaited in
    let kept = awaited-host w.host w.term s.first s.rest (mesgs w.down) s.reply s.replies order was in
    let less = work-host w.host w.term s.first s.rest (mesgs w.down) s.reply s.replies order in
    grind arith

pub after-term : (w next : PlainWorld) → IsKept w → IsInOrder next → TermTakes w next → IsLess w next
after-term w next k n s =
    let m = s.first.msg in
    let rest = mesgs s.rest in
    let made = frame_outcome w.term m in
    let before : mesgs w.down ≡ m ∷ rest = ap mesgs s.was in
    let order : InOrder w.host w.term w.up (m ∷ rest) = subst (InOrder w.host w.term w.up) before k.order.ordered in
    let after : InOrder w.host made.0 (w.up ++ made.1) rest = grind (arith, n.ordered) in
    let was : AreAwaited w.host w.term w.up (m ∷ rest) = subst (AreAwaited w.host w.term w.up) before k.awaited in
    let kept = awaited-frame w.host w.term w.up m rest order after was in
    let less = work-frame w.host w.term w.up m rest order after was in
    let held = frame-held w.term m in
    grind arith

pub after-flush : (w next : PlainWorld) (u : Unsent) → IsKept w → w.term.unsent ≡ Some u → Flushes w next → IsLess w next
after-flush w next u k e s =
    subst (IsLess w) (sym s.is)
    (record {
      awaited = awaited-flush w.host w.term w.up (mesgs w.down) k.order.ordered k.awaited;
      less = work-flush w.host w.term w.up (mesgs w.down) u k.order.ordered e;
      held = flushed-held w.term;
    })

-- an act that does or refuses something: fewer events are held
pub record IsFewer (w next : PlainWorld) : Type 0 where
  pub awaited : AreAwaited next.host next.term next.up (mesgs next.down)
  pub one : length w.term.held ≡ suc (length next.term.held)

pub after-act : (w next : PlainWorld) → IsKept w → IsInOrder next → Acts w next → IsFewer w next
after-act w next k n s = by s.did
  where
    t : PlainTerminal
    t = record w.term { held = s.rest }

    many : length w.term.held ≡ suc (length s.rest)
    many = ap (λ (l : List UserEvent). length l) s.was

    there : InOrder w.host t w.up (mesgs w.down)
    there = record { kept = k.order.ordered.kept; tidy = k.order.ordered.tidy; unsent = k.order.ordered.unsent }

    made : Made
    made = event_outcome t s.first

    by : (next ≡ record w { term = t })
        ⊎ ((first_of_checks (event_checks w.term s.first) ≡ None) × (next ≡ record w { term = made.0; up = w.up ++ made.1 }))
        → IsFewer w next
    by (inl is) = subst (IsFewer w) (sym is) (record { awaited = k.awaited; one = many })
    by (inr both) =
        let after : IsInOrder (record w { term = made.0; up = w.up ++ made.1 }) = subst IsInOrder both.1 n in
        let held = event-held t s.first in
        subst (IsFewer w) (sym both.1)
        (record {
          awaited = awaited-event w.host t w.up (mesgs w.down) s.first there (held_passed w.term s.rest s.first (passed w.term s.first both.0)) after.ordered k.awaited;
          one = many ∙ ap (λ (l : List UserEvent). suc (length l)) (sym held);
        })

-- ## Every step, and every run

-- a file joins in the step, or is marked
abbrev is_add : Event → Bool
is_add (User e) = false
is_add (Add name text) = true
is_add (Mark f) = true
is_add Act = false
is_add Flush = false
is_add HostTake = false
is_add TermTake = false

awaits-step : (w : PlainWorld) (e : Event) (next : PlainWorld) → IsKept w → is_add e ≡ false → step_of w e ≡ Some next → AreAwaited next.host next.term next.up (mesgs next.down)
awaits-step w e next k none s = by e refl
  where
    n : IsInOrder next
    n = steps_in_order w next e k.order s

    flushed-kept : Flushes w next → AreAwaited next.host next.term next.up (mesgs next.down)
    flushed-kept f = subst (λ (v : PlainWorld). AreAwaited v.host v.term v.up (mesgs v.down)) (sym f.is) (awaited-flush w.host w.term w.up (mesgs w.down) k.order.ordered k.awaited)

    acted : Idles w next ⊎ Acts w next → AreAwaited next.host next.term next.up (mesgs next.down)
    acted (inl idle) = subst (λ (v : PlainWorld). AreAwaited v.host v.term v.up (mesgs v.down)) (sym idle.same) k.awaited
    acted (inr acts) = (after-act w next k n acts).awaited

    by : (x : Event) → e ≡ x → AreAwaited next.host next.term next.up (mesgs next.down)
    by (User x) q =
        let is : record w { term = record w.term { held = w.term.held ++ x ∷ [] } } ≡ next = same_Some _ _ (ap (step_of w) (sym q) ∙ s) in
        subst (λ (v : PlainWorld). AreAwaited v.host v.term v.up (mesgs v.down)) is k.awaited
    by (Add name text) q = absurd (true≢false (ap is_add (sym q) ∙ none))
    by (Mark f) q = absurd (true≢false (ap is_add (sym q) ∙ none))
    by Act q = acted (act-takes w next (ap (step_of w) (sym q) ∙ s))
    by Flush q = flushed-kept (flush-takes w next (ap (step_of w) (sym q) ∙ s))
    by HostTake q = (after-host w next k n (host-takes w next k.order (ap (step_of w) (sym q) ∙ s))).awaited
    by TermTake q = (after-term w next k n (term-takes w next (ap (step_of w) (sym q) ∙ s))).awaited

-- a world with files that join is kept, too
kept-joined : (w : PlainWorld) (more : List (List ℕ × List ℕ)) → AreGiven more → IsKept w → IsKept (with_joined w more)
kept-joined w more few k = record {
  order = order-joined w more few k.order;
  awaited = k.joined more few;
  joined = λ others fit. subst (λ (h : PlainHost). AreAwaited h w.term w.up (mesgs w.down)) (sym (both-more w.host more others)) (k.joined (more ++ others) (given_both more others few fit));
}

-- the host's answer, with files that join
module _ (w next : PlainWorld) (k : IsKept w) (n : IsInOrder next) (t : HostTakes w next) (more : List (List ℕ × List ℕ)) (few : AreGiven more) where
  abbrev us : Slots PlainFile
  us = given_slots more

  abbrev after : List Hmesg
  after = mesgs w.down ++ t.reply.1

  next-order : InOrder t.reply.0 w.term t.rest (mesgs w.down ++ t.reply.1)
  next-order = grind (arith, n.ordered)

  next-joined : InOrder (with_more t.reply.0 (given_slots more)) w.term t.rest (mesgs w.down ++ t.reply.1)
  next-joined =
      subst (λ (d : List Hmesg). InOrder (with_more t.reply.0 us) w.term t.rest d) t.down
      (subst (λ (u : List Tmesg). InOrder (with_more t.reply.0 us) w.term u (mesgs next.down)) t.up
      (subst (λ (z : PlainTerminal). InOrder (with_more t.reply.0 us) z next.up (mesgs next.down)) t.term
      (subst (λ (h : PlainHost). InOrder (with_more h us) next.term next.up (mesgs next.down)) t.host (n.joined more few))))

  host-deaf : is_heard w.host t.first ≡ false → AreAwaited (with_more t.reply.0 (given_slots more)) w.term t.rest (mesgs w.down ++ t.reply.1)
  host-deaf e =
      awaited-host (with_more w.host us) w.term t.first t.rest (mesgs w.down) (with_more t.reply.0 us, t.reply.1)
      (deaf_reply w.host t.first us t.reply k.order.given (unheard_is w.host t.first e) t.replies) next-joined
      (subst (λ (l : List Tmesg). AreAwaited (with_more w.host us) w.term l (mesgs w.down)) t.was (k.joined more few))

  host-heard : is_heard w.host t.first ≡ true → AreAwaited (with_more t.reply.0 (given_slots more)) w.term t.rest (mesgs w.down ++ t.reply.1)
  host-heard e f = subst (AwaitsAll (window_at w.term f).awaited) (sym same) (now f)
    where
      now : AreAwaited t.reply.0 w.term t.rest (mesgs w.down ++ t.reply.1)
      now = awaited-host w.host w.term t.first t.rest (mesgs w.down) t.reply t.replies next-order (subst (λ (l : List Tmesg). AreAwaited w.host w.term l (mesgs w.down)) t.was k.awaited)

      p : Parted t.reply.0 t.rest (unsent_message w.term.unsent) (next-order.kept.ahead, next-order.kept.frames)
      p = answers-up t.reply.0 w.term t.rest after next-order

      -- what has come with the answers to what is up
      lens_run : Split (at_file 0 (after ++ p.first.1)) (at_file 0 p.last.1) (view 0 w.term) (next-order.kept.each 0).final
      lens_run = split (at_file 0 (after ++ p.first.1)) (at_file 0 p.last.1) (view 0 w.term) (next-order.kept.each 0).final
          (subst (λ (s : List Action). run s (view 0 w.term) ≡ Some (next-order.kept.each 0).final)
          (ap (λ (r : Reply). at_file 0 (after ++ r.1)) p.whole ∙ ap (at_file 0) (sym (append_assoc after p.first.1 p.last.1)) ∙ at_file-append 0 (after ++ p.first.1) p.last.1)
          (next-order.kept.each 0).runs)

      wide : answers (with_more t.reply.0 us) t.rest ≡ Some (with_more p.first.0 us, p.first.1)
      wide = answers_after t.reply.0 t.rest after p.first (view 0 w.term) lens_run.mid us (given_kept w.host t.first t.reply k.order.given t.replies)
          (frees-behind (mesgs w.down) t.reply.1 (heard_frees w.host t.first t.reply t.replies e)) p.now lens_run.first

      same : coming_to f (with_more t.reply.0 us) t.rest after ≡ coming_to f t.reply.0 t.rest after
      same = ap (λ (o : Option Reply). at_file f (after ++ frames_of o)) wide ∙ sym (ap (λ (o : Option Reply). at_file f (after ++ frames_of o)) p.now)

  host-joined : AreAwaited (with_more next.host (given_slots more)) next.term next.up (mesgs next.down)
  host-joined =
      subst (λ (h : PlainHost). AreAwaited (with_more h us) next.term next.up (mesgs next.down)) (sym t.host)
      (subst (λ (z : PlainTerminal). AreAwaited (with_more t.reply.0 us) z next.up (mesgs next.down)) (sym t.term)
      (subst (λ (u : List Tmesg). AreAwaited (with_more t.reply.0 us) w.term u (mesgs next.down)) (sym t.up)
      (subst (AreAwaited (with_more t.reply.0 us) w.term t.rest) (sym t.down) (by (is_heard w.host t.first) refl))))
    where
      by : (b : Bool) → is_heard w.host t.first ≡ b → AreAwaited (with_more t.reply.0 us) w.term t.rest after
      by true e = host-heard e
      by false e = host-deaf e

pub keeps-step : (w : PlainWorld) (e : Event) (next : PlainWorld) → IsKept w → step_of w e ≡ Some next → IsKept next
keeps-step w (Add name text) next k s =
    let j = joins_step w next name text s in
    let one : List ℕ × List ℕ = (name, text) in
    subst IsKept (sym j.is)
    (record {
      order = subst IsInOrder j.is (steps_in_order w next (Add name text) k.order s);
      awaited = subst (λ (h : PlainHost). AreAwaited h w.term w.up (mesgs w.down)) (sym (one_more w.host one []) ∙ nothing_more (with_given w.host one)) (k.joined (one ∷ []) (j.short.0, j.short.1, tt));
      joined = λ more few. subst (λ (h : PlainHost). AreAwaited h w.term w.up (mesgs w.down)) (sym (one_more w.host one (given_slots more))) (k.joined (one ∷ more) (j.short.0, j.short.1, few));
    })
keeps-step w (Mark f) next k s =
    let m = marks_step w next f s in
    subst IsKept (sym m.is)
    (record {
      order = subst IsInOrder m.is (steps_in_order w next (Mark f) k.order s);
      awaited = subst (AreAwaited (marked w.host f) w.term w.up) (sym (mark-frames w f)) (awaited-mark w.host w.term w.up (mesgs w.down) f m.tag m.shown k.order.ordered k.awaited);
      joined = λ more few.
          let us = given_slots more in
          let l = slot_given w.host.files.slots f m.shown.0 in
          subst (AreAwaited (with_more (marked w.host f) us) w.term w.up) (sym (mark-frames w f))
          (subst (λ (h : PlainHost). AreAwaited h w.term w.up (mesgs w.down ++ told_dirty w.host.files f)) (marked-more w.host f us l)
          (subst (λ (ms : List Hmesg). AreAwaited (marked (with_more w.host us) f) w.term w.up (mesgs w.down ++ ms)) (told-more w.host f us l)
          (awaited-mark (with_more w.host us) w.term w.up (mesgs w.down) f m.tag (shown-more w.host f us m.shown) (k.order.joined more few) (k.joined more few))));
    })
keeps-step w HostTake next k s = record {
  order = steps_in_order w next HostTake k.order s;
  awaited = awaits-step w HostTake next k refl s;
  joined = host-joined w next k (steps_in_order w next HostTake k.order s) (host-takes w next k.order s);
}
keeps-step w e next k s = record {
  order = steps_in_order w next e k.order s;
  awaited = awaits-step w e next k refl s;
  joined = λ more few. awaits-step (with_joined w more) e (with_joined next more) (kept-joined w more few k) refl (joined-step w next e more refl s);
}

pub kept-of : (w : PlainWorld) → WasReached w → IsKept w
kept-of w r =
    run_keeps IsKept keeps-step (new_world r.given) r.reached.0 w (record { order = starts_in_order r.given r.limits; awaited = λ f. refl; joined = λ more few f. refl }) r.reached.1

-- ## A step that changes something

-- there is less to do, or fewer events are held
abbrev pub Lowers : PlainWorld → PlainWorld → Type 0
Lowers w next = (length next.term.held < length w.term.held) ⊎ ((left_in next < left_in w) × (next.term.held ≡ w.term.held))

pub nothing-flushed : (w : PlainWorld) → w.term.unsent ≡ None → record w { term = (flushed w.term).0; up = w.up ++ (flushed w.term).1 } ≡ w
unfolding flushed
nothing-flushed w e =
    ap (λ (n : Option Unsent). record w { term = all_composed (record w.term { unsent = None }) (unsent_message n); up = w.up ++ unsent_message n }) e
    ∙ (λ i. record w { term = record w.term { unsent = sym e i }; up = append-nil w.up i })

pub falls : (w : PlainWorld) (e : Event) (next : PlainWorld) → IsKept w → is_from_outside e ≡ false → step_of w e ≡ Some next → (next ≡ w) ⊎ Lowers w next
falls w e next k own s = by e refl
  where
    n : IsInOrder next
    n = steps_in_order w next e k.order s

    less : IsLess w next → (next ≡ w) ⊎ Lowers w next
    less l = inr (inr (l.less, l.held))

    flush : (u : Option Unsent) → w.term.unsent ≡ u → Flushes w next → (next ≡ w) ⊎ Lowers w next
    flush (Some u) q f = less (after-flush w next u k q f)
    flush None q f = inl (f.is ∙ nothing-flushed w q)

    act : Idles w next ⊎ Acts w next → (next ≡ w) ⊎ Lowers w next
    act (inl idle) = inl idle.same
    act (inr acts) = inr (inl (omega (arith, (after-act w next k n acts).one)))

    by : (x : Event) → e ≡ x → (next ≡ w) ⊎ Lowers w next
    by (User x) q = absurd (true≢false (ap is_from_outside (sym q) ∙ own))
    by (Add name text) q = absurd (true≢false (ap is_from_outside (sym q) ∙ own))
    by (Mark f) q = absurd (true≢false (ap is_from_outside (sym q) ∙ own))
    by Act q = act (act-takes w next (ap (step_of w) (sym q) ∙ s))
    by Flush q = flush w.term.unsent refl (flush-takes w next (ap (step_of w) (sym q) ∙ s))
    by HostTake q = less (after-host w next k n (host-takes w next k.order (ap (step_of w) (sym q) ∙ s)))
    by TermTake q = less (after-term w next k n (term-takes w next (ap (step_of w) (sym q) ∙ s)))

-- ## The bound

pub record IsBounded (w : PlainWorld) : Type 0 where
  pub most : ℕ
  pub bound : (es : List Event) (v : PlainWorld) → LeadsOn w es v → length es ≤ most

abbrev After : PlainWorld → Type 0
After w = (next : PlainWorld) → IsKept next → Lowers w next → IsBounded next

-- the lists that begin with this event
record IsBoundedBy (w : PlainWorld) (e : Event) : Type 0 where
  most : ℕ
  bound : (next : PlainWorld) → Applies w e next → (es : List Event) (v : PlainWorld) → LeadsOn next es v → length es ≤ most

bounded-by : (w : PlainWorld) (e : Event) → IsKept w → is_from_outside e ≡ false → After w → IsBoundedBy w e
bounded-by w e k own after = by (step_of w e) refl
  where
    to : (u : PlainWorld) → step_of w e ≡ Some u → (u ≡ w) ⊎ Lowers w u → IsBoundedBy w e
    to u q (inl same) = record { most = 0; bound = λ next a. absurd (a.changes (same_Some _ _ (sym a.stepped ∙ q) ∙ same)) }
    to u q (inr lower) =
        let there = after u (keeps-step w e u k q) lower in
        record {
          most = there.most;
          bound = λ next a es v leads. there.bound es v (subst (λ (x : PlainWorld). LeadsOn x es v) (same_Some _ _ (sym a.stepped ∙ q)) leads);
        }

    by : (o : Option PlainWorld) → step_of w e ≡ o → IsBoundedBy w e
    by None q = record { most = 0; bound = λ next a. absurd (none-some (sym q ∙ a.stepped)) }
      where
        none-some : {x : PlainWorld} → None ≡ Some x → ⊥
        none-some e = grind arith
    by (Some u) q = to u q (falls w e u k own q)

bounded-all : (w : PlainWorld) → IsKept w → After w → IsBounded w
bounded-all w k after = record { most = 1 + (act.most + flush.most + host.most + term.most); bound = bound }
  where
    act : IsBoundedBy w Act
    act = bounded-by w Act k refl after

    flush : IsBoundedBy w Flush
    flush = bounded-by w Flush k refl after

    host : IsBoundedBy w HostTake
    host = bounded-by w HostTake k refl after

    term : IsBoundedBy w TermTake
    term = bounded-by w TermTake k refl after

    bound : (es : List Event) (v : PlainWorld) → LeadsOn w es v → length es ≤ 1 + (act.most + flush.most + host.most + term.most)
    bound [] v l = omega arith
    bound (User x ∷ es) v l = absurd (true≢false l.1.own)
    bound (Add name text ∷ es) v l = absurd (true≢false l.1.own)
    bound (Mark f ∷ es) v l = absurd (true≢false l.1.own)
    bound (Act ∷ es) v l = omega (arith, act.bound l.0 l.1 es v l.2)
    bound (Flush ∷ es) v l = omega (arith, flush.bound l.0 l.1 es v l.2)
    bound (HostTake ∷ es) v l = omega (arith, host.bound l.0 l.1 es v l.2)
    bound (TermTake ∷ es) v l = omega (arith, term.bound l.0 l.1 es v l.2)

-- worlds that hold fewer than k events
abbrev BoundedBelow : ℕ → Type 0
BoundedBelow k = (w : PlainWorld) → IsKept w → length w.term.held < k → IsBounded w

bounded-left : (k : ℕ) → BoundedBelow k → (m : ℕ) (w : PlainWorld) → IsKept w → length w.term.held ≤ k → left_in w ≤ m → IsBounded w
bounded-left k fewer zero w kept h l = bounded-all w kept to
  where
    to : After w
    to next kn (inl lower) = fewer next kn (omega (arith, lower, h))
    to next kn (inr lower) = absurd (omega (arith, lower.0, l))
bounded-left k fewer (suc m) w kept h l = bounded-all w kept (to (λ v kv hv lv. bounded-left k fewer m v kv hv lv))
  where
    to : ((v : PlainWorld) → IsKept v → length v.term.held ≤ k → left_in v ≤ m → IsBounded v) → After w
    to less next kn (inl lower) = fewer next kn (omega (arith, lower, h))
    to less next kn (inr lower) = less next kn (omega (arith, ap (λ (es : List UserEvent). length es) lower.1, h)) (omega (arith, lower.0, l))

bounded-below : (k : ℕ) → BoundedBelow k
bounded-below zero w kept l = absurd (omega arith)
bounded-below (suc k) w kept l = bounded-left k (bounded-below k) (left_in w) w kept (omega (arith, l)) (omega arith)

pub bounded : (w : PlainWorld) → IsKept w → IsBounded w
bounded w k = bounded-below (suc (length w.term.held)) w k (omega arith)

pub steps_end : StepsEnd
steps_end w r = let b = bounded w (kept-of w r) in (b.most, b.bound)
