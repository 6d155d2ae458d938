-- What `rest` rests on: a drain, however long, is events that apply, and the count of those left falls.
use Rattle.std.proofs.Common.{true≢false, option_and_then}
use Rattle.sam_rest.proofs.Common.{◌≡◌, ℕ, zero, suc, ◌<◌, ◌≤◌, Bool, true, false, List, [], ◌∷◌, ◌++◌, Option, Some, None, Result, Ok, Err, same_Some, refl, sym, ap, ◌∙◌, subst, arith, PlainWorld, WasReached, step_of, next_event}
unfoldable use Rattle.sam_rest.proofs.Common.{act_of}
use Rattle.sam_world.specs.declared.event.StepFault.{StepFault}
use Rattle.std.specs.Prelude.{OnErr}
use Rattle.sam_crossing.specs.declared.event.Event.{Event}
use Rattle.sam_world.specs.Drain.{drained, drain_limit}
use Rattle.sam_world.specs.Faults.{IsDrainedUpTo}
use Rattle.sam_local.specs.Worlds.{is_at_rest}
use Rattle.sam_rest.specs.Rest.{LeadsInTurn, GoesOn, IsDone}
use Rattle.sam_rest.proofs.Ends.{IsKept, kept-of, keeps-step}
use Rattle.sam_rest.proofs.Rule.{rule-applies, falls-by-rule, steps_left}
use Rattle.sam_rest.proofs.Done.{parts, none_is_done}

-- ## One drain

-- it has gone on, and no more is left than before; and less, unless nothing applied
pub record Drains (w v : PlainWorld) : Type 0 where
  pub goes : GoesOn w v
  pub left : steps_left v ≤ steps_left w

none-drains : (w v : PlainWorld) → Some w ≡ Some v → Drains w v
none-drains w v e = subst (Drains w) (same_Some _ _ e) (record { goes = record { events = []; leads = refl }; left = omega arith })

first-drains : (w u v : PlainWorld) (e : Event) → IsKept w → next_event w ≡ Some e → step_of w e ≡ Some u → Drains u v → Drains w v
first-drains w u v e k n s d = record {
  goes = record { events = e ∷ d.goes.events; leads = (u, n, rule-applies w u e k n s, d.goes.leads) };
  left = let falls = falls-by-rule w u e k n s in let rest = d.left in omega (arith, falls, rest);
}

pub drains : (n : ℕ) (w v : PlainWorld) → IsKept w → drained n w ≡ Some v → Drains w v
drains zero w v k d = none-drains w v d
drains (suc n) w v k d = by (λ u ku r. drains n u v ku r) (next_event w) refl d
  where
    past : ((u : PlainWorld) → IsKept u → drained n u ≡ Some v → Drains u v) → (e : Event) (o : Option PlainWorld) → next_event w ≡ Some e → step_of w e ≡ o
        → option_and_then (drained n) o ≡ Some v → Drains w v
    past more e None q s r = absurd (grind arith)
    past more e (Some u) q s r = first-drains w u v e k q s (more u (keeps-step w e u k s) r)

    by : ((u : PlainWorld) → IsKept u → drained n u ≡ Some v → Drains u v) → (o : Option Event) → next_event w ≡ o
        → elim o [ None ↦ Some w | Some x ↦ option_and_then (drained n) (step_of w x) ] ≡ Some v → Drains w v
    by more None q r = none-drains w v r
    by more (Some e) q r = past more e (step_of w e) q refl r

-- something applies, so less is left
pub drains-less : (n : ℕ) (w v : PlainWorld) → IsKept w → 0 < n → (next_event w ≡ None → ⊥) → drained n w ≡ Some v → steps_left v < steps_left w
drains-less zero w v k more some d = absurd (omega (arith, more))
drains-less (suc n) w v k more some d = by (next_event w) refl d
  where
    past : (e : Event) (o : Option PlainWorld) → next_event w ≡ Some e → step_of w e ≡ o → option_and_then (drained n) o ≡ Some v → steps_left v < steps_left w
    past e None q s r = absurd (grind arith)
    past e (Some u) q s r =
        let rest = (drains n u v (keeps-step w e u k s) r).left in
        let falls = falls-by-rule w u e k q s in
        omega (arith, rest, falls)

    by : (o : Option Event) → next_event w ≡ o → elim o [ None ↦ Some w | Some x ↦ option_and_then (drained n) (step_of w x) ] ≡ Some v → steps_left v < steps_left w
    by None q r = absurd (some q)
    by (Some e) q r = past e (step_of w e) q refl r

-- ## One after another

leads-then : (es fs : List Event) (w v u : PlainWorld) → LeadsInTurn w es v → LeadsInTurn v fs u → LeadsInTurn w (es ++ fs) u
leads-then [] fs w v u l m = subst (λ (x : PlainWorld). LeadsInTurn x fs u) l m
leads-then (e ∷ es) fs w v u l m = (l.0, l.1, l.2, leads-then es fs l.0 v u l.3 m)

pub goes_nowhere : (w : PlainWorld) → GoesOn w w
goes_nowhere w = record { events = []; leads = refl }

goes-then : (w v u : PlainWorld) → GoesOn w v → GoesOn v u → GoesOn w u
goes-then w v u g h = record { events = g.events ++ h.events; leads = leads-then g.events h.events w v u g.leads h.leads }

pub goes_by_drain : (w v u : PlainWorld) → WasReached v → GoesOn w v → drained drain_limit v ≡ Some u → GoesOn w u
goes_by_drain w v u r g d = goes-then w v u g (drains drain_limit v u (kept-of v r) d).goes

pub goes_to_fault : (w v u : PlainWorld) (why : StepFault) → WasReached v → GoesOn w v → IsDrainedUpTo drain_limit v u why → GoesOn w u
goes_to_fault w v u why r g d = goes-then w v u g (drains d.done v u (kept-of v r) d.leads).goes

-- ## Where all is done

-- nothing applies where nothing is unsent, under way or held
rests-none : (w : PlainWorld) → is_at_rest w ≡ true → next_event w ≡ None
unfolding act_of
rests-none w e = let p = parts w e in grind (arith, p.up, p.down, p.unsent, p.held)

pub rests_is_done : (w : PlainWorld) → WasReached w → is_at_rest w ≡ true → IsDone w
rests_is_done w r e = none_is_done w r (rests-none w e)

-- there nothing goes on
pub rest_still : (w v : PlainWorld) → GoesOn w v → is_at_rest w ≡ true → v ≡ w
rest_still w v g r = by g.events g.leads
  where
    none-some : {e : Event} → None ≡ Some e → ⊥
    none-some x = grind arith

    by : (es : List Event) → LeadsInTurn w es v → v ≡ w
    by [] l = l
    by (e ∷ es) l = absurd (none-some (sym (rests-none w r) ∙ l.1))

pub left_first : (w v : PlainWorld) → GoesOn w v → is_at_rest v ≡ false → is_at_rest w ≡ false
left_first w v g e = by (is_at_rest w) refl
  where
    by : (b : Bool) → is_at_rest w ≡ b → is_at_rest w ≡ false
    by false q = q
    by true q = absurd (true≢false (sym q ∙ sym (ap is_at_rest (rest_still w v g q)) ∙ e))

-- so where something is left on the way, something was at first
pub rest_left : {A E : Type 0} (r : Result A E) (w v : PlainWorld) (b : Bool) → b ≡ is_at_rest v → b ≡ false → GoesOn w v → OnErr r (is_at_rest w ≡ false)
rest_left (Ok x) w v b is left g = tt
rest_left (Err why) w v b is left g = left_first w v g (grind (arith, is, left))

-- where something is left, a drain does some of it
pub left_less : (v u : PlainWorld) → WasReached v → is_at_rest v ≡ false → drained drain_limit v ≡ Some u → steps_left u < steps_left v
left_less v u r e d =
    drains-less drain_limit v u (kept-of v r) (omega arith) (λ n. true≢false (sym (none_is_done v r n).rests ∙ e)) d

-- what `rest` rests on
pub ruleset resting_facts = (goes_nowhere, goes_by_drain, goes_to_fault, left_less, rests_is_done, rest_still, left_first, rest_left)
