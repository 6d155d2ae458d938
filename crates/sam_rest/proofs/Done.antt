-- Where nothing applies, all is done; and where all is done, nothing applies.
use Rattle.std.proofs.Common.{true≢false}
use Rattle.sam_rest.proofs.Common.{◌≡◌, ℕ, Bool, true, false, not, List, [], ◌∷◌, ◌++◌, length, is_some, Option, Some, None, Result, Ok, Err, ◌⊎◌, inl, inr, refl, sym, ap, ◌∙◌, subst, arith, is_empty, PlainHost, answer, HostFault, PlainTerminal, Made, act_on, decided, event_outcome, first_of_checks, event_checks, window_at, Verdict, Acted, Done, TermFault, UserEvent, Tmesg, HFrame, PlainWorld, step_of, after_act, after_answer, after_compose, host_takes, term_takes, composed_by, mesgs, IsInOrder, WasReached}
use Rattle.std.specs.Prelude.{◌&&◌}
unfoldable use Rattle.sam_rest.proofs.Common.{act_of, flush_of, flushed, take_of}
use Rattle.sam_term.specs.Term.{is_any_locked, is_file_locked}
use Rattle.sam_term.specs.Events.{file_of}
use Rattle.sam_term.specs.declared.records.Unsent.{Unsent}
use Rattle.sam_term.specs.declared.event.Verdict.TheVariants.{Waits, Refuses}
use Rattle.sam_term.specs.declared.fault.TermFault.TheVariants as term
use Rattle.std.proofs.Common.{if◌then◌else◌, nat_lt}
use Rattle.sam_runes.specs.Texts.{most_count}
use Rattle.sam_crossing.specs.World.{is_quiet, SidesAgree}
use Rattle.sam_world.specs.Drain.{acts, next_event}
use Rattle.sam_world.specs.Counts.{is_term_full, is_host_full, passes_at, composes_past, passes_count}
use Rattle.sam_crossing.specs.declared.event.Event.{Event}
use Rattle.sam_crossing.specs.declared.event.Event.TheVariants.{User, Add, Mark, Act, Flush, HostTake, TermTake}
use Rattle.sam_crossing.proofs.OrderLaws.{host_never_refuses, terminal_never_refuses, refused_act, refused_flush, quiet_means_agreement}
use Rattle.sam_crossing.proofs.RunLaws.{counted-result}
use Rattle.sam_crossing.proofs.Passing.{none_locked}
use Rattle.sam_crossing.proofs.Views.{unsent-flushed}
use Rattle.sam_local.specs.Worlds.{is_at_rest}
use Rattle.sam_local.proofs.Held.{event-held}
use Rattle.sam_rest.specs.Rest.{is_from_outside, IsStuck, IsDone, StuckIsDone, DoneIsStuck}
use Rattle.sam_rest.proofs.Taking.{Idles, Acts, act-takes, flush-takes}
use Rattle.sam_rest.proofs.Actions.{AwaitsAll}
use Rattle.sam_rest.proofs.Kept.{coming_to}
use Rattle.sam_rest.proofs.Ends.{IsKept, kept-of, nothing-flushed}

-- ## What applies where something is left

longer : {A : Type 0} (x : A) (xs : List A) → xs ≡ x ∷ xs → ⊥
longer x xs e = let same = ap (λ (l : List _). length l) e in absurd (omega (arith, same))

-- a message is under way to the host
up-applies : (w : PlainWorld) (m : Tmesg) (ms : List Tmesg) → IsInOrder w → passes_count w HostTake ≡ false → w.up ≡ m ∷ ms → IsStuck w → ⊥
up-applies w m ms i room e stuck = by (answer w.host m) refl
  where
    first : is_host_full (answer w.host m) ≡ false
    first = ap (passes_at w.host) (sym e) ∙ room

    by : (a : Result (PlainHost × List HFrame) HostFault) → answer w.host m ≡ a → ⊥
    by (Err why) q = true≢false (ap (λ (x : HostFault). is_host_full {A = PlainHost × List HFrame} (Err x)) (sym (host_never_refuses w m ms why i e q).0) ∙ ap is_host_full (sym q) ∙ first)
    by (Ok x) q =
        stuck HostTake (record w { host = x.0; up = ms; down = w.down ++ x.1 })
        (record {
          own = refl;
          stepped = ap (host_takes w) e ∙ ap (after_answer (record w { up = ms })) q;
          changes = λ same. longer m ms (ap (λ (v : PlainWorld). v.up) same ∙ e);
        })

-- a frame is under way to the terminal
down-applies : (w : PlainWorld) (frame : HFrame) (frames : List HFrame) → IsInOrder w → passes_count w TermTake ≡ false → w.down ≡ frame ∷ frames → IsStuck w → ⊥
down-applies w frame frames i room e stuck = by (take_of w.term frame) refl
  where
    first : is_term_full (take_of w.term frame) ≡ false
    first = ap (composes_past w.term) (sym e) ∙ room

    by : (a : Result Made TermFault) → take_of w.term frame ≡ a → ⊥
    by (Err why) q = true≢false (ap (λ (x : TermFault). is_term_full {A = Made} (Err x)) (sym (terminal_never_refuses w frame frames why i e q)) ∙ ap is_term_full (sym q) ∙ first)
    by (Ok x) q =
        stuck TermTake (record w { term = x.0; up = w.up ++ x.1; down = frames })
        (record {
          own = refl;
          stepped = ap (term_takes w) e ∙ ap (after_compose (record w { down = frames })) q;
          changes = λ same. longer frame frames (ap (λ (v : PlainWorld). v.down) same ∙ e);
        })

flush-leaves : (t : PlainTerminal) (x : Made) → flush_of t ≡ Ok x → x.0.unsent ≡ None
unfolding flush_of
flush-leaves t x q = ap (λ (y : Made). y.0.unsent) (sym (counted-result (flushed t).0.sent (flushed t) x q)) ∙ unsent-flushed t

-- runes are unsent
unsent-applies : (w : PlainWorld) (u : Unsent) → passes_count w Flush ≡ false → w.term.unsent ≡ Some u → IsStuck w → ⊥
unsent-applies w u room e stuck = by (flush_of w.term) refl
  where
    by : (a : Result Made TermFault) → flush_of w.term ≡ a → ⊥
    by (Err why) q = true≢false (ap (λ (x : TermFault). is_term_full {A = Made} (Err x)) (sym (refused_flush w.term why q)) ∙ ap is_term_full (sym q) ∙ room)
    by (Ok x) q =
        stuck Flush (record w { term = x.0; up = w.up ++ x.1 })
        (record {
          own = refl;
          stepped = ap (after_compose w) q;
          changes = λ same. some-none (sym (flush-leaves w.term x q) ∙ ap (λ (v : PlainWorld). v.term.unsent) same ∙ e);
        })
      where
        some-none : None ≡ Some u → ⊥
        some-none e = grind arith

-- an event waits only where a lock is held
never-waits : (t : PlainTerminal) (e : UserEvent) → t.command_lock ≡ false → is_any_locked t.files ≡ false → first_of_checks (event_checks t e) ≡ Some Waits → ⊥
never-waits t e free none q = waits (file_of e) refl q
  where
    unlocked : (o : Option ℕ) → is_file_locked t o ≡ false
    unlocked None = refl
    unlocked (Some f) = none_locked t.files f none

    waits : (o : Option ℕ) → file_of e ≡ o → first_of_checks (event_checks t e) ≡ Some Waits → ⊥
    waits o same q = grind (arith, (unlocked (file_of e)))

-- an event is held, and no lock is
held-applies : (w : PlainWorld) (e : UserEvent) (es : List UserEvent) → passes_count w Act ≡ false → w.term.command_lock ≡ false → is_any_locked w.term.files ≡ false → w.term.held ≡ e ∷ es
    → IsStuck w → ⊥
unfolding act_of
held-applies w e es room free none held stuck = by (act_of w.term) refl
  where
    t : PlainTerminal
    t = record w.term { held = es }

    made : Made
    made = event_outcome t e

    -- what the act leaves holds one event less
    shorter : (x : PlainTerminal × Acted) → act_on w.term (e ∷ es) ≡ Ok x → x.0.held ≡ es
    shorter x q = verdict (first_of_checks (event_checks w.term e)) refl q
      where
        verdict : (v : Option Verdict) → first_of_checks (event_checks w.term e) ≡ v → decided v w.term es made ≡ Ok x → x.0.held ≡ es
        verdict (Some Waits) z y = absurd (never-waits w.term e free none z)
        verdict (Some (Refuses r)) z y = grind arith
        verdict None z y = ap (λ (p : PlainTerminal × Acted). p.0.held) (sym (counted-result made.0.sent (made.0, Done made.1) x y)) ∙ event-held t e

    by : (a : Result (PlainTerminal × Acted) TermFault) → act_of w.term ≡ a → ⊥
    by (Err why) q =
        true≢false (ap (λ (x : TermFault). is_term_full {A = PlainTerminal × Acted} (Err x)) (sym (refused_act w.term why q)) ∙ ap is_term_full (sym q) ∙ room)
    by (Ok x) q =
        stuck Act (record w { term = x.0; up = w.up ++ composed_by x.1 })
        (record {
          own = refl;
          stepped = ap (after_act w) q;
          changes = λ same. longer e es (sym (shorter x (ap (act_on w.term) (sym held) ∙ q)) ∙ ap (λ (v : PlainWorld). v.term.held) same ∙ held);
        })

-- ## At rest

pub record RestParts (w : PlainWorld) : Type 0 where
  pub up : w.up ≡ []
  pub down : w.down ≡ []
  pub unsent : w.term.unsent ≡ None
  pub held : w.term.held ≡ []

pub parts : (w : PlainWorld) → is_at_rest w ≡ true → RestParts w
parts w e = by w.up w.down w.term.unsent w.term.held refl refl refl refl e
  where
    by : (up : List Tmesg) (down : List HFrame) (unsent : Option Unsent) (held : List UserEvent) → w.up ≡ up → w.down ≡ down → w.term.unsent ≡ unsent → w.term.held ≡ held
        → ((not (is_some unsent) && is_empty up && is_empty down) && is_empty held) ≡ true → RestParts w
    by [] [] None [] eu ed en eh x = record { up = eu; down = ed; unsent = en; held = eh }
    by up down unsent held eu ed en eh x = absurd (grind arith)

whole : (w : PlainWorld) → RestParts w → is_at_rest w ≡ true
whole w p = grind (arith, p.up, p.down, p.unsent, p.held)

-- where nothing is unsent or under way, and no event is held that no lock keeps waiting
done-of : (w : PlainWorld) → IsKept w → w.up ≡ [] → w.down ≡ [] → w.term.unsent ≡ None
    → ((e : UserEvent) (es : List UserEvent) → w.term.command_lock ≡ false → is_any_locked w.term.files ≡ false → w.term.held ≡ e ∷ es → ⊥) → IsDone w
done-of w k up down unsent goes = record { rests = whole w (record { up = up; down = down; unsent = unsent; held = held w.term.held refl }); free = agree.0; answered = none }
  where
    quiet : is_quiet w ≡ true
    quiet = grind (arith, up, down, unsent)

    agree : SidesAgree w
    agree = quiet_means_agreement w k.order quiet

    free : (w.term.command_lock ≡ false) × (is_any_locked w.term.files ≡ false)
    free = grind (arith, agree.0)

    held : (es : List UserEvent) → w.term.held ≡ es → w.term.held ≡ []
    held [] e = e
    held (e ∷ es) q = absurd (goes e es free.0 free.1 q)

    none : (f : ℕ) → (window_at w.term f).awaited ≡ 0
    none f = subst (λ (ds : List HFrame). AwaitsAll (window_at w.term f).awaited (coming_to f w.host [] (mesgs ds))) down
        (subst (λ (us : List Tmesg). AwaitsAll (window_at w.term f).awaited (coming_to f w.host us (mesgs w.down))) up (k.awaited f))

pub stuck_is_done : StuckIsDone
stuck_is_done w r room stuck =
    done-of w k (up w.up refl) (down w.down refl) (unsent w.term.unsent refl) (λ e es free none held. held-applies w e es (room Act) free none held stuck)
  where
    k : IsKept w
    k = kept-of w r

    up : (u : List Tmesg) → w.up ≡ u → w.up ≡ []
    up [] e = e
    up (m ∷ ms) e = absurd (up-applies w m ms k.order (room HostTake) e stuck)

    down : (u : List HFrame) → w.down ≡ u → w.down ≡ []
    down [] e = e
    down (frame ∷ frames) e = absurd (down-applies w frame frames k.order (room TermTake) e stuck)

    unsent : (u : Option Unsent) → w.term.unsent ≡ u → w.term.unsent ≡ None
    unsent None e = e
    unsent (Some u) e = absurd (unsent-applies w u (room Flush) e stuck)

-- the rule's tests, none of which holds
record NoneNext (w : PlainWorld) : Type 0 where
  up : w.up ≡ []
  down : w.down ≡ []
  act : acts (act_of w.term) ≡ false
  unsent : w.term.unsent ≡ None

none-next : (w : PlainWorld) → next_event w ≡ None → NoneNext w
none-next w n = by w.up w.down (acts (act_of w.term)) w.term.unsent refl refl refl refl n
  where
    by : (up : List Tmesg) (down : List HFrame) (c : Bool) (unsent : Option Unsent) → w.up ≡ up → w.down ≡ down → acts (act_of w.term) ≡ c → w.term.unsent ≡ unsent
        → (if not (is_empty up) then Some HostTake else if not (is_empty down) then Some TermTake else if c then Some Act else if is_some unsent then Some Flush else None) ≡ None → NoneNext w
    by [] [] false None eu ed ec en x = record { up = eu; down = ed; act = ec; unsent = en }
    by up down c unsent eu ed ec en x = absurd (grind arith)

-- an event that no lock keeps waiting acts
held-acts : (t : PlainTerminal) (e : UserEvent) (es : List UserEvent) → t.command_lock ≡ false → is_any_locked t.files ≡ false → t.held ≡ e ∷ es → acts (act_of t) ≡ true
unfolding act_of
held-acts t e es free none held = ap (λ (l : List UserEvent). acts (act_on t l)) held ∙ by (first_of_checks (event_checks t e)) refl
  where
    made : Made
    made = event_outcome (record t { held = es }) e

    counted : (b : Bool) → acts (if b then Err term.CountFull else Ok (made.0, Done made.1)) ≡ true
    counted true = refl
    counted false = refl

    by : (v : Option Verdict) → first_of_checks (event_checks t e) ≡ v → acts (decided v t es made) ≡ true
    by (Some Waits) q = absurd (never-waits t e free none q)
    by (Some (Refuses r)) q = refl
    by None q = counted (nat_lt most_count made.0.sent)

-- where the rule finds nothing, all is done, whatever the counts are
pub none_is_done : (w : PlainWorld) → WasReached w → next_event w ≡ None → IsDone w
none_is_done w r n =
    let x = none-next w n in
    done-of w (kept-of w r) x.up x.down x.unsent (λ e es free none held. true≢false (sym (held-acts w.term e es free none held) ∙ x.act))

pub done_is_stuck : DoneIsStuck
done_is_stuck w d e next a = by e refl
  where
    p : RestParts w
    p = parts w d.rests

    act : Idles w next ⊎ Acts w next → ⊥
    act (inl idle) = a.changes idle.same
    act (inr acts) = none-first (sym p.held ∙ acts.was)
      where
        none-first : [] ≡ acts.first ∷ acts.rest → ⊥
        none-first e = grind arith

    none-some : None ≡ Some next → ⊥
    none-some e = grind arith

    by : (x : Event) → e ≡ x → ⊥
    by (User x) q = true≢false (ap is_from_outside (sym q) ∙ a.own)
    by (Add name text) q = true≢false (ap is_from_outside (sym q) ∙ a.own)
    by (Mark f) q = true≢false (ap is_from_outside (sym q) ∙ a.own)
    by Act q = act (act-takes w next (ap (step_of w) (sym q) ∙ a.stepped))
    by Flush q = a.changes ((flush-takes w next (ap (step_of w) (sym q) ∙ a.stepped)).is ∙ nothing-flushed w p.unsent)
    by HostTake q = none-some (ap (host_takes w) (sym p.up) ∙ ap (step_of w) (sym q) ∙ a.stepped)
    by TermTake q = none-some (ap (term_takes w) (sym p.down) ∙ ap (step_of w) (sym q) ∙ a.stepped)
