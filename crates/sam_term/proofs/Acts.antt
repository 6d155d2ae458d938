-- The oldest event that is held, and what nothing stands against.
use Rattle.sam_term.proofs.Common.{◌≡◌, sym, ap, ◌∙◌, ℕ, zero, suc, Bool, true, false, List, [], ◌∷◌, drop, Some, None, Ok, arith, slice_get, Checks, first_of_checks, PlainTerminal, act_of, decided, event_checks, event_outcome, is_open, sends, unchanged, needs_open, file_of, lock_of, UserEvent, Select, Cut, Paste, Snarf, View, Load, Flush, done, not_done, deed_of, first_event, free_first, made_first, is_typing, is_snarfing, Idle, Verdict, is_lockable, Tmesg, is_editing}
use Rattle.sam_term.specs.declared.event.Deed.TheVariants.{Sends, Types, Selects, Cuts, Pastes, Snarfs, Views, Loads, Edits, SetsSnarf, Flushes}

-- the oldest event, as it is read
pub first_is : (es : List UserEvent) (e : UserEvent) → slice_get es 0 ≡ Some e → first_event es ≡ e
first_is es e u = grind arith

-- acting, by what stands against the oldest event
pub act_first : (t : PlainTerminal) (e : UserEvent) → slice_get t.held 0 ≡ Some e → act_of t ≡ decided (first_of_checks (event_checks t e)) t (drop 1 t.held)
    (event_outcome (record t { held = drop 1 t.held }) e)
unfolding act_of
act_first t e s = grind arith

pub act_none : (t : PlainTerminal) → slice_get t.held 0 ≡ None → act_of t ≡ Ok (t, Idle)
unfolding act_of
act_none t s = grind arith

-- the test at a place of the list
unfoldable pub test_at : {E : Type 0} → Checks E → ℕ → Bool
test_at [] k = false
test_at (c ∷ cs) zero = c.0
test_at (c ∷ cs) (suc k) = test_at cs k

pub none_holds : {E : Type 0} (cs : Checks E) (k : ℕ) → first_of_checks cs ≡ None → test_at cs k ≡ false
unfolding test_at
none_holds (c ∷ cs) (suc k) e = grind (arith, (none_holds cs k))
none_holds cs k e = grind arith

pub act_refused : (t : PlainTerminal) (e : UserEvent) (v : Verdict) → slice_get t.held 0 ≡ Some e → first_of_checks (event_checks t e) ≡ Some v → act_of t ≡ Ok (not_done v t)
act_refused t e v s n = grind (arith, (act_first t e s))

-- nothing stands against the oldest event
pub free : (t : PlainTerminal) (e : UserEvent) → slice_get t.held 0 ≡ Some e → first_of_checks (event_checks t e) ≡ None → free_first t ≡ None
unfolding free_first
free t e s n = ap (λ x. first_of_checks (event_checks t x)) (first_is t.held e s) ∙ n

-- and it is done
pub act_done : (t : PlainTerminal) (e : UserEvent) → slice_get t.held 0 ≡ Some e → first_of_checks (event_checks t e) ≡ None → done (made_first t) ≡ act_of t
unfolding done made_first
act_done t e s n = grind (arith, (act_first t e s))

-- what the oldest event does, where it is known
pub made_of : (t : PlainTerminal) (e : UserEvent) → first_event t.held ≡ e → made_first t ≡ event_outcome (record t { held = drop 1 t.held }) e
unfolding made_first
made_of t e s = ap (λ x. event_outcome (record t { held = drop 1 t.held }) x) s

-- a check of the oldest event that does not stand against it, by its number
pub passes : (t : PlainTerminal) (e : UserEvent) (k : ℕ) → free_first t ≡ None → first_event t.held ≡ e → test_at (event_checks t e) k ≡ false
unfolding free_first
passes t e k n s = none_holds (event_checks t e) k (ap (λ x. first_of_checks (event_checks t x)) (sym s) ∙ n)

-- an event that needs its file open has it open
pub opened_by : (t : PlainTerminal) (e : UserEvent) (f : ℕ) → free_first t ≡ None → first_event t.held ≡ e → needs_open e ≡ true → file_of e ≡ Some f → is_open t f ≡ true
unfolding test_at
opened_by t e f n s needs names = grind (arith, (passes t e 5 n s))

-- the message of the oldest event may take its lock
pub lockable_first : (t : PlainTerminal) (m : Tmesg) → free_first t ≡ None → Sends m ≡ deed_of t (first_event t.held) → is_lockable t (lock_of m) ≡ true
lockable_first t m n s = grind (arith, opened_by)

pub made_sends : (t : PlainTerminal) (m : Tmesg) → Sends m ≡ deed_of t (first_event t.held) → made_first t ≡ sends (record t { held = drop 1 t.held }) unchanged (m ∷ [])
unfolding made_first
made_sends t m s = grind arith

-- ## The event by what it does

pub types : (t : PlainTerminal) (e : UserEvent) → Types ≡ deed_of t e → is_typing e ≡ true
types t e u = grind arith

pub selects : (t : PlainTerminal) (e : UserEvent) (f p q : ℕ) → Selects f p q ≡ deed_of t e → e ≡ Select f p q
selects t e f p q u = grind arith

pub cuts : (t : PlainTerminal) (e : UserEvent) (f : ℕ) → Cuts f ≡ deed_of t e → e ≡ Cut f
cuts t e f u = grind arith

pub pastes : (t : PlainTerminal) (e : UserEvent) (f : ℕ) → Pastes f ≡ deed_of t e → e ≡ Paste f
pastes t e f u = grind arith

pub snarfs : (t : PlainTerminal) (e : UserEvent) (f : ℕ) → Snarfs f ≡ deed_of t e → e ≡ Snarf f
snarfs t e f u = grind arith

pub views : (t : PlainTerminal) (e : UserEvent) (f p n : ℕ) → Views f p n ≡ deed_of t e → e ≡ View f p n
views t e f p n u = grind arith

pub loads : (t : PlainTerminal) (e : UserEvent) (f p n : ℕ) → Loads f p n ≡ deed_of t e → e ≡ Load f p n
loads t e f p n u = grind arith

pub edits : (t : PlainTerminal) (e : UserEvent) → Edits ≡ deed_of t e → is_editing e ≡ true
edits t e u = grind arith

pub sets_snarf : (t : PlainTerminal) (e : UserEvent) → SetsSnarf ≡ deed_of t e → is_snarfing e ≡ true
sets_snarf t e u = grind arith

pub flushes : (t : PlainTerminal) (e : UserEvent) → Flushes ≡ deed_of t e → e ≡ Flush
flushes t e u = grind arith

-- the event by what it does, and what it sends
pub ruleset deeds = (lockable_first, made_sends, types, selects, cuts, pastes, snarfs, views, loads, edits, sets_snarf, flushes)

-- what is done with the oldest event
pub ruleset acts_on_first = (free, first_is, act_none, act_refused, act_done)
