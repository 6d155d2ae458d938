-- How many messages a call composes, and whether they can be counted.
use Rattle.std.specs.Prelude.{nat_lt}
use Rattle.sam_term.proofs.Common.{◌≡◌, refl, sym, ap, ◌∙◌, ℕ, ◌+◌, ◌<◌, true, false, List, [], ◌∷◌, length, Option, Some, None, arith, nat_eq, eq-eqb, ne_eqb, slice_get, if◌then◌else◌, ◌==◌, ◌&&◌, first_of_checks, length-append, is_empty, most_count, PlainTerminal, Made, event_checks, window_at, is_open, unsent_message, sends, unchanged, wanted, requested, took_unlockfile, all_wanted, shown_from, frame_outcome, act_of, flush_of, first_event, made_first, deed_of, done, countable, UserEvent, Typed, Select, Paste, View, Load, Edit, Tmesg, Hmesg, made_by_type, made_by_paste, made_by_view, Verdict}
use Rattle.sam_mesg.specs.declared.tmesg.Tmesg.TheVariants.{Tsetsnarf}
use Rattle.sam_term.specs.Editing.{edit_range, edit_runes}
use Rattle.sam_term.specs.Acting.{is_editing}
use Rattle.sam_term.specs.Taking.{acts, is_term_full}
use Rattle.sam_term.specs.declared.event.Deed.TheVariants.{Sends, Selects, SetsSnarf, Flushes}
use Rattle.sam_term.specs.declared.event.Verdict.TheVariants.{Waits, Refuses}
use Rattle.sam_term.specs.declared.fault.Refusal.{Refusal}
use Rattle.sam_term.proofs.Acts.{act_done, act_none, act_refused, made_of, made_sends, selects}
use Rattle.sam_term.proofs.CountLaws.{counts-event, counts-frame, counts-flushed}
use Rattle.sam_term.proofs.Edits.{later, flushed-messages, flushed-idle, made-view, cut-unsent}
use Rattle.sam_term.proofs.Requests.{requested_some, requested_none, wanted-unlocked, unsent-unlocked}
use Rattle.sam_term.proofs.Loads.{made_load_none, made_load_some}
use Rattle.sam_term.proofs.Replaces.{edit_count, edit_short, made-edit_none}
use Rattle.sam_term.proofs.Pieces.{pieces-few}

-- ## Whether an act does anything

pub idle_without : (t : PlainTerminal) → slice_get t.held 0 ≡ None → acts (act_of t) ≡ false
idle_without t none = ap acts (act_none t none)

pub waits_idle : (t : PlainTerminal) (e : UserEvent) → slice_get t.held 0 ≡ Some e → first_of_checks (event_checks t e) ≡ Some Waits → acts (act_of t) ≡ false
waits_idle t e s n = ap acts (act_refused t e Waits s n)

pub refuses_acts : (t : PlainTerminal) (e : UserEvent) (why : Refusal) → slice_get t.held 0 ≡ Some e → first_of_checks (event_checks t e) ≡ Some (Refuses why)
    → acts (act_of t) ≡ true
refuses_acts t e why s n = ap acts (act_refused t e (Refuses why) s n)

done_acts : (made : Made) → acts (done made) ≡ true
unfolding done
done_acts made = grind arith

pub free_acts : (t : PlainTerminal) (e : UserEvent) → slice_get t.held 0 ≡ Some e → first_of_checks (event_checks t e) ≡ None → acts (act_of t) ≡ true
free_acts t e s n = ap acts (sym (act_done t e s n)) ∙ done_acts (made_first t)

pub ruleset acting_facts = (idle_without, waits_idle, refuses_acts, free_acts)

-- ## A full count

act_full : (t : PlainTerminal) (n : ℕ) → n ≡ length (made_first t).1 → is_term_full (done (made_first t)) ≡ nat_lt most_count (t.sent + n)
unfolding made_first done
act_full t n count = grind (arith, (counts-event (later t) (first_event t.held)))

pub full_without : (t : PlainTerminal) → slice_get t.held 0 ≡ None → is_term_full (act_of t) ≡ false
full_without t none = ap is_term_full (act_none t none)

pub refused_not_full : (t : PlainTerminal) (e : UserEvent) (v : Verdict) → slice_get t.held 0 ≡ Some e → first_of_checks (event_checks t e) ≡ Some v → is_term_full (act_of t) ≡ false
refused_not_full t e v s n = grind (arith, (act_refused t e v s n))

pub done_full : (t : PlainTerminal) (e : UserEvent) (n : ℕ) → slice_get t.held 0 ≡ Some e → first_of_checks (event_checks t e) ≡ None → n ≡ length (made_first t).1
    → is_term_full (act_of t) ≡ nat_lt most_count (t.sent + n)
done_full t e n s none count = ap is_term_full (sym (act_done t e s none)) ∙ act_full t n count

pub flush_full : (t : PlainTerminal) (n : ℕ) → n ≡ length (unsent_message t.unsent) → is_term_full (flush_of t) ≡ nat_lt most_count (t.sent + n)
unfolding flush_of
flush_full t n count = grind (arith, (counts-flushed t), flushed-messages)

pub frame_full : (t : PlainTerminal) (m : Hmesg) (n : ℕ) → n ≡ length (frame_outcome t m).1 → is_term_full (countable (frame_outcome t m)) ≡ nat_lt most_count (t.sent + n)
unfolding countable
frame_full t m n count = grind (arith, (counts-frame t m))

pub ruleset act_full_facts = (full_without, refused_not_full, done_full)

-- ## What one event composes

pub sends_count : (t u : PlainTerminal) (ms : List Tmesg) → u.unsent ≡ t.unsent → length (sends u unchanged ms).1 ≡ length ms + length (unsent_message t.unsent)
sends_count t u ms same = grind (arith, flushed-messages, length-append)

pub sent_count : (t : PlainTerminal) (m : Tmesg) → Sends m ≡ deed_of t (first_event t.held) → length (made_first t).1 ≡ 1 + length (unsent_message t.unsent)
sent_count t m is = ap (λ (made : Made). length made.1) (made_sends t m is) ∙ sends_count t (later t) (m ∷ []) refl

pub selected_count : (t : PlainTerminal) (f p q : ℕ) → Selects f p q ≡ deed_of t (first_event t.held) → length (made_first t).1 ≡ 0
selected_count t f p q is = ap (λ (made : Made). length made.1) (made_of t (Select f p q) (selects t (first_event t.held) f p q is))

pub snarf_set_count : (t : PlainTerminal) → SetsSnarf ≡ deed_of t (first_event t.held) → length (made_first t).1 ≡ 1 + length (unsent_message t.unsent)
unfolding made_first
snarf_set_count t is = grind (arith, (λ (s : List ℕ). sends_count t (later t) (Tsetsnarf s ∷ []) refl))

pub flushed_count : (t : PlainTerminal) → Flushes ≡ deed_of t (first_event t.held) → length (made_first t).1 ≡ length (unsent_message t.unsent)
unfolding made_first
flushed_count t is = grind (arith, (flushed-messages (later t)))

pub view_count : (t : PlainTerminal) (f p n : ℕ) (m : Tmesg) → first_event t.held ≡ View f p n → wanted (shown_from t f p n) f ≡ Some m
    → length (made_first t).1 ≡ 1 + length (unsent_message t.unsent)
view_count t f p n m first e = grind (arith, (made_of t (View f p n) first), (made-view (later t) f p n m), (sends_count t (shown_from (later t) f p n) (m ∷ []) refl))

pub view_none_count : (t : PlainTerminal) (f p n : ℕ) → first_event t.held ≡ View f p n → wanted (shown_from t f p n) f ≡ None → length (made_first t).1 ≡ 0
unfolding made_by_view
view_none_count t f p n first e = grind (arith, (made_of t (View f p n) first), (requested_none (shown_from (later t) f p n) f))

pub paste_count : (t : PlainTerminal) (f : ℕ) → first_event t.held ≡ Paste f
    → length (made_first t).1 ≡ length (unsent_message t.unsent) + (if (window_at t f).dot.0 == (window_at t f).dot.1 then 1 else 2)
unfolding made_by_paste
paste_count t f first = grind (arith, (made_of t (Paste f) first), (cut-unsent (later t) f (window_at t f).dot), flushed-idle, flushed-messages, length-append)

pub nothing_count : (t : PlainTerminal) (f : ℕ) → first_event t.held ≡ Typed f []
    → length (made_first t).1 ≡ (if (window_at t f).dot.0 == (window_at t f).dot.1 then 0 else 1 + length (unsent_message t.unsent))
unfolding made_by_type
nothing_count t f first = grind (arith, (made_of t (Typed f []) first), flushed-messages, length-append)

pub paste_none_count : (t : PlainTerminal) (f : ℕ) (d : ℕ × ℕ) → first_event t.held ≡ Paste f → d ≡ (window_at t f).dot → d.0 ≡ d.1
    → length (made_first t).1 ≡ 1 + length (unsent_message t.unsent)
paste_none_count t f d first is none = grind (arith, nat_eq, eq-eqb, (paste_count t f first))

pub paste_some_count : (t : PlainTerminal) (f : ℕ) (d : ℕ × ℕ) → first_event t.held ≡ Paste f → d ≡ (window_at t f).dot → (d.0 ≡ d.1 → ⊥)
    → length (made_first t).1 ≡ 2 + length (unsent_message t.unsent)
paste_some_count t f d first is some = grind (arith, nat_eq, ne_eqb, (paste_count t f first))

pub nothing_none_count : (t : PlainTerminal) (f : ℕ) (d : ℕ × ℕ) → first_event t.held ≡ Typed f [] → d ≡ (window_at t f).dot → d.0 ≡ d.1 → length (made_first t).1 ≡ 0
nothing_none_count t f d first is none = grind (arith, nat_eq, eq-eqb, (nothing_count t f first))

pub nothing_some_count : (t : PlainTerminal) (f : ℕ) (d : ℕ × ℕ) → first_event t.held ≡ Typed f [] → d ≡ (window_at t f).dot → (d.0 ≡ d.1 → ⊥)
    → length (made_first t).1 ≡ 1 + length (unsent_message t.unsent)
nothing_some_count t f d first is some = grind (arith, nat_eq, ne_eqb, (nothing_count t f first))

pub load_none_count : (t : PlainTerminal) (f p n : ℕ) → first_event t.held ≡ Load f p n → length (all_wanted (shown_from t f p n) f) ≡ 0 → length (made_first t).1 ≡ 0
load_none_count t f p n first none = ap (λ (made : Made). length made.1) (made_of t (Load f p n) first ∙ made_load_none t f p n none)

pub load_count : (t : PlainTerminal) (f p n : ℕ) → first_event t.held ≡ Load f p n → 0 < length (all_wanted (shown_from t f p n) f)
    → length (made_first t).1 ≡ length (all_wanted (shown_from t f p n) f) + length (unsent_message t.unsent)
load_count t f p n first some =
    ap (λ (made : Made). length made.1) (made_of t (Load f p n) first ∙ made_load_some t f p n some) ∙ sends_count t (shown_from (later t) f p n) (all_wanted (shown_from t f p n) f) refl

pub edit_none_count : (t : PlainTerminal) → is_editing (first_event t.held) ≡ true
    → ((edit_range (first_event t.held)).0 == (edit_range (first_event t.held)).1 && is_empty (edit_runes (first_event t.held))) ≡ true → length (made_first t).1 ≡ 0
edit_none_count t is none = by (first_event t.held) refl is none
  where
    by : (e : UserEvent) → first_event t.held ≡ e → is_editing e ≡ true → ((edit_range e).0 == (edit_range e).1 && is_empty (edit_runes e)) ≡ true → length (made_first t).1 ≡ 0
    by (Edit f p q s) first i n = ap (λ (made : Made). length made.1) (made_of t (Edit f p q s) first ∙ made-edit_none (later t) f p q s n)
    by e first i n = absurd (grind arith)

pub ruleset deed_facts = (made_of, flushed-messages, length-append)

pub ruleset kind_facts = (sent_count, selected_count, snarf_set_count, flushed_count)

pub ruleset view_facts = (view_count, view_none_count)

pub ruleset loaded_facts = (load_none_count, load_count)

pub ruleset edited_facts = (edit_count, edit_short, edit_none_count, pieces-few)

-- ## What one frame composes

pub request_count : (t : PlainTerminal) (f : ℕ) (m : Tmesg) → wanted t f ≡ Some m → length (requested t f).1 ≡ 1 + length (unsent_message t.unsent)
request_count t f m e = grind (arith, (requested_some t f m e), (sends_count t t (m ∷ []) refl))

pub no_request : (t : PlainTerminal) (f : ℕ) → wanted t f ≡ None → length (requested t f).1 ≡ 0
no_request t f e = ap (λ (made : Made). length made.1) (requested_none t f e)

-- freeing a lock of an open file changes no request
pub unlocked_count : (t : PlainTerminal) (f : ℕ) → is_open t f ≡ true → length (requested (took_unlockfile t f) f).1 ≡ length (requested t f).1
unlocked_count t f o = by (wanted t f) refl
  where
    by : (m : Option Tmesg) → wanted t f ≡ m → length (requested (took_unlockfile t f) f).1 ≡ length (requested t f).1
    by None e = no_request (took_unlockfile t f) f (wanted-unlocked t f o ∙ e) ∙ sym (no_request t f e)
    by (Some m) e = request_count (took_unlockfile t f) f m (wanted-unlocked t f o ∙ e) ∙ (ap (λ u. 1 + length (unsent_message u)) (unsent-unlocked t f) ∙ sym (request_count t f m e))

pub ruleset frame_facts = (request_count, no_request, unlocked_count, sends_count)
