-- What the events do that change a rasp, a dot or a view, or send runes.
use Rattle.sam_term.proofs.FileSteps.{file_puts}
use Rattle.sam_term.proofs.Common.{◌≡◌, refl, ap, ◌∙◌, ℕ, ◌≤◌, ◌<◌, ◌+◌, Bool, true, List, [], ◌∷◌, ◌++◌, length, drop, Some, None, Ok, arith, ◌||◌, most_count, PlainTerminal, Made, event_outcome, window_at, composed, all_composed, flushed, unsent_message, sends, unchanged, made_by_view, wanted, cuts_dot, cut_rasp, moved_unsent, done, countable, IsFailure, first_event, free_first, made_first, Acted, Done, TermFault, UserEvent, Select, View, Tmesg, Tcut, place_after_del, append_assoc, ◌⊎◌, shown_from, made_by_cut, made_by_load, made_by_paste, made_by_snarf, made_by_type, requested, flush_of}
use Rattle.sam_term.specs.declared.fault.TermFault.TheVariants as fault
use Rattle.sam_term.proofs.Acts.{made_of, opened_by, passes, test_at}
use Rattle.sam_term.proofs.Composes.{flushed-files, flushed-sent}
use Rattle.sam_term.proofs.CountLaws.{counts-event, sent-composed}
use Rattle.sam_term.proofs.Requests.{requested_some}

-- ## An event that is done

-- the terminal without its oldest event
abbrev pub later : PlainTerminal → PlainTerminal
later t = record t { held = drop 1 t.held }

-- ## What stands against the oldest event

pub selects_within : (t : PlainTerminal) (f p q : ℕ) → free_first t ≡ None → first_event t.held ≡ Select f p q → (p ≤ q) × (q ≤ length (window_at t f).rasp)
unfolding test_at
selects_within t f p q n s = grind (arith, (passes t (Select f p q) 7 n s))

-- ## What is composed takes no note of the held events

pub held-composed : (t : PlainTerminal) (m : Tmesg) (es : List UserEvent) → composed (record t { held = es }) m ≡ record (composed t m) { held = es }
held-composed t m es = grind arith

held-all : (t : PlainTerminal) (ms : List Tmesg) (es : List UserEvent) → all_composed (record t { held = es }) ms ≡ record (all_composed t ms) { held = es }
held-all t [] es = refl
held-all t (m ∷ ms) es = ap (λ u. all_composed u ms) (held-composed t m es) ∙ held-all (composed t m) ms es

pub held-flushed : (t : PlainTerminal) (es : List UserEvent) → flushed (record t { held = es }) ≡ (record (flushed t).0 { held = es }, (flushed t).1)
unfolding flushed
held-flushed t es = ap (λ u. (u, unsent_message t.unsent)) (held-all (record t { unsent = None }) (unsent_message t.unsent) es)

pub held-sends : (t : PlainTerminal) (m : Tmesg) (es : List UserEvent) → sends (record t { held = es }) unchanged (m ∷ []) ≡
    (record (sends t unchanged (m ∷ [])).0 { held = es }, (sends t unchanged (m ∷ [])).1)
held-sends t m es = grind (arith, held-flushed)

pub flushed-held : (t : PlainTerminal) → (flushed t).0.held ≡ t.held
flushed-held t = ap (λ (made : Made). made.0.held) (held-flushed t t.held)

pub sends-held : (t : PlainTerminal) (m : Tmesg) → (sends t unchanged (m ∷ [])).0.held ≡ t.held
sends-held t m = ap (λ (made : Made). made.0.held) (held-sends t m t.held)

pub done_later : (t : PlainTerminal) (made : Made) (u v : PlainTerminal) (ms : List Tmesg) → made.0.held ≡ t.held → countable made ≡ Ok (u, ms)
    → v ≡ record u { held = drop 1 u.held } → done (record made.0 { held = drop 1 t.held }, made.1) ≡ Ok (v, Done ms)
unfolding countable done
done_later t made u v ms h e d = grind arith

-- ## What an event makes

pub cuts_none : (t : PlainTerminal) (f : ℕ) (d : ℕ × ℕ) → d ≡ (window_at t f).dot → d.0 ≡ d.1 → cuts_dot t f ≡ (t, [])
cuts_none t f d e h = grind arith

-- a dot that is cut
abbrev pub cut_made : PlainTerminal → ℕ → ℕ × ℕ → Made
cut_made t f d = (composed (cut_rasp (flushed t).0 f d.0 d.1) (Tcut f d.0 d.1), (flushed t).1 ++ Tcut f d.0 d.1 ∷ [])

-- ## No runes are unsent after a flush

pub unsent-all : (t : PlainTerminal) (ms : List Tmesg) → (all_composed t ms).unsent ≡ t.unsent
unsent-all t [] = refl
unsent-all t (m ∷ ms) = grind (arith, (unsent-all (composed t m) ms))

pub unsent-flushed : (t : PlainTerminal) → (flushed t).0.unsent ≡ None
unfolding flushed
unsent-flushed t = unsent-all (record t { unsent = None }) (unsent_message t.unsent)

pub flushed-idle : (t : PlainTerminal) → t.unsent ≡ None → flushed t ≡ (t, [])
unfolding flushed
flushed-idle t e = grind arith

pub flushed-messages : (t : PlainTerminal) → (flushed t).1 ≡ unsent_message t.unsent
unfolding flushed
flushed-messages t = refl

pub cut-unsent : (t : PlainTerminal) (f : ℕ) (d : ℕ × ℕ) → (cut_made t f d).0.unsent ≡ None
cut-unsent t f d = ap (λ o. moved_unsent f (place_after_del d.0 d.1) o) (unsent-flushed t)

-- ## Messages that can't be counted

pub refused_count : (t : PlainTerminal) (why : TermFault) (count : ℕ) → count ≡ length (made_first t).1
    → ((why ≡ fault.OutOfMemory) × (t.sent + count ≤ most_count)) ⊎ ((why ≡ fault.CountFull) × (most_count < t.sent + count)) → IsFailure (done (made_first t)) why
unfolding made_first done
refused_count t why count n h = grind (arith, (counts-event (later t) (first_event t.held)))

pub loud_answer : (t u : PlainTerminal) (e : UserEvent) (made : Made) (a : Acted) (ms : List Tmesg) → first_event t.held ≡ e → event_outcome (later t) e ≡ made
    → u ≡ made.0 → a ≡ Done ms → ms ≡ made.1 → u.sent ≤ most_count → done (made_first t) ≡ Ok (u, a)
unfolding done
loud_answer t u e made a ms first by b d m l = grind (arith, made_of)

-- ## A view

pub views_within : (t : PlainTerminal) (f p n : ℕ) → free_first t ≡ None → first_event t.held ≡ View f p n → p ≤ length (window_at t f).rasp
unfolding test_at
views_within t f p n e s = grind (arith, (passes t (View f p n) 7 e s))

pub made-view : (t : PlainTerminal) (f p n : ℕ) (m : Tmesg) → wanted (shown_from t f p n) f ≡ Some m → event_outcome t (View f p n) ≡ sends (shown_from t f p n) unchanged (m ∷ [])
unfolding made_by_view
made-view t f p n m e = requested_some (shown_from t f p n) f m e

-- ## Runes for the snarf buffer

pub or_right : (x a : Bool) → a ≡ true → (x || a) ≡ true
or_right x a e = grind arith

-- what the events rest on that compose messages
pub ruleset make_facts = (opened_by, flushed-files, flushed-sent, flushed-messages, unsent-flushed, flushed-idle, sent-composed, append_assoc)

-- and what is composed before the oldest event is dropped
pub ruleset held_facts = (held-flushed, flushed-held, held-sends, sends-held)

-- opens what the events make
unfoldable pub makes_opened : ℕ
unfolding done made_first made_by_cut made_by_load made_by_paste made_by_snarf made_by_type made_by_view requested
makes_opened = 0

-- the same, and what is composed of the unsent runes
unfoldable pub made_opened : ℕ
unfolding makes_opened flush_of countable
made_opened = 0

-- what selecting, viewing and pasting rest on
pub ruleset select_facts = (make_facts, selects_within)

pub ruleset view_facts = (make_facts, views_within)

pub ruleset paste_facts = (make_facts, file_puts)
