-- Events leave the held ones only as they are done or refused, one at a time; frames and flushes leave them all.
use Rattle.sam_endpoint.proofs.Common.{◌≡◌, refl, ap, ◌∙◌, ℕ, ◌+◌, Bool, List, [], ◌∷◌, length, Option, Some, None, Ok, if◌then◌else◌, arith, Tmesg, HFrame, PlainTerminal, Made, act_of, act_on, decided, if_countable, flush_of, flushed, take_of, event_outcome, frame_outcome, all_composed, composed, sends, sends_all, sends_if, requested, wanted, all_wanted, unchanged, made_by_type, made_by_cut, made_by_paste, made_by_snarf, made_by_view, made_by_load, made_by_edit, replaced, edit_messages, took_bindname, took_data, took_grow, took_growdata, took_cut, took_unlockfile, took_close, took_exit, Verdict, Acted, Done, UserEvent, acted_in, term_in, IsDecided}
use Rattle.std.specs.Prelude.{◌==◌, ◌&&◌}
use Rattle.sam_runes.specs.Texts.{is_empty}
use Rattle.sam_mesg.specs.declared.tmesg.Tmesg.TheVariants.{Tack}
use Rattle.sam_mesg.specs.declared.hmesg.Hmesg.{Hmesg}
use Rattle.sam_mesg.specs.declared.hmesg.Hmesg.TheVariants.{Hcheck, Hunlockfile, Hack}
use Rattle.sam_term.proofs.Edits.{held-composed, flushed-held}
use Rattle.sam_term.specs.Editing.{shown_from}
use Rattle.sam_term.specs.declared.event.UserEvent.TheVariants.{Load, Edit}

-- the events that are held after messages were composed
abbrev held_in : Made → List UserEvent
held_in made = made.0.held

all-held : (t : PlainTerminal) (ms : List Tmesg) → (all_composed t ms).held ≡ t.held
all-held t [] = refl
all-held t (m ∷ ms) = all-held (composed t m) ms ∙ ap (λ u. u.held) (held-composed t m t.held)

sends-keeps : (t : PlainTerminal) (change : PlainTerminal → PlainTerminal) (ms : List Tmesg) → ((u : PlainTerminal) → (change u).held ≡ u.held) → held_in (sends t change ms) ≡ t.held
sends-keeps t change ms same = all-held (change (flushed t).0) ms ∙ same (flushed t).0 ∙ flushed-held t

sends-plain : (t : PlainTerminal) (ms : List Tmesg) → held_in (sends t unchanged ms) ≡ t.held
sends-plain t ms = sends-keeps t unchanged ms (λ u. refl)

either-keeps : (b : Bool) (x y : Made) (h : List UserEvent) → held_in x ≡ h → held_in y ≡ h → held_in (if b then x else y) ≡ h
either-keeps b x y h e u = grind arith

requested-keeps : (t : PlainTerminal) (f : ℕ) → held_in (requested t f) ≡ t.held
unfolding requested
requested-keeps t f = go (wanted t f)
  where
    go : (o : Option Tmesg) → held_in (sends_if o t) ≡ t.held
    go None = refl
    go (Some m) = sends-keeps t (λ u. u) (m ∷ []) (λ u. refl)

all-keeps : (ms : List Tmesg) (t : PlainTerminal) → held_in (sends_all ms t) ≡ t.held
all-keeps [] t = refl
all-keeps (m ∷ ms) t = sends-plain t (m ∷ ms)

type-keeps : (t : PlainTerminal) (f : ℕ) (s : List ℕ) → held_in (made_by_type t f s) ≡ t.held
unfolding made_by_type
type-keeps t f s = grind (arith, flushed-held)

-- what leaves the held events
record Leaves (t : PlainTerminal) (made : Made) : Type 0 where
  held : held_in made ≡ t.held

leaves-plain : (t : PlainTerminal) (ms : List Tmesg) → Leaves t (sends t unchanged ms)
leaves-plain t ms = record { held = sends-plain t ms }

pub event_keeps : (t : PlainTerminal) (e : UserEvent) → held_in (event_outcome t e) ≡ t.held
unfolding made_by_cut made_by_paste made_by_snarf made_by_view made_by_load made_by_edit
event_keeps t (Load f p n) = all-keeps (all_wanted (shown_from t f p n) f) (shown_from t f p n)
event_keeps t (Edit f p q s) =
    either-keeps (p == q && is_empty s) (t, []) (sends t (λ u. replaced u f p q s) (edit_messages f p q s)) t.held refl
    (sends-keeps t (λ u. replaced u f p q s) (edit_messages f p q s) (λ u. refl))
event_keeps t e = grind (arith, type-keeps, sends-plain, either-keeps, requested-keeps, flushed-held, leaves-plain)

pub frame_keeps : (t : PlainTerminal) (m : Hmesg) → held_in (frame_outcome t m) ≡ t.held
unfolding took_bindname took_data took_grow took_growdata took_cut took_unlockfile took_close took_exit
frame_keeps t (Hcheck f) = requested-keeps t f
frame_keeps t (Hunlockfile f) = requested-keeps (took_unlockfile t f) f
frame_keeps t Hack = either-keeps t.has_exited (t, []) (sends t unchanged (Tack ∷ [])) t.held refl (sends-plain t (Tack ∷ []))
frame_keeps t _ = refl

pub counted : (n : ℕ) (made : Made) (u : PlainTerminal) (ms : List Tmesg) → if_countable n made ≡ Ok (u, ms) → u ≡ made.0
counted n made u ms e = grind arith

pub flush_held : (t u : PlainTerminal) (ms : List Tmesg) → flush_of t ≡ Ok (u, ms) → u.held ≡ t.held
unfolding flush_of
flush_held t u ms e = ap (λ v. v.held) (counted (flushed t).0.sent (flushed t) u ms e) ∙ flushed-held t

pub take_held : (t u : PlainTerminal) (frame : HFrame) (ms : List Tmesg) → take_of t frame ≡ Ok (u, ms) → u.held ≡ t.held
unfolding take_of
take_held t u frame ms e = grind (arith, frame_keeps)

-- the terminal of an act that could be counted
pub done-term : (n : ℕ) (t u : PlainTerminal) (ms : List Tmesg) (acted : Acted) → if_countable {A = PlainTerminal × Acted} n (t, Done ms) ≡ Ok (u, acted) → u ≡ t
unfolding term_in
done-term n t u ms acted e = grind arith

-- an event that is done or refused is held no longer
pub act_held : (t u : PlainTerminal) (acted : Acted) → act_of t ≡ Ok (u, acted) → IsDecided acted → length u.held + 1 ≡ length t.held
unfolding act_of acted_in term_in
act_held t u acted e s = go t.held e
  where
    decides : (x : UserEvent) (es : List UserEvent) (o : Option Verdict) → decided o t es (event_outcome (record t { held = es }) x) ≡ Ok (u, acted) → u.held ≡ es
    decides x es None q =
        let made : Made = event_outcome (record t { held = es }) x in
        ap (λ v. v.held) (done-term made.0.sent made.0 u made.1 acted q) ∙ event_keeps (record t { held = es }) x
    decides x es o e = grind (arith, acted_in, term_in)

    go : (es : List UserEvent) → act_on t es ≡ Ok (u, acted) → length u.held + 1 ≡ length es
    go es e = grind (arith, acted_in, decides)
