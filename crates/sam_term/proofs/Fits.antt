-- What a terminal composes fits in its version, and so in version 2.
use Rattle.sam_term.proofs.Common.{◌≡◌, sym, ap, subst, ℕ, Bool, true, ◌&&◌, List, [], ◌∷◌, Option, None, Result, Ok, Err, arith, first_of_checks, IsSound, all_fit, FitsLast, AllFit, composed_in, PlainTerminal, Made, act_of, act_on, decided, if_countable, event_checks, flush_of, flushed, take_of, event_outcome, frame_outcome, Verdict, Acted, Done, TermFault, UserEvent, Tmesg, HFrame}
use Rattle.std.proofs.lemmas.List.Elements.{All-nil, All-cons}
use Rattle.sam_term.proofs.ActLaws.{acted_in, not_done}
use Rattle.sam_term.proofs.FitLaws.{event_fits, flush_fits, frame_fits}
use Rattle.sam_mesg.specs.TerminalKinds.{fits_t}
use Rattle.sam_mesg.proofs.Versions.{grows_t}

both : (a b : Bool) → (a && b) ≡ true → (a ≡ true) × (b ≡ true)
both a b e = grind arith

all-later : (v : ℕ) (ms : List Tmesg) → all_fit v ms ≡ true → AllFit ms
all-later v [] e = All-nil FitsLast
all-later v (m ∷ ms) e = let parts = both (fits_t v m) (all_fit v ms) e in All-cons FitsLast m ms (grows_t v m parts.0) (all-later v ms parts.1)

-- messages of a terminal that fit in its version
fitting : (v : ℕ) (ms ns : List Tmesg) → ms ≡ ns → all_fit v ns ≡ true → AllFit ms
fitting v ms ns same e = subst (λ x. AllFit x) (sym same) (all-later v ns e)

pub act_fits : (t u : PlainTerminal) (ms : List Tmesg) → IsSound t → act_of t ≡ Ok (u, Done ms) → AllFit ms
unfolding act_of acted_in
act_fits t u ms s a = go t.held a
  where
    decides : (x : UserEvent) (es : List UserEvent) (o : Option Verdict) → first_of_checks (event_checks t x) ≡ o → decided o t es (event_outcome (record t { held = es }) x) ≡ Ok (u, Done ms)
        → AllFit ms
    decides x es None n q =
        let made : Made = event_outcome (record t { held = es }) x in
        let same : Done ms ≡ Done made.1 = not_done made.0.sent made.0 u made.1 (Done ms) q in
        let sound : IsSound (record t { held = es }) = record { countable = s.countable; windows = s.windows; unsent = s.unsent; short = s.short } in
        fitting t.version ms made.1 (ap composed_in same) (event_fits (record t { held = es }) x sound n)
    decides x es o e w = grind (arith, acted_in)

    go : (es : List UserEvent) → act_on t es ≡ Ok (u, Done ms) → AllFit ms
    go es e = grind (arith, acted_in, decides)

messages_in : Result Made TermFault → List Tmesg
messages_in (Ok made) = made.1
messages_in (Err why) = []

counted_in : (n : ℕ) (made : Made) (u : PlainTerminal) (ms : List Tmesg) → if_countable n made ≡ Ok (u, ms) → ms ≡ made.1
unfolding messages_in
counted_in n made u ms e = grind arith

pub flushed_fits : (t u : PlainTerminal) (ms : List Tmesg) → IsSound t → flush_of t ≡ Ok (u, ms) → AllFit ms
unfolding flush_of
flushed_fits t u ms s a = fitting t.version ms (flushed t).1 (counted_in (flushed t).0.sent (flushed t) u ms a) (flush_fits t s)

pub taken_fits : (t u : PlainTerminal) (frame : HFrame) (ms : List Tmesg) → IsSound t → take_of t frame ≡ Ok (u, ms) → AllFit ms
unfolding take_of
taken_fits t u frame ms s a = grind (arith, (fitting t.version ms (frame_outcome t frame.msg).1), (frame_fits t frame.msg s))

-- what an act answers fits, whatever became of the event
pub acted_fit : (t u : PlainTerminal) (acted : Acted) → IsSound t → act_of t ≡ Ok (u, acted) → AllFit (composed_in acted)
acted_fit t u acted e w = grind (arith, All-nil, act_fits)
