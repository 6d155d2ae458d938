-- A view that was set by a View or a Load, with only events after it that look, has no gap once the session has come to rest.
use Rattle.std.specs.Prelude.{◌≡◌, ℕ, Bool, true, false, List, [], ◌∷◌, Some, None}
use Rattle.sam_runes.specs.Checks.{first_of_checks}
use Rattle.sam_rasp.specs.Rasp.{hole_within}
use Rattle.sam_term.specs.Term.{PlainTerminal, window_at, view_end, event_checks}
use Rattle.sam_term.specs.declared.event.UserEvent.{UserEvent}
use Rattle.sam_term.specs.declared.event.UserEvent.TheVariants.{Check, Close, Cut, Dclick, Edit, Exit, Flush, GetSnarf, Load, Look, New, Open, OpenCmd, Paste, Scroll, Search, Select, Send, SetSnarf, Snarf, Typed, Version, View, Work, Write}
use Rattle.sam_crossing.specs.World.{PlainWorld, step_of}
use Rattle.sam_crossing.specs.World.{WasReached}
use Rattle.sam_crossing.specs.declared.event.Event.{Event}
use Rattle.sam_crossing.specs.declared.event.Event.TheVariants.{Act}
use Rattle.sam_rest.specs.Rest.{LeadsOn, IsDone}

-- no gap stands in the view of f
abbrev pub IsLoaded : PlainTerminal → ℕ → Type 0
IsLoaded t f = let w = window_at t f in hole_within w.rasp w.view_start (view_end w) ≡ None

-- the event shows f: a View, which asks for the first gap of its view, or a Load, which asks for all at once
abbrev pub Shows : UserEvent → ℕ → Type 0
Shows (View g p n) f = g ≡ f
Shows (Load g p n) f = g ≡ f
Shows (Typed g s) f = ⊥
Shows (Select g p q) f = ⊥
Shows (Cut g) f = ⊥
Shows (Paste g) f = ⊥
Shows (Snarf g) f = ⊥
Shows (Look g) f = ⊥
Shows (Search g) f = ⊥
Shows (Send g) f = ⊥
Shows (Dclick g p) f = ⊥
Shows (Scroll g n) f = ⊥
Shows (Edit g p q s) f = ⊥
Shows (Open g) f = ⊥
Shows (Close g) f = ⊥
Shows (Write g) f = ⊥
Shows (Work g) f = ⊥
Shows OpenCmd f = ⊥
Shows New f = ⊥
Shows Exit f = ⊥
Shows (Check g) f = ⊥
Shows GetSnarf f = ⊥
Shows (SetSnarf s) f = ⊥
Shows (Version v) f = ⊥
Shows Flush f = ⊥

-- the event is a View, a Load, a Select or a Flush: it composes no edit that was not typed before, and sets no view but its own
abbrev pub only_looks : UserEvent → Bool
only_looks (View f p n) = true
only_looks (Load f p n) = true
only_looks (Select f p q) = true
only_looks Flush = true
only_looks (Typed f s) = false
only_looks (Cut f) = false
only_looks (Paste f) = false
only_looks (Snarf f) = false
only_looks (Look f) = false
only_looks (Search f) = false
only_looks (Send f) = false
only_looks (Dclick f p) = false
only_looks (Scroll f n) = false
only_looks (Edit f p q s) = false
only_looks (Open f) = false
only_looks (Close f) = false
only_looks (Write f) = false
only_looks (Work f) = false
only_looks OpenCmd = false
only_looks New = false
only_looks Exit = false
only_looks (Check f) = false
only_looks GetSnarf = false
only_looks (SetSnarf s) = false
only_looks (Version v) = false

abbrev pub OnlyLook : List UserEvent → Type 0
OnlyLook [] = Unit {0}
OnlyLook (e ∷ es) = (only_looks e ≡ true) × OnlyLook es

-- Where an event that shows f is held, those held after it only look, and nothing stands against it, it acts. Wherever all is done after
-- that, with no further event of the user, no gap stands in the view of f
abbrev pub ViewsAreLoaded : Type 0
ViewsAreLoaded =
    (w next v : PlainWorld) (f : ℕ) (e : UserEvent) (later : List UserEvent) (es : List Event) → Shows e f → OnlyLook later → WasReached w
    → w.term.held ≡ e ∷ later → first_of_checks (event_checks w.term e) ≡ None → step_of w Act ≡ Some next → LeadsOn next es v → IsDone v
    → IsLoaded v.term f
