-- The unsent runes go first.
use Rattle.std.specs.Prelude.{◌≡◌, ℕ, List, [], ◌∷◌, ◌++◌, Option, Some, None}
use Rattle.sam_mesg.specs.declared.tmesg.Tmesg.{Tmesg}
use Rattle.sam_mesg.specs.declared.tmesg.Tmesg.TheVariants.{Ttype}
use Rattle.sam_mesg.specs.declared.hmesg.Hmesg.{Hmesg}
use Rattle.sam_term.specs.declared.event.UserEvent.{UserEvent}
use Rattle.sam_term.specs.declared.records.Unsent.{Unsent}
use Rattle.sam_term.specs.Term.{PlainTerminal, event_outcome, frame_outcome}

-- where anything is composed, the unsent runes are composed first, in their place of their file, perhaps with runes that were typed
-- after them
abbrev pub SendsFirst : Option Unsent → List Tmesg → Type 0
SendsFirst None messages = Unit {0}
SendsFirst (Some u) [] = Unit {0}
SendsFirst (Some u) (m ∷ messages) = (typed : List ℕ) × (m ≡ Ttype u.file u.place (u.runes ++ typed))

abbrev pub EventsSendFirst : Type 0
EventsSendFirst = (t : PlainTerminal) (e : UserEvent) → SendsFirst t.unsent (event_outcome t e).1

abbrev pub FramesSendFirst : Type 0
FramesSendFirst = (t : PlainTerminal) (m : Hmesg) → SendsFirst t.unsent (frame_outcome t m).1
