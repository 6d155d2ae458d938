-- The events of the user that are no edits, or are of the command file, by their numbers.
use Rattle.std.specs.Prelude.{ℕ, List, [], ◌∷◌, Option}
use Rattle.sam_mesg.specs.Bounds.{entry}
use Rattle.sam_term.specs.declared.event.UserEvent.{UserEvent}
use Rattle.sam_term.specs.declared.event.UserEvent.TheVariants.{Check, Close, Cut, Dclick, Exit, Flush, GetSnarf, Load, Look, New, Open, OpenCmd, Paste, Scroll, Search, Select, Send, SetSnarf, Snarf, Typed, Version, View, Work, Write}
use Rattle.sam_handles.specs.declared.event.SamEvent.{SamEvent}

-- the events in the order of their numbers, from 1 on; the text is that of those which bring one. The last three are of the command file
abbrev pub events : SamEvent → List ℕ → List UserEvent
events x text =
    Select x.tag x.start x.number
    ∷ Dclick x.tag x.start
    ∷ Look x.tag
    ∷ Search x.tag
    ∷ Flush
    ∷ Snarf x.tag
    ∷ GetSnarf
    ∷ SetSnarf text
    ∷ View x.tag x.start x.number
    ∷ Load x.tag x.start x.number
    ∷ Scroll x.tag x.number
    ∷ Check x.tag
    ∷ Open x.tag
    ∷ New
    ∷ Write x.tag
    ∷ Close x.tag
    ∷ OpenCmd
    ∷ Work x.tag
    ∷ Send x.tag
    ∷ Version x.version
    ∷ Exit
    ∷ Typed 0 text
    ∷ Cut 0
    ∷ Paste 0
    ∷ []

abbrev pub event_of : SamEvent → List ℕ → Option UserEvent
event_of x text = entry 1 (events x text) x.kind
