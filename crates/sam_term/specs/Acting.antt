-- What the oldest held event does, and which events change nothing but by the one message that they compose.
use Rattle.std.specs.Prelude.{List, [], ◌∷◌, drop, Option, Some, None, Bool, true, false}
use Rattle.sam_runes.specs.Checks.{first_of_checks}
use Rattle.sam_term.specs.Term.{PlainTerminal, Made, event_outcome, event_checks}
use Rattle.sam_term.specs.Events.{message_of}
use Rattle.sam_term.specs.declared.event.UserEvent.{UserEvent}
use Rattle.sam_term.specs.declared.event.UserEvent.TheVariants.{Typed, Select, Cut, Paste, Snarf, Look, Search, Send, Dclick, Scroll, View, Load, Edit, Open, Close, Write, Work, OpenCmd, New, Exit, Check, GetSnarf, SetSnarf, Version, Flush}
use Rattle.sam_term.specs.declared.event.Verdict.{Verdict}
use Rattle.sam_term.specs.declared.event.Deed.{Deed}
use Rattle.sam_term.specs.declared.event.Deed.TheVariants.{Sends, Types, Selects, Cuts, Pastes, Snarfs, Views, Loads, Edits, SetsSnarf, Flushes}
use Rattle.sam_mesg.specs.declared.tmesg.Tmesg.{Tmesg}

-- the oldest event; where none is held, one that does nothing
abbrev pub first_event : List UserEvent → UserEvent
first_event [] = Flush
first_event (e ∷ es) = e

-- what stands against the oldest event
unfoldable pub free_first : PlainTerminal → Option Verdict
free_first t = first_of_checks (event_checks t (first_event t.held))

-- what the oldest event does, which is held no longer
unfoldable pub made_first : PlainTerminal → Made
made_first t = event_outcome (record t { held = drop 1 t.held }) (first_event t.held)

abbrev pub is_typing : UserEvent → Bool
is_typing (Typed f s) = true
is_typing (Select f p q) = false
is_typing (Cut f) = false
is_typing (Paste f) = false
is_typing (Snarf f) = false
is_typing (Look f) = false
is_typing (Search f) = false
is_typing (Send f) = false
is_typing (Dclick f p) = false
is_typing (Scroll f n) = false
is_typing (View f p n) = false
is_typing (Load f p n) = false
is_typing (Edit f p q s) = false
is_typing (Open f) = false
is_typing (Close f) = false
is_typing (Write f) = false
is_typing (Work f) = false
is_typing OpenCmd = false
is_typing New = false
is_typing Exit = false
is_typing (Check f) = false
is_typing GetSnarf = false
is_typing (SetSnarf s) = false
is_typing (Version v) = false
is_typing Flush = false

abbrev pub is_editing : UserEvent → Bool
is_editing (Edit f p q s) = true
is_editing (Typed f s) = false
is_editing (Select f p q) = false
is_editing (Cut f) = false
is_editing (Paste f) = false
is_editing (Snarf f) = false
is_editing (Look f) = false
is_editing (Search f) = false
is_editing (Send f) = false
is_editing (Dclick f p) = false
is_editing (Scroll f n) = false
is_editing (View f p n) = false
is_editing (Load f p n) = false
is_editing (Open f) = false
is_editing (Close f) = false
is_editing (Write f) = false
is_editing (Work f) = false
is_editing OpenCmd = false
is_editing New = false
is_editing Exit = false
is_editing (Check f) = false
is_editing GetSnarf = false
is_editing (SetSnarf s) = false
is_editing (Version v) = false
is_editing Flush = false

abbrev pub is_snarfing : UserEvent → Bool
is_snarfing (SetSnarf s) = true
is_snarfing (Typed f s) = false
is_snarfing (Select f p q) = false
is_snarfing (Cut f) = false
is_snarfing (Paste f) = false
is_snarfing (Snarf f) = false
is_snarfing (Look f) = false
is_snarfing (Search f) = false
is_snarfing (Send f) = false
is_snarfing (Dclick f p) = false
is_snarfing (Scroll f n) = false
is_snarfing (View f p n) = false
is_snarfing (Load f p n) = false
is_snarfing (Edit f p q s) = false
is_snarfing (Open f) = false
is_snarfing (Close f) = false
is_snarfing (Write f) = false
is_snarfing (Work f) = false
is_snarfing OpenCmd = false
is_snarfing New = false
is_snarfing Exit = false
is_snarfing (Check f) = false
is_snarfing GetSnarf = false
is_snarfing (Version v) = false
is_snarfing Flush = false

-- what the code has to do for an event, by the message that is all that it composes
abbrev pub deed_by : Option Tmesg → UserEvent → Deed
deed_by (Some m) e = Sends m
deed_by None (Typed f s) = Types
deed_by None (Select f p q) = Selects f p q
deed_by None (Cut f) = Cuts f
deed_by None (Paste f) = Pastes f
deed_by None (Snarf f) = Snarfs f
deed_by None (View f p n) = Views f p n
deed_by None (Load f p n) = Loads f p n
deed_by None (Edit f p q s) = Edits
deed_by None (SetSnarf s) = SetsSnarf
deed_by None Flush = Flushes
-- the others have a message
deed_by None (Look f) = Flushes
deed_by None (Search f) = Flushes
deed_by None (Send f) = Flushes
deed_by None (Dclick f p) = Flushes
deed_by None (Scroll f n) = Flushes
deed_by None (Open f) = Flushes
deed_by None (Close f) = Flushes
deed_by None (Write f) = Flushes
deed_by None (Work f) = Flushes
deed_by None OpenCmd = Flushes
deed_by None New = Flushes
deed_by None Exit = Flushes
deed_by None (Check f) = Flushes
deed_by None GetSnarf = Flushes
deed_by None (Version v) = Flushes

abbrev pub deed_of : PlainTerminal → UserEvent → Deed
deed_of t e = deed_by (message_of t.files e) e
