-- Messages that fit in a version.
use Rattle.std.specs.Prelude.{ℕ, Bool, true, ◌&&◌, List, [], ◌∷◌, All, IsTrue}
use Rattle.sam_mesg.specs.TerminalKinds.{fits_t}
use Rattle.sam_mesg.specs.declared.tmesg.Tmesg.{Tmesg}
use Rattle.sam_term.specs.declared.event.Acted.{Acted}
use Rattle.sam_term.specs.declared.event.Acted.TheVariants.{Idle, Locked, Done, Refused}

-- each message fits in the version
abbrev pub all_fit : ℕ → List Tmesg → Bool
all_fit v [] = true
all_fit v (m ∷ ms) = fits_t v m && all_fit v ms

-- the message fits in version 2, as each does that fits in some version
abbrev pub FitsLast : Tmesg → Type 0
FitsLast m = IsTrue (fits_t 2 m)

-- each message fits in version 2, and so can be encoded
abbrev pub AllFit : List Tmesg → Type 0
AllFit ms = All FitsLast ms

-- what an event composed that was tried
abbrev pub composed_in : Acted → List Tmesg
composed_in (Done ms) = ms
composed_in Idle = []
composed_in Locked = []
composed_in (Refused why) = []
