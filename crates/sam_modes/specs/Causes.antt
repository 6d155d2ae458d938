-- What stops a session, of all its stops.
use Rattle.std.specs.Prelude.{List, [], ◌∷◌, Option, Some, None}
use Rattle.sam_ends.specs.declared.stop.Stop.{Stop}
use Rattle.sam_ends.specs.declared.stop.Stop.TheVariants as stop
use Rattle.sam_modes.specs.declared.fault.PlayFault.{PlayFault}
use Rattle.sam_modes.specs.declared.fault.PlayFault.TheVariants.{Side, Threads, OutOfMemory}

-- what a stop is for the program
abbrev pub of_stop : Stop → PlayFault
of_stop (stop.Frame n) = Side (stop.Frame n)
of_stop (stop.Host n) = Side (stop.Host n)
of_stop (stop.Term n) = Side (stop.Term n)
of_stop stop.PeerGone = Side stop.PeerGone
of_stop stop.Gate = Threads
of_stop stop.Memory = OutOfMemory

-- the first stop that has a cause of its own
abbrev pub first_cause : List Stop → Option Stop
first_cause [] = None
first_cause (stop.PeerGone ∷ stops) = first_cause stops
first_cause (stop.Frame n ∷ stops) = Some (stop.Frame n)
first_cause (stop.Host n ∷ stops) = Some (stop.Host n)
first_cause (stop.Term n ∷ stops) = Some (stop.Term n)
first_cause (stop.Gate ∷ stops) = Some stop.Gate
first_cause (stop.Memory ∷ stops) = Some stop.Memory

-- the other side is gone, where anything stopped
abbrev pub gone : List Stop → Option PlayFault
gone [] = None
gone (why ∷ stops) = Some (Side stop.PeerGone)

abbrev pub of_cause : Option Stop → List Stop → Option PlayFault
of_cause (Some why) stops = Some (of_stop why)
of_cause None stops = gone stops

-- the fault of a session with these stops: that of the first that has a cause of its own, and that the other side is gone where there is
-- no other
abbrev pub of_stops : List Stop → Option PlayFault
of_stops stops = of_cause (first_cause stops) stops
