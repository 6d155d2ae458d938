-- Steps that would take a count past the greatest that there is.
use Rattle.std.specs.Prelude.{◌≡◌, Bool, true, false, List, [], ◌∷◌, None, Result, Ok, Err}
use Rattle.sam_mesg.specs.declared.tmesg.Tmesg.{Tmesg}
use Rattle.sam_mesg.specs.declared.hmesg.HFrame.{HFrame}
use Rattle.sam_host.specs.Host.{PlainHost, answer}
use Rattle.sam_host.specs.declared.fault.HostFault.{HostFault}
use Rattle.sam_host.specs.declared.fault.HostFault.TheVariants as host
use Rattle.sam_term.specs.Term.{PlainTerminal, act_of, flush_of, take_of}
pub use Rattle.sam_term.specs.Taking.{is_term_full}
use Rattle.sam_crossing.specs.World.{PlainWorld, step_of}
use Rattle.sam_crossing.specs.declared.event.Event.{Event}
use Rattle.sam_crossing.specs.declared.event.Event.TheVariants.{User, Add, Mark, Act, Flush, HostTake, TermTake}

-- the host would take more messages than can be counted
abbrev pub is_host_full : {A : Type 0} → Result A HostFault → Bool
is_host_full (Ok x) = false
is_host_full (Err host.NoFile) = false
is_host_full (Err host.NotOpen) = false
is_host_full (Err host.BadPosition) = false
is_host_full (Err host.TooLong) = false
is_host_full (Err host.BadVersion) = false
is_host_full (Err host.CountFull) = true
is_host_full (Err host.OutOfMemory) = false
is_host_full (Err host.CommandFile) = false

-- the host would pass its count by the first of these messages
abbrev pub passes_at : PlainHost → List Tmesg → Bool
passes_at h [] = false
passes_at h (m ∷ ms) = is_host_full (answer h m)

-- the terminal would pass its count by what it composes for the first of these frames
abbrev pub composes_past : PlainTerminal → List HFrame → Bool
composes_past t [] = false
composes_past t (frame ∷ frames) = is_term_full (take_of t frame)

-- the event would take a count past 2^64-1
abbrev pub passes_count : PlainWorld → Event → Bool
passes_count w (User e) = false
passes_count w (Add name text) = false
passes_count w (Mark f) = false
passes_count w Act = is_term_full (act_of w.term)
passes_count w Flush = is_term_full (flush_of w.term)
passes_count w HostTake = passes_at w.host w.up
passes_count w TermTake = composes_past w.term w.down

-- such an event is no step
abbrev pub FullCountsStop : Type 0
FullCountsStop = (w : PlainWorld) (e : Event) → passes_count w e ≡ true → step_of w e ≡ None
