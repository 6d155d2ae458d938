-- The host and the terminal as two sides that hand messages to each other.
use Rattle.std.specs.Prelude.{List, [], ◌∷◌, ◌++◌, Option, Some, None, is_some, if◌then◌else◌, Result, Ok, Err}
use Rattle.sam_mesg.specs.declared.tmesg.Tmesg.{Tmesg}
use Rattle.sam_mesg.specs.declared.hmesg.HFrame.{HFrame}
use Rattle.sam_host.specs.Host.{PlainHost, answer}
use Rattle.sam_term.specs.Term.{PlainTerminal, act_of, flush_of, take_of}
use Rattle.sam_term.specs.declared.fault.TermFault.{TermFault}
use Rattle.sam_term.specs.declared.event.Acted.{Acted}
use Rattle.sam_term.specs.declared.event.Acted.TheVariants.{Idle, Locked, Done, Refused}
use Rattle.sam_sides.specs.Sides.{Steps}

-- the messages that an event composed
abbrev pub composed_by : Acted → List Tmesg
composed_by Idle = []
composed_by Locked = []
composed_by (Done messages) = messages
composed_by (Refused why) = []

-- what was answered or composed, and none at a refusal
abbrev pub unless_refused : {A E : Type 0} → Result A E → Option A
unless_refused (Ok a) = Some a
unless_refused (Err why) = None

abbrev pub acted : Result (PlainTerminal × Acted) TermFault → Option (PlainTerminal × List Tmesg)
acted (Ok p) = Some (p.0, composed_by p.1)
acted (Err why) = None

abbrev pub sides : Steps PlainHost PlainTerminal Tmesg HFrame
sides = record {
  handle = λ h m. unless_refused (answer h m);
  taken = λ h. h.taken;
  user = λ t e. record t { held = t.held ++ e ∷ [] };
  act = λ t. acted (act_of t);
  flush = λ t. unless_refused (flush_of t);
  receive = λ t frame. unless_refused (take_of t frame);
  sent = λ t. t.sent;
  seen = λ frame. frame.seen;
}

-- what was composed where the oldest held event was done or refused. Where there is none, or a lock holds it back, nothing was done
abbrev pub unless_still : PlainTerminal → Acted → Option (PlainTerminal × List Tmesg)
unless_still t (Done ms) = Some (t, ms)
unless_still t (Refused why) = Some (t, [])
unless_still t Idle = None
unless_still t Locked = None

abbrev pub worked : Result (PlainTerminal × Acted) TermFault → Option (PlainTerminal × List Tmesg)
worked (Ok p) = unless_still p.0 p.1
worked (Err why) = None

-- The same sides, where a step that does nothing is none: an Act does or refuses an event, and a Flush composes unsent runes
abbrev pub at_work : Steps PlainHost PlainTerminal Tmesg HFrame
at_work = record sides {
  act = λ t. worked (act_of t);
  flush = λ t. if is_some t.unsent then unless_refused (flush_of t) else None;
}
