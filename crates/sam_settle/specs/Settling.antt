-- What the private functions of settling say.
use Rattle.std.specs.Prelude.{◌≡◌, ◌⊎◌, ℕ, ◌^◌, ◌<◌, ◌≤◌, true, List, [], ◌∷◌, Option, Some, None, vec_capacity}
use Rattle.sam_host.specs.Host.{PlainHost}
use Rattle.sam_term.specs.Term.{PlainTerminal}
use Rattle.sam_queue.specs.Views.{LineView, sizes_of}
use Rattle.sam_sides.specs.declared.log.TermLog.{TermLog}
use Rattle.sam_crossing.specs.declared.event.Event.{Event}
use Rattle.sam_crossing.specs.World.{PlainWorld, new_world, run_of}
use Rattle.sam_world.specs.Merging.{merged, is_bad_log, IsRoomForMerge}
use Rattle.sam_world.specs.Reached.{IsSoundWorld}
use Rattle.sam_settle.specs.Headline.{Gives}
use Rattle.sam_settle.specs.Settled.{counts_left, stops_of}
use Rattle.sam_ends.specs.declared.ends.Ends.{Ends}
use Rattle.sam_ends.specs.declared.stop.Stop.{Stop}
use Rattle.sam_settle.specs.declared.settled.Settled.{Settled}
use Rattle.sam_settle.specs.declared.settling.LineRoom.{LineRoom}
use Rattle.sam_settle.specs.declared.settling.Prepared.{Prepared}
use Rattle.sam_settle.specs.declared.settling.Source.{Source}
use Rattle.sam_settle.specs.declared.settling.Source.TheVariants.{Sides, Run}

-- room for the audit of a line, and for so many posts
pub record IsRoomFor {T : Type 0} (line : LineView) (posts : ℕ) (room : LineRoom T) : Type 0 where
  pub sizes : room.audit ≡ sizes_of line
  pub bound : line.capacity < 2 ^ 64
  pub none : room.posts.items ≡ []
  pub space : posts ≤ vec_capacity room.posts

-- the sides only where no worker stopped, with room to merge the log; else the merged schedule, and the world where it leads from these
-- files
abbrev pub IsSource : List (List ℕ × List ℕ) → List TermLog → ℕ → List Stop → Source → Type 0
IsSource files entries taken stops (Sides room) = (stops ≡ []) × IsRoomForMerge entries taken room
IsSource files entries taken stops (Run schedule world) =
    (schedule.items ≡ merged entries taken) × (run_of (new_world files) (merged entries taken) ≡ Some world)

-- how the merged schedule and its world are had; none only where that schedule is no run
abbrev pub IsScheduled : List (List ℕ × List ℕ) → List TermLog → ℕ → List Stop → Option Source → Type 0
IsScheduled files entries taken stops (Some source) = IsSource files entries taken stops source
IsScheduled files entries taken stops None =
    (is_bad_log entries taken ≡ true) ⊎ (run_of (new_world files) (merged entries taken) ≡ None)

-- the schedule and the world of a source, where the sides and the log are these
abbrev pub schedule_from : Source → List TermLog → ℕ → List Event
schedule_from (Sides room) entries taken = merged entries taken
schedule_from (Run schedule world) entries taken = schedule.items

abbrev pub world_from : Source → PlainHost → PlainTerminal → PlainWorld
world_from (Sides room) host term = record { host = host; term = term; up = []; down = [] }
world_from (Run schedule world) host term = world

-- if these sides are the world, there is one of them, and the room is for this log
abbrev pub IsReady : PlainHost → PlainTerminal → List TermLog → Source → Type 0
IsReady host term entries (Sides room) =
    IsSoundWorld (record { host = host; term = term; up = []; down = [] }) × IsRoomForMerge entries host.taken room
IsReady host term entries (Run schedule world) = Unit {0}

pub record IsPrepared (e : Ends) (p : Prepared) : Type 0 where
  pub up : IsRoomFor e.host.take.line 1 p.up
  pub down : IsRoomFor e.reader.take.line 1 p.down
  pub events : IsRoomFor e.term.take.line 3 p.events
  pub left : (p.left.items ≡ []) × (3 ≤ vec_capacity p.left)
  pub stops : p.stops.items ≡ stops_of e
  pub source : IsScheduled e.host.files.items e.term.log.items e.host.host.taken (stops_of e) p.source

-- the three lines of a session give what was put into them
pub record LinesGive (e : Ends) : Type 0 where
  pub up : Gives e.host.take (e.term.post ∷ [])
  pub down : Gives e.reader.take (e.host.post ∷ [])
  pub events : Gives e.term.take (e.keyboard.post ∷ e.mouse.post ∷ e.reader.post ∷ [])

-- what the ends come to: all that is said of it follows from this by the law of the two sides
pub record ComesTo (e : Ends) (s : Settled) : Type 0 where
  pub give : LinesGive e
  pub schedule : s.schedule.items ≡ merged e.term.log.items e.host.host.taken
  pub ran : run_of (new_world e.host.files.items) (merged e.term.log.items e.host.host.taken) ≡ Some s.world
  pub left : s.left.items ≡ counts_left e
  pub stops : s.stops.items ≡ stops_of e
