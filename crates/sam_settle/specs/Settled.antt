-- What settling a session says beside its headline.
use Rattle.std.specs.Prelude.{◌≡◌, ℕ, ◌+◌, ◌-◌, ◌<◌, ◌≤◌, true, false, List, [], ◌∷◌, ◌++◌, length, map, sum_by, Option, Some, None}
use Rattle.sam_mesg.specs.declared.tmesg.Tmesg.{Tmesg}
use Rattle.sam_mesg.specs.declared.hmesg.HFrame.{HFrame}
use Rattle.sam_frame.specs.Direction.{terminal, host}
use Rattle.sam_frame.specs.Stream.{stream_of}
use Rattle.sam_host.specs.Host.{new_host}
use Rattle.sam_term.specs.Term.{new_terminal}
use Rattle.sam_term.specs.declared.event.UserEvent.{UserEvent}
use Rattle.sam_queue.specs.declared.rule.Entry.{Entry}
use Rattle.sam_queue.specs.History.{items_of, has_left}
use Rattle.sam_queue.specs.Views.{PostView, TakeView}
use Rattle.sam_crossing.specs.World.{user_events, is_quiet}
use Rattle.sam_local.specs.Local.{at_rest, carried_all}
use Rattle.sam_world.specs.Sides.{Each, HostRuns, TermRuns}
use Rattle.sam_world.specs.Prefixes.{Begins}
use Rattle.sam_sides.specs.RealSides.{at_work, sides}
use Rattle.sam_ends.specs.Inputs.{bytes_of, frames_in, users_in}
use Rattle.sam_ends.specs.WorkerEnds.{IsOwnExit}
use Rattle.sam_ends.specs.declared.input.Input.{Input}
use Rattle.sam_ends.specs.declared.stop.Stop.{Stop}
use Rattle.sam_ends.specs.declared.ends.Ends.{Ends}
use Rattle.sam_ends.specs.declared.input.Input.TheVariants.{Host}
use Rattle.sam_ends.specs.declared.stop.Stop.TheVariants as stop
use Rattle.sam_settle.specs.declared.settled.Settled.{Settled}

-- ## What is left

-- how many items of a post were put and not taken
abbrev pub left_of : {T : Type 0} → TakeView T → PostView T → ℕ
left_of t p = length p.put - length (items_of p.number t.taken)

abbrev pub left_in : {T : Type 0} → TakeView T → List (PostView T) → ℕ
left_in t posts = sum_by (left_of t) posts

-- of the queue up, of down and of events
abbrev pub counts_left : Ends → List ℕ
counts_left ends =
    left_in ends.host.take (ends.term.post ∷ [])
    ∷ left_in ends.reader.take (ends.host.post ∷ [])
    ∷ left_in ends.term.take (ends.keyboard.post ∷ ends.mouse.post ∷ ends.reader.post ∷ []) ∷ []

-- Each worker takes its line to the end, whatever stopped it: all that was put was taken, and nothing is left
pub record IsDrained (ends : Ends) (s : Settled) : Type 0 where
  pub up : items_of 0 ends.host.take.taken ≡ ends.term.post.put
  pub down : items_of 0 ends.reader.take.taken ≡ ends.host.post.put
  pub keyboard : items_of 0 ends.term.take.taken ≡ ends.keyboard.post.put
  pub mouse : items_of 1 ends.term.take.taken ≡ ends.mouse.post.put
  pub frames : items_of 2 ends.term.take.taken ≡ ends.reader.post.put
  pub left : s.left.items ≡ 0 ∷ 0 ∷ 0 ∷ []

-- ## The stops

abbrev pub as_list : Option Stop → List Stop
as_list None = []
as_list (Some why) = why ∷ []

-- of the keyboard, the mouse, the host, the host reader and the terminal, in this order
abbrev pub stops_of : Ends → List Stop
stops_of ends =
    as_list ends.keyboard.stop ++ as_list ends.mouse.stop
    ++ as_list ends.host.stop ++ as_list ends.reader.stop ++ as_list ends.term.stop

-- a side stopped for a fault or a refusal only where a count was full
abbrev pub IsFull : Stop → Type 0
IsFull (stop.Frame n) = n ≡ 7
IsFull (stop.Host n) = n ≡ 6
IsFull (stop.Term n) = n ≡ 8
IsFull stop.PeerGone = Unit {0}
IsFull stop.Gate = Unit {0}
IsFull stop.Memory = Unit {0}

-- how many stopped since the other side was gone
abbrev pub count_gone : List Stop → ℕ
count_gone [] = 0
count_gone (stop.PeerGone ∷ more) = 1 + count_gone more
count_gone (stop.Frame n ∷ more) = count_gone more
count_gone (stop.Host n ∷ more) = count_gone more
count_gone (stop.Term n ∷ more) = count_gone more
count_gone (stop.Gate ∷ more) = count_gone more
count_gone (stop.Memory ∷ more) = count_gone more

-- at most one side misses the other, and then the host has not ended the session
pub record AreFull (s : Settled) : Type 0 where
  pub full : Each IsFull s.stops.items
  pub gone : count_gone s.stops.items ≤ 1
  pub early : 0 < count_gone s.stops.items → s.world.term.has_exited ≡ false

-- ## Messages and frames

-- From the first files the host handled messages and answered frames. The terminal went through its log, took frames and composed messages;
-- each Act of the log did or refused an event, and each Flush composed runes.
-- The messages handled are a first part of those composed, and the frames taken a first part of those answered: the rest of each is under
-- way in the world. What each side put are the first bytes of its messages. The frames taken are the first that the host reader put
pub record HasStreams (ends : Ends) (s : Settled) : Type 0 where
  pub composed : List Tmesg
  pub handled : List Tmesg
  pub answered : List HFrame
  pub taken : List HFrame
  pub host_ran : HostRuns sides (new_host ends.host.files.items) handled answered s.world.host
  pub terminal_ran : TermRuns at_work new_terminal ends.term.log.items taken composed s.world.term
  pub upwards : composed ≡ handled ++ s.world.up
  pub downwards : answered ≡ taken ++ s.world.down
  pub put_up : Begins (bytes_of ends.term.post.put) (stream_of terminal composed)
  pub put_down : Begins (bytes_of ends.host.post.put) (stream_of host answered)
  pub passed : Begins (map Host taken) ends.reader.post.put

-- Where the terminal misses the host, the host reader had left. The terminal handled a first part of what it took, and dropped the rest:
-- with the frames of that part its log leads a new terminal to where it stands. These are all frames that the reader sent on, and none of
-- them ended the session. Where neither host nor host reader was stopped, no frame of the host is under way
pub record MissesHost (ends : Ends) (s : Settled) : Type 0 where
  pub handled : List (Entry Input)
  pub dropped : List (Entry Input)
  pub composed : List Tmesg
  pub took : ends.term.take.taken ≡ handled ++ dropped
  pub ran : TermRuns at_work new_terminal ends.term.log.items (frames_in handled) composed s.world.term
  pub left : has_left 2 handled ≡ true
  pub all_handled : items_of 2 handled ≡ ends.reader.post.put
  pub early : s.world.term.has_exited ≡ false
  pub none_down : ends.host.stop ≡ None → ends.reader.stop ≡ None → s.world.down ≡ []

-- ## The user's events

-- The user events of the schedule are those that the terminal handled, in its order: of keyboard and mouse the first that each put. At
-- most one Exit of the terminal's own comes after all of them
pub record HasUsers (ends : Ends) (s : Settled) : Type 0 where
  pub handled : List (Entry Input)
  pub dropped : List (Entry Input)
  pub own : List UserEvent
  pub took : ends.term.take.taken ≡ handled ++ dropped
  pub events : user_events s.schedule.items ≡ users_in handled ++ own
  pub keyboard : Begins (items_of 0 handled) ends.keyboard.post.put
  pub mouse : Begins (items_of 1 handled) ends.mouse.post.put
  pub others : (frames : List HFrame) × (items_of 2 handled ≡ map Host frames)
  pub exits : IsOwnExit own handled

-- ## A session that nothing stopped

-- All that keyboard and mouse have put is in the schedule, and both sides came to their end. They are where the events of the schedule lead
-- an editor without a network, but for what `at_rest` forgets
pub record IsWhole (ends : Ends) (s : Settled) : Type 0 where
  pub events : (own : List UserEvent) × (user_events s.schedule.items ≡ users_in ends.term.take.taken ++ own)
      × IsOwnExit own ends.term.take.taken
  pub exited : s.world.term.has_exited ≡ true
  pub held : s.world.term.held ≡ []
  pub quiet : is_quiet s.world ≡ true
  pub local : at_rest s.world.host s.world.term ≡ carried_all ends.host.files.items (user_events s.schedule.items)
