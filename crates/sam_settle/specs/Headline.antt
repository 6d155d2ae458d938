-- In any schedule of the five threads, each queue gives what its senders put in, per sender in order, each once, nothing put after
-- close and nothing missing once drained; and the two ends are where one run of the world leaves them, in which, whenever nothing is
-- unsent or under way, no lock is held and every loaded rune of a rasp is the host's rune there. And wherever that run stands, what the
-- user did on the way has done what it does without a network.
use Rattle.std.specs.Prelude.{◌≡◌, List, [], ◌∷◌, ◌++◌, Some, Vec}
use Rattle.std.specs.Global.{Global}
use Rattle.sam_queue.specs.Views.{PostView, TakeView}
use Rattle.sam_queue.specs.Audits.{AllAccounted, HasHistory}
use Rattle.sam_crossing.specs.declared.event.Event.{Event}
use Rattle.sam_crossing.specs.World.{PlainWorld, new_world, run_of, user_events, SidesAgreeWhereQuiet}
use Rattle.sam_local.specs.Worlds.{IsAsIfLocal}
use Rattle.sam_ends.specs.declared.ends.Ends.{Ends}
use Rattle.sam_settle.specs.declared.settled.Settled.{Settled}

-- one history of all that was put into the line: what was taken and then the rest, of each sender what that one put, in order, and then its
-- end mark; what was taken of a sender and then what is left of it is what it put
abbrev pub Gives : {T : Type 0} → TakeView T → List (PostView T) → Type 0
Gives {T} t posts = (left : List (Vec T Global)) × HasHistory t posts left × AllAccounted t.taken posts left

pub record Headline (ends : Ends) (s : Settled) : Type 0 where
  pub up : Gives ends.host.take (ends.term.post ∷ [])
  pub down : Gives ends.reader.take (ends.host.post ∷ [])
  pub events : Gives ends.term.take (ends.keyboard.post ∷ ends.mouse.post ∷ ends.reader.post ∷ [])
  pub run : run_of (new_world ends.host.files.items) s.schedule.items ≡ Some s.world
  pub host : s.world.host ≡ ends.host.host
  pub term : s.world.term ≡ ends.term.term
  pub quiet : (done : List Event) (more : List Event) (w : PlainWorld) → s.schedule.items ≡ done ++ more
      → run_of (new_world ends.host.files.items) done ≡ Some w → SidesAgreeWhereQuiet w
  pub local : (done : List Event) (more : List Event) (w : PlainWorld) → s.schedule.items ≡ done ++ more
      → run_of (new_world ends.host.files.items) done ≡ Some w → IsAsIfLocal ends.host.files.items (user_events done) w
