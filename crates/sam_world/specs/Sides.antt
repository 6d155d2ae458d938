-- The world that two sides make up which hand messages to each other.
use Rattle.std.specs.Prelude.{◌≡◌, ◌+◌, ◌≤◌, List, [], ◌∷◌, ◌++◌, length, Option, Some, None}
use Rattle.sam_term.specs.declared.event.UserEvent.{UserEvent}
pub use Rattle.sam_sides.specs.Sides.{Each, Steps, HostRuns, TermRuns}
use Rattle.sam_crossing.specs.declared.event.Event.{Event}
use Rattle.sam_crossing.specs.declared.event.Event.TheVariants as event

-- What the law asks of the steps: the counts count, each frame bears the count of its message, and no frame is taken from the future.
pub record Counts {H T M F : Type 0} (s : Steps H T M F) : Type 0 where
  pub taken : (h : H) (m : M) (k : H) (fs : List F) → s.handle h m ≡ Some (k, fs) → s.taken k ≡ s.taken h + 1
  pub stamped : (h : H) (m : M) (k : H) (fs : List F) → s.handle h m ≡ Some (k, fs) → Each (λ f. s.seen f ≡ s.taken k) fs
  pub user : (t : T) (e : UserEvent) → s.sent (s.user t e) ≡ s.sent t
  pub act : (t u : T) (ms : List M) → s.act t ≡ Some (u, ms) → s.sent u ≡ s.sent t + length ms
  pub flush : (t u : T) (ms : List M) → s.flush t ≡ Some (u, ms) → s.sent u ≡ s.sent t + length ms
  pub receive : (t u : T) (f : F) (ms : List M) → s.receive t f ≡ Some (u, ms) → s.sent u ≡ s.sent t + length ms
  pub past : (t u : T) (f : F) (ms : List M) → s.receive t f ≡ Some (u, ms) → s.seen f ≤ s.sent t

-- a host, a terminal, the messages under way up and the frames under way down
pub record World (H T M F : Type 0) : Type 0 where
  pub host : H
  pub term : T
  pub up : List M
  pub down : List F

abbrev pub if_given : {A B : Type 0} → Option A → (A → Option B) → Option B
if_given None f = None
if_given (Some a) f = f a

module _ {H T M F : Type 0} where
  abbrev pub world : H → T → List M → List F → World H T M F
  world h t up down = record { host = h; term = t; up = up; down = down }

  -- what the terminal composed joins up at the end
  abbrev pub composed : World H T M F → Option (T × List M) → Option (World H T M F)
  composed w None = None
  composed w (Some p) = Some (world w.host p.0 (w.up ++ p.1) w.down)

  abbrev pub answered : World H T M F → List M → Option (H × List F) → Option (World H T M F)
  answered w rest None = None
  answered w rest (Some p) = Some (world p.0 w.term rest (w.down ++ p.1))

module _ {H T M F : Type 0} (s : Steps H T M F) where
  -- a take from an empty list is no step
  abbrev pub host_take : World H T M F → List M → Option (World H T M F)
  host_take w [] = None
  host_take w (m ∷ rest) = answered w rest (s.handle w.host m)

  abbrev pub term_take : World H T M F → List F → Option (World H T M F)
  term_take w [] = None
  term_take w (f ∷ rest) = composed (world w.host w.term w.up rest) (s.receive w.term f)

  -- no file joins two such sides, and none is marked
  abbrev pub step : World H T M F → Event → Option (World H T M F)
  step w (event.User e) = Some (world w.host (s.user w.term e) w.up w.down)
  step w (event.Add name text) = None
  step w (event.Mark f) = None
  step w event.Act = composed w (s.act w.term)
  step w event.Flush = composed w (s.flush w.term)
  step w event.HostTake = host_take w w.up
  step w event.TermTake = term_take w w.down

  -- where a list of events leads, if each is a step
  abbrev pub run : World H T M F → List Event → Option (World H T M F)
  run w [] = Some w
  run w (e ∷ es) = if_given (step w e) (λ v. run v es)
