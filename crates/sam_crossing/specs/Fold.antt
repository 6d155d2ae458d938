-- What is under way, folded ahead of time: the host answers all that is up, and the terminal takes all that is down then.
use Rattle.std.specs.Prelude.{◌≡◌, ℕ, if◌then◌else◌, List, [], ◌∷◌, ◌++◌, Option, Some, None}
use Rattle.sam_runes.specs.Checks.{first_of_checks}
use Rattle.sam_mesg.specs.declared.tmesg.Tmesg.{Tmesg}
use Rattle.sam_mesg.specs.declared.hmesg.Hmesg.{Hmesg}
use Rattle.sam_host.specs.Host.{PlainHost, Reply, counted, host_checks, reply_to}
use Rattle.sam_host.specs.declared.fault.HostFault.{HostFault}
use Rattle.sam_crossing.specs.Lens.{Lens, ComesToSync}
use Rattle.sam_crossing.specs.Frames.{at_file, VersionsGuarded}
use Rattle.sam_crossing.specs.View.{file_in}
use Rattle.sam_crossing.specs.Steady.{IsSteady}

-- the host's answer without stamps, its count of messages aside: none where it refuses
abbrev pub replied : Option HostFault → Reply → Option Reply
replied None r = Some (counted r.0, r.1)
replied (Some why) r = None

abbrev pub reply_of : PlainHost → Tmesg → Option Reply
reply_of h m = if h.is_done then Some (counted h, []) else replied (first_of_checks (host_checks h m)) (reply_to h m)

abbrev pub after_frames : List Hmesg → Option Reply → Option Reply
after_frames frames None = None
after_frames frames (Some r) = Some (r.0, frames ++ r.1)

abbrev pub replied_then : Option Reply → (PlainHost → Option Reply) → Option Reply
replied_then None next = None
replied_then (Some r) next = after_frames r.1 (next r.0)

-- the answers to messages one after another
abbrev pub answers : PlainHost → List Tmesg → Option Reply
answers h [] = Some (h, [])
answers h (m ∷ ms) = replied_then (reply_of h m) (λ k. answers k ms)

-- Once all that is under way was handled and nothing new was begun, no lock is held and the two sides agree. `views` is what
-- the terminal shows of each file, `line` what is under way to the host with the unsent runes after it, `down` what is under way
-- to the terminal
pub record AllComeToSync (h : PlainHost) (views : ℕ → Lens) (line : List Tmesg) (down : List Hmesg) : Type 0 where
  pub ahead : PlainHost  -- the host once it has handled all
  pub frames : List Hmesg  -- what it will have answered
  pub folds : answers h line ≡ Some (ahead, frames)
  pub each : (g : ℕ) → ComesToSync (at_file g (down ++ frames)) (views g) ahead.is_done ahead.version (file_in ahead.files.slots g)
  pub steady : IsSteady ahead
  pub versions : VersionsGuarded (down ++ frames)
