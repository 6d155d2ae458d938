-- What a session of threads over a script comes to.
use Rattle.std.specs.Prelude.{◌≡◌, ◌⊎◌, ℕ, [], map, Option, Some, None}
use Rattle.sam_script.specs.Script.{PlainScript, keys_of, mouse_of, without_lines}
use Rattle.sam_world.specs.Prefixes.{Begins}
use Rattle.sam_crossing.specs.World.{new_world, run_of}
use Rattle.sam_world.specs.Merging.{merged}
use Rattle.sam_ends.specs.Lines.{LinesView}
use Rattle.sam_ends.specs.Gates.{GatesLetIn, GatesLetOn}
use Rattle.sam_ends.specs.WorkerEnds.{Told, AllPassed, GatesTold}
use Rattle.sam_settle.specs.Headline.{Headline}
use Rattle.sam_settle.specs.Settled.{counts_left, stops_of, AreFull, HasStreams, HasUsers, IsDrained, IsWhole, MissesHost}
use Rattle.sam_ends.specs.declared.input.Input.TheVariants.{User}
use Rattle.sam_ends.specs.declared.ends.Ends.{Ends}
use Rattle.sam_ends.specs.declared.stop.Stop.TheVariants as stop
use Rattle.sam_settle.specs.declared.settled.Settled.{Settled}
use Rattle.sam_spawn.specs.declared.run.RunFault.{RunFault}
use Rattle.sam_spawn.specs.declared.run.RunFault.TheVariants.{GateTimedOut, NoThread, OutOfMemory}
use Rattle.sam_ends.specs.declared.tasks.Tasks.{Tasks}

-- what `settle` says of what these ends came to
pub record IsSettled (e : Ends) (s : Settled) : Type 0 where
  pub headline : Headline e s
  pub schedule : s.schedule.items ≡ merged e.term.log.items e.host.host.taken
  pub streams : HasStreams e s
  pub users : HasUsers e s
  pub stops : s.stops.items ≡ stops_of e
  pub left : s.left.items ≡ counts_left e
  pub drained : IsDrained e s
  pub full : AreFull s
  pub misses : e.term.stop ≡ Some stop.PeerGone → MissesHost e s
  pub whole : s.stops.items ≡ [] → IsWhole e s

-- It was settled from the ends of a session in which each worker began and told this, the host began with the script's files, and keyboard
-- and mouse put the first events that the script has of each: all of them where nothing stopped that worker. A gate stopped only workers
-- that it may refuse (`refuses`), and let nobody pass where it never does (`must`)
pub record IsSession (script : PlainScript) (refuses : ℕ → Type 0) (must : ℕ → Option ℕ → Type 0) (s : Settled) : Type 0 where
  pub ends : Ends
  pub lines : LinesView
  pub told : Told (keys_of script.lines) (mouse_of script.lines) lines ends
  pub begun : AllPassed ends
  pub files : ends.host.files.items ≡ script.files
  pub settled : IsSettled ends s
  pub run : run_of (new_world script.files) s.schedule.items ≡ Some s.world
  pub keys : Begins ends.keyboard.post.put (map User (keys_of script.lines))
  pub all_keys : ends.keyboard.stop ≡ None → ends.keyboard.post.put ≡ map User (keys_of script.lines)
  pub clicks : Begins ends.mouse.post.put (map User (mouse_of script.lines))
  pub all_clicks : ends.mouse.stop ≡ None → ends.mouse.post.put ≡ map User (mouse_of script.lines)
  pub gates : GatesTold refuses ends
  pub let_in : GatesLetIn must
  pub let_on : GatesLetOn must ends

-- What a session that uses a script up leaves of it where it comes to this fault. Memory may be short before the lines are taken, and where
-- the session is settled
abbrev pub IsLeft : PlainScript → PlainScript → RunFault → Type 0
IsLeft old new GateTimedOut = new ≡ without_lines old
IsLeft old new NoThread = new ≡ without_lines old
IsLeft old new OutOfMemory = (new ≡ old) ⊎ (new ≡ without_lines old)

-- ## What the private functions say

-- it is a session of each script that says what these tasks begin with
abbrev pub SessionOf : Tasks → (ℕ → Type 0) → (ℕ → Option ℕ → Type 0) → Settled → Type 0
SessionOf tasks refuses must s =
    (script : PlainScript) → tasks.keyboard.events.items ≡ keys_of script.lines → tasks.mouse.events.items ≡ mouse_of script.lines
    → tasks.host.files.items ≡ script.files → IsSession script refuses must s
