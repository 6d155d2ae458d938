-- What the private functions say that make tasks.
use Rattle.std.specs.Prelude.{◌≡◌, ◌≤◌, length, All}
use Rattle.sam_runes.specs.Texts.{most_files}
use Rattle.sam_host.specs.Host.{new_host}
use Rattle.sam_world.specs.Given.{IsFile}
use Rattle.sam_queue.specs.Views.{new_post, new_take}
use Rattle.sam_ends.specs.Lines.{LinesView}
use Rattle.sam_spawn.specs.declared.tasks.LineSides.{LineSides}
use Rattle.sam_spawn.specs.declared.tasks.HostRole.{HostRole}

-- the sides of these lines, nothing put and nothing taken
pub record AreNewSides (lines : LinesView) (s : LineSides) : Type 0 where
  pub senders : (lines.up.senders ≡ 1) × (lines.down.senders ≡ 1) × (lines.events.senders ≡ 3)
  pub up_post : s.up_post ≡ new_post lines.up 0
  pub up_take : s.up_take ≡ new_take lines.up
  pub down_post : s.down_post ≡ new_post lines.down 0
  pub down_take : s.down_take ≡ new_take lines.down
  pub keyboard : s.keyboard ≡ new_post lines.events 0
  pub mouse : s.mouse ≡ new_post lines.events 1
  pub reader : s.reader ≡ new_post lines.events 2
  pub events_take : s.events_take ≡ new_take lines.events

-- a new host of the files
pub record IsHostRole (r : HostRole) : Type 0 where
  pub files : (length r.files.items ≤ most_files) × All IsFile r.files.items
  pub host : r.host ≡ new_host r.files.items
