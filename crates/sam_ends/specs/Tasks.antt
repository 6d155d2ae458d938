-- What the five threads begin with.
use Rattle.std.specs.Prelude.{◌≡◌, ℕ, ◌≤◌, length, All}
use Rattle.sam_runes.specs.Texts.{most_files}
use Rattle.sam_host.specs.Host.{new_host}
use Rattle.sam_sides.specs.Given.{IsFile}
use Rattle.sam_queue.specs.Views.{LineView, new_post, new_take}
use Rattle.sam_ends.specs.Lines.{LinesView}
use Rattle.sam_ends.specs.declared.tasks.HostTask.{HostTask}
use Rattle.sam_ends.specs.declared.tasks.UserTask.{UserTask}
use Rattle.sam_ends.specs.declared.tasks.ReaderTask.{ReaderTask}
use Rattle.sam_ends.specs.declared.tasks.TermTask.{TermTask}
use Rattle.sam_ends.specs.declared.tasks.Tasks.{Tasks}

-- nothing was put, taken or handled

abbrev pub IsUserTask : ℕ → LineView → UserTask → Type 0
IsUserTask number events s = (s.worker ≡ number) × (s.post ≡ new_post events number)

pub record IsHostTask (up down : LineView) (s : HostTask) : Type 0 where
  pub take : s.take ≡ new_take up
  pub one : up.senders ≡ 1
  pub post : s.post ≡ new_post down 0
  pub files : (length s.files.items ≤ most_files) × All IsFile s.files.items
  pub host : s.host ≡ new_host s.files.items

pub record IsReaderTask (down events : LineView) (s : ReaderTask) : Type 0 where
  pub take : s.take ≡ new_take down
  pub one : down.senders ≡ 1
  pub post : s.post ≡ new_post events 2

pub record IsTermTask (events up : LineView) (s : TermTask) : Type 0 where
  pub take : s.take ≡ new_take events
  pub three : events.senders ≡ 3
  pub post : s.post ≡ new_post up 0

-- the five begin at the ends of these lines
pub record AreReady (lines : LinesView) (s : Tasks) : Type 0 where
  pub keyboard : IsUserTask 0 lines.events s.keyboard
  pub mouse : IsUserTask 1 lines.events s.mouse
  pub host : IsHostTask lines.up lines.down s.host
  pub reader : IsReaderTask lines.down lines.events s.reader
  pub term : IsTermTask lines.events lines.up s.term
