-- What holds of both sides and of all that is under way between them, in every state of a run.
use Rattle.std.specs.Prelude.{◌≡◌, ℕ, ◌≤◌, false, List, ◌++◌, length, Option, Some, None}
use Rattle.sam_mesg.specs.declared.tmesg.Tmesg.{Tmesg}
use Rattle.sam_mesg.specs.declared.hmesg.Hmesg.{Hmesg}
use Rattle.sam_host.specs.Host.{PlainHost}
use Rattle.sam_term.specs.Events.{is_command_line}
use Rattle.sam_term.specs.Term.{PlainTerminal, window_at, unsent_message}
use Rattle.sam_term.specs.declared.records.Window.{Window}
use Rattle.sam_term.specs.declared.records.Unsent.{Unsent}
use Rattle.sam_crossing.specs.Lens.{Lens, OpenAt, Anything}
use Rattle.sam_crossing.specs.View.{view}
use Rattle.sam_crossing.specs.Fold.{AllComeToSync}

-- dot is a range of the partial text, and the view begins in it
abbrev pub IsTidyWindow : Window → Type 0
IsTidyWindow w = (w.dot.0 ≤ w.dot.1) × (w.dot.1 ≤ length w.rasp) × (w.view_start ≤ length w.rasp)

abbrev pub AreTidy : PlainTerminal → Type 0
AreTidy t = (f : ℕ) → IsTidyWindow (window_at t f)

-- unsent runes end no command line, and belong to a file that is open and free
abbrev pub IsHeldBack : (ℕ → Lens) → Option Unsent → Type 0
IsHeldBack views None = Unit
IsHeldBack views (Some u) = (is_command_line u.file u.runes ≡ false) × OpenAt Anything (views u.file)

abbrev pub views : PlainTerminal → ℕ → Lens
views t g = view g t

-- `up` and `down` are what is under way to the host and to the terminal
pub record InOrder (h : PlainHost) (t : PlainTerminal) (up : List Tmesg) (down : List Hmesg) : Type 0 where
  pub kept : AllComeToSync h (views t) (up ++ unsent_message t.unsent) down
  pub tidy : AreTidy t
  pub unsent : IsHeldBack (views t) t.unsent
