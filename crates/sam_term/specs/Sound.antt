-- What is true of every terminal: what its counts and places can be.
use Rattle.std.specs.Prelude.{ℕ, ◌≡◌, ◌≤◌, ◌+◌, [], ◌∷◌, length, Option, Some, None, unwrap_or, ⊤}
use Rattle.sam_runes.specs.Texts.{max_runes, most_count, most_in_message}
use Rattle.sam_runes.specs.Slots.{Slots}
use Rattle.sam_rasp.specs.Rasp.{place_after_ins}
use Rattle.sam_term.specs.Term.{PlainTerminal, window_at}
use Rattle.sam_term.specs.Windows.{blank_window, window_in}
use Rattle.sam_term.specs.declared.records.Window.{Window}
use Rattle.sam_term.specs.declared.records.KnownFile.{KnownFile}
use Rattle.sam_term.specs.declared.records.Unsent.{Unsent}
use Rattle.sam_term.specs.declared.term.Terminal.TheInside.{Inside}

-- places of a window stand in its partial text, which is no longer than a text may be, and each lock and each request that is awaited was
-- counted
pub record FitsWindow (sent : ℕ) (w : Window) : Type 0 where
  pub locks : w.locks ≤ sent
  pub awaited : w.awaited ≤ sent
  pub dot_start : w.dot.0 ≤ w.dot.1
  pub dot_end : w.dot.1 ≤ length w.rasp
  pub view : w.view_start ≤ length w.rasp
  pub size : length w.rasp ≤ max_runes

-- unsent runes begin in the partial text of their file
unfoldable pub FitsUnsent : Slots KnownFile → Option Unsent → Type 0
FitsUnsent files None = ⊤
FitsUnsent files (Some u) = u.place ≤ length (window_in files u.file).rasp

-- unsent runes fit in one message
unfoldable pub IsShort : Option Unsent → Type 0
IsShort None = ⊤
IsShort (Some u) = length u.runes ≤ most_in_message

pub record IsSound (t : PlainTerminal) : Type 0 where
  pub countable : t.sent ≤ most_count
  pub windows : (f : ℕ) → FitsWindow t.sent (window_at t f)
  pub unsent : FitsUnsent t.files t.unsent
  pub short : IsShort t.unsent

-- the terminal as contracts see it
abbrev pub seen : Inside → PlainTerminal
seen a =
    record {
      files = a.files;
      current = a.current;
      command_lock = a.command_lock;
      has_exited = a.exited;
      unsent = a.unsent;
      held = a.held;
      sent = a.sent;
      version = a.version;
      pattern = a.pattern;
      snarf = a.snarf;
      snarf_length = a.snarf_length;
    }

-- how many locks of a file are held
abbrev pub locks_of : KnownFile → ℕ
locks_of known = (unwrap_or known.window blank_window).locks

-- how many locks of all files are held
abbrev pub all_locks : Slots KnownFile → ℕ
all_locks [] = 0
all_locks (None ∷ ss) = all_locks ss
all_locks (Some known ∷ ss) = locks_of known + all_locks ss

-- a terminal as it is kept: sound, with the locks of all files counted beside them, of which each came with a message
pub record IsKept (a : Inside) : Type 0 where
  pub sound : IsSound (seen a)
  pub counted : a.file_locks ≡ all_locks a.files
  pub countable : a.file_locks ≤ a.sent

-- the places of a window are at most n
pub record AreWithin (n : ℕ) (w : Window) : Type 0 where
  pub dot_start : w.dot.0 ≤ n
  pub dot_end : w.dot.1 ≤ n
  pub view : w.view_start ≤ n

-- a window whose places moved as n members came in at p
abbrev pub shifted : Window → ℕ → ℕ → Window
shifted w p n =
    record w { dot = (place_after_ins p n w.dot.0, place_after_ins p n w.dot.1); view_start = place_after_ins p n w.view_start }

-- how many runes are unsent
abbrev pub unsent_length : Option Unsent → ℕ
unsent_length None = 0
unsent_length (Some u) = length u.runes
