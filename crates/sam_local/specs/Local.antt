-- The editor without a network: each event of the user is carried through to its end before the next one begins.
use Rattle.std.specs.Prelude.{◌≡◌, ℕ, suc, Bool, true, false, ◌==◌, ◌||◌, List, [], ◌∷◌, ◌++◌, map, Option, Some, None, option_map}
use Rattle.sam_runes.specs.Slots.{Slots, map_slots}
use Rattle.sam_runes.specs.Checks.{first_of_checks}
use Rattle.sam_text.specs.Files.{PlainFile, PlainFiles, file_at}
use Rattle.sam_host.specs.Host.{PlainHost, Reply, new_host, with_given}
use Rattle.sam_mesg.specs.declared.tmesg.Tmesg.{Tmesg}
use Rattle.sam_mesg.specs.declared.hmesg.Hmesg.{Hmesg}
use Rattle.sam_term.specs.declared.records.Window.{Window}
use Rattle.sam_term.specs.declared.records.KnownFile.{KnownFile}
use Rattle.sam_term.specs.declared.event.UserEvent.{UserEvent}
use Rattle.sam_term.specs.declared.event.Verdict.{Verdict}
use Rattle.sam_term.specs.Windows.{blank_window}
use Rattle.sam_term.specs.Term.{PlainTerminal, Made, new_terminal, event_checks, event_outcome, is_changed, is_known, known_at, unsent_message}
use Rattle.sam_crossing.specs.Fold.{answers}
use Rattle.sam_crossing.specs.View.{effect}

-- files with their texts, and windows that show them
pub record PlainEditor : Type 0 where
  pub host : PlainHost
  pub term : PlainTerminal

-- ## At rest

-- a window that shows this whole text, with its dot and its view, and no lock
abbrev pub whole_window : List ℕ → Window → Window
whole_window text w = record blank_window { rasp = map Some text; dot = w.dot; view_start = w.view_start; view_length = w.view_length }

abbrev pub whole_file : List ℕ → KnownFile → KnownFile
whole_file text known = record known { window = option_map (whole_window text) known.window }

-- the files of the terminal from tag f on, each open one with its whole text
abbrev pub whole_slots : PlainFiles → ℕ → Slots KnownFile → Slots KnownFile
whole_slots fs f [] = []
whole_slots fs f (s ∷ ss) = option_map (whole_file (file_at fs f).text) s ∷ whole_slots fs (suc f) ss

-- Both sides as one editor. It forgets, of the terminal, the runes and gaps of each window, where the host's whole text stands instead;
-- all locks, the requests that await data, the unsent runes and the held events; and of both sides the count of messages. That a window's
-- own runes are those of the text, and that no lock is held, is said elsewhere (`SidesAgree`, `ShowsFile`)
abbrev pub at_rest : PlainHost → PlainTerminal → PlainEditor
at_rest h t =
    record {
      host = record h { taken = 0 };
      term = record t { files = whole_slots h.files 0 t.files; command_lock = false; unsent = None; held = []; sent = 0 };
    }

-- ## What is under way, carried through

-- the terminal takes frames one after another, and composes nothing
abbrev pub all_taken : PlainTerminal → List Hmesg → PlainTerminal
all_taken t [] = t
all_taken t (m ∷ ms) = all_taken (effect t m) ms

-- the terminal takes the frames that were under way and then those of the answers
abbrev pub answered_with : PlainHost → PlainTerminal → List Hmesg → Option Reply → PlainEditor
answered_with h t down None = at_rest h t
answered_with h t down (Some reply) = at_rest reply.0 (all_taken t (down ++ reply.1))

-- What both sides come to where nothing new is begun: the host answers the messages that are under way to it and then the unsent runes,
-- and the terminal takes all frames
abbrev pub come_to : PlainHost → PlainTerminal → List Tmesg → List Hmesg → PlainEditor
come_to h t up down = answered_with h t down (answers h (up ++ unsent_message t.unsent))

-- ## Events

-- what was made of an event is carried through, unless something stands against the event
abbrev pub carried_unless : Option Verdict → PlainEditor → Made → PlainEditor
carried_unless (Some why) editor made = editor
carried_unless None editor made = come_to editor.host made.0 made.1 []

-- the editor after an event of the user
abbrev pub carried : PlainEditor → UserEvent → PlainEditor
carried editor e = carried_unless (first_of_checks (event_checks editor.term e)) editor (event_outcome editor.term e)

-- after events one after another
abbrev pub carried_on : PlainEditor → List UserEvent → PlainEditor
carried_on editor [] = editor
carried_on editor (e ∷ es) = carried_on (carried editor e) es

-- the editor with files of these names and texts
abbrev pub new_editor : List (List ℕ × List ℕ) → PlainEditor
new_editor given = at_rest (new_host given) new_terminal

-- the editor with files of these names and texts, after these events
abbrev pub carried_all : List (List ℕ × List ℕ) → List UserEvent → PlainEditor
carried_all given es = carried_on (new_editor given) es

-- ## Names and marks

-- the terminal has the names that the host has, of all files that it knows. And it says of each file but the command file whether that
-- is dirty
pub record AreMarkedAlike (h : PlainHost) (t : PlainTerminal) : Type 0 where
  pub names : (f : ℕ) → is_known t f ≡ true → (known_at t f).name ≡ (file_at h.files f).name
  pub marks : (f : ℕ) → (f == 0) ≡ false → is_changed t f ≡ (file_at h.files f).dirty

-- the same file, clean
abbrev pub clean_file : PlainFile → PlainFile
clean_file file = record file { dirty = false }

-- and as the terminal keeps it
abbrev pub clean_known : KnownFile → KnownFile
clean_known known = record known { dirty = false }

abbrev pub clean_files : PlainFiles → PlainFiles
clean_files fs = record fs { slots = map_slots clean_file fs.slots }

-- the editor but for which of its files are dirty
abbrev pub without_marks : PlainEditor → PlainEditor
without_marks editor =
    record {
      host = record editor.host { files = clean_files editor.host.files };
      term = record editor.term { files = map_slots clean_known editor.term.files };
    }

-- The first editor is the second, but that the files of `dirt` are dirty: the host has them so, and the terminal says so
pub record IsButDirty (dirt : ℕ → Bool) (x y : PlainEditor) : Type 0 where
  pub same : without_marks x ≡ without_marks y
  pub host : (f : ℕ) → (file_at x.host.files f).dirty ≡ ((file_at y.host.files f).dirty || dirt f)
  pub term : (f : ℕ) → is_changed x.term f ≡ (is_changed y.term f || dirt f)
  pub others : (f : ℕ) → dirt f ≡ false → (known_at x.term f).dirty ≡ (known_at y.term f).dirty

-- ## Files that join

-- one file more, under the next tag: clean, not open, and its name not announced
abbrev pub joined : PlainEditor → List ℕ × List ℕ → PlainEditor
joined editor file = record editor { host = with_given editor.host file }

-- what is done to the editor: an event of the user, or a file of this name and text that joins
pub data Doing : Type 0 where
  Did : (event : UserEvent) → Doing
  Joined : (file : List ℕ × List ℕ) → Doing

abbrev pub after_doing : PlainEditor → Doing → PlainEditor
after_doing editor (Did e) = carried editor e
after_doing editor (Joined file) = joined editor file

-- after doings one after another
abbrev pub done_on : PlainEditor → List Doing → PlainEditor
done_on editor [] = editor
done_on editor (d ∷ ds) = done_on (after_doing editor d) ds

-- the editor with files of these names and texts, after these doings
abbrev pub carried_through : List (List ℕ × List ℕ) → List Doing → PlainEditor
carried_through given ds = done_on (new_editor given) ds

-- the events among doings, in order
abbrev pub events_in : List Doing → List UserEvent
events_in [] = []
events_in (Did e ∷ ds) = e ∷ events_in ds
events_in (Joined file ∷ ds) = events_in ds

-- the files that join among them, in order
abbrev pub files_in : List Doing → List (List ℕ × List ℕ)
files_in [] = []
files_in (Did e ∷ ds) = files_in ds
files_in (Joined file ∷ ds) = file ∷ files_in ds
