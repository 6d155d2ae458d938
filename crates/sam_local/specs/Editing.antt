-- What each event of the user does to the editor without a network: the editor after it is the one before it with just these changes.
use Rattle.std.specs.Prelude.{◌≡◌, ℕ, ◌+◌, ◌-◌, true, false, not, ◌==◌, ◌&&◌, ◌||◌, if◌then◌else◌, nat_le, nat_lt, List, [], ◌∷◌, ◌++◌, take, drop, length, Option, Some, None, unwrap_or}
use Rattle.sam_runes.specs.Slots.{Slots, put_slot, free_slot}
use Rattle.sam_runes.specs.Texts.{Range, part, is_empty, max_runes, all_tags, common_version, searched, word_at, as_lines, last_line, lines_before, prefix_in_bytes, snarf_limit}
use Rattle.sam_runes.specs.Checks.{first_of_checks}
use Rattle.sam_runes.specs.declared.edit.Edit.{Edit}
use Rattle.sam_rasp.specs.Rasp.{place_after_ins, place_after_del}
use Rattle.sam_text.specs.Files.{PlainFile, PlainOutcome, announce_all, blank_file, command_name, file_after, file_at, has_room, is_changed, is_printed, may_look, new_file, opened_file, printed_file, put_file, searched_for, with_work, without_file, written_file}
use Rattle.sam_text.specs.Meaning.{meaning}
use Rattle.sam_host.specs.Host.{line_to, no_tag_left, with_file, with_files}
use Rattle.sam_host.specs.Laws.{AreGiven}
use Rattle.sam_term.specs.declared.event.UserEvent.{UserEvent}
use Rattle.sam_term.specs.declared.event.UserEvent.TheVariants as event
use Rattle.sam_term.specs.declared.event.Verdict.{Verdict}
use Rattle.sam_term.specs.Events.{is_command_line}
use Rattle.sam_term.specs.Windows.{blank_known, blank_window}
use Rattle.sam_term.specs.declared.records.Window.{Window}
use Rattle.sam_term.specs.declared.records.KnownFile.{KnownFile}
use Rattle.sam_term.specs.Term.{event_checks, is_open, known_at, put_known, window_at}
use Rattle.sam_local.specs.Local.{PlainEditor, AreMarkedAlike, Doing, carried, carried_through, files_in, joined, whole_file}

-- ## What is looked at

-- an editor to which events have led, from files within the limits, with other such files that joined among them
pub record IsReached (editor : PlainEditor) : Type 0 where
  pub given : List (List ℕ × List ℕ)
  pub doings : List Doing
  pub limits : AreGiven given
  pub joins : AreGiven (files_in doings)
  pub is : editor ≡ carried_through given doings

abbrev pub text_in : PlainEditor → ℕ → List ℕ
text_in editor f = (file_at editor.host.files f).text

-- the dot that the user sees
abbrev pub dot_in : PlainEditor → ℕ → Range
dot_in editor f = (window_at editor.term f).dot

abbrev pub snarf_in : PlainEditor → List ℕ
snarf_in editor = editor.host.files.snarf

-- nothing stands against the event
abbrev pub May : PlainEditor → UserEvent → Type 0
May editor e = first_of_checks (event_checks editor.term e) ≡ None

-- ## Changes of a file

-- the text without what stands from p to q, with these runes in its place
abbrev pub replaced : List ℕ → Range → List ℕ → List ℕ
replaced t d s = take d.0 t ++ s ++ drop d.1 t

-- the window once s came in the place of what stood in this range: its dot and its view move as other places do
abbrev pub moved_window : Range → List ℕ → Window → Window
moved_window d s w =
    let moved = λ (place : ℕ). place_after_ins d.0 (length s) (place_after_del d.0 d.1 place) in
    record w { dot = (moved w.dot.0, moved w.dot.1); view_start = moved w.view_start }

-- the host has this file under the tag f
abbrev pub with_host_file : PlainEditor → ℕ → PlainFile → PlainEditor
with_host_file editor f file = record editor { host = with_file editor.host f file }

-- the terminal keeps this of the file f, whose window, if it has one, shows the text that the host has
abbrev pub with_known : PlainEditor → ℕ → KnownFile → PlainEditor
with_known editor f known = record editor { term = put_known editor.term f (whole_file (text_in editor f) known) }

-- the terminal has this window on the file f
abbrev pub with_window : PlainEditor → ℕ → Window → PlainEditor
with_window editor f w = with_known editor f (record (known_at editor.term f) { window = Some w })

-- the user put s in the place of what stood in this range, by which the window of f is this. At the host the dot stands after s
abbrev pub with_edit : PlainEditor → ℕ → Range → List ℕ → Window → PlainEditor
with_edit editor f d s w =
    let file = file_at editor.host.files f in
    let end = d.0 + length s in
    with_known (with_host_file editor f (record file { text = replaced file.text d s; dot = (end, end); dirty = is_changed f file })) f
    (record (known_at editor.term f) { changed = true; window = Some w })

-- the user typed s in the place of the dot, which stands after it then
abbrev pub with_typing : PlainEditor → ℕ → List ℕ → PlainEditor
with_typing editor f s =
    let w = window_at editor.term f in
    let end = w.dot.0 + length s in
    if w.dot.0 == w.dot.1 && is_empty s then editor
    else with_edit editor f w.dot s (record (moved_window w.dot s w) { dot = (end, end) })

-- The snarf buffer came in the place of the dot, and is dot then. The terminal is told that the file is dirty, unless it was, or the user
-- made it so by the cut of a dot that was not empty
abbrev pub with_paste : PlainEditor → ℕ → PlainEditor
with_paste editor f =
    let file = file_at editor.host.files f in
    let known = known_at editor.term f in
    let w = window_at editor.term f in
    let s = snarf_in editor in
    let pasted : Range = (w.dot.0, w.dot.0 + length s) in
    let cuts = not (w.dot.0 == w.dot.1) in
    with_known (with_host_file editor f (record file { text = replaced file.text w.dot s; dot = pasted; dirty = is_changed f file })) f
    (record known {
      dirty = known.dirty || not (cuts || file.dirty || f == 0);
      changed = cuts || known.changed;
      window = Some (record (moved_window w.dot s w) { dot = pasted });
    })

-- what was found is dot on both sides, and the view begins there
abbrev pub with_found : PlainEditor → ℕ → Option Range → PlainEditor
with_found editor f None = editor
with_found editor f (Some d) =
    with_window (with_host_file editor f (record (file_at editor.host.files f) { dot = d })) f
    (record (window_at editor.term f) { dot = d; view_start = d.0 })

-- ## Changes of what both sides keep

-- the host has this snarf buffer, and the terminal was told its length
abbrev pub with_snarf : PlainEditor → List ℕ → PlainEditor
with_snarf editor s =
    record editor {
      host = with_files editor.host (record editor.host.files { snarf = s });
      term = record editor.term { snarf_length = length s };
    }

-- both sides have this pattern, if there is a new one
abbrev pub with_pattern : PlainEditor → Option (List ℕ) → PlainEditor
with_pattern editor None = editor
with_pattern editor (Some lit) =
    record editor {
      host = with_files editor.host (record editor.host.files { pattern = Some lit });
      term = record editor.term { pattern = lit };
    }

-- the session is over
abbrev pub over : PlainEditor → PlainEditor
over editor = record editor { host = record editor.host { is_done = true }; term = record editor.term { has_exited = true } }

-- ## Command lines

-- the window once these edits of its text were made, the last first
abbrev pub edited_window : List Edit → Window → Window
edited_window [] w = w
edited_window (e ∷ es) w = moved_window (e.p, e.q) e.text (edited_window es w)

-- the file that a line works on is as the line leaves it, and so is its window
abbrev pub with_outcome : Option ℕ → PlainEditor → PlainOutcome → PlainEditor
with_outcome None editor o = editor
with_outcome (Some f) editor o =
    let file = file_at editor.host.files f in
    let known = known_at editor.term f in
    let w = edited_window o.edits (window_at editor.term f) in
    with_known (with_host_file editor f (file_after file o)) f
    (record known {
      name = unwrap_or o.name known.name;
      dirty = known.dirty || (not (is_empty o.edits) && not file.dirty);
      window = Some (record w { dot = unwrap_or o.dot w.dot });
    })

-- s is printed at the end of the command file, if there is room for it. Where that file is open, its dot stands after s
abbrev pub with_printed : PlainEditor → List ℕ → PlainEditor
with_printed editor s =
    let file = file_at editor.host.files 0 in
    let end = length file.text in
    let after = with_host_file editor 0 (printed_file file s) in
    if not (is_printed editor.host.files s) then editor
    else if not file.opened then after
    else with_window after 0 (record (moved_window (end, end) s (window_at editor.term 0)) { dot = (end + length s, end + length s) })

-- a command line was run: its outcome is there, what it prints is printed, and the session is over where it quits
abbrev pub with_line : PlainEditor → List ℕ → PlainEditor
with_line editor line =
    let o = meaning editor.host.files line in
    let after = with_printed (with_pattern (with_outcome o.file editor o) o.pattern) o.printed in
    if o.quit then over after else after

-- ## The laws

-- an event that something stands against changes nothing
abbrev pub RefusedDoesNothing : Type 0
RefusedDoesNothing =
    (editor : PlainEditor) (e : UserEvent) (why : Verdict) → first_of_checks (event_checks editor.term e) ≡ Some why
    → carried editor e ≡ editor

-- What is typed comes in the place of the dot. A text that ends a line of the command file is typed in the same way, and then this line
-- is run
abbrev pub TypingReplaces : Type 0
TypingReplaces =
    (editor : PlainEditor) (f : ℕ) (s : List ℕ) → IsReached editor → May editor (event.Typed f s)
    → let typed = with_typing editor f s in
    carried editor (event.Typed f s)
    ≡ (if is_command_line f s then with_line typed (line_to (text_in typed f) ((dot_in editor f).0 + length s - 1)) else typed)

-- the dot at the terminal is where it was set
abbrev pub SelectSets : Type 0
SelectSets =
    (editor : PlainEditor) (f p q : ℕ) → IsReached editor → May editor (event.Select f p q)
    → carried editor (event.Select f p q) ≡ with_window editor f (record (window_at editor.term f) { dot = (p, q) })

-- the text of the dot moves into the snarf buffer
abbrev pub CutMoves : Type 0
CutMoves =
    (editor : PlainEditor) (f : ℕ) → IsReached editor → May editor (event.Cut f)
    → let d = dot_in editor f in
    ((d.0 == d.1) ≡ false)
    → carried editor (event.Cut f) ≡ with_typing (with_snarf editor (part (text_in editor f) d.0 d.1)) f []

-- the snarf buffer comes in the place of the dot. Where it is empty, or too long, the dot goes and nothing comes
abbrev pub PasteReplaces : Type 0
PasteReplaces =
    (editor : PlainEditor) (f : ℕ) → IsReached editor → May editor (event.Paste f)
    → let s = snarf_in editor in
    carried editor (event.Paste f)
    ≡ (if is_empty s || nat_lt max_runes (length (replaced (text_in editor f) (dot_in editor f) s))
    then with_typing editor f []
    else with_paste editor f)

-- a text of any length comes in the place of what stands from p to q
abbrev pub EditReplaces : Type 0
EditReplaces =
    (editor : PlainEditor) (f p q : ℕ) (s : List ℕ) → IsReached editor → May editor (event.Edit f p q s) → (p == q && is_empty s) ≡ false
    → carried editor (event.Edit f p q s) ≡ with_edit editor f (p, q) s (moved_window (p, q) s (window_at editor.term f))

-- an edit by which nothing goes and nothing comes changes nothing at all
abbrev pub EditOfNothingKeeps : Type 0
EditOfNothingKeeps =
    (editor : PlainEditor) (f p q : ℕ) (s : List ℕ) → IsReached editor → (p == q && is_empty s) ≡ true
    → carried editor (event.Edit f p q s) ≡ editor

-- the text of the dot is copied into the snarf buffer
abbrev pub SnarfCopies : Type 0
SnarfCopies =
    (editor : PlainEditor) (f : ℕ) → IsReached editor → May editor (event.Snarf f)
    → let d = dot_in editor f in
    ((d.0 == d.1) ≡ false)
    → carried editor (event.Snarf f) ≡ with_snarf editor (part (text_in editor f) d.0 d.1)

-- the snarf buffer is what it is set to
abbrev pub SetSnarfSets : Type 0
SetSnarfSets =
    (editor : PlainEditor) (s : List ℕ) → IsReached editor → May editor (event.SetSnarf s)
    → carried editor (event.SetSnarf s) ≡ with_snarf editor s

-- the text of the file is saved, and both sides have it clean
abbrev pub WriteSaves : Type 0
WriteSaves =
    (editor : PlainEditor) (f : ℕ) → IsReached editor → May editor (event.Write f)
    → carried editor (event.Write f)
    ≡ with_known (with_host_file editor f (written_file (file_at editor.host.files f))) f
    (record (known_at editor.term f) { dirty = false; changed = false })

-- the file is gone, and no command line works on it
abbrev pub CloseDrops : Type 0
CloseDrops =
    (editor : PlainEditor) (f : ℕ) → IsReached editor → May editor (event.Close f)
    → carried editor (event.Close f)
    ≡ record editor {
      host = with_files editor.host (without_file editor.host.files f);
      term = record editor.term { files = free_slot editor.term.files f };
    }

-- command lines work on the file from now on, on the dot that the user sees
abbrev pub WorkSets : Type 0
WorkSets =
    (editor : PlainEditor) (f : ℕ) → IsReached editor → May editor (event.Work f)
    → let d = dot_in editor f in
    carried editor (event.Work f)
    ≡ record editor {
      host = with_files editor.host (with_work editor.host.files f d.0 d.1);
      term = record editor.term { current = Some f };
    }

-- command lines work on the file, and the terminal has a window on it: a new one at the front of the text, where it had none
abbrev pub OpenOpens : Type 0
OpenOpens =
    (editor : PlainEditor) (f : ℕ) → IsReached editor → May editor (event.Open f)
    → let fs = editor.host.files in
    let after = record editor { host = with_files editor.host (record (put_file fs f (opened_file (file_at fs f))) { work = Some f }) } in
    carried editor (event.Open f) ≡ (if is_open editor.term f then after else with_window after f blank_window)

-- the session is over
abbrev pub ExitEnds : Type 0
ExitEnds = (editor : PlainEditor) → IsReached editor → May editor event.Exit → carried editor event.Exit ≡ over editor

-- the files of the terminal once it was told the names of those that were not announced, tags ascending from f
abbrev pub with_names : ℕ → Slots PlainFile → Slots KnownFile → Slots KnownFile
with_names f [] known = known
with_names f (None ∷ ss) known = with_names (1 + f) ss known
with_names f (Some file ∷ ss) known =
    with_names (1 + f) ss (if file.announced then known else put_slot known f (record blank_known { name = file.name }))

-- both sides speak the lower of the two versions, and the terminal has the names of all files but the command file
abbrev pub VersionAgrees : Type 0
VersionAgrees =
    (editor : PlainEditor) (v : ℕ) → IsReached editor → May editor (event.Version v)
    → let slots = editor.host.files.slots in
    carried editor (event.Version v)
    ≡ record editor {
      host = record editor.host { version = common_version v; files = record editor.host.files { slots = announce_all slots } };
      term = record editor.term { version = common_version v; files = with_names 1 (drop 1 slots) editor.term.files };
    }

-- the word at the place is dot on both sides
abbrev pub DclickSelects : Type 0
DclickSelects =
    (editor : PlainEditor) (f p : ℕ) → IsReached editor → May editor (event.Dclick f p)
    → let d = word_at (text_in editor f) p in
    carried editor (event.Dclick f p)
    ≡ with_window (with_host_file editor f (record (file_at editor.host.files f) { dot = d })) f
    (record (window_at editor.term f) { dot = d })

-- the text of the dot is the pattern, and the next place where it stands is dot
abbrev pub LookSelects : Type 0
LookSelects =
    (editor : PlainEditor) (f : ℕ) → IsReached editor → May editor (event.Look f)
    → let d = dot_in editor f in
    let lit = part (text_in editor f) d.0 d.1 in
    may_look lit ≡ true
    → carried editor (event.Look f) ≡ with_found (with_pattern editor (Some lit)) f (searched (text_in editor f) lit d.1)

-- the next place where the pattern stands is dot, where there is one
abbrev pub SearchSelects : Type 0
SearchSelects =
    (editor : PlainEditor) (f : ℕ) → IsReached editor → May editor (event.Search f)
    → carried editor (event.Search f)
    ≡ with_found editor f (searched_for editor.host.files.pattern (text_in editor f) (dot_in editor f).1)

-- the text of the dot is printed as lines in the command file, and the last of them is run; nothing changes where there is no room
abbrev pub SendRuns : Type 0
SendRuns =
    (editor : PlainEditor) (f : ℕ) → IsReached editor → May editor (event.Send f)
    → let d = dot_in editor f in
    let s = as_lines (part (text_in editor f) d.0 d.1) in
    ((d.0 == d.1) ≡ false)
    → carried editor (event.Send f) ≡ (if has_room editor.host.files s then with_line (with_printed editor s) (last_line s) else editor)

-- the command file is open: in a new window at its front, where it had none
abbrev pub CommandFileOpens : Type 0
CommandFileOpens =
    (editor : PlainEditor) → IsReached editor → May editor event.OpenCmd
    → carried editor event.OpenCmd
    ≡ (if is_open editor.term 0
    then editor
    else with_known (with_host_file editor 0 (opened_file (file_at editor.host.files 0))) 0
    (record blank_known { name = command_name; window = Some blank_window }))

-- under the next tag there is a new file, on which command lines work; where no tag is left, this is printed
abbrev pub NewMakes : Type 0
NewMakes =
    (editor : PlainEditor) → IsReached editor → May editor event.New
    → let fs = editor.host.files in
    let f = length fs.slots in
    let after =
    record editor {
      host = with_files editor.host (record (put_file fs f new_file) { work = Some f });
      term = record editor.term { current = Some f };
    } in
    carried editor event.New
    ≡ (if nat_le all_tags f
    then with_printed editor no_tag_left
    else with_known after f (record blank_known { window = Some blank_window }))

-- where the dot is empty, a cut, a snarf and a send change nothing at all
abbrev pub EmptyDotKeeps : Type 0
EmptyDotKeeps =
    (editor : PlainEditor) (f : ℕ) → IsReached editor → ((dot_in editor f).0 == (dot_in editor f).1) ≡ true
    → (carried editor (event.Cut f) ≡ editor) × (carried editor (event.Snarf f) ≡ editor) × (carried editor (event.Send f) ≡ editor)

-- where the text of the dot can't be a pattern, a look changes nothing at all
abbrev pub LookKeeps : Type 0
LookKeeps =
    (editor : PlainEditor) (f : ℕ) → IsReached editor → let d = dot_in editor f in
    may_look (part (text_in editor f) d.0 d.1) ≡ false → carried editor (event.Look f) ≡ editor

-- a check and a flush change nothing at all, since all is loaded and sent
abbrev pub CheckAndFlushKeep : Type 0
CheckAndFlushKeep =
    (editor : PlainEditor) → IsReached editor → ((f : ℕ) → carried editor (event.Check f) ≡ editor) × (carried editor event.Flush ≡ editor)

-- the file is shown from a place on, so many runes
abbrev pub ViewShows : Type 0
ViewShows =
    (editor : PlainEditor) (f p n : ℕ) → IsReached editor → May editor (event.View f p n)
    → carried editor (event.View f p n) ≡ with_window editor f (record (window_at editor.term f) { view_start = p; view_length = n })

-- a load shows the file from a place on, too, so many runes
abbrev pub LoadShows : Type 0
LoadShows =
    (editor : PlainEditor) (f p n : ℕ) → IsReached editor → May editor (event.Load f p n)
    → carried editor (event.Load f p n) ≡ with_window editor f (record (window_at editor.term f) { view_start = p; view_length = n })

-- the file is shown from so many lines further up on
abbrev pub ScrollShows : Type 0
ScrollShows =
    (editor : PlainEditor) (f n : ℕ) → IsReached editor → May editor (event.Scroll f n)
    → let w = window_at editor.term f in
    carried editor (event.Scroll f n) ≡ with_window editor f (record w { view_start = lines_before (text_in editor f) w.view_start n })

-- the terminal has the snarf buffer, as much of it as one message takes
abbrev pub GetSnarfFetches : Type 0
GetSnarfFetches =
    (editor : PlainEditor) → IsReached editor → May editor event.GetSnarf
    → carried editor event.GetSnarf
    ≡ record editor { term = record editor.term { snarf = prefix_in_bytes (snarf_in editor) (snarf_limit editor.host.version) } }

-- a file that joins is there under the next tag, clean and closed, and nothing else changes
abbrev pub FileJoins : Type 0
FileJoins =
    (editor : PlainEditor) (name text : List ℕ)
    → let h = editor.host in
    let fs = h.files in
    joined editor (name, text)
    ≡ record editor { host = with_files h (record fs { slots = fs.slots ++ Some (record blank_file { name = name; text = text }) ∷ [] }) }

-- the terminal has the host's names and marks
abbrev pub NamesAndMarksAgree : Type 0
NamesAndMarksAgree = (editor : PlainEditor) → IsReached editor → AreMarkedAlike editor.host editor.term
