-- What the events change in a window.
use Rattle.std.specs.Prelude.{ℕ, ◌+◌, ◌-◌, ◌++◌, if◌then◌else◌, Bool, List, [], length, map, take, drop, Some}
use Rattle.sam_rasp.specs.Rasp.{place_after_ins, place_after_del}
use Rattle.sam_term.specs.declared.records.Window.{Window}
use Rattle.sam_term.specs.declared.records.Unsent.{Unsent}
use Rattle.sam_term.specs.declared.event.UserEvent.{UserEvent}
use Rattle.sam_term.specs.declared.event.UserEvent.TheVariants.{Typed, Select, Cut, Paste, Snarf, Look, Search, Send, Dclick, Scroll, View, Load, Edit, Open, Close, Write, Work, OpenCmd, New, Exit, Check, GetSnarf, SetSnarf, Version, Flush}
use Rattle.sam_term.specs.Term.{PlainTerminal, Made, window_at, put_window, flushed, joined}

-- a file is shown from p on, n places where it has so many
abbrev pub shown_from : PlainTerminal → ℕ → ℕ → ℕ → PlainTerminal
shown_from t f p n = put_window t f (record (window_at t f) { view_start = p; view_length = n })

-- a window whose dot gives way to these runes, after which it then stands
abbrev pub typed_over : Window → List ℕ → Window
typed_over w s =
    record w {
      rasp = take w.dot.0 w.rasp ++ map Some s ++ drop w.dot.1 w.rasp;
      dot = (w.dot.0 + length s, w.dot.0 + length s);
      view_start = place_after_ins w.dot.0 (length s) (place_after_del w.dot.0 w.dot.1 w.view_start);
    }

-- a window in which these runes come in the place of what stands from p to q; its dot moves as other places do
abbrev pub replaced_in : Window → ℕ → ℕ → List ℕ → Window
replaced_in w p q s =
    let moved : ℕ → ℕ = λ place. place_after_ins p (length s) (place_after_del p q place) in
    record w {
      rasp = take p w.rasp ++ map Some s ++ drop q w.rasp;
      dot = (moved w.dot.0, moved w.dot.1);
      view_start = moved w.view_start;
    }

-- unsent runes with more after them, and without the last n
abbrev pub lengthened : List ℕ → Unsent → Unsent
lengthened s u = record u { runes = u.runes ++ s }

abbrev pub shortened : ℕ → Unsent → Unsent
shortened n u = record u { runes = take (length u.runes - n) u.runes }

-- these runes come in the place of the dot of f, and join the unsent ones
abbrev pub joined_at : PlainTerminal → ℕ → List ℕ → PlainTerminal
joined_at t f s =
    let w = window_at t f in
    record (put_window t f (typed_over w s)) { unsent = Some (joined t.unsent f w.dot.0 s) }

-- the runes that an event types
abbrev pub typed_runes : UserEvent → List ℕ
typed_runes (Typed f s) = s
typed_runes (Select f p q) = []
typed_runes (Cut f) = []
typed_runes (Paste f) = []
typed_runes (Snarf f) = []
typed_runes (Look f) = []
typed_runes (Search f) = []
typed_runes (Send f) = []
typed_runes (Dclick f p) = []
typed_runes (Scroll f n) = []
typed_runes (View f p n) = []
typed_runes (Load f p n) = []
typed_runes (Edit f p q s) = []
typed_runes (Open f) = []
typed_runes (Close f) = []
typed_runes (Write f) = []
typed_runes (Work f) = []
typed_runes OpenCmd = []
typed_runes New = []
typed_runes Exit = []
typed_runes (Check f) = []
typed_runes GetSnarf = []
typed_runes (SetSnarf s) = []
typed_runes (Version v) = []
typed_runes Flush = []

-- the file in which an event types
abbrev pub typed_file : UserEvent → ℕ
typed_file (Typed f s) = f
typed_file (Select f p q) = 0
typed_file (Cut f) = 0
typed_file (Paste f) = 0
typed_file (Snarf f) = 0
typed_file (Look f) = 0
typed_file (Search f) = 0
typed_file (Send f) = 0
typed_file (Dclick f p) = 0
typed_file (Scroll f n) = 0
typed_file (View f p n) = 0
typed_file (Load f p n) = 0
typed_file (Edit f p q s) = 0
typed_file (Open f) = 0
typed_file (Close f) = 0
typed_file (Write f) = 0
typed_file (Work f) = 0
typed_file OpenCmd = 0
typed_file New = 0
typed_file Exit = 0
typed_file (Check f) = 0
typed_file GetSnarf = 0
typed_file (SetSnarf s) = 0
typed_file (Version v) = 0
typed_file Flush = 0

-- the runes, the file and the range of an edit
abbrev pub edit_runes : UserEvent → List ℕ
edit_runes (Edit f p q s) = s
edit_runes (Typed f s) = []
edit_runes (Select f p q) = []
edit_runes (Cut f) = []
edit_runes (Paste f) = []
edit_runes (Snarf f) = []
edit_runes (Look f) = []
edit_runes (Search f) = []
edit_runes (Send f) = []
edit_runes (Dclick f p) = []
edit_runes (Scroll f n) = []
edit_runes (View f p n) = []
edit_runes (Load f p n) = []
edit_runes (Open f) = []
edit_runes (Close f) = []
edit_runes (Write f) = []
edit_runes (Work f) = []
edit_runes OpenCmd = []
edit_runes New = []
edit_runes Exit = []
edit_runes (Check f) = []
edit_runes GetSnarf = []
edit_runes (SetSnarf s) = []
edit_runes (Version v) = []
edit_runes Flush = []

abbrev pub edit_file : UserEvent → ℕ
edit_file (Edit f p q s) = f
edit_file (Typed f s) = 0
edit_file (Select f p q) = 0
edit_file (Cut f) = 0
edit_file (Paste f) = 0
edit_file (Snarf f) = 0
edit_file (Look f) = 0
edit_file (Search f) = 0
edit_file (Send f) = 0
edit_file (Dclick f p) = 0
edit_file (Scroll f n) = 0
edit_file (View f p n) = 0
edit_file (Load f p n) = 0
edit_file (Open f) = 0
edit_file (Close f) = 0
edit_file (Write f) = 0
edit_file (Work f) = 0
edit_file OpenCmd = 0
edit_file New = 0
edit_file Exit = 0
edit_file (Check f) = 0
edit_file GetSnarf = 0
edit_file (SetSnarf s) = 0
edit_file (Version v) = 0
edit_file Flush = 0

abbrev pub edit_range : UserEvent → ℕ × ℕ
edit_range (Edit f p q s) = (p, q)
edit_range (Typed f s) = (0, 0)
edit_range (Select f p q) = (0, 0)
edit_range (Cut f) = (0, 0)
edit_range (Paste f) = (0, 0)
edit_range (Snarf f) = (0, 0)
edit_range (Look f) = (0, 0)
edit_range (Search f) = (0, 0)
edit_range (Send f) = (0, 0)
edit_range (Dclick f p) = (0, 0)
edit_range (Scroll f n) = (0, 0)
edit_range (View f p n) = (0, 0)
edit_range (Load f p n) = (0, 0)
edit_range (Open f) = (0, 0)
edit_range (Close f) = (0, 0)
edit_range (Write f) = (0, 0)
edit_range (Work f) = (0, 0)
edit_range OpenCmd = (0, 0)
edit_range New = (0, 0)
edit_range Exit = (0, 0)
edit_range (Check f) = (0, 0)
edit_range GetSnarf = (0, 0)
edit_range (SetSnarf s) = (0, 0)
edit_range (Version v) = (0, 0)
edit_range Flush = (0, 0)

abbrev pub one_if : Bool → ℕ
one_if b = if b then 1 else 0

-- the unsent runes are sent at once, if so
abbrev pub flushed_if : Bool → PlainTerminal → Made
flushed_if b t = if b then flushed t else (t, [])
