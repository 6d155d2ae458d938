-- What the terminal keeps of each file, by its tag.
use Rattle.std.specs.Prelude.{ℕ, false, [], None, unwrap_or}
use Rattle.sam_runes.specs.Slots.{Slots, slot}
use Rattle.sam_term.specs.declared.records.Window.{Window}
use Rattle.sam_term.specs.declared.records.KnownFile.{KnownFile}

abbrev pub blank_window : Window
blank_window = record { rasp = []; dot = (0, 0); view_start = 0; view_length = 0; locks = 0; awaited = 0 }

abbrev pub blank_known : KnownFile
blank_known = record { name = []; dirty = false; changed = false; window = None }

abbrev pub known_in : Slots KnownFile → ℕ → KnownFile
known_in files f = unwrap_or (slot files f) blank_known

-- the window of a slot, a blank one where it has none
abbrev pub window_in : Slots KnownFile → ℕ → Window
window_in files f = unwrap_or (known_in files f).window blank_window
