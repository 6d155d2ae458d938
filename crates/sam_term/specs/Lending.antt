-- What the files end as where one of them, or its window, is lent to be changed.
use Rattle.std.specs.Prelude.{ℕ, Option, Some, unwrap_or}
use Rattle.std.specs.Borrow.{Lends, MutBor, Fml}
use Rattle.std.specs.contracts.option.Option.{the_row as option_row}
use Rattle.sam_runes.specs.Slots.{Slots, put_slot}
use Rattle.sam_term.specs.Windows.{blank_known, known_in}
use Rattle.sam_term.specs.declared.records.Window.{Window}
use Rattle.sam_term.specs.declared.records.KnownFile.{KnownFile}
use Rattle.sam_term.specs.contracts.known_files.KnownFiles.{the_row}
use Rattle.sam_term.specs.contracts.records.KnownFile.{the_row as file_row}
use Rattle.sam_term.specs.contracts.records.Window.{the_row as window_row}

-- the file of f ends as it is left after r
abbrev pub LendsFile : MutBor (Slots KnownFile) → ℕ → MutBor KnownFile → Fml
LendsFile s f r = Lends the_row file_row s r (put_slot s.now f)

-- the window of f ends as it is left after r
abbrev pub LendsWindow : MutBor (Slots KnownFile) → ℕ → MutBor Window → Fml
LendsWindow s f r = Lends the_row window_row s r (λ w. put_slot s.now f (record (known_in s.now f) { window = Some w }))

-- the same of one slot
abbrev pub LendsKnown : MutBor (Option KnownFile) → MutBor KnownFile → Fml
LendsKnown s r = Lends (option_row file_row) file_row s r Some

abbrev pub LendsOpen : MutBor (Option KnownFile) → MutBor Window → Fml
LendsOpen s r =
    Lends (option_row file_row) window_row s r (λ w. Some (record (unwrap_or s.now blank_known) { window = Some w }))
