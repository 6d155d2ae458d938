-- What is shown of files over which edits wait.
use Rattle.std.specs.Prelude.{ℕ, if◌then◌else◌, Option, Some, None}
use Rattle.sam_pending.specs.Cells.{PartialText}
use Rattle.sam_term.specs.Term.{is_open}
use Rattle.sam_overlay.specs.Calls.{PlainOverlay, gap_from, shown_at}
use Rattle.sam_overlay.specs.Outcomes.{IsNextWaiting}
use Rattle.sam_handles.specs.Calls.{TellsOne}

-- what is shown of an open file
abbrev pub text_of : PlainOverlay → ℕ → Option PartialText
text_of o tag = if is_open o.end.term tag then Some (shown_at o tag) else None

-- the first place from that one on whose rune is not loaded
abbrev pub gap_of : PlainOverlay → ℕ → ℕ → Option ℕ
gap_of o tag place = if is_open o.end.term tag then gap_from place (shown_at o tag) else None

-- the first file from that tag on over which an edit waits
abbrev pub NextWaiting : PlainOverlay → ℕ → ℕ → ℕ → ℕ → Type 0
NextWaiting o from status before after = (found : Option ℕ) × IsNextWaiting o.layers from found × TellsOne found status before after
