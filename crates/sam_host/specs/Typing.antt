-- What is typed into the command file, or put at its end, with a line of it that is run.
use Rattle.std.specs.Prelude.{◌≡◌, ℕ, ◌+◌, ◌-◌, List, [], ◌∷◌, ◌++◌, length, not, ◌&&◌, nat_le, if◌then◌else◌}
use Rattle.sam_runes.specs.Texts.{is_empty, ins, max_runes}
use Rattle.sam_text.specs.Files.{PlainFiles, PlainOutcome, file_at, typed_files}
use Rattle.sam_mesg.specs.declared.hmesg.Hmesg.{Hmesg}
use Rattle.sam_mesg.specs.declared.hmesg.Hmesg.TheVariants.{Hcheck, Hexit, Hsetdot, Hunlock}
use Rattle.sam_host.specs.Host.{PlainHost, Reply, with_files, when, grown, told_outcome, reply_line, line_to}

-- s typed at p in the command file
abbrev pub typed : PlainHost → ℕ → List ℕ → PlainHost
typed h p s = with_files h (typed_files h.files p s)

-- s put at the end of the command file
abbrev pub sent : PlainHost → List ℕ → PlainHost
sent h s = typed h (length (file_at h.files 0).text) s

-- the line that the last rune of s ends, once s is typed at p in t
abbrev pub typed_line : List ℕ → ℕ → List ℕ → List ℕ
typed_line t p s = line_to (ins t p s) (p + length s - 1)

-- the reply to that line
abbrev pub reply_typed_line : PlainHost → ℕ → List ℕ → Reply
reply_typed_line h p s = reply_line (typed h p s) [] (typed_line (file_at h.files 0).text p s)

-- the frames for what is printed in tag 0, whose text has n runes by then
unfoldable pub printed_at : PlainFiles → ℕ → List ℕ → List Hmesg
printed_at fs n s =
    when ((not (is_empty s) && nat_le (n + length s) max_runes) && (file_at fs 0).opened)
    (grown fs 0 n s ++ Hsetdot 0 (n + length s) (n + length s) ∷ Hcheck 0 ∷ [])

-- the second outcome is the first but for its edits, which are others, though as many
abbrev pub IsSameButEdits : PlainOutcome → PlainOutcome → Type 0
IsSameButEdits o left = (left ≡ record o { edits = left.edits }) × (length left.edits ≡ length o.edits)

-- the frames for a line with this outcome, where the text of tag 0 has n runes before what it prints
abbrev pub told_line : PlainFiles → ℕ → PlainOutcome → List Hmesg
told_line fs n o = told_outcome o.file fs o ++ printed_at fs n o.printed ++ (if o.quit then Hexit else Hunlock) ∷ []
