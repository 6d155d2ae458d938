use Rattle.std.proofs.Common.{◌≡◌, ◌≤◌, Some, arith, drop, length, slice_get}
use Rattle.sam_mesg.proofs.Exact.{IsBytes}
use Rattle.sam_note.specs.Calls.{message_in}
use Rattle.sam_note.specs.Messages.{most_bytes}
use Rattle.sam_note.proofs.Whole.{begins, has_kind, shaped, shapeless}
use Rattle.sam_note.proofs.reading.shape_of.Goals as goal

pub returns-in-Some-fields_of : goal.returns-in-Some-fields_of
returns-in-Some-fields_of c =
    let bytes = c.args.bytes.now in
    let first = c.in-Some.number.now in
    let note = c.in-Some-fields_of.note in
    let got : slice_get bytes 0 ≡ Some first = grind arith in
    let fits : IsBytes bytes = grind arith in
    let short : length bytes ≤ most_bytes = grind arith in
    let read = c.in-Some-fields_of.ensures in (
      shaped bytes (drop 1 bytes) first c.in-Some-of_number.kind (message_in bytes note) fits (begins bytes first got) c.in-Some-of_number.ensures read.read short,
      (read.path, read.copy, read.text),
    )

pub returns-in-None : goal.returns-in-None
returns-in-None c =
    let bytes = c.args.bytes.now in
    let first = c.in-Some.number.now in
    let kind = c.in-Some-of_number.kind in
    let got : slice_get bytes 0 ≡ Some first = grind arith in
    let starts = begins bytes first got in (
      has_kind bytes (drop 1 bytes) first kind starts c.in-Some-of_number.ensures,
      λ m. shapeless bytes (drop 1 bytes) first kind m starts c.in-Some-of_number.ensures c.in-None.ensures.read,
    )
