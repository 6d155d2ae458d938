use Rattle.std.proofs.Common.{◌≡◌, false, arith}
use Rattle.std.specs.Str.{IsUtf8}
use Rattle.sam_note.specs.Calls.{at_place, message_in}
use Rattle.sam_note.specs.Messages.{has_zero}
use Rattle.sam_note.proofs.reading.read_note.Goals as goal

pub returns-in-Err-from_utf8 : goal.returns-in-Err-from_utf8
returns-in-Err-from_utf8 c =
    let bytes = c.args.bytes.now in
    let note = c.in-Ok.note in
    let path : has_zero (at_place bytes note.path) ≡ false = grind arith in
    let copy : has_zero (at_place bytes note.copy) ≡ false = grind arith in
    let text : IsUtf8 (at_place bytes note.text) → ⊥ = grind arith in
    (message_in bytes note, c.in-Ok.ensures.0, (path, copy), text)
