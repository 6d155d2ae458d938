-- What a message has, field by field, is what its kind has in its order.
use Rattle.std.proofs.Common.{◌≡◌, ℕ, ◌+◌, ◌<◌, ◌^◌, ◌≤◌, List, [], ◌∷◌, ◌++◌, length, min, drop, zero-add, None, Ok, Bool, true, false, refl, sym, ap, ◌∙◌, arith, append_assoc, append-nil, length-append}
use Rattle.std.proofs.lemmas.List.{nil_from_length}
use Rattle.sam_mesg.specs.Spelling.{two, four, eight}
use Rattle.sam_note.specs.declared.kind.Fields.{Fields}
use Rattle.sam_note.specs.declared.kind.NoteKind.{NoteKind}
use Rattle.sam_note.specs.declared.kind.NoteKind.TheVariants.{Open}
use Rattle.sam_note.specs.declared.note.Head.{Head}
use Rattle.sam_note.specs.Calls.{Refuses, Writes, message}
use Rattle.sam_note.specs.Kinds.{Request, Tag, Code, Number, Path, Copy, Text, has}
use Rattle.sam_note.specs.Messages.{Message, most_bytes, piece, spelled}
use Rattle.sam_note.specs.Writing.{Puts, part, wide}
use Rattle.sam_note.proofs.Putting.{length_head, length_note, puts_front}
unfoldable use Rattle.sam_note.proofs.Putting.{head_bytes, note_bytes}
unfoldable pub use Rattle.sam_note.specs.Calls.{Fits}
unfoldable pub use Rattle.sam_note.specs.Messages.{IsPlain}
unfoldable pub use Rattle.sam_note.specs.Writing.{fixed, has_only}

pub only_plain : (m : Message) → has_only (has m.kind) m ≡ true → IsPlain m
unfolding IsPlain has_only
only_plain m e Request absent = grind arith
only_plain m e Tag absent = grind arith
only_plain m e Code absent = grind arith
only_plain m e Number absent = grind arith
only_plain m e Path absent = grind (arith, nil_from_length)
only_plain m e Copy absent = grind (arith, nil_from_length)
only_plain m e Text absent = grind (arith, nil_from_length)

pub plain_only : (m : Message) → IsPlain m → has_only (has m.kind) m ≡ true
unfolding IsPlain has_only
plain_only m is = grind (arith, (is Request), (is Tag), (is Code), (is Number), (is Path), (is Copy), (is Text))

spelled_at : (k : NoteKind) (request tag code n : ℕ) (path copy text : List ℕ)
    → let h : Head = record { kind = k; request = request; tag = tag; code = code; number = n } in
    note_bytes h path copy text ≡ spelled (message h path copy text)
unfolding note_bytes head_bytes
spelled_at Open request tag code n path copy text = grind (arith, append_assoc, append-nil)
spelled_at _ request tag code n path copy text = grind (arith, append_assoc, append-nil)

pub notes_spelled : (h : Head) (path copy text : List ℕ) → note_bytes h path copy text ≡ spelled (message h path copy text)
notes_spelled h path copy text = spelled_at h.kind h.request h.tag h.code h.number path copy text

length_four : (there : Bool) (n : ℕ) → length (part there (four n)) ≡ wide there 4
length_four true n = refl
length_four false n = refl

length_two : (there : Bool) (n : ℕ) → length (part there (two n)) ≡ wide there 2
length_two true n = refl
length_two false n = refl

length_one : (there : Bool) (n : ℕ) → length (part there (n ∷ [])) ≡ wide there 1
length_one true n = refl
length_one false n = refl

length_eight : (there : Bool) (n : ℕ) → length (part there (eight n)) ≡ wide there 8
length_eight true n = refl
length_eight false n = refl

length_there : (there : Bool) (bytes : List ℕ) → (there ≡ false → bytes ≡ []) → length (part there (piece bytes)) ≡ wide there 2 + length bytes
length_there true bytes is = grind (arith, length-append)
length_there false bytes is = grind arith

pub notes_len : (h : Head) (path copy text : List ℕ) → IsPlain (message h path copy text)
    → length (spelled (message h path copy text)) ≡ fixed (has h.kind) + length path + length copy + length text
unfolding IsPlain fixed
notes_len h path copy text is =
    let f = has h.kind in
    ap length (sym (notes_spelled h path copy text))
    ∙ omega (
      arith,
      length_note h path copy text,
      length_head h,
      length_four f.request h.request,
      length_two f.tag h.tag,
      length_one f.code h.code,
      length_eight f.number h.number,
      length_there f.path path (is Path),
      length_there f.copy copy (is Copy),
      length_there f.text text (is Text),
    )

-- the message fits where what is counted of it does
pub fits_counted : (h : Head) (path copy text : List ℕ) (room most : ℕ) (f : Fields) → has_only (has h.kind) (message h path copy text) ≡ true
    → f ≡ has h.kind → most ≡ min most_bytes room → fixed f + length path + length copy + length text ≤ most → Fits (message h path copy text) room
unfolding Fits
fits_counted h path copy text room most f e is at_most le =
    let len = notes_len h path copy text (only_plain (message h path copy text) e) in
    let same : fixed f ≡ fixed (has h.kind) = ap fixed is in
    omega (arith, le, len, same, at_most)

pub counted_fits : (h : Head) (path copy text : List ℕ) (room most : ℕ) (f : Fields) → has_only (has h.kind) (message h path copy text) ≡ true
    → f ≡ has h.kind → most ≡ min most_bytes room → Fits (message h path copy text) room → fixed f + length path + length copy + length text ≤ most
unfolding Fits
counted_fits h path copy text room most f e is at_most le =
    let len = notes_len h path copy text (only_plain (message h path copy text) e) in
    let same : fixed f ≡ fixed (has h.kind) = ap fixed is in
    omega (arith, le, len, same, at_most)

pub has_room : (h : Head) (path copy text : List ℕ) (room : ℕ) → Fits (message h path copy text) room → length (note_bytes h path copy text) ≤ room
unfolding Fits
has_room h path copy text room fits = let same = ap length (notes_spelled h path copy text) in omega (arith, fits, same)

pub ruleset refusals = (only_plain, plain_only, fits_counted, counted_fits)

-- no piece of a message that fits is longer than two bytes can say
pub pieces_short : (h : Head) (path copy text : List ℕ) (room : ℕ) → IsPlain (message h path copy text) → Fits (message h path copy text) room
    → (length path < 2 ^ 16) × (length copy < 2 ^ 16) × (length text < 2 ^ 16)
unfolding Fits
pieces_short h path copy text room is fits =
    let len = notes_len h path copy text is in
    (omega (arith, fits, len), omega (arith, fits, len), omega (arith, fits, len))

pub written : (h : Head) (path copy text before : List ℕ) (n : ℕ) (after : List ℕ) → Refuses (message h path copy text) (length before) None
    → Puts 0 (note_bytes h path copy text) before n after → Writes (message h path copy text) before (Ok n) after
written h path copy text before n after none puts =
    let spells = notes_spelled h path copy text in
    let len : n ≡ length (spelled (message h path copy text)) = puts.end_is ∙ zero-add _ ∙ ap length spells in
    (none, len, puts_front _ _ _ _ puts ∙ ap (λ b. b ++ drop n before) spells)
