-- What is written is read as it was, and what is read is written so.
use Rattle.std.proofs.Common.{◌≡◌, ℕ, ◌≤◌, List, length, take, drop, Ok, Err, refl, sym, ap, subst, ◌∙◌, arith, take_at}
use Rattle.sam_note.specs.declared.fault.NoteFault.TheVariants.{BadKind, BadField, BadLength, BadPath, BadText}
use Rattle.std.specs.Str.{IsUtf8}
use Rattle.sam_note.specs.Calls.{HasNoKind, Writes, message_in}
use Rattle.sam_note.specs.Laws.{IsMessage, ReadIsWritten, WrittenIsRead}
use Rattle.sam_note.specs.Messages.{ArePaths, Message, Spells, most_bytes, spelled}
use Rattle.sam_note.proofs.Whole.{one_message}
unfoldable use Rattle.sam_note.specs.Calls.{Fits}

front : (m : Message) (before after : List ℕ) (len : ℕ) → Writes m before (Ok len) after → take len after ≡ spelled m
front m before after len is = ap (take len) is.2 ∙ take_at (spelled m) (drop len before) len (sym is.1)

short : (m : Message) (room : ℕ) → Fits m room → length (spelled m) ≤ most_bytes
unfolding Fits
short m room fits = omega (arith, fits)

spells : (m : Message) (before after : List ℕ) (len : ℕ) → IsMessage m → Writes m before (Ok len) after → Spells m (take len after)
spells m before after len numbers is =
    let e = front m before after len is in
    subst (Spells m) (sym e) (record {
      is_plain = is.0.0;
      request_fits = numbers.0;
      tag_fits = numbers.1;
      code_fits = numbers.2;
      number_fits = numbers.3;
      bytes_are = refl;
      within = short m (length before) is.0.1;
    })

kind_is_there : (m : Message) (bytes : List ℕ) → Spells m bytes → HasNoKind bytes → ⊥
kind_is_there m bytes is none = subst HasNoKind (sym is.bytes_are) none m.kind refl

pub written_is_read : WrittenIsRead
written_is_read m before after len (Ok note) numbers is read =
    (note, refl, one_message (message_in (take len after) note) m (take len after) read.0 (spells m before after len numbers is))
written_is_read m before after len (Err BadKind) numbers is read = absurd (kind_is_there m (take len after) (spells m before after len numbers is) read)
written_is_read m before after len (Err BadField) numbers is read = absurd read
written_is_read m before after len (Err BadLength) numbers is read = absurd (read.1 m (spells m before after len numbers is))
written_is_read m before after len (Err BadPath) numbers is read =
    let same = one_message read.0 m (take len after) read.1 (spells m before after len numbers is) in absurd (subst (λ n. ArePaths n → ⊥) same read.2 is.0.2)
written_is_read m before after len (Err BadText) numbers is read =
    let same = one_message read.0 m (take len after) read.1 (spells m before after len numbers is) in
    absurd (subst (λ (n : Message). IsUtf8 n.text → ⊥) same read.3 is.0.3)

room_for : (m : Message) (bytes : List ℕ) (room : ℕ) → Spells m bytes → length bytes ≤ room → Fits m room
unfolding Fits
room_for m bytes room is le = let same = ap length is.bytes_are in omega (arith, le, same, is.within)

pub read_is_written : ReadIsWritten
read_is_written bytes before after note (Ok len) read room is =
    let m = message_in bytes note in
    let e : len ≡ length bytes = is.1 ∙ ap length read.0.bytes_are in
    (ap Ok e, ap (λ n. take n after) (sym e) ∙ front m before after len is ∙ read.0.bytes_are)
read_is_written bytes before after note (Err BadKind) read room is = absurd is.0
read_is_written bytes before after note (Err BadField) read room is = absurd (is.0 read.0.is_plain)
read_is_written bytes before after note (Err BadLength) read room is =
    absurd (is.0.1 (room_for (message_in bytes note) bytes (length before) read.0 room))
read_is_written bytes before after note (Err BadPath) read room is = absurd (is.0.2 read.1)
read_is_written bytes before after note (Err BadText) read room is = absurd (is.0.3 read.2)
