-- Writing one field after the other.
use Rattle.std.proofs.Common.{◌≡◌, ℕ, ◌+◌, List, [], ◌∷◌, ◌++◌, length, take, drop, Bool, true, false, refl, sym, ap, ◌∙◌, arith, append_assoc, append-nil, length-append, take-append-drop}
use Rattle.std.proofs.lemmas.List.{drop-drop, drop_at}
use Rattle.sam_mesg.specs.Spelling.{two, four, eight}
use Rattle.sam_note.specs.declared.kind.Fields.{Fields}
use Rattle.sam_note.specs.declared.note.Head.{Head}
use Rattle.sam_note.specs.Kinds.{has, number}
use Rattle.sam_note.specs.Messages.{piece}
use Rattle.sam_note.specs.Writing.{Puts, part}
unfoldable pub use Rattle.sam_note.specs.Writing.{head_bytes, note_bytes}

pub puts_all : (at : ℕ) (bytes x z : List ℕ) → take (at + length bytes) z ≡ take at x ++ bytes → drop at z ≡ bytes ++ drop (at + length bytes) x → length z ≡ length x
    → Puts at bytes x (at + length bytes) z
puts_all at bytes x z front behind len = record {
  end_is = refl;
  front = front;
  behind = sym (drop-drop (length bytes) at z) ∙ ap (drop (length bytes)) behind ∙ drop_at bytes (drop (at + length bytes) x) (length bytes) refl;
  len = len;
}

-- where nothing was written
pub puts_none : (at : ℕ) (before : List ℕ) → Puts at [] before at before
puts_none at before = record { end_is = grind arith; front = sym (append-nil (take at before)); behind = refl; len = refl }

-- what was written first is still there
pub puts_then : {at : ℕ} {a b x : List ℕ} {e : ℕ} {y : List ℕ} {f : ℕ} {z : List ℕ} → Puts at a x e y → Puts e b y f z → Puts at (a ++ b) x f z
puts_then {at} {a} {b} {x} {e} {y} {f} {z} p q = record {
  end_is = omega (arith, p.end_is, q.end_is, length-append a b);
  front = q.front ∙ ap (λ l. l ++ b) p.front ∙ append_assoc (take at x) a b;
  behind = q.behind ∙ grind (arith, (drop-drop (length b) e y), (drop-drop (length b) e x), (p.behind), (q.end_is));
  len = q.len ∙ p.len;
}

-- what was written from the front on
pub puts_front : (bytes before : List ℕ) (end : ℕ) (after : List ℕ) → Puts 0 bytes before end after → after ≡ bytes ++ drop end before
puts_front bytes before end after p = sym (take-append-drop end after) ∙ ap (λ l. l ++ drop end after) p.front ∙ ap (λ l. bytes ++ l) p.behind

-- a piece that is there, or not
pub part_piece : (there : Bool) (bytes : List ℕ) → part there (two (length bytes)) ++ part there bytes ≡ part there (piece bytes)
part_piece true bytes = refl
part_piece false bytes = refl

pub length_piece : (there : Bool) (bytes : List ℕ) → length (part there (two (length bytes))) + length (part there bytes) ≡ length (part there (piece bytes))
length_piece there bytes = sym (length-append (part there (two (length bytes))) (part there bytes)) ∙ ap length (part_piece there bytes)

pub length_head : (h : Head)
    → length (head_bytes h)
    ≡ 1 + length (part (has h.kind).request (four h.request)) + length (part (has h.kind).tag (two h.tag)) + length (part (has h.kind).code (h.code ∷ []))
    + length (part (has h.kind).number (eight h.number))
unfolding head_bytes
length_head h = grind (arith, length-append)

pub length_note : (h : Head) (path copy text : List ℕ)
    → length (note_bytes h path copy text)
    ≡ length (head_bytes h) + length (part (has h.kind).path (piece path)) + length (part (has h.kind).copy (piece copy)) + length (part (has h.kind).text (piece text))
unfolding note_bytes
length_note h path copy text = grind (arith, length-append)

-- the bytes of a head, and those of a message, by whatever is the same as what they have
abbrev pub heads : Fields → ℕ → List ℕ → List ℕ → List ℕ → List ℕ → List ℕ
heads f kind request tag code n = kind ∷ [] ++ part f.request request ++ part f.tag tag ++ part f.code code ++ part f.number n

pub heads_are : (h : Head) (f : Fields) (kind : ℕ) (request tag code n : List ℕ)
    → f ≡ has h.kind → kind ≡ number h.kind → request ≡ four h.request → tag ≡ two h.tag → code ≡ h.code ∷ [] → n ≡ eight h.number
    → heads f kind request tag code n ≡ head_bytes h
unfolding head_bytes
heads_are h f kind request tag code n a b c d e g = rw (a, b, c, d, e, g) refl

pub notes_are : (h : Head) (f : Fields) (path copy text : List ℕ) → f ≡ has h.kind
    → head_bytes h ++ part f.path (piece path) ++ part f.copy (piece copy) ++ part f.text (piece text) ≡ note_bytes h path copy text
unfolding note_bytes
notes_are h f path copy text e = rw e refl
