-- A message is read from its bytes, and from no others.
use Rattle.std.proofs.Common.{◌≡◌, ℕ, ◌-◌, ◌≤◌, List, [], ◌∷◌, ◌++◌, length, drop, slice_get, nat_lt, if◌then◌else◌, Option, Some, None, refl, sym, ap, subst, ◌∙◌, arith, append_assoc, append-nil, option_and_then, option_map, suc}
use Rattle.std.proofs.lemmas.List.{nil_from_length}
use Rattle.sam_mesg.proofs.Exact.{IsBytes, bind_some, map_some, some_is}
use Rattle.sam_note.specs.declared.kind.Fields.{Fields}
use Rattle.sam_note.specs.declared.kind.NoteKind.{NoteKind}
use Rattle.sam_note.specs.declared.kind.NoteKind.TheVariants.{Open, Complete, Reload, Reloaded, Write, Session, Said, Shown, TakenOver, Ended, Opened, Refused, Names, Anew, Saved, NotSaved, Changed, Dated, Earlier, Aside, Lost, NoJournal}
use Rattle.sam_note.specs.declared.note.Head.{Head}
use Rattle.sam_note.specs.Calls.{HasNoKind}
use Rattle.sam_note.specs.Kinds.{Request, Tag, Code, Number, Path, Copy, Text, has, number}
use Rattle.sam_note.specs.Messages.{Message, Spells, most_bytes, spelled}
use Rattle.sam_note.specs.Reading.{ended, made, message_at, numbers_at, pieces_at, then_at}
use Rattle.sam_note.proofs.Fronts.{GoodNumbers, GoodPieces, IsShort, fields_front, number_bytes, piece_bytes}
use Rattle.sam_note.proofs.Spelling.{notes_len}
unfoldable use Rattle.sam_note.specs.Messages.{IsPlain}

-- ---- kinds

abbrev terminal_kinds : List NoteKind
terminal_kinds = Open ∷ Complete ∷ Reload ∷ Reloaded ∷ Write ∷ []

abbrev host_kinds : List NoteKind
host_kinds =
    Session ∷ Said ∷ Shown ∷ TakenOver ∷ Ended ∷ Opened ∷ Refused ∷ Names ∷ Anew ∷ Saved ∷ NotSaved ∷ Changed ∷ Dated ∷ Earlier ∷ Aside ∷ Lost
    ∷ NoJournal ∷ []

abbrev kind_at : ℕ → Option NoteKind
kind_at n = if nat_lt n 65 then slice_get terminal_kinds (n - 1) else slice_get host_kinds (n - 65)

kind_again : (kind : NoteKind) → kind_at (number kind) ≡ Some kind
kind_again Open = refl
kind_again _ = refl

pub one_kind : (a b : NoteKind) → number a ≡ number b → a ≡ b
one_kind a b e = some_is a b (sym (kind_again a) ∙ ap kind_at e ∙ kind_again b)

-- ---- a message by its fields

abbrev Parts : Type 0
Parts = (ℕ × (ℕ × (ℕ × ℕ))) × (List ℕ × (List ℕ × List ℕ))

abbrev parts_of : Message → Parts
parts_of m = ((m.request, (m.tag, (m.code, m.number))), (m.path, (m.copy, m.text)))

abbrev body : Fields → Parts → List ℕ
body f x = number_bytes f x.0 ++ piece_bytes f x.1

made_at : (kind : NoteKind) (request tag code n : ℕ) (path copy text : List ℕ)
    → let x : Parts = ((request, (tag, (code, n))), (path, (copy, text))) in spelled (made kind x) ≡ number kind ∷ body (has kind) x
made_at Open request tag code n path copy text = grind (arith, append_assoc, append-nil)
made_at _ request tag code n path copy text = grind (arith, append_assoc, append-nil)

pub made_spelled : (kind : NoteKind) (x : Parts) → spelled (made kind x) ≡ number kind ∷ body (has kind) x
made_spelled kind x = made_at kind x.0.0 x.0.1.0 x.0.1.1.0 x.0.1.1.1 x.1.0 x.1.1.0 x.1.1.1

made_plain : (kind : NoteKind) (x : Parts) → GoodNumbers (has kind) x.0 → GoodPieces (has kind) x.1 → IsPlain (made kind x)
unfolding IsPlain
made_plain kind x n p Request absent = n.0.1 absent
made_plain kind x n p Tag absent = n.1.0.1 absent
made_plain kind x n p Code absent = n.1.1.0.1 absent
made_plain kind x n p Number absent = n.1.1.1.1 absent
made_plain kind x n p Path absent = p.0.1 absent
made_plain kind x n p Copy absent = p.1.0.1 absent
made_plain kind x n p Text absent = p.1.1.1 absent

-- ---- what is read is spelled so

ended_is : {A : Type 0} (a : A × List ℕ) (x : A) → ended a ≡ Some x → (a.1 ≡ []) × (a.0 ≡ x)
ended_is a x e = grind (arith, some_is, nil_from_length)

pub takes : (kind : NoteKind) (bytes : List ℕ) (m : Message) → IsBytes bytes → message_at kind bytes ≡ Some m → length (number kind ∷ bytes) ≤ most_bytes
    → Spells m (number kind ∷ bytes)
takes kind bytes m fits e short =
    let f = has kind in
    let x = map_some (made kind) (option_and_then ended (then_at (numbers_at f) (pieces_at f) bytes)) m e in
    let a = bind_some (then_at (numbers_at f) (pieces_at f) bytes) ended x.0 x.1 in
    let t = (fields_front f).takes bytes a.0 fits a.1 in
    let u = ended_is a.0 x.0 a.2 in
    let whole : bytes ≡ body f a.0.0 = t.0 ∙ ap (λ l. body f a.0.0 ++ l) u.0 ∙ append-nil (body f a.0.0) in
    let spells : Spells (made kind a.0.0) (number kind ∷ bytes) = record {
      is_plain = made_plain kind a.0.0 t.1.0 t.1.1;
      request_fits = t.1.0.0.0;
      tag_fits = t.1.0.1.0.0;
      code_fits = t.1.0.1.1.0.0;
      number_fits = t.1.0.1.1.1.0;
      bytes_are = made_spelled kind a.0.0 ∙ ap (λ l. number kind ∷ l) (sym whole);
      within = short;
    } in
    subst (λ n. Spells n (number kind ∷ bytes)) (ap (made kind) u.1 ∙ x.2) spells

-- ---- what is spelled so is read

same_tail : (a b : ℕ) (xs ys : List ℕ) → a ∷ xs ≡ b ∷ ys → (a ≡ b) × (xs ≡ ys)
same_tail a b xs ys e = grind arith

shorts : (m : Message) (bytes : List ℕ) → Spells m bytes → IsShort m.path × IsShort m.copy × IsShort m.text
shorts m bytes is =
    let h : Head = record { kind = m.kind; request = m.request; tag = m.tag; code = m.code; number = m.number } in
    let len = notes_len h m.path m.copy m.text is.is_plain in
    let same = ap length is.bytes_are in
    (omega (arith, len, same, is.within), omega (arith, len, same, is.within), omega (arith, len, same, is.within))

good_parts : (m : Message) (bytes : List ℕ) → Spells m bytes → GoodNumbers (has m.kind) (parts_of m).0 × GoodPieces (has m.kind) (parts_of m).1
unfolding IsPlain
good_parts m bytes is =
    let s = shorts m bytes is in
    let p = is.is_plain in (
      ((is.request_fits, p Request), ((is.tag_fits, p Tag), ((is.code_fits, p Code), (is.number_fits, p Number)))),
      ((s.0, p Path), ((s.1, p Copy), (s.2, p Text))),
    )

pub again : (m : Message) (n : ℕ) (rest : List ℕ) → Spells m (n ∷ rest) → (number m.kind ≡ n) × (message_at m.kind rest ≡ Some m)
again m n rest is =
    let f = has m.kind in
    let x = parts_of m in
    let same = same_tail (number m.kind) n (body f x) rest (sym (made_spelled m.kind x) ∙ is.bytes_are) in
    let read = (fields_front f).again x [] (good_parts m (n ∷ rest) is) in (
      same.0,
      ap (message_at m.kind) (sym same.1 ∙ sym (append-nil (body f x)))
          ∙ ap (λ (r : Option (Parts × List ℕ)). option_map (made m.kind) (option_and_then ended r)) read,
    )

-- no bytes are those of two messages
pub one_message : (a b : Message) (bytes : List ℕ) → Spells a bytes → Spells b bytes → a ≡ b
one_message a b [] p q = absurd cc
one_message a b (n ∷ rest) p q =
    let s = again a n rest p in
    let t = again b n rest q in
    some_is a b (sym s.1 ∙ ap (λ k. message_at k rest) (one_kind a.kind b.kind (s.0 ∙ sym t.0)) ∙ t.1)

-- ---- as the code reads

pub shaped : (bytes rest : List ℕ) (first : ℕ) (kind : NoteKind) (m : Message) → IsBytes bytes → bytes ≡ first ∷ rest → number kind ≡ first → message_at kind rest ≡ Some m
    → length bytes ≤ most_bytes → Spells m bytes
shaped bytes rest first kind m fits e is read short =
    let same : bytes ≡ number kind ∷ rest = e ∙ ap (λ n. n ∷ rest) (sym is) in
    let whole : IsBytes (number kind ∷ rest) = subst IsBytes same fits in
    let behind : IsBytes rest = λ i. whole (suc i) in
    subst (Spells m) (sym same) (takes kind rest m behind read (subst (λ (l : List ℕ). length l ≤ most_bytes) same short))

pub shapeless : (bytes rest : List ℕ) (first : ℕ) (kind : NoteKind) (m : Message) → bytes ≡ first ∷ rest → number kind ≡ first → message_at kind rest ≡ None
    → Spells m bytes → ⊥
shapeless bytes rest first kind m e is read spells =
    let found = again m first rest (subst (Spells m) e spells) in
    let same : m.kind ≡ kind = one_kind m.kind kind (found.0 ∙ sym is) in
    let both : None ≡ Some m = sym read ∙ ap (λ k. message_at k rest) (sym same) ∙ found.1 in
    absurd cc

pub has_kind : (bytes rest : List ℕ) (first : ℕ) (kind : NoteKind) → bytes ≡ first ∷ rest → number kind ≡ first → HasNoKind bytes → ⊥
has_kind bytes rest first kind e is none = subst HasNoKind e none kind is

pub begins : (bytes : List ℕ) (first : ℕ) → slice_get bytes 0 ≡ Some first → bytes ≡ first ∷ drop 1 bytes
begins [] first e = absurd cc
begins (b ∷ bytes) first e = ap (λ n. n ∷ bytes) (some_is b first e)
