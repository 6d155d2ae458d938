-- What is read of a line is what it says, and each line says one thing.
use Rattle.sam_script.proofs.Common.{◌≡◌, ◌<◌, ◌≤◌, ◌∙◌, refl, sym, ap, subst, ℕ, List, [], ◌∷◌, ◌++◌, length, true, Some, Result, IfOk, IfErr, codes, flat_map, encode_utf8, arith, chars, encode_utf8_all, IsUtf8, le-leb, eqb-true, AllByRecursion, eqb_tells, same_Some, chars_from_encodes, encodes-chars, max_runes, most_in_name, Said, SpellsParts, IsWord, SpellsFile, SpellsLine, SaysNothing, SaysSo, Says, Rest, fitting_name, fitting_text, file_text_at, file_at, bare, line_readers, is_silent, line_at, IsUnsaid, ◌>>=◌, word_of, behind_word, word_at, Gives}
use Rattle.sam_script.specs.declared.line.Line.{Line}
use Rattle.sam_script.specs.declared.line.Line.TheVariants.{Key, Mouse, Add, Dirty, Act, Flush, Host, Term, Drain, Show}
use Rattle.std.specs.Prelude.{bytes_eq, false}
use Rattle.std.proofs.lemmas.Slice.Eq.{bytes_eq-Decides}
use Rattle.sam_script.specs.Reading.{bare_readers, event_at, read_by, step_readers}
use Rattle.sam_script.specs.Words.{tag_alone}
use Rattle.sam_script.specs.declared.fault.LineFault.{LineFault}
use Rattle.sam_script.specs.declared.line.Said.TheVariants as said
use Rattle.sam_world.specs.Given.{IsFile}
use Rattle.sam_script.proofs.SpellingLaws.{bind_some, word_ends, word_split, word_says, word_read, word_utf8, utf8_tail, utf8_rear, utf8_front, text_says, text_read, ReadsAs, rows_say, event_says, event_read, tag_says, tag_read}

-- ## A file

runes_encode : (runes : List ℕ) → flat_map encode_utf8 runes ≡ encode_utf8_all runes
runes_encode [] = refl
runes_encode (c ∷ runes) = ap (λ xs. encode_utf8 c ++ xs) (runes_encode runes)

name_says : (word name : List ℕ) → IsUtf8 word → fitting_name (chars word) ≡ Some name → (word ≡ flat_map encode_utf8 name) × (0 < length name) × (length name ≤ most_in_name)
name_says word name u h = grind (arith, runes_encode, encodes-chars)

name_read : (name : List ℕ) → IsUtf8 (flat_map encode_utf8 name) → 0 < length name → length name ≤ most_in_name → fitting_name (chars (flat_map encode_utf8 name)) ≡ Some name
name_read name u some short = grind (arith, chars_from_encodes, runes_encode)

file_text_says : (bytes text : List ℕ) → IsUtf8 bytes → file_text_at bytes ≡ Some text → SpellsParts (Rest text ∷ []) bytes × (length text ≤ max_runes)
unfolding file_text_at
file_text_says bytes text u h = grind (arith, text_says)

file_text_read : (bytes text : List ℕ) → IsUtf8 bytes → SpellsParts (Rest text ∷ []) bytes → length text ≤ max_runes → file_text_at bytes ≡ Some text
unfolding file_text_at
file_text_read bytes text u h short = ap (λ o. o >>= fitting_text) (text_read bytes text u h.0) ∙ rw (le-leb (length text) max_runes short) refl

-- a file is named after a space
file_says : (bytes : List ℕ) (x : List ℕ × List ℕ) → IsUtf8 bytes → file_at bytes ≡ Some x → SpellsFile (codes " ") x.0 x.1 bytes
unfolding file_at
file_says bytes x u h =
    let a = bind_some (word_at bytes) (λ w. fitting_name (chars w.0) >>= λ name. file_text_at w.1 >>= λ text. Some (name, text)) x h in
    let b = bind_some (fitting_name (chars a.0.0)) (λ name. file_text_at a.0.1 >>= λ text. Some (name, text)) x a.2 in
    let d = bind_some (file_text_at a.0.1) (λ text. Some (b.0, text)) x b.2 in
    let w = word_says bytes a.0 a.1 in
    let v = word_utf8 bytes a.0 u a.1 in
    let n = name_says a.0.0 b.0 v.0 b.1 in
    let t = file_text_says a.0.1 d.0 v.1 d.1 in
    subst (λ (y : List ℕ × List ℕ). SpellsFile (codes " ") y.0 y.1 bytes) (same_Some (b.0, d.0) x d.2)
    (a.0.1, w.0 ∙ ap (λ xs. codes " " ++ xs ++ a.0.1) n.0, subst IsWord n.0 w.1, (n.1, n.2, t.1), t.0)

file_read : (bytes name text rest : List ℕ) → IsUtf8 bytes → bytes ≡ codes " " ++ flat_map encode_utf8 name ++ rest → IsWord (flat_map encode_utf8 name) → IsFile (name, text)
    → SpellsParts (Rest text ∷ []) rest → file_at bytes ≡ Some (name, text)
unfolding file_at
file_read bytes name text rest u is plain fits parts =
    grind (
      arith,
      (word_read bytes (flat_map encode_utf8 name) rest is plain),
      (name_read name),
      (utf8_front (flat_map encode_utf8 name) rest),
      (utf8_tail (flat_map encode_utf8 name ++ rest)),
      (file_text_read rest text),
      (utf8_rear (codes " " ++ flat_map encode_utf8 name) rest),
    )

-- ## A line

-- a word and what stands after it say so
abbrev IsSaidBy : List ℕ → Said → List ℕ → Type 0
IsSaidBy word it bytes = SaysSo it (word ++ bytes)

file_row : ReadsAs IsSaidBy (codes "file", λ bytes. file_at bytes >>= λ x. Some (said.File x.0 x.1))
file_row bytes it u h =
    let a = bind_some (file_at bytes) (λ x. Some (said.File x.0 x.1)) it h in
    let s = file_says bytes a.0 u a.1 in
    subst (λ (x : Said). SaysSo x (codes "file" ++ bytes)) (same_Some (said.File a.0.0 a.0.1) it a.2) (s.0, ap (λ xs. codes "file" ++ xs) s.1, s.2, s.3, s.4)

add_row : ReadsAs IsSaidBy (codes "add", λ bytes. file_at bytes >>= λ x. Some (said.Line (Add x.0 x.1)))
add_row bytes it u h =
    let a = bind_some (file_at bytes) (λ x. Some (said.Line (Add x.0 x.1))) it h in
    let s = file_says bytes a.0 u a.1 in
    subst (λ (x : Said). SaysSo x (codes "add" ++ bytes)) (same_Some (said.Line (Add a.0.0 a.0.1)) it a.2) (s.0, ap (λ xs. codes "add" ++ xs) s.1, s.2, s.3, s.4)

dirty_row : ReadsAs IsSaidBy (codes "dirty", λ bytes. tag_alone bytes >>= λ f. Some (said.Line (Dirty f)))
dirty_row bytes it u h =
    let a = bind_some (tag_alone bytes) (λ f. Some (said.Line (Dirty f))) it h in
    subst (λ (x : Said). SaysSo x (codes "dirty" ++ bytes)) (same_Some (said.Line (Dirty a.0)) it a.2) (bytes, refl, tag_says bytes a.0 a.1)

bare_row : (line : Line) (word : List ℕ) → ((bytes : List ℕ) → bytes ≡ [] → SpellsLine line (word ++ bytes)) → ReadsAs IsSaidBy (word, bare line)
bare_row line word spells bytes it u h = grind arith

key_row : ReadsAs IsSaidBy (codes "k", λ bytes. event_at bytes >>= λ e. Some (said.Line (Key e)))
key_row bytes it u h = grind (arith, event_says)

mouse_row : ReadsAs IsSaidBy (codes "m", λ bytes. event_at bytes >>= λ e. Some (said.Line (Mouse e)))
mouse_row bytes it u h = grind (arith, event_says)

bare_rows : AllByRecursion (ReadsAs IsSaidBy) bare_readers
bare_rows = (
  bare_row Act (codes "act") (λ bytes e. ap (λ xs. codes "act" ++ xs) e),
  (
    bare_row Flush (codes "flush") (λ bytes e. ap (λ xs. codes "flush" ++ xs) e),
    (
      bare_row Host (codes "host") (λ bytes e. ap (λ xs. codes "host" ++ xs) e),
      (
        bare_row Term (codes "term") (λ bytes e. ap (λ xs. codes "term" ++ xs) e),
        (
          bare_row Drain (codes "drain") (λ bytes e. ap (λ xs. codes "drain" ++ xs) e),
          (
            bare_row Show (codes "show") (λ bytes e. ap (λ xs. codes "show" ++ xs) e),
            tt,
          ),
        ),
      ),
    ),
  ),
)

line_readers_say : AllByRecursion (ReadsAs IsSaidBy) line_readers
line_readers_say = (file_row, (add_row, (key_row, (mouse_row, (dirty_row, bare_rows)))))

silent_says : (bytes : List ℕ) → is_silent bytes ≡ true → SaysNothing bytes
silent_says bytes e = grind (arith, eqb_tells, eqb-true)

pub line_says : (bytes : List ℕ) (it : Said) → IsUtf8 bytes → line_at bytes ≡ Some it → SaysSo it bytes
unfolding line_at
line_says bytes it u h =
    grind (
      arith,
      silent_says,
      (rows_say IsSaidBy line_readers line_readers_say (word_of bytes) (behind_word bytes) it),
      (utf8_rear (word_of bytes) (behind_word bytes)),
      (word_split bytes),
      (word_ends bytes),
    )

other_word : (word key : List ℕ) → (word ≡ key → ⊥) → bytes_eq word key ≡ false
other_word word key other = grind (arith, (bytes_eq-Decides word key))

-- a line of another word than those of files and of the user
pub line_steps : (bytes word rest : List ℕ) → is_silent bytes ≡ false → word ≡ word_of bytes → rest ≡ behind_word bytes
    → (word ≡ codes "file" → ⊥) → (word ≡ codes "add" → ⊥) → (word ≡ codes "k" → ⊥) → (word ≡ codes "m" → ⊥)
    → line_at bytes ≡ read_by step_readers word rest
unfolding line_at
line_steps bytes word rest said first then file add k m =
    rw (
      said,
      sym first,
      sym then,
      other_word word (codes "file") file,
      other_word word (codes "add") add,
      other_word word (codes "k") k,
      other_word word (codes "m") m,
    )
    refl

pub line_read : (bytes : List ℕ) (it : Said) → Says it bytes → line_at bytes ≡ Some it
unfolding line_at
line_read bytes (said.File name text) (u, (rest, is, plain, fits, parts)) = grind (
  arith,
  (file_read (codes " " ++ flat_map encode_utf8 name ++ rest) name text rest
      (utf8_rear (codes "file") (codes " " ++ flat_map encode_utf8 name ++ rest) (subst IsUtf8 is u) refl) refl plain fits parts),
)
line_read bytes (said.Line (Add name text)) (u, (rest, is, plain, fits, parts)) = grind (
  arith,
  (file_read (codes " " ++ flat_map encode_utf8 name ++ rest) name text rest
      (utf8_rear (codes "add") (codes " " ++ flat_map encode_utf8 name ++ rest) (subst IsUtf8 is u) refl) refl plain fits parts),
)
line_read bytes (said.Line (Dirty f)) (u, (rest, is, (word, after, first, number, small, more))) =
    let whole : bytes ≡ codes "dirty" ++ (codes " " ++ word ++ after) = is ∙ ap (λ xs. codes "dirty" ++ xs) first in
    ap line_at whole ∙ ap (λ o. o >>= λ g. Some (said.Line (Dirty g))) (tag_read (codes " " ++ word ++ after) f (word, after, refl, number, small, more))
line_read bytes (said.Line (Key e)) (u, (event, is, spells)) =
    ap line_at is ∙ ap (λ o. o >>= λ d. Some (said.Line (Key d)))
    (event_read (codes " " ++ event) event e (utf8_rear (codes "k") (codes " " ++ event) (subst IsUtf8 is u) refl) refl spells)
line_read bytes (said.Line (Mouse e)) (u, (event, is, spells)) =
    ap line_at is ∙ ap (λ o. o >>= λ d. Some (said.Line (Mouse d)))
    (event_read (codes " " ++ event) event e (utf8_rear (codes "m") (codes " " ++ event) (subst IsUtf8 is u) refl) refl spells)
line_read bytes it e = grind arith

-- a line says one thing
pub says_one : (bytes : List ℕ) (x y : Said) → Says x bytes → Says y bytes → x ≡ y
says_one bytes x y p q = same_Some x y (sym (line_read bytes x p) ∙ line_read bytes y q)

pub said_ok : (r : Result Said LineFault) (text bytes : List ℕ) → (text ≡ bytes) × IsUtf8 bytes → Gives (λ it. it) r (line_at text) → IfOk r (λ it. Says it bytes)
said_ok r text bytes e u = grind (arith, line_says)

pub said_wrong : (r : Result Said LineFault) (text bytes : List ℕ) → (text ≡ bytes) × IsUtf8 bytes → Gives (λ it. it) r (line_at text) → IfErr r (IsUnsaid bytes)
said_wrong r text bytes e u = grind (arith, line_read)
