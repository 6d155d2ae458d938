-- What `run_lines` writes is read back.
use Rattle.sam_script.proofs.Common.{◌≡◌, ◌≢◌, ◌<◌, ◌≤◌, ◌^◌, ◌+◌, refl, sym, ap, ℕ, suc, List, [], ◌∷◌, ◌++◌, length, get_or, map, Bool, true, false, not, arith, codes, flat_map, append_assoc, append-nil, encode_utf8, ◌&&◌, ◌==◌, nat_lt, decimal, pow_mono, IsUtf8, ne_eqb, most_files, AllByRecursion, AllZip, onto_first, all_ascii_digits, and_parts, numerals_by_value, tells_all_ascii_digits, IsUtf8-nil, IsUtf8-append, IsUtf8-encode, inside_one, encode_ascii, UserEvent, Event, Said, PlainScript, text_shown, text_rune, part_shown, spelling, IsNumber, SpellsParts, IsWord, SaysSo, Says, files_said, lines_said, AreFilesFirst, lines_of, Spells, Part, form, Number, Rest, event_line, file_line, run_lines_of, line_of, numbered_from, run_script, CanBeNamed, IsFitting, CanBeWritten}
use Rattle.std.specs.Char.{IsScalar}
use lib.Utf8.{scalar}
use Rattle.std.proofs.lemmas.Fmt.{decimal_is_IsNumeral, digits_decimal}
use Rattle.sam_runes.specs.Reading.{AreRunes}
use Rattle.sam_crossing.specs.declared.event.Event.TheVariants.{User, Add, Mark, Act, Flush, HostTake, TermTake}
use Rattle.sam_script.specs.Events.{Tag}
use Rattle.sam_script.specs.declared.line.Line.TheVariants as line
use Rattle.sam_script.specs.declared.line.Said.TheVariants as said
use Rattle.sam_script.proofs.ScriptLaws.{spells_one}

pub one_script : (bytes : List ℕ) (a b : PlainScript) → Spells bytes a → Spells bytes b → a ≡ b
one_script bytes a b p q = spells_one (lines_of bytes) a b p q

-- ## Bytes of one line: UTF-8 without a newline

abbrev IsOneLine : List ℕ → Type 0
IsOneLine = AllByRecursion (λ b. (b == 10) ≡ false)

record Good (bytes : List ℕ) : Type 0 where
  one : IsOneLine bytes
  utf8 : IsUtf8 bytes

all_append : (byte : ℕ) (xs ys : List ℕ) → AllByRecursion (λ b. (b == byte) ≡ false) xs → AllByRecursion (λ b. (b == byte) ≡ false) ys
    → AllByRecursion (λ b. (b == byte) ≡ false) (xs ++ ys)
all_append byte [] ys p q = q
all_append byte (x ∷ xs) ys p q = (p.0, all_append byte xs ys p.1 q)

by_index : (byte : ℕ) (bytes : List ℕ) → ((k : ℕ) → k < length bytes → get_or bytes k 0 ≢ byte) → AllByRecursion (λ b. (b == byte) ≡ false) bytes
by_index byte [] h = tt
by_index byte (b ∷ bytes) h = (ne_eqb b byte (h 0 (omega arith)), by_index byte bytes (λ k less. h (suc k) (omega arith)))

good_append : (xs ys : List ℕ) → Good xs → Good ys → Good (xs ++ ys)
good_append xs ys p q = record { one = all_append 10 xs ys p.one q.one; utf8 = IsUtf8-append xs ys p.utf8 q.utf8 }

good_nil : Good []
good_nil = record { one = tt; utf8 = IsUtf8-nil }

-- plain bytes of ASCII
abbrev is_plain : List ℕ → Bool
is_plain [] = true
is_plain (b ∷ bytes) = (nat_lt b 128 && not (b == 10)) && is_plain bytes

good_plain : (bytes : List ℕ) → is_plain bytes ≡ true → Good bytes
good_plain [] h = good_nil
good_plain (b ∷ bytes) h =
    let each = and_parts (nat_lt b 128 && not (b == 10)) (is_plain bytes) h in
    grind (arith, each, (encode_ascii b), (IsUtf8-append (encode_utf8 b) bytes), (IsUtf8-encode b), (good_plain bytes))

digits_plain : (word : List ℕ) → all_ascii_digits word ≡ true → is_plain word ≡ true
digits_plain [] h = refl
digits_plain (c ∷ word) h = grind (arith, (digits_plain word))

good_rune : (c : ℕ) → IsScalar c → (c == 10) ≡ false → Good (encode_utf8 c)
good_rune c scalar other = grind (arith, (by_index 10 (encode_utf8 c)), (inside_one c), (append-nil (encode_utf8 c)), (IsUtf8-encode c scalar))

good_text : (s : List ℕ) → AreRunes s → Good (text_shown s)
good_text [] h = good_nil
good_text (c ∷ s) h = grind (arith, (good_append (text_rune c) (text_shown s)), (good_text s), good_plain, good_rune)

good_name : (name : List ℕ) → AreRunes name → AllByRecursion (λ c. ((c == 32) ≡ false) × ((c == 10) ≡ false)) name → Good (flat_map encode_utf8 name)
good_name [] runes h = good_nil
good_name (c ∷ name) runes h = grind (arith, (good_append (encode_utf8 c) (flat_map encode_utf8 name)), (good_rune c), (good_name name))

name_word : (name : List ℕ) → AllByRecursion (λ c. ((c == 32) ≡ false) × ((c == 10) ≡ false)) name → IsWord (flat_map encode_utf8 name)
name_word [] h = tt
name_word (c ∷ name) h =
    let whole = append-nil (encode_utf8 c) in
    grind (arith, whole, (all_append 32 (encode_utf8 c) (flat_map encode_utf8 name)), (by_index 32 (encode_utf8 c)), (inside_one c), (name_word name h.1))

-- ## An event

-- numbers of 16 or 32 bits, and a text at most at the end
abbrev is_sane : List Part → Bool
is_sane [] = true
is_sane (Number bits n ∷ parts) = nat_lt bits 64 && is_sane parts
is_sane (Rest s ∷ []) = true
is_sane (Rest s ∷ part ∷ parts) = false

form_sane : (e : UserEvent) → is_sane (form e).1 ≡ true
form_sane e = grind arith

form_plain : (e : UserEvent) → is_plain (form e).0 ≡ true
form_plain e = grind arith

decimal_number : (bits n : ℕ) → bits < 64 → n < 2 ^ bits → (n < 2 ^ 64) × IsNumber (decimal n) n
decimal_number bits n small fits =
    let le : bits ≤ 64 = omega arith in
    let more = pow_mono le in
    let less : n < 2 ^ 64 = omega (arith, fits, more) in
    let d = decimal_is_IsNumeral n less in
    (less, (d.0.0, digits_decimal (numerals_by_value (λ ds. all_ascii_digits ds ≡ true) tells_all_ascii_digits) n less, d.1))

parts_spelled : (parts : List Part) → is_sane parts ≡ true → AllByRecursion IsFitting parts → SpellsParts parts (flat_map part_shown parts)
parts_spelled (Number bits n ∷ parts) sane fit = grind (arith, (decimal_number bits n), (parts_spelled parts))
parts_spelled parts e u = grind (arith, append-nil)

parts_good : (parts : List Part) → is_sane parts ≡ true → AllByRecursion IsFitting parts → Good (flat_map part_shown parts)
parts_good (Number bits n ∷ parts) sane fit =
    grind (
      arith,
      (decimal_number bits n),
      (good_append (codes " " ++ decimal n) (flat_map part_shown parts)),
      (good_append (codes " ") (decimal n) (good_plain (codes " ") refl)),
      (good_plain (decimal n)),
      (digits_plain (decimal n)),
      (parts_good parts),
    )
parts_good (Rest s ∷ []) sane fit =
    good_append (codes " " ++ text_shown s) [] (good_append (codes " ") (text_shown s) (good_plain (codes " ") refl) (good_text s fit.0)) good_nil
parts_good parts e u = grind (arith, good_nil)

-- ## Lines

abbrev event_bytes : Event → List ℕ
event_bytes (User e) = codes "k " ++ spelling (form e)
event_bytes (Add name text) = codes "add " ++ flat_map encode_utf8 name ++ codes " " ++ text_shown text
event_bytes (Mark f) = spelling (codes "dirty", Tag f ∷ [])
event_bytes Act = codes "act"
event_bytes Flush = codes "flush"
event_bytes HostTake = codes "host"
event_bytes TermTake = codes "term"

abbrev said_event : Event → Said
said_event e = said.Line (line_of e)

abbrev file_bytes : List ℕ × List ℕ → List ℕ
file_bytes file = codes "file " ++ flat_map encode_utf8 file.0 ++ codes " " ++ text_shown file.1

abbrev said_file : List ℕ × List ℕ → Said
said_file file = said.File file.0 file.1

-- a word, and the name and the text of a file
named_good : (word : List ℕ) (file : List ℕ × List ℕ) → Good word → CanBeNamed file → Good (word ++ flat_map encode_utf8 file.0 ++ codes " " ++ text_shown file.1)
named_good word file good can =
    good_append (word ++ flat_map encode_utf8 file.0 ++ codes " ") (text_shown file.1)
    (good_append (word ++ flat_map encode_utf8 file.0) (codes " ") (good_append word (flat_map encode_utf8 file.0) good (good_name file.0 can.1 can.3)) (good_plain (codes " ") refl))
    (good_text file.1 can.2)

event_good : (e : Event) → CanBeWritten e → Good (event_bytes e)
event_good (Add name text) can = named_good (codes "add ") (name, text) (good_plain (codes "add ") refl) can
event_good (User e) fit = good_append (codes "k ") (spelling (form e)) (good_plain (codes "k ") refl)
    (good_append (form e).0 (flat_map part_shown (form e).1) (good_plain (form e).0 (form_plain e)) (parts_good (form e).1 (form_sane e) fit))
event_good (Mark f) fit = good_append (codes "dirty") (flat_map part_shown (Tag f ∷ [])) (good_plain (codes "dirty") refl) (parts_good (Tag f ∷ []) refl (fit, tt))
event_good e fit = good_plain (event_bytes e) refl

event_said : (e : Event) → CanBeWritten e → SaysSo (said_event e) (event_bytes e)
event_said (Add name text) can = grind (arith, (append_assoc (codes "add " ++ flat_map encode_utf8 name) (codes " ") (text_shown text)), (name_word name can.3))
event_said (Mark f) fit = (flat_map part_shown (Tag f ∷ []), refl, parts_spelled (Tag f ∷ []) refl (fit, tt))
event_said e u = grind (arith, flat_map, parts_spelled, form_sane)

file_good : (file : List ℕ × List ℕ) → CanBeNamed file → Good (file_bytes file)
file_good file can = named_good (codes "file ") file (good_plain (codes "file ") refl) can

file_is_said : (file : List ℕ × List ℕ) → CanBeNamed file → SaysSo (said_file file) (file_bytes file)
file_is_said file can = grind (arith, (append_assoc (codes "file " ++ flat_map encode_utf8 file.0) (codes " ") (text_shown file.1)), (name_word file.0 can.3))

-- ## All lines

line_first : (xs ys : List ℕ) → IsOneLine xs → lines_of (xs ++ 10 ∷ ys) ≡ xs ∷ lines_of ys
line_first [] ys h = refl
line_first (x ∷ xs) ys h = rw h.0 (ap (onto_first x) (line_first xs ys h.1))

-- what is written one after the other says one after the other
say_many : {X : Type 0} (it : X → Said) (line whole : X → List ℕ) (P : X → Type 0) → ((x : X) → whole x ≡ line x ++ 10 ∷ [])
    → ((x : X) → P x → Good (line x) × SaysSo (it x) (line x)) → (xs : List X) (says : List Said) (rest : List ℕ)
    → AllByRecursion P xs → AllZip Says says (lines_of rest) → AllZip Says (map it xs ++ says) (lines_of (flat_map whole xs ++ rest))
say_many it line whole P ends holds [] says rest each more = more
say_many it line whole P ends holds (x ∷ xs) says rest each more =
    let h = holds x each.0 in
    rw (
      ends x,
      append_assoc (line x ++ 10 ∷ []) (flat_map whole xs) rest,
      append_assoc (line x) (10 ∷ []) (flat_map whole xs ++ rest),
      line_first (line x) (flat_map whole xs ++ rest) h.0.one,
    )
    ((h.0.utf8, h.1), say_many it line whole P ends holds xs says rest each.1 more)

abbrev tail_said : List Said
tail_said = said.Line line.Show ∷ said.Nothing ∷ []

abbrev all_said : List (List ℕ × List ℕ) → List Event → List Said
all_said files events = map said_file files ++ (map said_event events ++ tail_said)

no_files : (events : List Event) → files_said (map said_event events ++ tail_said) ≡ []
no_files [] = refl
no_files (e ∷ events) = no_files events

their_files : (files : List (List ℕ × List ℕ)) (events : List Event) → files_said (all_said files events) ≡ files
their_files [] events = no_files events
their_files (file ∷ files) events = ap (λ fs. file ∷ fs) (their_files files events)

files_first : (files : List (List ℕ × List ℕ)) (events : List Event) → AreFilesFirst (all_said files events)
files_first [] [] = refl
files_first [] (e ∷ events) = no_files events
files_first (file ∷ files) events = files_first files events

event_lines : (n : ℕ) (events : List Event) → lines_said n (map said_event events ++ tail_said) ≡ numbered_from n (map line_of events ++ line.Show ∷ [])
event_lines n [] = refl
event_lines n (e ∷ events) = ap (λ ls. record { number = n; line = line_of e } ∷ ls) (event_lines (n + 1) events)

their_lines : (n : ℕ) (files : List (List ℕ × List ℕ)) (events : List Event) → lines_said n (all_said files events) ≡ numbered_from (n + length files) (map line_of events ++ line.Show ∷ [])
their_lines n [] events = grind (arith, event_lines)
their_lines n (file ∷ files) events = grind (arith, (their_lines (n + 1) files events))

pub run_is_spelled : (files : List (List ℕ × List ℕ)) (events : List Event) → length files ≤ most_files → AllByRecursion CanBeNamed files
    → AllByRecursion CanBeWritten events → Spells (run_lines_of files events) (run_script files events)
run_is_spelled files events count named written = record {
  said = all_said files events;
  each = rw (append_assoc (flat_map file_line files) (flat_map event_line events) (codes "show\n"))
      (say_many said_file file_bytes file_line CanBeNamed (λ f. refl) (λ f can. (file_good f can, file_is_said f can)) files (map said_event events ++ tail_said)
      (flat_map event_line events ++ codes "show\n") named
      (say_many said_event event_bytes event_line CanBeWritten (λ e. grind arith) (λ e can. (event_good e can, event_said e can)) events tail_said
      (codes "show\n") written (((good_plain (codes "show") refl).utf8, refl), ((IsUtf8-nil, tt), tt))));
  ordered = files_first files events;
  files = sym (their_files files events);
  others = sym (their_lines 1 files events);
  count = grind (arith, their_files);
}
