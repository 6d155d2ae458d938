-- What reading gives is what the grammar says, and what it says is read.
use Rattle.sam_script.proofs.Common.{◌≡◌, ◌<◌, ◌∙◌, ◌^◌, ◌⊎◌, inl, inr, refl, sym, ap, ap₂, subst, ℕ, List, [], ◌∷◌, ◌++◌, length, length-append, Bool, true, false, cond, Option, Some, arith, codes, flat_map, append_assoc, append-nil, encode_utf8, ◌==◌, encode_utf8_all, IsUtf8, IsCharBoundary, AllByRecursion, all_ascii_digits, eqb_tells, same_Some, IsUtf8-drop, IsUtf8-take, IsUtf8-past_char, IsCharBoundary-end, chars_from_encodes, encodes-chars, encodes-append, encode_ascii, UserEvent, text_shown, text_rune, IsNumber, SpellsParts, SpellsEvent, IsWord, Part, Tag, Place, form, Reader, by_tag, by_place, by_range, readers, edit_at, Number, Rest, read_by, event_at, ◌>>=◌, word_of, behind_word, word_at, number_of, number_at, unescaped, text_at, ended, tag_alone, tag_and_place, tag_and_range, tag_and_text}
use Rattle.std.proofs.Math.Seq.{drop-append_seam, take-append_seam, get_or-append_seam}
use Rattle.std.proofs.lemmas.Slice.Eq.{bytes_eq-Decides}
use Rattle.sam_term.specs.declared.event.UserEvent.TheVariants.{Typed, SetSnarf, Edit}

-- ## Options and tests

pub bind_some : {A B : Type 0} (o : Option A) (f : A → Option B) (y : B) → (o >>= f) ≡ Some y → (x : A) × (o ≡ Some x) × (f x ≡ Some y)
bind_some o f y e = grind arith

pub ended_says : {X : Type 0} (x y : X) (bytes : List ℕ) → ended x bytes ≡ Some y → (bytes ≡ []) × (x ≡ y)
ended_says x y bytes e = grind (arith, same_Some)

-- ## Words

-- nothing, or a space and more
abbrev pub IsEnd : List ℕ → Type 0
IsEnd [] = Unit {0}
IsEnd (b ∷ bytes) = b ≡ 32

pub word_ends : (bytes : List ℕ) → IsEnd (behind_word bytes)
word_ends [] = tt
word_ends (b ∷ bytes) = elim (eqb_tells b 32) [ inl h ↦ rw h.0 h.1 | inr h ↦ rw h.0 (word_ends bytes) ]

pub word_split : (bytes : List ℕ) → word_of bytes ++ behind_word bytes ≡ bytes
word_split [] = refl
word_split (b ∷ bytes) = elim (eqb_tells b 32) [ inl h ↦ rw h.0 refl | inr h ↦ rw h.0 (ap (λ xs. b ∷ xs) (word_split bytes)) ]

pub word_plain : (bytes : List ℕ) → IsWord (word_of bytes)
word_plain [] = tt
word_plain (b ∷ bytes) = elim (eqb_tells b 32) [ inl h ↦ rw h.0 tt | inr h ↦ rw h.0 (h.0, word_plain bytes) ]

pub word_front : (word rest : List ℕ) → IsWord word → IsEnd rest → word_of (word ++ rest) ≡ word
word_front (b ∷ word) rest plain end = rw plain.0 (ap (λ xs. b ∷ xs) (word_front word rest plain.1 end))
word_front word rest e u = grind arith

pub word_rear : (word rest : List ℕ) → IsWord word → IsEnd rest → behind_word (word ++ rest) ≡ rest
word_rear (b ∷ word) rest plain end = rw plain.0 (word_rear word rest plain.1 end)
word_rear word rest e u = grind arith

pub word_says : (bytes : List ℕ) (x : List ℕ × List ℕ) → word_at bytes ≡ Some x → (bytes ≡ codes " " ++ x.0 ++ x.1) × IsWord x.0 × IsEnd x.1
word_says bytes x e = grind (arith, word_split, word_plain, word_ends)

pub word_read : (bytes word rest : List ℕ) → bytes ≡ codes " " ++ word ++ rest → IsWord word → IsEnd rest → word_at bytes ≡ Some (word, rest)
word_read bytes word rest is plain end = ap word_at is ∙ ap₂ (λ w r. Some (w, r)) (word_front word rest plain end) (word_rear word rest plain end)

-- ## UTF-8

e92 : encode_utf8 92 ≡ 92 ∷ []
e92 = encode_ascii 92 (omega arith)

end_bounds : (word rest : List ℕ) → IsEnd rest → IsCharBoundary (word ++ rest) (length word)
end_bounds word rest e = grind (arith, append-nil, IsCharBoundary-end, (get_or-append_seam word), (length-append word))

pub utf8_rear : (word rest : List ℕ) → IsUtf8 (word ++ rest) → IsEnd rest → IsUtf8 rest
utf8_rear word rest u end = subst IsUtf8 (drop-append_seam word rest) (IsUtf8-drop (word ++ rest) (length word) u (end_bounds word rest end))

pub utf8_front : (word rest : List ℕ) → IsUtf8 (word ++ rest) → IsEnd rest → IsUtf8 word
utf8_front word rest u end = subst IsUtf8 (take-append_seam word rest) (IsUtf8-take (word ++ rest) (length word) u (end_bounds word rest end))

pub utf8_tail : (bytes : List ℕ) → IsUtf8 (32 ∷ bytes) → IsUtf8 bytes
utf8_tail bytes u = IsUtf8-past_char (32 ∷ bytes) bytes 32 u (ap (λ xs. xs ++ bytes) (sym (encode_ascii 32 (omega arith))))

-- the word after a space and what follows it are UTF-8
pub word_utf8 : (bytes : List ℕ) (x : List ℕ × List ℕ) → IsUtf8 bytes → word_at bytes ≡ Some x → IsUtf8 x.0 × IsUtf8 x.1
word_utf8 bytes x u e =
    let w = word_says bytes x e in
    let v = subst IsUtf8 w.0 u in
    (utf8_front x.0 x.1 (utf8_tail (x.0 ++ x.1) v) w.2, utf8_rear (codes " " ++ x.0) x.1 v w.2)

-- ## Numbers

digits_word : (word : List ℕ) → all_ascii_digits word ≡ true → IsWord word
digits_word [] h = tt
digits_word (c ∷ word) h = grind (arith, (digits_word word))

pub number_says : (bits : ℕ) (bytes : List ℕ) (x : ℕ × List ℕ) → number_at bits bytes ≡ Some x
    → (word : List ℕ) × (bytes ≡ codes " " ++ word ++ x.1) × IsNumber word x.0 × (x.0 < 2 ^ bits) × IsEnd x.1
unfolding number_at
number_says bits bytes x h =
    let a = bind_some (word_at bytes) (λ w. number_of bits w.0 >>= λ n. Some (n, w.1)) x h in
    let w = word_says bytes a.0 a.1 in
    (a.0.0, grind (arith, w), grind arith, grind arith, grind (arith, w))

pub number_read : (bits : ℕ) (bytes word rest : List ℕ) (n : ℕ) → bytes ≡ codes " " ++ word ++ rest → IsNumber word n → n < 2 ^ bits → IsEnd rest
    → number_at bits bytes ≡ Some (n, rest)
unfolding number_at
number_read bits bytes word rest n is number small end = grind (arith, word_read, digits_word)

-- ## Texts

-- a text as it is spelled, in characters
abbrev escape : ℕ → List ℕ
escape c = cond (c == 92) (92 ∷ 92 ∷ []) (cond (c == 10) (92 ∷ 110 ∷ []) (c ∷ []))

abbrev escaped : List ℕ → List ℕ
escaped = flat_map escape

rune_encodes : (c : ℕ) → encode_utf8_all (escape c) ≡ text_rune c
rune_encodes c = grind (arith, e92, append-nil, encode_ascii)

escaped_encodes : (s : List ℕ) → encode_utf8_all (escaped s) ≡ text_shown s
escaped_encodes [] = refl
escaped_encodes (c ∷ s) = encodes-append (escape c) (escaped s) ∙ ap₂ (λ xs ys. xs ++ ys) (rune_encodes c) (escaped_encodes s)

escaped_read : (front s : List ℕ) → unescaped front false (escaped s) ≡ Some (front ++ s)
escaped_read front [] = ap (λ xs. Some xs) (sym (append-nil front))
escaped_read front (c ∷ s) = grind (arith, append_assoc, (escaped_read (front ++ c ∷ []) s))

pub text_read : (bytes s : List ℕ) → IsUtf8 bytes → (bytes ≡ codes " " ++ text_shown s) ⊎ ((bytes ≡ []) × (s ≡ [])) → text_at bytes ≡ Some s
text_read bytes s u (inl is) = grind (arith, (chars_from_encodes (escaped s) (text_shown s) (utf8_tail (text_shown s) (subst IsUtf8 is u)) (escaped_encodes s)), escaped_read)
text_read bytes s u (inr is) = ap text_at is.0 ∙ ap (λ xs. Some xs) (sym is.1)

abbrev held : Bool → List ℕ
held true = 92 ∷ []
held false = []

unescaped_says : (cs front : List ℕ) (is_escaped : Bool) (s : List ℕ) → unescaped front is_escaped cs ≡ Some s
    → (rest : List ℕ) × (s ≡ front ++ rest) × (held is_escaped ++ encode_utf8_all cs ≡ text_shown rest)
unescaped_says (c ∷ cs) front false s h = grind (arith, e92, append_assoc, (unescaped_says cs front true s), (unescaped_says cs (front ++ c ∷ []) false s))
unescaped_says (c ∷ cs) front true s h = grind (arith, append_assoc, e92, (unescaped_says cs (front ++ 10 ∷ []) false s), (unescaped_says cs (front ++ 92 ∷ []) false s), encode_ascii)
unescaped_says cs front is_escaped s e = grind (arith, same_Some, append-nil)

pub text_says : (bytes s : List ℕ) → IsUtf8 bytes → text_at bytes ≡ Some s → (bytes ≡ codes " " ++ text_shown s) ⊎ ((bytes ≡ []) × (s ≡ []))
text_says bytes s e u = grind (arith, same_Some, unescaped_says, utf8_tail, encodes-chars)

-- ## What stands after the word of an event

pub parts_end : (parts : List Part) (bytes : List ℕ) → SpellsParts parts bytes → IsEnd bytes
parts_end [] bytes h = grind arith
parts_end (part ∷ parts) bytes h = grind arith

-- a number stands first
number_parts : (bits : ℕ) (bytes : List ℕ) (x : ℕ × List ℕ) (parts : List Part) → number_at bits bytes ≡ Some x → SpellsParts parts x.1
    → SpellsParts (Number bits x.0 ∷ parts) bytes
number_parts bits bytes x parts is more = let n = number_says bits bytes x is in (n.0, x.1, n.1, n.2, n.3, more)

parts_number : (bits : ℕ) (bytes : List ℕ) (n : ℕ) (parts : List Part) → SpellsParts (Number bits n ∷ parts) bytes
    → (rest : List ℕ) × (number_at bits bytes ≡ Some (n, rest)) × SpellsParts parts rest
parts_number bits bytes n parts h = (h.1, number_read bits bytes h.0 h.1 n h.2 h.3 h.4 (parts_end parts h.1 h.5), h.5)

-- what stands after a number is UTF-8
number_utf8 : (bits : ℕ) (bytes : List ℕ) (x : ℕ × List ℕ) → IsUtf8 bytes → number_at bits bytes ≡ Some x → IsUtf8 x.1
number_utf8 bits bytes x u is = let n = number_says bits bytes x is in utf8_rear (codes " " ++ n.0) x.1 (subst IsUtf8 n.1 u) n.4

pub tag_says : (bytes : List ℕ) (f : ℕ) → tag_alone bytes ≡ Some f → SpellsParts (Tag f ∷ []) bytes
unfolding tag_alone
tag_says bytes f h =
    let a = bind_some (number_at 16 bytes) (λ x. ended x.0 x.1) f h in
    let e = ended_says a.0.0 f a.0.1 a.2 in
    subst (λ n. SpellsParts (Tag n ∷ []) bytes) e.1 (number_parts 16 bytes a.0 [] a.1 e.0)

pub tag_read : (bytes : List ℕ) (f : ℕ) → SpellsParts (Tag f ∷ []) bytes → tag_alone bytes ≡ Some f
unfolding tag_alone
tag_read bytes f h = grind (arith, (parts_number 16 bytes f [] h))

pub place_says : (bytes : List ℕ) (x : ℕ × ℕ) → tag_and_place bytes ≡ Some x → SpellsParts (Tag x.0 ∷ Place x.1 ∷ []) bytes
unfolding tag_and_place
place_says bytes x h =
    let a = bind_some (number_at 16 bytes) (λ f. number_at 32 f.1 >>= λ p. ended (f.0, p.0) p.1) x h in
    let b = bind_some (number_at 32 a.0.1) (λ p. ended (a.0.0, p.0) p.1) x a.2 in
    let e = ended_says (a.0.0, b.0.0) x b.0.1 b.2 in
    subst (λ (y : ℕ × ℕ). SpellsParts (Tag y.0 ∷ Place y.1 ∷ []) bytes) e.1
    (number_parts 16 bytes a.0 (Place b.0.0 ∷ []) a.1 (number_parts 32 a.0.1 b.0 [] b.1 e.0))

pub place_read : (bytes : List ℕ) (f p : ℕ) → SpellsParts (Tag f ∷ Place p ∷ []) bytes → tag_and_place bytes ≡ Some (f, p)
unfolding tag_and_place
place_read bytes f p h =
    let a = parts_number 16 bytes f (Place p ∷ []) h in
    grind (arith, (parts_number 16 bytes f (Place p ∷ []) h), (parts_number 32 a.0 p [] a.2))

pub range_says : (bytes : List ℕ) (x : ℕ × ℕ × ℕ) → tag_and_range bytes ≡ Some x → SpellsParts (Tag x.0 ∷ Place x.1 ∷ Place x.2 ∷ []) bytes
unfolding tag_and_range
range_says bytes x h =
    let a = bind_some (number_at 16 bytes) (λ f. number_at 32 f.1 >>= λ p. number_at 32 p.1 >>= λ q. ended (f.0, p.0, q.0) q.1) x h in
    let b = bind_some (number_at 32 a.0.1) (λ p. number_at 32 p.1 >>= λ q. ended (a.0.0, p.0, q.0) q.1) x a.2 in
    let d = bind_some (number_at 32 b.0.1) (λ q. ended (a.0.0, b.0.0, q.0) q.1) x b.2 in
    let e = ended_says (a.0.0, b.0.0, d.0.0) x d.0.1 d.2 in
    subst (λ (y : ℕ × ℕ × ℕ). SpellsParts (Tag y.0 ∷ Place y.1 ∷ Place y.2 ∷ []) bytes) e.1
    (number_parts 16 bytes a.0 (Place b.0.0 ∷ Place d.0.0 ∷ []) a.1
    (number_parts 32 a.0.1 b.0 (Place d.0.0 ∷ []) b.1 (number_parts 32 b.0.1 d.0 [] d.1 e.0)))

pub range_read : (bytes : List ℕ) (f p q : ℕ) → SpellsParts (Tag f ∷ Place p ∷ Place q ∷ []) bytes → tag_and_range bytes ≡ Some (f, p, q)
unfolding tag_and_range
range_read bytes f p q h =
    let a = parts_number 16 bytes f (Place p ∷ Place q ∷ []) h in
    let b = parts_number 32 a.0 p (Place q ∷ []) a.2 in
    grind (arith, (parts_number 16 bytes f (Place p ∷ Place q ∷ []) h), (parts_number 32 a.0 p (Place q ∷ []) a.2), (parts_number 32 b.0 q [] b.2))

pub typed_says : (bytes : List ℕ) (x : ℕ × List ℕ) → IsUtf8 bytes → tag_and_text bytes ≡ Some x → SpellsParts (Tag x.0 ∷ Rest x.1 ∷ []) bytes
unfolding tag_and_text
typed_says bytes x u h =
    let a = bind_some (number_at 16 bytes) (λ f. text_at f.1 >>= λ s. Some (f.0, s)) x h in
    let b = bind_some (text_at a.0.1) (λ s. Some (a.0.0, s)) x a.2 in
    subst (λ (y : ℕ × List ℕ). SpellsParts (Tag y.0 ∷ Rest y.1 ∷ []) bytes) (same_Some (a.0.0, b.0) x b.2)
    (number_parts 16 bytes a.0 (Rest b.0 ∷ []) a.1 (text_says a.0.1 b.0 (number_utf8 16 bytes a.0 u a.1) b.1, refl))

pub typed_read : (bytes : List ℕ) (f : ℕ) (s : List ℕ) → IsUtf8 bytes → SpellsParts (Tag f ∷ Rest s ∷ []) bytes → tag_and_text bytes ≡ Some (f, s)
unfolding tag_and_text
typed_read bytes f s u h = grind (arith, (parts_number 16 bytes f (Rest s ∷ []) h), text_read, (number_utf8 16 bytes))

pub edit_says : (bytes : List ℕ) (e : UserEvent) → IsUtf8 bytes → edit_at bytes ≡ Some e → ((form e).0 ≡ codes "edit") × SpellsParts (form e).1 bytes
unfolding edit_at
edit_says bytes e u h =
    let a = bind_some (number_at 16 bytes) (λ f. number_at 32 f.1 >>= λ p. number_at 32 p.1 >>= λ q. text_at q.1 >>= λ s. Some (Edit f.0 p.0 q.0 s)) e h in
    let b = bind_some (number_at 32 a.0.1) (λ p. number_at 32 p.1 >>= λ q. text_at q.1 >>= λ s. Some (Edit a.0.0 p.0 q.0 s)) e a.2 in
    let d = bind_some (number_at 32 b.0.1) (λ q. text_at q.1 >>= λ s. Some (Edit a.0.0 b.0.0 q.0 s)) e b.2 in
    let t = bind_some (text_at d.0.1) (λ s. Some (Edit a.0.0 b.0.0 d.0.0 s)) e d.2 in
    let v = number_utf8 32 b.0.1 d.0 (number_utf8 32 a.0.1 b.0 (number_utf8 16 bytes a.0 u a.1) b.1) d.1 in
    let texts = Rest t.0 ∷ [] in
    subst (λ (x : UserEvent). ((form x).0 ≡ codes "edit") × SpellsParts (form x).1 bytes) (same_Some (Edit a.0.0 b.0.0 d.0.0 t.0) e t.2) (
      refl,
      number_parts 16 bytes a.0 (Place b.0.0 ∷ Place d.0.0 ∷ texts) a.1
          (number_parts 32 a.0.1 b.0 (Place d.0.0 ∷ texts) b.1
          (number_parts 32 b.0.1 d.0 texts d.1 (text_says d.0.1 t.0 v t.1, refl))),
    )

pub edit_read : (bytes : List ℕ) (f p q : ℕ) (s : List ℕ) → IsUtf8 bytes → SpellsParts (form (Edit f p q s)).1 bytes → edit_at bytes ≡ Some (Edit f p q s)
unfolding edit_at
edit_read bytes f p q s u h =
    let a = parts_number 16 bytes f (Place p ∷ Place q ∷ Rest s ∷ []) h in
    let b = parts_number 32 a.0 p (Place q ∷ Rest s ∷ []) a.2 in
    let d = parts_number 32 b.0 q (Rest s ∷ []) b.2 in
    let v = number_utf8 32 b.0 (q, d.0) (number_utf8 32 a.0 (p, b.0) (number_utf8 16 bytes (f, a.0) u a.1) b.1) d.1 in
    grind (arith, a.1, b.1, d.1, (text_read d.0 s v d.2.0))

-- ## The event of a word

-- the reader of a word says what the word and the rest spell
abbrev pub ReadsAs : {X : Type 0} → (List ℕ → X → List ℕ → Type 0) → List ℕ × Reader X → Type 0
ReadsAs {X} P row = (bytes : List ℕ) (x : X) → IsUtf8 bytes → row.1 bytes ≡ Some x → P row.0 x bytes

pub rows_say : {X : Type 0} (P : List ℕ → X → List ℕ → Type 0) (rows : List (List ℕ × Reader X)) → AllByRecursion (ReadsAs P) rows
    → (word bytes : List ℕ) (x : X) → IsUtf8 bytes → read_by rows word bytes ≡ Some x → P word x bytes
rows_say P [] each word bytes x u h = cc
rows_say P (row ∷ rows) each word bytes x u h = grind (arith, bytes_eq-Decides, (rows_say P rows each.1 word bytes x u))

abbrev IsEventOf : List ℕ → UserEvent → List ℕ → Type 0
IsEventOf word e bytes = ((form e).0 ≡ word) × SpellsParts (form e).1 bytes

tag_row : (make : ℕ → UserEvent) (word : List ℕ) → ((f : ℕ) → form (make f) ≡ (word, Tag f ∷ [])) → ReadsAs IsEventOf (word, by_tag make)
tag_row make word is bytes e u h = grind (arith, tag_says)

place_row : (make : ℕ → ℕ → UserEvent) (word : List ℕ) → ((f p : ℕ) → form (make f p) ≡ (word, Tag f ∷ Place p ∷ [])) → ReadsAs IsEventOf (word, by_place make)
place_row make word is bytes e u h = grind (arith, place_says)

range_row : (make : ℕ → ℕ → ℕ → UserEvent) (word : List ℕ) → ((f p q : ℕ) → form (make f p q) ≡ (word, Tag f ∷ Place p ∷ Place q ∷ []))
    → ReadsAs IsEventOf (word, by_range make)
range_row make word is bytes e u h = grind (arith, range_says)

bare_row : (d : UserEvent) (word : List ℕ) → form d ≡ (word, []) → ReadsAs IsEventOf (word, ended d)
bare_row d word is bytes e u h = grind arith

type_row : ReadsAs IsEventOf (codes "type", λ bytes. tag_and_text bytes >>= λ x. Some (Typed x.0 x.1))
type_row bytes e u h = grind (arith, typed_says)

edit_row : ReadsAs IsEventOf (codes "edit", edit_at)
edit_row bytes e u h = edit_says bytes e u h

snarf_row : ReadsAs IsEventOf (codes "setsnarf", λ bytes. text_at bytes >>= λ s. Some (SetSnarf s))
snarf_row bytes e u h =
    let s = bind_some (text_at bytes) (λ x. Some (SetSnarf x)) e h in
    subst (λ (x : UserEvent). IsEventOf (codes "setsnarf") x bytes) (same_Some (SetSnarf s.0) e s.2) (refl, (text_says bytes s.0 u s.1, refl))

readers_say : AllByRecursion (ReadsAs IsEventOf) readers
readers_say = search (type_row, snarf_row, edit_row, range_row, place_row, tag_row, bare_row)

-- the number that a form begins with, and what stands after its first part
abbrev first : List Part → ℕ
first [] = 0
first (Number bits n ∷ parts) = n
first (Rest s ∷ parts) = 0

abbrev behind : List Part → List Part
behind [] = []
behind (part ∷ parts) = parts

abbrev one : UserEvent → ℕ
one e = first (form e).1

abbrev two : UserEvent → ℕ
two e = first (behind (form e).1)

abbrev three : UserEvent → ℕ
three e = first (behind (behind (form e).1))

-- each event is read by the reader of its word
parts_read : (e : UserEvent) (bytes : List ℕ) → IsUtf8 bytes → SpellsParts (form e).1 bytes → read_by readers (form e).0 bytes ≡ Some e
parts_read (Typed f s) bytes u h = ap (λ o. o >>= λ x. Some (Typed x.0 x.1)) (typed_read bytes f s u h)
parts_read (SetSnarf s) bytes u h = ap (λ o. o >>= λ x. Some (SetSnarf x)) (text_read bytes s u h.0)
parts_read (Edit f p q s) bytes u h = edit_read bytes f p q s u h
parts_read e bytes u h = grind (arith, (tag_read bytes (one e)), (place_read bytes (one e) (two e)), (range_read bytes (one e) (two e) (three e)))

pub event_says : (bytes : List ℕ) (e : UserEvent) → IsUtf8 bytes → event_at bytes ≡ Some e → (event : List ℕ) × (bytes ≡ codes " " ++ event) × SpellsEvent e event
unfolding event_at
event_says bytes e u h =
    let a = bind_some (word_at bytes) (λ x. read_by readers x.0 x.1) e h in
    let w = word_says bytes a.0 a.1 in
    let p = rows_say IsEventOf readers readers_say a.0.0 a.0.1 e (word_utf8 bytes a.0 u a.1).1 a.2 in
    (a.0.0 ++ a.0.1, w.0, (a.0.1, ap (λ x. x ++ a.0.1) (sym p.0), p.1))

pub event_read : (bytes event : List ℕ) (e : UserEvent) → IsUtf8 bytes → bytes ≡ codes " " ++ event → SpellsEvent e event → event_at bytes ≡ Some e
unfolding event_at
event_read bytes event e u is (rest, same, parts) = grind (arith, (parts_read e rest), (utf8_rear (codes " " ++ (form e).0) rest))
