-- Members of a partial text that are copied, section by section, into a buffer.
use Rattle.sam_endpoint.proofs.Common.{◌≡◌, ◌∙◌, sym, ap, ℕ, ◌+◌, ◌-◌, ◌<◌, ◌≤◌, ◌⊎◌, List, [], ◌∷◌, ◌++◌, length, length-append, take, drop, suc, Option, Some, slice_get, append_assoc, arith, map, get_or, set, drop-cons, take-append-drop, length-drop, length-take, get_or-drop, cells, Copies, Shows, drawn}
use Rattle.std.proofs.Math.Seq.{set-append_seam}
use Rattle.std.proofs.lemmas.Option.{get_or_from_slice_get}
use Rattle.std.proofs.lemmas.List.{take_more, length-map, map-append}
use Rattle.std.proofs.Common.{drop-drop, take-take, take_at}
use Rattle.std.proofs.lemmas.List.{drop-take}
use Rattle.sam_rasp.proofs.Changes.{drop-past}
use Rattle.sam_rasp.proofs.Readings.{rest_at}
use Rattle.sam_rasp.proofs.SectionLaws.{length-cells}
use Rattle.sam_rasp.specs.Sections.{size}
use Rattle.sam_rasp.specs.declared.section.Section.{Section}

-- ## One section

joined-more : (p m z : List ℕ) (c : ℕ) → (p ++ m) ++ c ∷ z ≡ (p ++ (m ++ c ∷ [])) ++ z
joined-more p m z c = sym (append_assoc (p ++ m) (c ∷ []) z) ∙ ap (λ xs. xs ++ z) (append_assoc p m (c ∷ []))

-- how many members stand in front of the next one
size-before : (cells : List (Option ℕ)) (place at i : ℕ) (before : List ℕ) → i ≤ length cells - place → at ≤ length before
    → length (take at before ++ map drawn (take i (drop place cells))) ≡ at + i
size-before cells place at i before l room = grind (arith, length-take, length-drop, length-map, length-append)

-- one more member stands in the buffer
pub one-more : (cells : List (Option ℕ)) (place at i c : ℕ) (x : Option ℕ) (before now after : List ℕ) → i < length cells - place → at + i < length before
    → slice_get cells (place + i) ≡ Some x → drawn x ≡ c → now ≡ take at before ++ map drawn (take i (drop place cells)) ++ drop (at + i) before
    → after ≡ set now (at + i) c → after ≡ take at before ++ map drawn (take (i + 1) (drop place cells)) ++ drop (at + (i + 1)) before
one-more cells place at i c x before now after l room is number now_is after_is =
    let members = drop place cells in
    let p = take at before in
    let m = map drawn (take i members) in
    let z = drop (suc (at + i)) before in
    let size = size-before cells place at i before (omega (arith, l)) (omega (arith, room)) in
    let b = get_or before (at + i) 0 in
    let more : take (i + 1) members ≡ take i members ++ x ∷ [] =
    take_more members i x (omega (arith, l, length-drop place cells)) ∙ ap (λ y. take i members ++ y ∷ []) (get_or-drop place cells i x ∙ get_or_from_slice_get cells (place + i) x x is) in
    let spelt : map drawn (take (i + 1) members) ≡ m ++ c ∷ [] =
    ap (map drawn) more ∙ map-append drawn (take i members) (x ∷ []) ∙ ap (λ n. m ++ n ∷ []) number in
    let last : suc (at + i) ≡ at + (i + 1) = omega arith in
    after_is ∙ ap (λ xs. set xs (at + i) c) (now_is ∙ ap (λ xs. (p ++ m) ++ xs) (drop-cons before (at + i) 0 room))
    ∙ ap (λ k. set ((p ++ m) ++ b ∷ z) k c) (sym size) ∙ set-append_seam (p ++ m) b z c ∙ joined-more p m z c
    ∙ ap (λ xs. (p ++ xs) ++ z) (sym spelt) ∙ ap (λ k. (p ++ map drawn (take (i + 1) members)) ++ drop k before) last

-- ## All sections

-- from the place `at` on more members were copied, of the section x that begins at the place a
pub shown_more : (r : List (Option ℕ)) (x : Section) (a at place count got : ℕ) (before now after : List ℕ) → at ≡ place + count → a ≤ at → at < a + size x
    → take (size x) (drop a r) ≡ cells x → count ≤ length before → length now ≡ length before → now ≡ map drawn (take count (drop place r)) ++ drop count before
    → Copies (cells x) (at - a) count now after got → after ≡ map drawn (take (count + got) (drop place r)) ++ drop (count + got) before
shown_more r x a at place count got before now after e l h is room long now_is copies =
    let rest = rest_at r x a at l h is in
    let d = drop place r in
    let k = a + size x - at in
    let few : got ≤ k = omega (arith, copies.count_is, ap length rest.0, length-take k (drop at r), length-drop (at - a) (cells x), length-cells x, h) in
    let full : length (map drawn (take count d)) ≡ count = grind (arith, length-map, (length-take count d), (length-drop place r), rest) in
    grind (
      arith,
      rest,
      copies.after_is,
      full,
      (take-take got k (drop at r) few),
      (drop-drop count place r),
      (take-append-drop count (take (count + got) d)),
      (take-take count (count + got) d),
      (drop-take count got d),
      (map-append drawn (take count d) (take got (drop at r))),
      (take_at (map drawn (take count d)) (drop count before) count),
      (drop-past (map drawn (take count d)) (drop count before) got (count + got)),
      (drop-drop got count before),
    )

-- how many members were copied, where the buffer is full or the partial text ends
pub shown_end : (r : List (Option ℕ)) (at place count : ℕ) (before now : List ℕ) → at ≡ place + count → count ≤ length before → (count ≡ 0) ⊎ (at ≤ length r)
    → (length before ≤ count) ⊎ (length r ≤ at) → now ≡ map drawn (take count (drop place r)) ++ drop count before → Shows r place before now count
shown_end r at place count before now e room within why now_is = record { count_is = grind arith; after_is = now_is }

-- what `read_rasp` rests on
pub ruleset shown_facts = (shown_more, shown_end, rest_at)
