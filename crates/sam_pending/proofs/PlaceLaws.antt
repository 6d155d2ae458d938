-- Places of the text that a request of a group comes to.
use Rattle.std.proofs.Common.{◌≡◌, refl, sym, ap, ◌∙◌, ℕ, zero, suc, ◌+◌, ◌-◌, ◌≤◌, Bool, true, false, not, cond, nat_le, nat_lt, ◌&&◌, List, [], ◌∷◌, ◌++◌, map, length, take, drop, Option, Some, None, arith, append-nil, length-append, length-drop, length-take-le}
use Rattle.std.specs.Prelude.{min}
use Rattle.std.proofs.lemmas.Bool.Decides.{nat_tests}
use Rattle.std.specs.List.{filter}
use Rattle.sam_pending.specs.Cells.{Cell, PartialText, by, drop_by, in_rasp, part_by, place_at, rasp_of, removed, resting, stands_at, take_by, text_at, waiting_of}
use Rattle.sam_pending.specs.Groups.{RemovalsMovePlaces, place_after_removal}
use Rattle.sam_pending.specs.Runs.{cells_of, gone_in, held, place_in, rooms, run_stands, runes_of, typed_by, Within}
use Rattle.sam_pending.specs.Layers.{Layer, IsLayer, IsOver, cells_over, runs_of}
use Rattle.sam_pending.specs.declared.run.Run.{Run}
use Rattle.sam_pending.specs.declared.run.Run.TheVariants.{Held, Typed}
use Rattle.sam_pending.proofs.CellLaws.{members-append, members-parted, members-take, members-three, take-drop-by, take-front}
use Rattle.sam_pending.proofs.RunLaws.{runes-size}

-- ## What stands before a place of the rasp

-- places of the rasp that are the same
place-same : (g n m : ℕ) (cs : List Cell) → n ≡ m → place_at g n cs ≡ place_at g m cs
place-same g n m cs e = ap (λ k. place_at g k cs) e

place-held : (g n : ℕ) (d : Option ℕ) (ms : PartialText) (cs : List Cell) → by g d ≡ false
    → place_at g n (map (held d) ms ++ cs) ≡ min (length ms) n + place_at g (n - length ms) cs
place-held g n d [] cs stays = omega (arith, place-same g n (n - 0) cs (omega arith))
place-held g zero d (m ∷ ms) cs stays = omega (arith, place-same g (0 - suc (length ms)) 0 cs (omega arith))
place-held g (suc n) d (m ∷ ms) cs stays =
    let l = length ms in
    rw stays (omega (arith, place-held g n d ms cs stays, place-same g (n - l) (suc n - suc l) cs (omega arith)))

place-gone : (g n : ℕ) (d : Option ℕ) (ms : PartialText) (cs : List Cell) → by g d ≡ true
    → place_at g n (map (held d) ms ++ cs) ≡ place_at g (n - length ms) cs
place-gone g n d [] cs goes = place-same g n (n - 0) cs (omega arith)
place-gone g zero d (m ∷ ms) cs goes = place-same g 0 (0 - suc (length ms)) cs (omega arith)
place-gone g (suc n) d (m ∷ ms) cs goes =
    let l = length ms in
    rw goes (place-gone g n d ms cs goes ∙ place-same g (n - l) (suc n - suc l) cs (omega arith))

place-on : (g k b : ℕ) (d : Option ℕ) (s : List ℕ) (cs : List Cell) → cond (by g d) false (nat_le b g) ≡ true
    → place_at g (suc k) (map (typed_by b d) s ++ cs) ≡ length s + place_at g (suc k) cs
place-on g k b d [] cs is = omega arith
place-on g k b d (c ∷ s) cs is = rw is (omega (arith, place-on g k b d s cs is))

place-off : (g k b : ℕ) (d : Option ℕ) (s : List ℕ) (cs : List Cell) → cond (by g d) false (nat_le b g) ≡ false
    → place_at g (suc k) (map (typed_by b d) s ++ cs) ≡ place_at g (suc k) cs
place-off g k b d [] cs is = refl
place-off g k b d (c ∷ s) cs is = rw is (place-off g k b d s cs is)

place-none : (g n : ℕ) → place_at g n [] ≡ 0
place-none g zero = refl
place-none g (suc n) = refl

no-typed : (t : Bool) (n : ℕ) → cond (t && nat_lt 0 0) n 0 ≡ 0
no-typed true n = refl
no-typed false n = refl

pub place_runs : (xs : List Run) (text : List ℕ) (r : PartialText) (g n : ℕ) → Within (length text) xs → rooms xs ≤ length r
    → place_at g n (cells_of text r xs) ≡ place_in g n xs
place_runs [] text r g n w o = place-none g n
place_runs (Held k d ∷ xs) text r g n w o =
    go (by g d) refl (place_runs xs text (drop k r) g (n - k) w.1 (omega (arith, o, length-drop k r)))
  where
    rest : List Cell
    rest = cells_of text (drop k r) xs

    size_of : length (take k r) ≡ k
    size_of = length-take-le k r (omega (arith, o))

    go : (t : Bool) → by g d ≡ t → place_at g (n - k) rest ≡ place_in g (n - k) xs
        → place_at g n (map (held d) (take k r) ++ rest) ≡ cond (not (by g d)) (min k n) 0 + place_in g (n - k) xs
    go false is next =
        rw is (place-held g n d (take k r) rest is ∙ (ap (λ m. min m n + place_at g (n - m) rest) size_of ∙ ap (λ z. min k n + z) next))
    go true is next = rw is (place-gone g n d (take k r) rest is ∙ (ap (λ m. place_at g (n - m) rest) size_of ∙ (next ∙ omega arith)))
place_runs (Typed s b d ∷ xs) text r g zero w o =
    omega (arith, place_runs xs text r g 0 w.1 (omega (arith, o)), no-typed (run_stands g (Typed s b d)) s.count)
place_runs (Typed s b d ∷ xs) text r g (suc n) w o =
    let same : suc n ≡ suc n - 0 = omega arith in
    go (by g d) refl (nat_le b g) refl (place_runs xs text r g (suc n) w.1 (omega (arith, o)) ∙ ap (λ k. place_in g k xs) same)
  where
    rest : List Cell
    rest = cells_of text r xs

    some : nat_lt 0 (suc n) ≡ true
    some = grind (arith, nat_tests)

    go : (t : Bool) → by g d ≡ t → (u : Bool) → nat_le b g ≡ u → place_at g (suc n) rest ≡ place_in g (suc n - 0) xs
        → place_at g (suc n) (map (typed_by b d) (runes_of text s) ++ rest)
        ≡ cond ((nat_le b g && not (by g d)) && nat_lt 0 (suc n)) s.count 0 + place_in g (suc n - 0) xs
    go false is true up next =
        rw (is, up, some) (place-on g n b d (runes_of text s) rest (rw (is, up) refl)
        ∙ (ap (λ m. m + place_at g (suc n) rest) (runes-size text s w.0) ∙ ap (λ z. s.count + z) next))
    go false is false up next = rw (is, up) (place-off g n b d (runes_of text s) rest (rw (is, up) refl) ∙ (next ∙ omega arith))
    go true is true up next = rw (is, up) (place-off g n b d (runes_of text s) rest (rw (is) refl) ∙ (next ∙ omega arith))
    go true is false up next = rw (is, up) (place-off g n b d (runes_of text s) rest (rw (is) refl) ∙ (next ∙ omega arith))

-- of each layer
place-over : (l : Layer) (g p : ℕ) (r : PartialText) → IsLayer l → IsOver r l → place_in g p (runs_of l) ≡ place_at g p (cells_over r l)
place-over l g p r is over = sym (place_runs (runs_of l) l.text r g p is.within (omega (arith, over)))

pub place_over : (l : Layer) (g p n : ℕ) → IsLayer l → n ≡ place_in g p (runs_of l) → (r : PartialText) → IsOver r l → n ≡ place_at g p (cells_over r l)
place_over l g p n is e r over = e ∙ place-over l g p r is over

pub ruleset place_facts = (place_over)

-- ## What goes before a place of the text

-- of k members of the rasp, behind the first n, so many stand in the text before its place y
abbrev gone : ℕ → ℕ → ℕ → ℕ → List Cell → ℕ
gone g n k y cs = length (text_at g (filter in_rasp (take_by in_rasp k (drop_by in_rasp n (take_by (stands_at g) y cs)))))

none-dropped : (n : ℕ) → drop_by in_rasp n [] ≡ []
none-dropped zero = refl
none-dropped (suc n) = refl

none-taken : (n : ℕ) → take_by in_rasp n [] ≡ []
none-taken zero = refl
none-taken (suc n) = refl

gone-none : (g n k : ℕ) → length (text_at g (filter in_rasp (take_by in_rasp k (drop_by in_rasp n [])))) ≡ 0
gone-none g n k =
    ap (λ z. length (text_at g (filter in_rasp (take_by in_rasp k z)))) (none-dropped n)
    ∙ ap (λ z. length (text_at g (filter in_rasp z))) (none-taken k)

gone-before-none : (g n k y : ℕ) (cs : List Cell) → y ≡ 0 → gone g n k y cs ≡ 0
gone-before-none g n k y cs e = ap (λ a. gone g n k a cs) e ∙ gone-none g n k

gone-of-none : (g n k y : ℕ) (cs : List Cell) → k ≡ 0 → gone g n k y cs ≡ 0
gone-of-none g n k y cs e = ap (λ a. gone g n a y cs) e

gone-no-cells : (g n k y : ℕ) → gone g n k y [] ≡ 0
gone-no-cells g n k zero = gone-none g n k
gone-no-cells g n k (suc y) = gone-none g n k

gone-same : (g n k y m j x : ℕ) (cs : List Cell) → n ≡ m → k ≡ j → y ≡ x → gone g n k y cs ≡ gone g m j x cs
gone-same g n k y m j x cs a b c =
    ap (λ z. gone g z k y cs) a ∙ (ap (λ z. gone g m z y cs) b ∙ ap (λ z. gone g m j z cs) c)

-- a cell that stands in the text, and one that does not
take-on : (g y : ℕ) (c : Cell) (cs : List Cell) → stands_at g c ≡ true → take_by (stands_at g) (suc y) (c ∷ cs) ≡ c ∷ take_by (stands_at g) y cs
take-on g y c cs is = ap (λ t. c ∷ take_by (stands_at g) (cond t y (suc y)) cs) is

take-off : (g y : ℕ) (c : Cell) (cs : List Cell) → stands_at g c ≡ false → take_by (stands_at g) (suc y) (c ∷ cs) ≡ c ∷ take_by (stands_at g) (suc y) cs
take-off g y c cs is = ap (λ t. c ∷ take_by (stands_at g) (cond t y (suc y)) cs) is

count-on : (g : ℕ) (c : Cell) (cs : List Cell) → stands_at g c ≡ true → length (text_at g (c ∷ cs)) ≡ suc (length (text_at g cs))
count-on g c cs is = ap (λ t. length (map (λ (x : Cell). x.member) (cond t (c ∷ filter (stands_at g) cs) (filter (stands_at g) cs)))) is

count-off : (g : ℕ) (c : Cell) (cs : List Cell) → stands_at g c ≡ false → length (text_at g (c ∷ cs)) ≡ length (text_at g cs)
count-off g c cs is = ap (λ t. length (map (λ (x : Cell). x.member) (cond t (c ∷ filter (stands_at g) cs) (filter (stands_at g) cs)))) is

-- of k members behind the first n, so many stand in the text
abbrev part : ℕ → ℕ → ℕ → List Cell → ℕ
part g n k cs = length (text_at g (filter in_rasp (take_by in_rasp k (drop_by in_rasp n cs))))

stays-on : (g : ℕ) (d m : Option ℕ) → by g d ≡ false → stands_at g (held d m) ≡ true
stays-on g d m is = ap (λ t. cond t false true) is

goes-off : (g : ℕ) (d m : Option ℕ) → by g d ≡ true → stands_at g (held d m) ≡ false
goes-off g d m is = ap (λ t. cond t false true) is

-- a member that stands in the text
held-here : (g k y : ℕ) (d m : Option ℕ) (cs : List Cell) → by g d ≡ false → gone g 0 (suc k) (suc y) (held d m ∷ cs) ≡ suc (gone g 0 k y cs)
held-here g k y d m cs is =
    let on = stays-on g d m is in
    ap (part g 0 (suc k)) (take-on g y (held d m) cs on)
    ∙ count-on g (held d m) (filter in_rasp (take_by in_rasp k (take_by (stands_at g) y cs))) on

held-later : (g n k y : ℕ) (d m : Option ℕ) (cs : List Cell) → by g d ≡ false → gone g (suc n) k (suc y) (held d m ∷ cs) ≡ gone g n k y cs
held-later g n k y d m cs is = ap (part g (suc n) k) (take-on g y (held d m) cs (stays-on g d m is))

-- one that does not
lost-here : (g k y : ℕ) (d m : Option ℕ) (cs : List Cell) → by g d ≡ true → gone g 0 (suc k) (suc y) (held d m ∷ cs) ≡ gone g 0 k (suc y) cs
lost-here g k y d m cs is =
    let off = goes-off g d m is in
    ap (part g 0 (suc k)) (take-off g y (held d m) cs off)
    ∙ count-off g (held d m) (filter in_rasp (take_by in_rasp k (take_by (stands_at g) (suc y) cs))) off

lost-later : (g n k y : ℕ) (d m : Option ℕ) (cs : List Cell) → by g d ≡ true → gone g (suc n) k (suc y) (held d m ∷ cs) ≡ gone g n k (suc y) cs
lost-later g n k y d m cs is = ap (part g (suc n) k) (take-off g y (held d m) cs (goes-off g d m is))

-- a rune that is no member of the rasp goes in no case
part-typed : (g n k b c : ℕ) (d : Option ℕ) (cs : List Cell) → part g n k (typed_by b d c ∷ cs) ≡ part g n k cs
part-typed g zero zero b c d cs = refl
part-typed g zero (suc k) b c d cs = refl
part-typed g (suc n) k b c d cs = refl

typed-on : (g n k y b c : ℕ) (d : Option ℕ) (cs : List Cell) → cond (by g d) false (nat_le b g) ≡ true
    → gone g n k (suc y) (typed_by b d c ∷ cs) ≡ gone g n k y cs
typed-on g n k y b c d cs is =
    ap (part g n k) (take-on g y (typed_by b d c) cs is) ∙ part-typed g n k b c d (take_by (stands_at g) y cs)

typed-off : (g n k y b c : ℕ) (d : Option ℕ) (cs : List Cell) → cond (by g d) false (nat_le b g) ≡ false
    → gone g n k (suc y) (typed_by b d c ∷ cs) ≡ gone g n k (suc y) cs
typed-off g n k y b c d cs is =
    ap (part g n k) (take-off g y (typed_by b d c) cs is) ∙ part-typed g n k b c d (take_by (stands_at g) (suc y) cs)

gone-held : (g n k y : ℕ) (d : Option ℕ) (ms : PartialText) (cs : List Cell) → by g d ≡ false
    → gone g n k y (map (held d) ms ++ cs)
    ≡ min k (min (length ms) y - n) + gone g (n - length ms) (k - (length ms - n)) (y - min (length ms) y) cs
gone-held g n k y d [] cs is =
    omega (arith, gone-same g n k y (n - 0) (k - (0 - n)) (y - min 0 y) cs (omega arith) (omega arith) (omega arith))
gone-held g n k zero d (m ∷ ms) cs is =
    let l = length ms in
    omega (arith, gone-none g n k, gone-before-none g (n - suc l) (k - (suc l - n)) (0 - min (suc l) 0) cs (omega arith))
gone-held g n zero (suc y) d (m ∷ ms) cs is =
    let l = length ms in
    omega (arith, gone-of-none g (n - suc l) (0 - (suc l - n)) (suc y - min (suc l) (suc y)) cs (omega arith))
gone-held g zero (suc k) (suc y) d (m ∷ ms) cs is =
    let l = length ms in
    omega (
      arith,
      held-here g k y d m (map (held d) ms ++ cs) is,
      gone-held g 0 k y d ms cs is,
      gone-same g (0 - l) (k - (l - 0)) (y - min l y) (0 - suc l) (suc k - (suc l - 0)) (suc y - min (suc l) (suc y)) cs (omega arith) (omega arith) (omega arith),
    )
gone-held g (suc n) (suc k) (suc y) d (m ∷ ms) cs is =
    let l = length ms in
    omega (
      arith,
      held-later g n (suc k) y d m (map (held d) ms ++ cs) is,
      gone-held g n (suc k) y d ms cs is,
      gone-same g (n - l) (suc k - (l - n)) (y - min l y) (suc n - suc l) (suc k - (suc l - suc n)) (suc y - min (suc l) (suc y)) cs (omega arith) (omega arith) (omega arith),
    )

gone-gone : (g n k y : ℕ) (d : Option ℕ) (ms : PartialText) (cs : List Cell) → by g d ≡ true
    → gone g n k y (map (held d) ms ++ cs) ≡ gone g (n - length ms) (k - (length ms - n)) y cs
gone-gone g n k y d [] cs is = gone-same g n k y (n - 0) (k - (0 - n)) y cs (omega arith) (omega arith) refl
gone-gone g n k zero d (m ∷ ms) cs is =
    let l = length ms in
    gone-none g n k ∙ sym (gone-none g (n - suc l) (k - (suc l - n)))
gone-gone g n zero (suc y) d (m ∷ ms) cs is =
    let l = length ms in
    sym (gone-of-none g (n - suc l) (0 - (suc l - n)) (suc y) cs (omega arith))
gone-gone g zero (suc k) (suc y) d (m ∷ ms) cs is =
    let l = length ms in
    lost-here g k y d m (map (held d) ms ++ cs) is
    ∙ (gone-gone g 0 k (suc y) d ms cs is
    ∙ gone-same g (0 - l) (k - (l - 0)) (suc y) (0 - suc l) (suc k - (suc l - 0)) (suc y) cs (omega arith) (omega arith) refl)
gone-gone g (suc n) (suc k) (suc y) d (m ∷ ms) cs is =
    let l = length ms in
    lost-later g n (suc k) y d m (map (held d) ms ++ cs) is
    ∙ (gone-gone g n (suc k) (suc y) d ms cs is
    ∙ gone-same g (n - l) (suc k - (l - n)) (suc y) (suc n - suc l) (suc k - (suc l - suc n)) (suc y) cs (omega arith) (omega arith) refl)

gone-on : (g n k y b : ℕ) (d : Option ℕ) (s : List ℕ) (cs : List Cell) → cond (by g d) false (nat_le b g) ≡ true
    → gone g n k y (map (typed_by b d) s ++ cs) ≡ gone g n k (y - min (length s) y) cs
gone-on g n k y b d [] cs is = gone-same g n k y n k (y - min 0 y) cs refl refl (omega arith)
gone-on g n k zero b d (c ∷ s) cs is =
    gone-none g n k ∙ sym (gone-before-none g n k (0 - min (suc (length s)) 0) cs (omega arith))
gone-on g n k (suc y) b d (c ∷ s) cs is =
    typed-on g n k y b c d (map (typed_by b d) s ++ cs) is
    ∙ (gone-on g n k y b d s cs is
    ∙ gone-same g n k (y - min (length s) y) n k (suc y - min (suc (length s)) (suc y)) cs refl refl (omega arith))

gone-off : (g n k y b : ℕ) (d : Option ℕ) (s : List ℕ) (cs : List Cell) → cond (by g d) false (nat_le b g) ≡ false
    → gone g n k y (map (typed_by b d) s ++ cs) ≡ gone g n k y cs
gone-off g n k y b d [] cs is = refl
gone-off g n k zero b d (c ∷ s) cs is = refl
gone-off g n k (suc y) b d (c ∷ s) cs is =
    typed-off g n k y b c d (map (typed_by b d) s ++ cs) is ∙ gone-off g n k (suc y) b d s cs is

pub gone_runs : (xs : List Run) (text : List ℕ) (r : PartialText) (g n k y : ℕ) → Within (length text) xs → rooms xs ≤ length r
    → gone g n k y (cells_of text r xs) ≡ gone_in g n k y xs
gone_runs [] text r g n k y w o = gone-no-cells g n k y
gone_runs (Held j d ∷ xs) text r g n k y w o =
    go (by g d) refl (λ z. gone_runs xs text (drop j r) g (n - j) (k - (j - n)) z w.1 (omega (arith, o, length-drop j r)))
  where
    rest : List Cell
    rest = cells_of text (drop j r) xs

    size_of : length (take j r) ≡ j
    size_of = length-take-le j r (omega (arith, o))

    go : (t : Bool) → by g d ≡ t → ((z : ℕ) → gone g (n - j) (k - (j - n)) z rest ≡ gone_in g (n - j) (k - (j - n)) z xs)
        → gone g n k y (map (held d) (take j r) ++ rest)
        ≡ min k (cond (not (by g d)) (min j y) 0 - n) + gone_in g (n - j) (k - (j - n)) (y - cond (not (by g d)) (min j y) 0) xs
    go false is next =
        rw is (gone-held g n k y d (take j r) rest is
        ∙ (ap (λ m. min k (min m y - n) + gone g (n - m) (k - (m - n)) (y - min m y) rest) size_of
        ∙ ap (λ z. min k (min j y - n) + z) (next (y - min j y))))
    go true is next =
        let whole : y ≡ y - 0 = omega arith in
        rw is (gone-gone g n k y d (take j r) rest is
        ∙ (ap (λ m. gone g (n - m) (k - (m - n)) y rest) size_of
        ∙ (next y ∙ (ap (λ z. gone_in g (n - j) (k - (j - n)) z xs) whole ∙ omega arith))))
gone_runs (Typed s b d ∷ xs) text r g n k y w o =
    go (by g d) refl (nat_le b g) refl
    (λ z. gone-same g n k z (n - 0) (k - (0 - n)) z (cells_of text r xs) (omega arith) (omega arith) refl
    ∙ gone_runs xs text r g (n - 0) (k - (0 - n)) z w.1 (omega (arith, o)))
  where
    rest : List Cell
    rest = cells_of text r xs

    Next : Type 0
    Next = (z : ℕ) → gone g n k z rest ≡ gone_in g (n - 0) (k - (0 - n)) z xs

    whole : y ≡ y - 0
    whole = omega arith

    off : cond (by g d) false (nat_le b g) ≡ false → Next
        → gone g n k y (map (typed_by b d) (runes_of text s) ++ rest) ≡ min k (0 - n) + gone_in g (n - 0) (k - (0 - n)) (y - 0) xs
    off is next =
        gone-off g n k y b d (runes_of text s) rest is
        ∙ (next y ∙ (ap (λ z. gone_in g (n - 0) (k - (0 - n)) z xs) whole ∙ omega arith))

    go : (t : Bool) → by g d ≡ t → (u : Bool) → nat_le b g ≡ u → Next
        → gone g n k y (map (typed_by b d) (runes_of text s) ++ rest)
        ≡ min k (0 - n) + gone_in g (n - 0) (k - (0 - n)) (y - cond (nat_le b g && not (by g d)) (min s.count y) 0) xs
    go false is true up next =
        rw (is, up) (gone-on g n k y b d (runes_of text s) rest (rw (is, up) refl)
        ∙ (ap (λ m. gone g n k (y - min m y) rest) (runes-size text s w.0) ∙ (next (y - min s.count y) ∙ omega arith)))
    go false is false up next = rw (is, up) (off (rw (is, up) refl) next)
    go true is true up next = rw (is, up) (off (rw is refl) next)
    go true is false up next = rw (is, up) (off (rw is refl) next)

-- of each layer
pub removal_over : (l : Layer) (g x p k n : ℕ) → IsLayer l → n ≡ x - gone_in g p k x (runs_of l)
    → (r : PartialText) → IsOver r l → n ≡ place_after_removal g p (p + k) x (cells_over r l)
removal_over l g x p k n is e r over =
    let range : k ≡ p + k - p = omega arith in
    e ∙ ap (λ z. x - z)
    (sym (gone_runs (runs_of l) l.text r g p k x is.within (omega (arith, over)))
    ∙ ap (λ j. gone g p j x (cells_over r l)) range)

pub ruleset removal_facts = (removal_over)

-- ## Where nothing waits

resting-held : (r : PartialText) → resting r ≡ map (held None) r ++ []
resting-held r = sym (append-nil (map (held None) r))

pub place_resting : (g p : ℕ) (r : PartialText) → place_at g p (resting r) ≡ min (length r) p
place_resting g p r =
    omega (arith, ap (place_at g p) (resting-held r), place-held g p None r [] refl, place-none g (p - length r))

pub removal_resting : (g p k x : ℕ) (r : PartialText) → place_after_removal g p (p + k) x (resting r) ≡ x - min k (min (length r) x - p)
removal_resting g p k x r =
    let range : p + k - p ≡ k = omega arith in
    let l = length r in
    ap (λ j. x - gone g p j x (resting r)) range
    ∙ ap (λ z. x - z) (omega (
      arith,
      ap (gone g p k x) (resting-held r),
      gone-held g p k x None r [] refl,
      gone-no-cells g (p - l) (k - (l - p)) (x - min l x),
    ))

-- ## The text before a place

-- what is left where k members of the rasp behind the first n go
abbrev left-by : ℕ → ℕ → List Cell → List Cell
left-by n k cs = take_by in_rasp n cs ++ waiting_of (take_by in_rasp k (drop_by in_rasp n cs)) ++ drop_by in_rasp k (drop_by in_rasp n cs)

left-same : (n k m j : ℕ) (cs : List Cell) → n ≡ m → k ≡ j → left-by n k cs ≡ left-by m j cs
left-same n k m j cs a b = ap (λ z. left-by z k cs) a ∙ ap (λ z. left-by m z cs) b

left-none : (n k : ℕ) → left-by n k [] ≡ []
left-none zero zero = refl
left-none zero (suc k) = refl
left-none (suc n) zero = refl
left-none (suc n) (suc k) = refl

left-append : (n k : ℕ) (bs ds : List Cell)
    → left-by n k (bs ++ ds) ≡ left-by n k bs ++ left-by (n - length (rasp_of bs)) (k - (length (rasp_of bs) - n)) ds
left-append n k [] ds =
    left-same n k (n - 0) (k - (0 - n)) ds (omega arith) (omega arith) ∙ ap (λ z. z ++ left-by (n - 0) (k - (0 - n)) ds) (sym (left-none n k))
left-append zero zero (c ∷ bs) ds =
    let l = length (rasp_of (c ∷ bs)) in
    ap (λ z. c ∷ bs ++ z) (left-same 0 0 (0 - l) (0 - (l - 0)) ds (omega arith) (omega arith))
left-append zero (suc k) (c ∷ bs) ds = step c.born (left-append 0 k bs ds) (left-append 0 (suc k) bs ds)
  where
    l : ℕ
    l = length (rasp_of bs)

    step : (b : Option ℕ) → left-by 0 k (bs ++ ds) ≡ left-by 0 k bs ++ left-by (0 - l) (k - (l - 0)) ds
        → left-by 0 (suc k) (bs ++ ds) ≡ left-by 0 (suc k) bs ++ left-by (0 - l) (suc k - (l - 0)) ds
        → left-by 0 (suc k) (record { member = c.member; born = b; died = c.died } ∷ bs ++ ds)
        ≡ left-by 0 (suc k) (record { member = c.member; born = b; died = c.died } ∷ bs)
        ++ left-by (0 - length (rasp_of (record { member = c.member; born = b; died = c.died } ∷ bs)))
        (suc k - (length (rasp_of (record { member = c.member; born = b; died = c.died } ∷ bs)) - 0)) ds
    step None here next =
        here ∙ ap (λ z. left-by 0 k bs ++ z) (left-same (0 - l) (k - (l - 0)) (0 - suc l) (suc k - (suc l - 0)) ds (omega arith) (omega arith))
    step (Some b) here next = ap (λ z. record { member = c.member; born = Some b; died = c.died } ∷ z) next
left-append (suc n) k (c ∷ bs) ds = step c.born (left-append n k bs ds) (left-append (suc n) k bs ds)
  where
    l : ℕ
    l = length (rasp_of bs)

    step : (b : Option ℕ) → left-by n k (bs ++ ds) ≡ left-by n k bs ++ left-by (n - l) (k - (l - n)) ds
        → left-by (suc n) k (bs ++ ds) ≡ left-by (suc n) k bs ++ left-by (suc n - l) (k - (l - suc n)) ds
        → left-by (suc n) k (record { member = c.member; born = b; died = c.died } ∷ bs ++ ds)
        ≡ left-by (suc n) k (record { member = c.member; born = b; died = c.died } ∷ bs)
        ++ left-by (suc n - length (rasp_of (record { member = c.member; born = b; died = c.died } ∷ bs)))
        (k - (length (rasp_of (record { member = c.member; born = b; died = c.died } ∷ bs)) - suc n)) ds
    step None here next =
        ap (λ z. record { member = c.member; born = None; died = c.died } ∷ z)
        (here ∙ ap (λ z. left-by n k bs ++ z) (left-same (n - l) (k - (l - n)) (suc n - suc l) (k - (suc l - suc n)) ds (omega arith) (omega arith)))
    step (Some b) here next = ap (λ z. record { member = c.member; born = Some b; died = c.died } ∷ z) next

-- each cell that stands in the text is a member of the rasp or waits
split-count : (g : ℕ) (cs : List Cell) → length (text_at g (filter in_rasp cs)) + length (text_at g (waiting_of cs)) ≡ length (text_at g cs)
split-count g [] = refl
split-count g (c ∷ cs) = step c.born (split-count g cs)
  where
    step : (b : Option ℕ) → length (text_at g (filter in_rasp cs)) + length (text_at g (waiting_of cs)) ≡ length (text_at g cs)
        → length (text_at g (filter in_rasp (record { member = c.member; born = b; died = c.died } ∷ cs)))
        + length (text_at g (waiting_of (record { member = c.member; born = b; died = c.died } ∷ cs)))
        ≡ length (text_at g (record { member = c.member; born = b; died = c.died } ∷ cs))
    step None same = go (stands_at g d) refl
      where
        d : Cell
        d = record { member = c.member; born = None; died = c.died }

        go : (t : Bool) → stands_at g d ≡ t
            → length (text_at g (d ∷ filter in_rasp cs)) + length (text_at g (waiting_of cs)) ≡ length (text_at g (d ∷ cs))
        go true is = omega (arith, same, count-on g d (filter in_rasp cs) is, count-on g d cs is)
        go false is = omega (arith, same, count-off g d (filter in_rasp cs) is, count-off g d cs is)
    step (Some b) same = go (stands_at g d) refl
      where
        d : Cell
        d = record { member = c.member; born = Some b; died = c.died }

        go : (t : Bool) → stands_at g d ≡ t
            → length (text_at g (filter in_rasp cs)) + length (text_at g (d ∷ waiting_of cs)) ≡ length (text_at g (d ∷ cs))
        go true is = omega (arith, same, count-on g d (waiting_of cs) is, count-on g d cs is)
        go false is = omega (arith, same, count-off g d (waiting_of cs) is, count-off g d cs is)

-- so many are left of them
left-count : (g p q : ℕ) (bs : List Cell) → length (text_at g (removed p q bs)) ≡ length (text_at g bs) - length (text_at g (filter in_rasp (part_by in_rasp p q bs)))
left-count g p q bs =
    let a = take_by in_rasp p bs in
    let b = part_by in_rasp p q bs in
    let c = drop_by in_rasp (q - p) (drop_by in_rasp p bs) in
    omega (
      arith,
      ap length (members-three (stands_at g) a (waiting_of b) c),
      length-append (text_at g a ++ text_at g (waiting_of b)) (text_at g c),
      length-append (text_at g a) (text_at g (waiting_of b)),
      ap length (members-parted in_rasp (stands_at g) p q bs),
      length-append (text_at g a ++ text_at g b) (text_at g c),
      length-append (text_at g a) (text_at g b),
      split-count g b,
    )

pub removals_move_places : RemovalsMovePlaces
removals_move_places g p q x cs up within =
    let before = take_by (stands_at g) x cs in
    let behind = drop_by (stands_at g) x cs in
    let n = length (rasp_of before) in
    let kept = text_at g (removed p q before) in
    let rest = text_at g (left-by (p - n) (q - p - (n - p)) behind) in
    let whole : text_at g (removed p q cs) ≡ kept ++ rest =
    ap (λ ds. text_at g (removed p q ds)) (sym (take-drop-by (stands_at g) x cs))
    ∙ (ap (text_at g) (left-append p (q - p) before behind)
    ∙ members-append (stands_at g) (removed p q before) (left-by (p - n) (q - p - (n - p)) behind)) in
    let size : length (text_at g before) ≡ x = ap length (members-take (stands_at g) x cs) ∙ length-take-le x (text_at g cs) within in
    let place : place_after_removal g p q x cs ≡ length kept =
    ap (λ m. m - length (text_at g (filter in_rasp (part_by in_rasp p q before)))) (sym size) ∙ sym (left-count g p q before) in
    ap (take (place_after_removal g p q x cs)) whole ∙ (ap (λ m. take m (kept ++ rest)) place ∙ take-front kept rest)
