-- Where places go, of the text that a request of a group comes to, as runes that wait are taken back.
use Rattle.std.proofs.Common.{◌≡◌, refl, sym, ap, ◌∙◌, ℕ, zero, suc, ◌+◌, ◌-◌, ◌≤◌, Bool, true, false, not, cond, nat_le, ◌&&◌, List, [], ◌∷◌, ◌++◌, map, length, take, drop, Option, arith, append_assoc, length-append, length-take, length-take-le}
use Rattle.std.specs.Prelude.{min}
use Rattle.sam_pending.specs.Cells.{Cell, PartialText, by, stands_at, text_at}
use Rattle.sam_pending.specs.Groups.{DropsMovePlaces, lost_before, without}
use Rattle.sam_pending.specs.Runs.{cells, held, passed, reach, room, run_stands, runes_of, size, typed_by}
use Rattle.sam_pending.specs.declared.run.Run.{Run}
use Rattle.sam_pending.specs.declared.run.Run.TheVariants.{Held, Typed}
use Rattle.sam_pending.proofs.CellLaws.{members-append, members-take, members-three, take-front}
use Rattle.sam_pending.proofs.RunLaws.{drop-front, runes-size}

-- ## How much of a run stands in the text

held-stay : (g : ℕ) (d : Option ℕ) (ms : PartialText) → by g d ≡ false → length (text_at g (map (held d) ms)) ≡ length ms
held-stay g d [] is = refl
held-stay g d (m ∷ ms) is = rw is (ap suc (held-stay g d ms is))

held-go : (g : ℕ) (d : Option ℕ) (ms : PartialText) → by g d ≡ true → length (text_at g (map (held d) ms)) ≡ 0
held-go g d [] is = refl
held-go g d (m ∷ ms) is = rw is (held-go g d ms is)

typed-stay : (g b : ℕ) (d : Option ℕ) (s : List ℕ) → cond (by g d) false (nat_le b g) ≡ true
    → length (text_at g (map (typed_by b d) s)) ≡ length s
typed-stay g b d [] is = refl
typed-stay g b d (c ∷ s) is = rw is (ap suc (typed-stay g b d s is))

typed-go : (g b : ℕ) (d : Option ℕ) (s : List ℕ) → cond (by g d) false (nat_le b g) ≡ false
    → length (text_at g (map (typed_by b d) s)) ≡ 0
typed-go g b d [] is = refl
typed-go g b d (c ∷ s) is = rw is (typed-go g b d s is)

pub text_run : (g : ℕ) (x : Run) (text : List ℕ) (r : PartialText) → reach x ≤ length text → room x ≤ length r
    → length (text_at g (cells text r x)) ≡ cond (run_stands g x) (size x) 0
text_run g (Held n d) text r w l = go (by g d) refl
  where
    go : (t : Bool) → by g d ≡ t → length (text_at g (map (held d) (take n r))) ≡ cond (not (by g d)) n 0
    go true is = rw is (held-go g d (take n r) is)
    go false is = rw is (held-stay g d (take n r) is ∙ length-take-le n r l)
text_run g (Typed s b d) text r w l = go (by g d) refl (nat_le b g) refl
  where
    go : (t : Bool) → by g d ≡ t → (u : Bool) → nat_le b g ≡ u
        → length (text_at g (map (typed_by b d) (runes_of text s))) ≡ cond (nat_le b g && not (by g d)) s.count 0
    go false is true up = rw (is, up) (typed-stay g b d (runes_of text s) (rw (is, up) refl) ∙ runes-size text s w)
    go false is false up = rw (is, up) (typed-go g b d (runes_of text s) (rw (is, up) refl))
    go true is true up = rw (is, up) (typed-go g b d (runes_of text s) (rw is refl))
    go true is false up = rw (is, up) (typed-go g b d (runes_of text s) (rw is refl))

-- how much of it goes before a place
pub lost_run : (g z : ℕ) (a : List Cell) (x : Run) (text : List ℕ) (r : PartialText) → reach x ≤ length text → room x ≤ length r
    → length (lost_before g z a (cells text r x)) ≡ passed g (z - length (text_at g a)) x
lost_run g z a x text r w l = go (run_stands g x) refl
  where
    k : ℕ
    k = z - length (text_at g a)

    h : List Cell
    h = cells text r x

    count : length (lost_before g z a h) ≡ min k (length (text_at g h))
    count = ap length (members-take (stands_at g) k h) ∙ length-take k (text_at g h)

    go : (t : Bool) → run_stands g x ≡ t → length (lost_before g z a h) ≡ cond (run_stands g x) (min (size x) k) 0
    go true is =
        let whole : length (text_at g h) ≡ size x = text_run g x text r w l ∙ ap (λ t. cond t (size x) 0) is in
        count ∙ (omega (arith, whole) ∙ ap (λ t. cond t (min (size x) k) 0) (sym is))
    go false is =
        let none : length (text_at g h) ≡ 0 = text_run g x text r w l ∙ ap (λ t. cond t (size x) 0) is in
        count ∙ (omega (arith, none) ∙ ap (λ t. cond t (min (size x) k) 0) (sym is))

-- a place behind the run, counted from there on
pub behind_run : (g z : ℕ) (a : List Cell) (x : Run) (text : List ℕ) (r : PartialText) → reach x ≤ length text → room x ≤ length r
    → z - length (text_at g (a ++ cells text r x)) ≡ z - length (text_at g a) - passed g (z - length (text_at g a)) x
behind_run g z a x text r w l = go (run_stands g x) refl
  where
    k : ℕ
    k = z - length (text_at g a)

    h : List Cell
    h = cells text r x

    size_of : length (text_at g (a ++ h)) ≡ length (text_at g a) + length (text_at g h)
    size_of = ap length (members-append (stands_at g) a h) ∙ length-append (text_at g a) (text_at g h)

    go : (t : Bool) → run_stands g x ≡ t → z - length (text_at g (a ++ h)) ≡ k - cond (run_stands g x) (min (size x) k) 0
    go true is =
        let whole : length (text_at g h) ≡ size x = text_run g x text r w l ∙ ap (λ t. cond t (size x) 0) is in
        omega (arith, size_of, whole) ∙ ap (λ t. k - cond t (min (size x) k) 0) (sym is)
    go false is =
        let none : length (text_at g h) ≡ 0 = text_run g x text r w l ∙ ap (λ t. cond t (size x) 0) is in
        omega (arith, size_of, none) ∙ ap (λ t. k - cond t (min (size x) k) 0) (sym is)

-- ## The text before a place

-- a list without its middle, up to a place
cut-middle : {X : Type 0} (h e : List X) (x : ℕ) → take (x - min x (length h)) e ≡ drop (length h) (take x (h ++ e))
cut-middle [] e x =
    let all : x - min x 0 ≡ x = omega arith in
    ap (λ k. take k e) all
cut-middle (c ∷ h) e zero =
    let none : 0 - min 0 (suc (length h)) ≡ 0 = omega arith in
    ap (λ k. take k e) none
cut-middle (c ∷ h) e (suc x) =
    let less : suc x - min (suc x) (suc (length h)) ≡ x - min x (length h) = omega arith in
    ap (λ k. take k e) less ∙ cut-middle h e x

cut-part : {X : Type 0} (a h e : List X) (x : ℕ)
    → take (x - min (x - length a) (length h)) (a ++ e)
    ≡ take (length a) (take x (a ++ (h ++ e))) ++ drop (length a + length h) (take x (a ++ (h ++ e)))
cut-part [] h e x =
    let same : x - min (x - 0) (length h) ≡ x - min x (length h) = omega arith in
    let whole : length h ≡ 0 + length h = omega arith in
    ap (λ k. take k e) same ∙ (cut-middle h e x ∙ ap (λ k. drop k (take x (h ++ e))) whole)
cut-part (c ∷ a) h e zero =
    let none : 0 - min (0 - suc (length a)) (length h) ≡ 0 = omega arith in
    let some : suc (length a) + length h ≡ suc (length a + length h) = omega arith in
    ap (λ k. take k (c ∷ a ++ e)) none ∙ sym (ap (λ k. drop k []) some)
cut-part (c ∷ a) h e (suc x) =
    let more : suc x - min (suc x - suc (length a)) (length h) ≡ suc (x - min (x - length a) (length h)) = omega arith in
    let some : suc (length a + length h) ≡ suc (length a) + length h = omega arith in
    ap (λ k. take k (c ∷ a ++ e)) more
    ∙ (ap (λ ys. c ∷ ys) (cut-part a h e x)
    ∙ ap (λ k. take (suc (length a)) (c ∷ take x (a ++ (h ++ e))) ++ drop k (c ∷ take x (a ++ (h ++ e)))) some)

pub drops_move_places : DropsMovePlaces
drops_move_places g x y p n s cs ds t =
    let b = t.taken.before in
    let h = t.taken.stretch in
    let z = t.taken.behind in
    let ta = text_at g b in
    let th = text_at g h in
    let tz = text_at g z in
    let old : text_at g cs ≡ ta ++ (th ++ tz) = ap (text_at g) t.taken.old ∙ (members-three (stands_at g) b h z ∙ append_assoc ta th tz) in
    let new : text_at g ds ≡ ta ++ tz = ap (text_at g) t.taken.new ∙ members-append (stands_at g) b z in
    let two : text_at g (b ++ h) ≡ ta ++ th = members-append (stands_at g) b h in
    let size : length (text_at g (b ++ h)) ≡ length ta + length th = ap length two ∙ length-append ta th in
    let lost : length (lost_before g x b h) ≡ min (x - length ta) (length th) =
    ap length (members-take (stands_at g) (x - length ta) h) ∙ length-take (x - length ta) th in
    let front : take (length ta) (text_at g cs) ≡ ta = ap (take (length ta)) old ∙ take-front ta (th ++ tz) in
    let back : drop (length (text_at g (b ++ h))) (text_at g cs) ≡ tz =
    ap (λ k. drop (length k) (text_at g cs)) two
    ∙ (ap (drop (length (ta ++ th))) (old ∙ sym (append_assoc ta th tz)) ∙ drop-front (ta ++ th) tz) in (
      new ∙ (ap (λ k. k ++ tz) (sym front) ∙ ap (λ k. take (length ta) (text_at g cs) ++ k) (sym back)),
      ap (λ k. take k (text_at g ds)) (t.place ∙ ap (λ k. x - k) lost)
          ∙ (ap (take (x - min (x - length ta) (length th))) new
          ∙ (cut-part ta th tz x
          ∙ (ap (λ k. take (length ta) (take x (ta ++ (th ++ tz))) ++ drop k (take x (ta ++ (th ++ tz)))) (sym size)
          ∙ ap (λ w. without g b h (take x w)) (sym old)))),
    )
