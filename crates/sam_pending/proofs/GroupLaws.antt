-- What a request of a group comes to.
use Rattle.std.proofs.Common.{◌≡◌, refl, sym, ap, ◌∙◌, ℕ, suc, ◌-◌, ◌<◌, Bool, true, false, cond, nat_le, List, [], ◌∷◌, ◌++◌, map, length, take, drop, Option, Some, None, arith, append-nil}
use Rattle.std.proofs.lemmas.Bool.{le-leb}
use Rattle.std.proofs.lemmas.Bool.Decides.{leb_tells, nat_tests}
use Rattle.std.specs.List.{filter, All}
use Rattle.sam_pending.specs.Cells.{Cell, PartialText, in_rasp, is_shown, is_group, shown_of, resting, take_by, drop_by, part_by, typed, dying, replaced, inserted, stands_at, text_at, place_at, IsUpTo, IsNewest}
use Rattle.sam_pending.proofs.CellLaws.{members-append, members-three, members-parted, other-put}

above-no : (g h : ℕ) → g < h → nat_le h g ≡ false
above-no g h l = grind (arith, l, leb_tells)

-- what a later group does changes nothing of it
text-typed : (g h : ℕ) (s : List ℕ) → g < h → text_at g (map (typed h) s) ≡ []
text-typed g h [] l = refl
text-typed g h (c ∷ s) l = rw (above-no g h l) (text-typed g h s l)

text-dying : (g h : ℕ) (cs : List Cell) → g < h → text_at g (dying h cs) ≡ text_at g cs
text-dying g h [] l = refl
text-dying g h (c ∷ cs) l = step c.born c.died (text-dying g h cs l)
  where
    of : (b : Option ℕ) (t : Bool) → is_group h b ≡ t → text_at g (dying h cs) ≡ text_at g cs
        → text_at g (cond t (dying h cs) (record { member = c.member; born = b; died = Some h } ∷ dying h cs))
        ≡ text_at g (record { member = c.member; born = b; died = None } ∷ cs)
    of None true e same = absurd cc
    of None false e same = rw (above-no g h l) (ap (λ z. c.member ∷ z) same)
    of (Some b) true e same =
        let later : nat_le b g ≡ false = grind (arith, e, l, nat_tests) in
        rw later same
    of (Some b) false e same = rw (above-no g h l) (own (nat_le b g) same)
      where
        own : (u : Bool) → text_at g (dying h cs) ≡ text_at g cs
            → map (λ x. x.member) (cond u (record { member = c.member; born = Some b; died = Some h } ∷ filter (stands_at g) (dying h cs)) (filter (stands_at g) (dying h cs)))
            ≡ map (λ x. x.member) (cond u (record { member = c.member; born = Some b; died = None } ∷ filter (stands_at g) cs) (filter (stands_at g) cs))
        own true same = ap (λ z. c.member ∷ z) same
        own false same = same

    gone : (b : Option ℕ) (d : ℕ) (u : Bool) → text_at g (dying h cs) ≡ text_at g cs
        → map (λ x. x.member) (cond u (record { member = c.member; born = b; died = Some d } ∷ filter (stands_at g) (dying h cs)) (filter (stands_at g) (dying h cs)))
        ≡ map (λ x. x.member) (cond u (record { member = c.member; born = b; died = Some d } ∷ filter (stands_at g) cs) (filter (stands_at g) cs))
    gone b d true same = ap (λ z. c.member ∷ z) same
    gone b d false same = same

    step : (b d : Option ℕ) → text_at g (dying h cs) ≡ text_at g cs
        → text_at g (dying h (record { member = c.member; born = b; died = d } ∷ cs)) ≡ text_at g (record { member = c.member; born = b; died = d } ∷ cs)
    step b None same = of b (is_group h b) refl same
    step b (Some d) same = gone b d (stands_at g (record { member = c.member; born = b; died = Some d })) same

pub text_replaced : (cs : List Cell) (g h p q : ℕ) (s : List ℕ) → g < h → text_at g (replaced h p q s cs) ≡ text_at g cs
text_replaced cs g h p q s l =
    let a = take_by is_shown p cs in
    let b = part_by is_shown p q cs in
    let c = drop_by is_shown (q - p) (drop_by is_shown p cs) in
    members-three (stands_at g) a (map (typed h) s ++ dying h b) c
    ∙ (ap (λ z. text_at g a ++ z ++ text_at g c)
    (members-append (stands_at g) (map (typed h) s) (dying h b) ∙ (ap (λ z. z ++ text_at g (dying h b)) (text-typed g h s l) ∙ text-dying g h b l))
    ∙ sym (members-parted is_shown (stands_at g) p q cs))

-- while it is the newest, it is what is shown
pub text_shown : (g : ℕ) (cs : List Cell) → All (IsNewest g) cs → text_at g cs ≡ shown_of cs
text_shown g [] a = refl
text_shown g (c ∷ cs) a =
    let first : IsNewest g c = a 0 c (omega arith) in
    step c.born c.died first.0 first.1 (text_shown g cs (λ k d l. a (suc k) d (omega (arith, l))))
  where
    step : (b d : Option ℕ) → IsUpTo g b → IsUpTo g d → text_at g cs ≡ shown_of cs
        → text_at g (record { member = c.member; born = b; died = d } ∷ cs) ≡ shown_of (record { member = c.member; born = b; died = d } ∷ cs)
    step None None h i same = ap (λ z. c.member ∷ z) same
    step (Some b) None h i same = rw (le-leb b g h) (ap (λ z. c.member ∷ z) same)
    step b (Some d) h i same = rw (le-leb d g i) same

text-resting : (g : ℕ) (r : PartialText) → text_at g (resting r) ≡ r
text-resting g [] = refl
text-resting g (m ∷ r) = ap (λ z. m ∷ z) (text-resting g r)

part-empty : (is : Cell → Bool) (p : ℕ) (cs : List Cell) → part_by is p p cs ≡ []
part-empty is p cs = let e : p - p ≡ 0 = omega arith in ap (λ k. take_by is k (drop_by is p cs)) e

pub text_inserted : (cs : List Cell) (g p : ℕ) (new : PartialText)
    → text_at g (inserted p new cs) ≡ take (place_at g p cs) (text_at g cs) ++ new ++ drop (place_at g p cs) (text_at g cs)
text_inserted cs g p new =
    other-put in_rasp (stands_at g) p p (resting new) cs
    ∙ (ap (λ z. take (place_at g p cs) (text_at g cs) ++ z ++ drop (length (text_at g (take_by in_rasp p cs ++ part_by in_rasp p p cs))) (text_at g cs)) (text-resting g new)
    ∙ ap (λ z. take (place_at g p cs) (text_at g cs) ++ new ++ drop (length (text_at g z)) (text_at g cs))
    (ap (λ z. take_by in_rasp p cs ++ z) (part-empty in_rasp p cs) ∙ append-nil (take_by in_rasp p cs)))
