-- Changes of a part of the blocks, and of all runs by it.
use Rattle.std.proofs.Common.{◌≡◌, sym, ap, ◌∙◌, subst, ℕ, ◌+◌, ◌-◌, ◌≤◌, List, [], ◌∷◌, ◌++◌, take, drop, None, arith, append_assoc}
use Rattle.sam_pending.specs.Blocks.{flat, IsPart}
use Rattle.sam_pending.specs.Runs.{rooms, waits, above, front, back, dying_runs, waiting_runs, gone_runs, filled_runs, IsSame}
use Rattle.sam_pending.specs.declared.run.Stretch.{Stretch}
use Rattle.sam_pending.specs.declared.run.Run.{Run}
use Rattle.sam_pending.specs.declared.run.Run.TheVariants.{Held, Typed}
use Rattle.sam_pending.specs.declared.run.Side.TheVariants.{Below, Above}
use Rattle.sam_pending.proofs.RunLaws.{rooms-append, rooms-waiting, dies}
use Rattle.sam_pending.proofs.JoinLaws.{waits-append, waits-split, rooms-split}
use Rattle.sam_pending.proofs.LayerLaws.{waits-dying, waits-waiting}
use Rattle.sam_pending.proofs.PartLaws.{part_changes, part_says}

-- ## How much there is after a change

pub inserted_fits : (p n : ℕ) (xs after : List Run) → IsSame after (front Below p xs ++ Held n None ∷ [] ++ back Below p xs)
    → rooms after + waits after ≤ rooms xs + waits xs + n
inserted_fits p n xs after h =
    let f = front Below p xs in
    let one = Held n None ∷ [] in
    let b = back Below p xs in
    omega (
      arith,
      h.rooms,
      h.waits,
      rooms-append (f ++ one) b,
      rooms-append f one,
      waits-append (f ++ one) b,
      waits-append f one,
      rooms-split Below p xs,
      waits-split Below p xs,
    )

pub removed_fits : (p n : ℕ) (xs after : List Run) → IsSame after (front Below p xs ++ waiting_runs (front Below n (back Below p xs)) ++ back Below n (back Below p xs))
    → rooms after + waits after ≤ rooms xs + waits xs
removed_fits p n xs after h =
    let f = front Below p xs in
    let b = back Below p xs in
    let m = front Below n b in
    let y = waiting_runs m in
    let z = back Below n b in
    omega (
      arith,
      h.rooms,
      h.waits,
      rooms-append (f ++ y) z,
      rooms-append f y,
      waits-append (f ++ y) z,
      waits-append f y,
      rooms-waiting m,
      waits-waiting m,
      rooms-split Below p xs,
      waits-split Below p xs,
      rooms-split Below n b,
      waits-split Below n b,
    )

pub replaced_fits : (g p n : ℕ) (t : Stretch) (xs after : List Run)
    → IsSame after (front Above p xs ++ Typed t g None ∷ [] ++ dying_runs g (front Above n (back Above p xs)) ++ back Above n (back Above p xs))
    → rooms after + waits after ≤ rooms xs + waits xs + t.count
replaced_fits g p n t xs after h =
    let f = front Above p xs in
    let one = Typed t g None ∷ [] in
    let y = back Above p xs in
    let m = front Above n y in
    let z = back Above n y in
    let d = dying_runs g m in
    omega (
      arith,
      h.rooms,
      h.waits,
      rooms-append (f ++ one ++ d) z,
      rooms-append (f ++ one) d,
      rooms-append f one,
      waits-append (f ++ one ++ d) z,
      waits-append (f ++ one) d,
      waits-append f one,
      (dies g m [] []).1,
      waits-dying g m,
      rooms-split Above p xs,
      rooms-split Above n y,
      waits-split Above p xs,
      waits-split Above n y,
    )

-- ## All runs

pub inserted_change : {bs : List (List Run)} {p i n k : ℕ} {xs : List Run} (m : ℕ) (made : List (List Run)) (after : List Run) → IsPart Below bs p p i n k xs → flat made ≡ after
    → IsSame after (front Below k xs ++ Held m None ∷ [] ++ back Below k xs)
    → IsSame (flat (take i bs ++ made ++ drop (i + n) bs)) (front Below p (flat bs) ++ Held m None ∷ [] ++ back Below p (flat bs))
inserted_change {bs} {p} {i} {n} {k} {xs} m made after h e same =
    let one = Held m None ∷ [] in
    let none : p - p ≡ 0 = omega arith in
    let here : IsSame (flat made) (front Below k xs ++ one ++ back Below (p - p) (back Below k xs)) =
    subst (λ j. IsSame (flat made) (front Below k xs ++ one ++ back Below j (back Below k xs))) (sym none)
    (subst (λ y. IsSame y (front Below k xs ++ one ++ back Below k xs)) (sym e) same) in
    subst (λ j. IsSame (flat (take i bs ++ made ++ drop (i + n) bs)) (front Below p (flat bs) ++ one ++ back Below j (back Below p (flat bs)))) none
    (part_changes made one h here)

pub removed_change : {bs : List (List Run)} {p q i n k : ℕ} {xs : List Run} (made : List (List Run)) (after : List Run) → IsPart Below bs p q i n k xs → flat made ≡ after
    → IsSame after (front Below k xs ++ waiting_runs (front Below (q - p) (back Below k xs)) ++ back Below (q - p) (back Below k xs))
    → IsSame (flat (take i bs ++ made ++ drop (i + n) bs))
    (front Below p (flat bs) ++ waiting_runs (front Below (q - p) (back Below p (flat bs))) ++ back Below (q - p) (back Below p (flat bs)))
removed_change {bs} {p} {q} {i} {n} {k} {xs} made after h e same =
    let m = front Below (q - p) (back Below k xs) in
    let all = flat bs in
    subst (λ y. IsSame (flat (take i bs ++ made ++ drop (i + n) bs)) (front Below p all ++ waiting_runs y ++ back Below (q - p) (back Below p all))) (sym (part_says h).between)
    (part_changes made (waiting_runs m) h (subst (λ y. IsSame y (front Below k xs ++ waiting_runs m ++ back Below (q - p) (back Below k xs))) (sym e) same))

pub replaced_change : {bs : List (List Run)} {p q i n k : ℕ} {xs : List Run} (g : ℕ) (t : Stretch) (made : List (List Run)) (after : List Run) → IsPart Above bs p q i n k xs → flat made ≡ after
    → IsSame after (front Above k xs ++ Typed t g None ∷ [] ++ dying_runs g (front Above (q - p) (back Above k xs)) ++ back Above (q - p) (back Above k xs))
    → IsSame (flat (take i bs ++ made ++ drop (i + n) bs))
    (front Above p (flat bs) ++ Typed t g None ∷ [] ++ dying_runs g (front Above (q - p) (back Above p (flat bs))) ++ back Above (q - p) (back Above p (flat bs)))
replaced_change {bs} {p} {q} {i} {n} {k} {xs} g t made after h e same =
    let one = Typed t g None ∷ [] in
    let m = dying_runs g (front Above (q - p) (back Above k xs)) in
    let z = back Above (q - p) (back Above k xs) in
    let all = flat bs in
    let new = flat (take i bs ++ made ++ drop (i + n) bs) in
    let here : IsSame (flat made) (front Above k xs ++ (one ++ m) ++ z) =
    subst (λ y. IsSame (flat made) (y ++ z)) (append_assoc (front Above k xs) one m) (subst (λ y. IsSame y (front Above k xs ++ one ++ m ++ z)) (sym e) same) in
    subst (λ y. IsSame new (front Above p all ++ one ++ dying_runs g y ++ back Above (q - p) (back Above p all))) (sym (part_says h).between)
    (subst (λ y. IsSame new (y ++ back Above (q - p) (back Above p all))) (sym (append_assoc (front Above p all) one m)) (part_changes made (one ++ m) h here))

-- ## What is told

pub gone_told : {bs : List (List Run)} {p q i n k : ℕ} {xs : List Run} → IsPart Below bs p q i n k xs
    → gone_runs (above (flat (take i bs)) + above (front Below k xs)) (front Below (q - p) (back Below k xs))
    ≡ gone_runs (above (front Below p (flat bs))) (front Below (q - p) (back Below p (flat bs)))
gone_told {bs} {p} {q} {i} {n} {k} {xs} h =
    let says = part_says h in
    ap (λ j. gone_runs j (front Below (q - p) (back Below k xs))) (sym says.shown) ∙ ap (gone_runs (above (front Below p (flat bs)))) (sym says.between)

pub filled_told : {bs : List (List Run)} {p q i n k : ℕ} {xs : List Run} → IsPart Below bs p q i n k xs
    → filled_runs (above (flat (take i bs)) + above (front Below k xs)) 0 (front Below (q - p) (back Below k xs))
    ≡ filled_runs (above (front Below p (flat bs))) 0 (front Below (q - p) (back Below p (flat bs)))
filled_told {bs} {p} {q} {i} {n} {k} {xs} h =
    let says = part_says h in
    ap (λ j. filled_runs j 0 (front Below (q - p) (back Below k xs))) (sym says.shown) ∙ ap (filled_runs (above (front Below p (flat bs))) 0) (sym says.between)
