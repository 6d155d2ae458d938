-- Replacements that are made one after another.
use Rattle.std.proofs.Common.{◌≡◌, ◌∙◌, ℕ, suc, ◌+◌, ◌<◌, List, [], ◌∷◌, length, take, drop, min, slice_index_or, true, false, Result, Ok, Err, is_err, refl, sym, ap, subst, arith}
use Rattle.std.proofs.lemmas.List.{drop_min, take_min}
use Rattle.sam_overlay.specs.declared.fault.ReplaceFault.{ReplaceFault}
use Rattle.sam_client.specs.Batches.{MakesEach, count_in}
use Rattle.sam_client.specs.Clients.{Does}
use Rattle.sam_client.specs.Clients.Act.{Replace}
use Rattle.sam_client.specs.declared.client.Client.{Client}
use Rattle.sam_client.specs.declared.replacement.Replacement.{Replacement}

take-short : (s : List ℕ) (n : ℕ) → take (min (length s) n) s ≡ take n s
take-short s n = ap (λ (k : ℕ). take k s) (omega arith) ∙ take_min n s

drop-short : (s : List ℕ) (n : ℕ) → drop (min (length s) n) s ≡ drop n s
drop-short s n = ap (λ (k : ℕ). drop k s) (omega arith) ∙ drop_min n s

-- so many are made; what comes of the others comes of all
pub record Stands (f : ℕ) (all : List Replacement) (text : List ℕ) (c : Client) (made : ℕ) (left : List Replacement) (rest : List ℕ) (m : Client) : Type 0 where
  pub go : (k : ℕ) (answer : Result (Unit {0}) ReplaceFault) (n : Client) → MakesEach f left rest m k answer n → MakesEach f all text c (made + k) answer n

pub begun : (f : ℕ) (all : List Replacement) (text : List ℕ) (c : Client) → Stands f all text c 0 all text c
begun f all text c = record { go = λ k answer n makes. subst (λ (i : ℕ). MakesEach f all text c i answer n) (omega arith) makes }

made-next : (f made count : ℕ) (all left next : List Replacement) (d : Replacement) (text rest : List ℕ) (c m n : Client)
    → Stands f all text c made left rest m → 0 < length left → next ≡ drop 1 left → take count rest ≡ take (slice_index_or left 0 d).count rest
    → drop count rest ≡ drop (slice_index_or left 0 d).count rest
    → Does m (Replace f (slice_index_or left 0 d).p (slice_index_or left 0 d).q (take count rest) (Ok tt)) n
    → Stands f all text c (made + 1) next (drop count rest) n
made-next f made count all [] next d text rest c m n s some is first others does = grind (arith, some)
made-next f made count all (x ∷ xs) next d text rest c m n s some is first others does = record {
  go = λ k answer g makes.
      subst (λ (i : ℕ). MakesEach f all text c i answer g) (omega arith)
      (s.go (suc k) answer g (
        Ok tt,
        n,
        subst (λ (r : List ℕ). Does m (Replace f x.p x.q r (Ok tt)) n) first does,
        (k, refl, subst (λ (r : List ℕ). MakesEach f xs r n k answer g) others (subst (λ (ys : List Replacement). MakesEach f ys (drop count rest) n k answer g) is makes)),
      ));
}

-- one more is made
pub one_more : (f made count : ℕ) (all left next : List Replacement) (d : Replacement) (text rest after : List ℕ) (c m n : Client) (answer : Result (Unit {0}) ReplaceFault)
    → Stands f all text c made left rest m → 0 < length left → is_err answer ≡ false → next ≡ drop 1 left → count ≡ min (length rest) (slice_index_or left 0 d).count
    → after ≡ drop count rest → Does m (Replace f (slice_index_or left 0 d).p (slice_index_or left 0 d).q (take count rest) answer) n
    → Stands f all text c (made + 1) next after n
one_more f made count all left next d text rest after c m n (Ok done) s some well is counts others does =
    subst (λ (r : List ℕ). Stands f all text c (made + 1) next r n) (sym others)
    (made-next f made count all left next d text rest c m n s some is
    (ap (λ (k : ℕ). take k rest) counts ∙ take-short rest (slice_index_or left 0 d).count) (ap (λ (k : ℕ). drop k rest) counts ∙ drop-short rest (slice_index_or left 0 d).count) does)
one_more f made count all left next d text rest after c m n (Err why) s some well is counts others does = grind (arith, well)

refused-next : (f made count : ℕ) (all left : List Replacement) (d : Replacement) (text rest : List ℕ) (c m n : Client) (why : ReplaceFault)
    → Stands f all text c made left rest m → 0 < length left → take count rest ≡ take (slice_index_or left 0 d).count rest
    → Does m (Replace f (slice_index_or left 0 d).p (slice_index_or left 0 d).q (take count rest) (Err why)) n
    → MakesEach f all text c made (Err why) n
refused-next f made count all [] d text rest c m n why s some first does = grind (arith, some)
refused-next f made count all (x ∷ xs) d text rest c m n why s some first does =
    subst (λ (i : ℕ). MakesEach f all text c i (Err why) n) (omega arith)
    (s.go 0 (Err why) n (Err why, n, subst (λ (r : List ℕ). Does m (Replace f x.p x.q r (Err why)) n) first does, (refl, refl, refl)))

-- the next one is refused
pub refused : (f made count : ℕ) (all left : List Replacement) (d : Replacement) (text rest : List ℕ) (c m n : Client) (answer : Result (Unit {0}) ReplaceFault)
    → Stands f all text c made left rest m → 0 < length left → is_err answer ≡ true → count ≡ min (length rest) (slice_index_or left 0 d).count
    → Does m (Replace f (slice_index_or left 0 d).p (slice_index_or left 0 d).q (take count rest) answer) n
    → MakesEach f all text c made answer n
refused f made count all left d text rest c m n (Ok done) s some bad counts does = grind (arith, bad)
refused f made count all left d text rest c m n (Err why) s some bad counts does =
    refused-next f made count all left d text rest c m n why s some (ap (λ (k : ℕ). take k rest) counts ∙ take-short rest (slice_index_or left 0 d).count) does

-- all are made
pub none_left : (f made : ℕ) (all left : List Replacement) (text rest : List ℕ) (c m : Client)
    → Stands f all text c made left rest m → length left ≡ 0 → MakesEach f all text c made (Ok tt) m
none_left f made all [] text rest c m s none =
    subst (λ (i : ℕ). MakesEach f all text c i (Ok tt) m) (omega arith) (s.go 0 (Ok tt) m (refl, refl, refl))
none_left f made all (x ∷ xs) text rest c m s none = grind (arith, none)

pub count_first : (left : List Replacement) (d : Replacement) → 0 < length left → count_in left ≡ (slice_index_or left 0 d).count + count_in (drop 1 left)
count_first [] d some = grind (arith, some)
count_first (x ∷ xs) d some = refl
