-- What holds of tasks that are open, as they are opened and closed.
use Rattle.std.proofs.Common.{◌≡◌, refl, sym, ap, ◌∙◌, subst, ℕ, zero, suc, ◌+◌, ◌-◌, ◌<◌, ◌≤◌, Bool, true, false, cond, List, [], ◌∷◌, ◌++◌, drop, take, map, length, length-append, set, get_or, arith}
use Rattle.std.specs.Prelude.{◌==◌}
use Rattle.std.specs.List.{remove}
use Rattle.std.proofs.lemmas.Grind.{common_steps}
use Rattle.std.proofs.Math.Seq.{take-append_seam}
use Rattle.std.proofs.lemmas.List.Edits.{map_over_more}
use Rattle.sam_front.specs.declared.tasks.Task.{Task}
use Rattle.sam_front.specs.Tasks.{AreNumbered, AreTasks, PlainTasks, as_write, most_tasks, new_task, newest, said, taken_back}

-- ## A task behind the others

numbered-more : (low high : ℕ) (ts : List Task) → low ≤ high → AreNumbered low high ts → AreNumbered low (high + 1) (ts ++ new_task (high + 1) ∷ [])
numbered-more low high [] above are = (omega (arith, above), omega arith, tt)
numbered-more low high (t ∷ ts) above are = (are.0, omega (arith, are.1), numbered-more t.number high ts are.1 are.2)

pub more_tasks : (begun : ℕ) (ts : List Task) → AreTasks begun ts → length ts < most_tasks → AreTasks (begun + 1) (ts ++ new_task (begun + 1) ∷ [])
more_tasks begun ts are few = record {
  numbered = numbered-more 0 begun ts (omega arith) are.numbered;
  few = subst (λ n. n ≤ most_tasks) (sym (length-append ts (new_task (begun + 1) ∷ []))) (omega (arith, few));
}

-- ## The newest

newest-behind : (rest : List Task) (t : Task) → newest (rest ++ t ∷ []) ≡ t.number
newest-behind [] t = refl
newest-behind (x ∷ []) t = refl
newest-behind (x ∷ y ∷ rest) t = newest-behind (y ∷ rest) t

numbered-back : (low high : ℕ) (rest : List Task) (t : Task) → AreNumbered low high (rest ++ t ∷ []) → (low < t.number) × AreNumbered low (t.number - 1) rest
numbered-back low high [] t are = (are.0, tt)
numbered-back low high (x ∷ rest) t are =
    let behind = numbered-back x.number high rest t are.2 in
    (omega (arith, are.0, behind.0), (are.0, omega (arith, behind.0), behind.1))

front-is : (rest : List Task) (t : Task) → take (length (rest ++ t ∷ []) - 1) (rest ++ t ∷ []) ≡ rest
front-is rest t =
    let one : length (rest ++ t ∷ []) ≡ length rest + 1 = length-append rest (t ∷ []) in
    let same : length (rest ++ t ∷ []) - 1 ≡ length rest = omega (arith, one) in
    subst (λ n. take n (rest ++ t ∷ []) ≡ rest) (sym same) (take-append_seam rest (t ∷ []))

some-length : (n : ℕ) → (n + 1 == 0) ≡ false
some-length n = grind arith

pub back_positive : (begun : ℕ) (ts rest : List Task) (t : Task) → ts ≡ rest ++ t ∷ [] → AreTasks begun ts → 1 ≤ t.number
back_positive begun ts rest t is are = (numbered-back 0 begun rest t (subst (AreNumbered 0 begun) is are.numbered)).0

pub back_tasks : (begun : ℕ) (ts rest : List Task) (t : Task) → ts ≡ rest ++ t ∷ [] → AreTasks begun ts → AreTasks (t.number - 1) rest
back_tasks begun ts rest t is are = record {
  numbered = (numbered-back 0 begun rest t (subst (AreNumbered 0 begun) is are.numbered)).1;
  few =
      let one : length ts ≡ length rest + 1 = ap length is ∙ length-append rest (t ∷ []) in
      let all = are.few in
      omega (arith, one, all);
}

pub back_is : (begun : ℕ) (ts rest : List Task) (t : Task) → ts ≡ rest ++ t ∷ []
    → record { begun = t.number - 1; waiting = rest } ≡ taken_back (record { begun = begun; waiting = ts })
back_is begun ts rest t is =
    let back : PlainTasks → PlainTasks → Type 0 = λ a b. a ≡ taken_back b in
    subst (λ xs. back (record { begun = t.number - 1; waiting = rest }) (record { begun = begun; waiting = xs })) (sym is) (
    let all : List Task = rest ++ t ∷ [] in
    let some : (length all == 0) ≡ false = ap (λ n. n == 0) (length-append rest (t ∷ [])) ∙ some-length (length rest) in
    let then : PlainTasks = record { begun = newest all - 1; waiting = take (length all - 1) all } in
    let is : record { begun = t.number - 1; waiting = rest } ≡ then =
    ap (λ n. record { begun = n - 1; waiting = rest }) (sym (newest-behind rest t))
    ∙ ap (λ xs. record { begun = newest all - 1; waiting = xs }) (sym (front-is rest t)) in
    is ∙ sym (ap (λ b. cond b (record { begun = begun; waiting = all }) then) some))

pub newest_at : (ts : List Task) (d : Task) → 0 < length ts → (get_or ts (length ts - 1) d).number ≡ newest ts
newest_at [] d some = absurd (omega (arith, some))
newest_at (t ∷ []) d some = refl
newest_at (t ∷ u ∷ ts) d some =
    let rest : (get_or (u ∷ ts) (length (u ∷ ts) - 1) d).number ≡ newest (u ∷ ts) = newest_at (u ∷ ts) d (omega arith) in
    let next : length (t ∷ u ∷ ts) - 1 ≡ suc (length (u ∷ ts) - 1) = omega arith in
    subst (λ n. (get_or (t ∷ u ∷ ts) n d).number ≡ newest (u ∷ ts)) (sym next) rest

-- ## A write

pub written_at : (request tag : ℕ) (ts : List Task) → 0 < length ts
    → set ts (length ts - 1) (record { number = newest ts; write = request; tag = tag; is_said = false }) ≡ as_write request tag ts
written_at request tag [] some = absurd (omega (arith, some))
written_at request tag (t ∷ []) some = refl
written_at request tag (t ∷ u ∷ ts) some =
    let next : length (t ∷ u ∷ ts) - 1 ≡ suc (length (u ∷ ts) - 1) = omega arith in
    let task : Task = record { number = newest (u ∷ ts); write = request; tag = tag; is_said = false } in
    subst (λ n. set (t ∷ u ∷ ts) n task ≡ as_write request tag (t ∷ u ∷ ts)) (sym next) (ap (λ xs. t ∷ xs) (written_at request tag (u ∷ ts) (omega arith)))

numbered-written : (request tag low high : ℕ) (ts : List Task) → AreNumbered low high ts → AreNumbered low high (as_write request tag ts)
numbered-written request tag low high [] are = tt
numbered-written request tag low high (t ∷ []) are = are
numbered-written request tag low high (t ∷ u ∷ ts) are = (are.0, are.1, numbered-written request tag t.number high (u ∷ ts) are.2)

length-written : (request tag : ℕ) (ts : List Task) → length (as_write request tag ts) ≡ length ts
length-written request tag [] = refl
length-written request tag (t ∷ []) = refl
length-written request tag (t ∷ u ∷ ts) = ap suc (length-written request tag (u ∷ ts))

pub written_tasks : (request tag begun : ℕ) (ts : List Task) → AreTasks begun ts → AreTasks begun (as_write request tag ts)
written_tasks request tag begun ts are = record {
  numbered = numbered-written request tag 0 begun ts are.numbered;
  few = subst (λ n. n ≤ most_tasks) (sym (length-written request tag ts)) are.few;
}

-- ## What is closed

numbered-above : (low higher high : ℕ) (ts : List Task) → low ≤ higher → AreNumbered higher high ts → AreNumbered low high ts
numbered-above low higher high [] above are = tt
numbered-above low higher high (t ∷ ts) above are = (omega (arith, above, are.0), are.1, are.2)

numbered-without : (low high : ℕ) (ts : List Task) (i : ℕ) → AreNumbered low high ts → AreNumbered low high (remove ts i)
numbered-without low high [] zero are = tt
numbered-without low high [] (suc i) are = tt
numbered-without low high (t ∷ ts) zero are = numbered-above low t.number high ts (omega (arith, are.0)) are.2
numbered-without low high (t ∷ ts) (suc i) are = (are.0, are.1, numbered-without t.number high ts i are.2)

length-without : (ts : List Task) (i : ℕ) → length (remove ts i) ≤ length ts
length-without [] zero = omega arith
length-without [] (suc i) = omega arith
length-without (t ∷ ts) zero = omega arith
length-without (t ∷ ts) (suc i) = let fewer = length-without ts i in omega (arith, fewer)

pub fewer_tasks : (begun : ℕ) (ts : List Task) (i : ℕ) → AreTasks begun ts → AreTasks begun (remove ts i)
fewer_tasks begun ts i are = record {
  numbered = numbered-without 0 begun ts i are.numbered;
  few = let fewer = length-without ts i in let all = are.few in omega (arith, fewer, all);
}

pub first_gone : (begun : ℕ) (ts : List Task) → AreTasks begun ts → AreTasks begun (drop 1 ts)
first_gone begun [] are = are
first_gone begun (t ∷ ts) are = fewer_tasks begun (t ∷ ts) 0 are

-- ## What is said

number-said : (number : ℕ) (t : Task) (test : Bool) → (cond test (record t { is_said = true }) t).number ≡ t.number
number-said number t true = refl
number-said number t false = refl

numbered-said : (number low high : ℕ) (ts : List Task) → AreNumbered low high ts → AreNumbered low high (map (said number) ts)
numbered-said number low high [] are = tt
numbered-said number low high (t ∷ ts) are =
    subst (λ k. (low < k) × (k ≤ high) × AreNumbered k high (map (said number) ts)) (sym (number-said number t (t.number == number)))
    (are.0, are.1, numbered-said number t.number high ts are.2)

pub said_tasks : (number begun : ℕ) (ts : List Task) → AreTasks begun ts → AreTasks begun (map (said number) ts)
said_tasks number begun ts are = record {
  numbered = numbered-said number 0 begun ts are.numbered;
  few = let all = are.few in grind (arith, all, common_steps);
}

pub said_more : (number : ℕ) (xs ys : List Task) (i : ℕ) (x : Task) → i < length xs → ys ≡ map (said number) (take i xs) ++ drop i xs → x ≡ get_or ys i x
    → set ys i (said number x) ≡ map (said number) (take (i + 1) xs) ++ drop (i + 1) xs
said_more number xs ys i x few is at = map_over_more (said number) xs ys i x few is at
