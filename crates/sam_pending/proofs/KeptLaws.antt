-- Runs over a text that is written anew.
use Rattle.std.proofs.Common.{◌≡◌, refl, sym, ap, ◌∙◌, ℕ, ◌+◌, ◌≤◌, cond, List, [], ◌∷◌, ◌++◌, map, length, take, drop, is_none, arith, append_assoc, append-nil, length-append}
use Rattle.sam_pending.specs.Cells.{PartialText}
use Rattle.sam_pending.specs.Runs.{held, typed_by, runes_of, rooms, wait, waits, above, cells_of, reach, Within, kept_text, kept_runs}
use Rattle.sam_pending.specs.declared.run.Run.{Run}
use Rattle.sam_pending.specs.declared.run.Run.TheVariants.{Held, Typed}
use Rattle.sam_pending.proofs.RunLaws.{take-front, drop-front, runes-size}

pub kept-push : (text : List ℕ) (x : Run) (xs : List Run) → kept_text text (x ∷ []) ++ kept_text text xs ≡ kept_text text (x ∷ xs)
kept-push text (Held n d) xs = refl
kept-push text (Typed s g d) xs = ap (λ z. z ++ kept_text text xs) (append-nil (runes_of text s))

pub kept-length : (text : List ℕ) (xs : List Run) → Within (length text) xs → length (kept_text text xs) ≡ waits xs
kept-length text [] w = refl
kept-length text (Held n d ∷ xs) w = omega (arith, kept-length text xs w.1)
kept-length text (Typed s g d ∷ xs) w =
    omega (arith, kept-length text xs w.1, length-append (runes_of text s) (kept_text text xs), runes-size text s w.0)

pub kept-one : (text : List ℕ) (x : Run) → reach x ≤ length text → length (kept_text text (x ∷ [])) ≡ wait x
kept-one text (Held n d) w = refl
kept-one text (Typed s g d) w = omega (arith, length-append (runes_of text s) [], runes-size text s w)

pub ruleset kept_facts = (kept-push, kept-one, append_assoc, append-nil, length-append)

-- behind the runes before it, of which there are n, and before the runes after it
kept-cells : (text before after : List ℕ) (n : ℕ) (xs : List Run) (r : PartialText) → Within (length text) xs → length before ≡ n
    → cells_of (before ++ kept_text text xs ++ after) r (kept_runs n xs) ≡ cells_of text r xs
kept-cells text before after n [] r w e = refl
kept-cells text before after n (Held k d ∷ xs) r w e =
    let same : n + 0 ≡ n = omega arith in
    ap (λ j. map (held d) (take k r) ++ cells_of (before ++ kept_text text xs ++ after) (drop k r) (kept_runs j xs)) same
    ∙ ap (λ z. map (held d) (take k r) ++ z) (kept-cells text before after n xs (drop k r) w.1 e)
kept-cells text before after n (Typed s g d ∷ xs) r w e =
    let m = runes_of text s in
    let k = kept_text text xs in
    let size_of = runes-size text s w.0 in
    let whole : before ++ (m ++ k) ++ after ≡ before ++ m ++ k ++ after = ap (λ z. z ++ after) (sym (append_assoc before m k)) in
    let start : before ++ m ++ k ++ after ≡ before ++ (m ++ (k ++ after)) = append_assoc (before ++ m) k after ∙ append_assoc before m (k ++ after) in
    let there : take s.count (drop n (before ++ m ++ k ++ after)) ≡ m =
    ap (λ z. take s.count (drop n z)) start
    ∙ (ap (λ j. take s.count (drop j (before ++ (m ++ (k ++ after))))) (sym e)
    ∙ (ap (take s.count) (drop-front before (m ++ (k ++ after)))
    ∙ (ap (λ j. take j (m ++ (k ++ after))) (sym size_of) ∙ take-front m (k ++ after)))) in
    ap (λ z. cells_of z r (kept_runs n (Typed s g d ∷ xs))) whole
    ∙ (ap (λ z. map (typed_by g d) z ++ cells_of (before ++ m ++ k ++ after) r (kept_runs (n + s.count) xs)) there
    ∙ ap (λ z. map (typed_by g d) m ++ z) (kept-cells text (before ++ m) after (n + s.count) xs r w.1 (omega (arith, length-append before m, size_of, e))))

pub kept-runs : (text : List ℕ) (xs : List Run) (r : PartialText) → Within (length text) xs → cells_of (kept_text text xs) r (kept_runs 0 xs) ≡ cells_of text r xs
kept-runs text xs r w = ap (λ z. cells_of z r (kept_runs 0 xs)) (sym (append-nil (kept_text text xs))) ∙ kept-cells text [] [] 0 xs r w refl

pub kept-rooms : (n : ℕ) (xs : List Run) → rooms (kept_runs n xs) ≡ rooms xs
kept-rooms n [] = refl
kept-rooms n (Held k d ∷ xs) = ap (λ z. k + z) (kept-rooms (n + 0) xs)
kept-rooms n (Typed s g d ∷ xs) = ap (λ z. 0 + z) (kept-rooms (n + s.count) xs)

pub kept-waits : (n : ℕ) (xs : List Run) → waits (kept_runs n xs) ≡ waits xs
kept-waits n [] = refl
kept-waits n (Held k d ∷ xs) = ap (λ z. 0 + z) (kept-waits (n + 0) xs)
kept-waits n (Typed s g d ∷ xs) = ap (λ z. s.count + z) (kept-waits (n + s.count) xs)

pub kept-above : (n : ℕ) (xs : List Run) → above (kept_runs n xs) ≡ above xs
kept-above n [] = refl
kept-above n (Held k d ∷ xs) = ap (λ z. cond (is_none d) (k + z) z) (kept-above (n + 0) xs)
kept-above n (Typed s g d ∷ xs) = ap (λ z. cond (is_none d) (s.count + z) z) (kept-above (n + s.count) xs)

pub kept-within : (n m : ℕ) (xs : List Run) → n + waits xs ≤ m → Within m (kept_runs n xs)
kept-within n m [] l = tt
kept-within n m (Held k d ∷ xs) l = (omega arith, kept-within (n + 0) m xs (omega (arith, l)))
kept-within n m (Typed s g d ∷ xs) l = (omega (arith, l), kept-within (n + s.count) m xs (omega (arith, l)))

pub kept_fits : (n : ℕ) (xs : List Run) → rooms (kept_runs n xs) + waits (kept_runs n xs) ≤ rooms xs + waits xs
kept_fits n xs = omega (arith, kept-rooms n xs, kept-waits n xs)
