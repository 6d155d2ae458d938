-- What stands at a place of what is shown.
use Rattle.std.proofs.Common.{◌≡◌, refl, sym, ap, ◌∙◌, subst, ℕ, ◌+◌, ◌-◌, ◌≤◌, ◌<◌, Bool, true, false, cond, nat_le, List, [], ◌∷◌, ◌++◌, map, length, take, drop, Option, Some, None, arith, length-append, length-drop, drop-drop}
use Rattle.std.proofs.lemmas.List.{length-map, drop-map, drop-append-le}
use Rattle.std.proofs.lemmas.Bool.{leb-true}
use Rattle.std.proofs.lemmas.Bool.Decides.{leb_tells}
use Rattle.sam_pending.specs.Cells.{PartialText, Cell, is_shown, shown_of}
use Rattle.sam_pending.specs.Runs.{counts, run_counts, room, rooms, cells, cells_of, reach, Within, size, head_of, tail_of, spot}
use Rattle.sam_pending.specs.declared.run.Run.{Run}
use Rattle.sam_pending.specs.declared.run.Run.TheVariants.{Held, Typed}
use Rattle.sam_pending.specs.declared.run.Side.TheVariants.{Above}
use Rattle.sam_pending.proofs.CellLaws.{members-append}
use Rattle.sam_pending.proofs.RunLaws.{AllAre, run-all, run-size, run-tail, within-tail, run-rooms, take-front, drop-front, drop-more}

size-tail : (p : ℕ) (x : Run) → size (tail_of p x) ≡ size x - p
size-tail p (Held n d) = refl
size-tail p (Typed s g d) = refl

all-shown : (cs : List Cell) → AllAre is_shown true cs → shown_of cs ≡ map (λ c. c.member) cs
unfolding AllAre
all-shown [] a = refl
all-shown (c ∷ cs) a = rw a.0 (ap (λ z. c.member ∷ z) (all-shown cs a.1))

none-shown : (cs : List Cell) → AllAre is_shown false cs → shown_of cs ≡ []
unfolding AllAre
none-shown [] a = refl
none-shown (c ∷ cs) a = rw a.0 (none-shown cs a.1)

-- the run and the place are those of what is shown at place p of cells over the rasp r
pub record Stands (text : List ℕ) (r : PartialText) (cs : List Cell) (p : ℕ) (y : Run) (n : ℕ) : Type 0 where
  pub some : 0 < size y
  pub within : reach y ≤ length text
  pub there : n + room y ≤ length r
  pub is : take (size y) (drop p (shown_of cs)) ≡ map (λ c. c.member) (cells text (drop n r) y)

abbrev pub StandsAt : List ℕ → PartialText → List Cell → ℕ → Option (Run × ℕ) → Type 0
StandsAt text r cs p None = length (shown_of cs) ≤ p
StandsAt text r cs p (Some f) = Stands text r cs p f.0 f.1

-- the same behind other cells
moved : (text : List ℕ) (r : PartialText) (cs ds : List Cell) (p q : ℕ) (o : Option (Run × ℕ))
    → drop p (shown_of cs) ≡ drop q (shown_of ds) → length (shown_of cs) + q ≡ length (shown_of ds) + p → StandsAt text r ds q o → StandsAt text r cs p o
moved text r cs ds p q None e l h = omega (arith, l, h)
moved text r cs ds p q (Some f) e l h = record {
  some = h.some;
  within = h.within;
  there = h.there;
  is = ap (take (size f.0)) e ∙ h.is;
}

pub spot_stands : (xs : List Run) (text : List ℕ) (r : PartialText) (p k : ℕ) → Within (length text) xs → k + rooms xs ≤ length r
    → StandsAt text r (cells_of text (drop k r) xs) p (spot p k xs)
spot_stands [] text r p k w l = omega arith
spot_stands (x ∷ xs) text r p k w l =
    step (run_counts Above x) (nat_le (size x) p) refl refl
    (spot_stands xs text r (p - size x) (k + room x) w.1 (omega (arith, l))) (spot_stands xs text r p (k + room x) w.1 (omega (arith, l)))
  where
    rest : cells_of text (drop (room x) (drop k r)) xs ≡ cells_of text (drop (k + room x) r) xs
    rest = ap (λ z. cells_of text z xs) (sym (drop-more k (room x) r))

    whole : shown_of (cells_of text (drop k r) (x ∷ xs)) ≡ shown_of (cells text (drop k r) x) ++ shown_of (cells_of text (drop (k + room x) r) xs)
    whole = members-append is_shown (cells text (drop k r) x) (cells_of text (drop (room x) (drop k r)) xs) ∙ ap (λ z. shown_of (cells text (drop k r) x) ++ shown_of z) rest

    size_of : length (cells text (drop k r) x) ≡ size x
    size_of = run-size x text (drop k r) w.0 (omega (arith, l, length-drop k r))

    step : (t u : Bool) → run_counts Above x ≡ t → nat_le (size x) p ≡ u
        → StandsAt text r (cells_of text (drop (k + room x) r) xs) (p - size x) (spot (p - size x) (k + room x) xs)
        → StandsAt text r (cells_of text (drop (k + room x) r) xs) p (spot p (k + room x) xs)
        → StandsAt text r (cells_of text (drop k r) (x ∷ xs)) p
        (cond t (cond u (spot (p - size x) (k + room x) xs) (Some (tail_of p x, k + room (head_of p x)))) (spot p (k + room x) xs))
    step false u t n h i =
        let none : shown_of (cells text (drop k r) x) ≡ [] = none-shown (cells text (drop k r) x) (subst (λ z. AllAre (counts Above) z (cells text (drop k r) x)) t (run-all Above x text (drop k r))) in
        let e : shown_of (cells_of text (drop k r) (x ∷ xs)) ≡ shown_of (cells_of text (drop (k + room x) r) xs) = whole ∙ ap (λ z. z ++ shown_of (cells_of text (drop (k + room x) r) xs)) none in
        moved text r (cells_of text (drop k r) (x ∷ xs)) (cells_of text (drop (k + room x) r) xs) p p (spot p (k + room x) xs) (ap (drop p) e) (omega (arith, ap length e)) i
    step true true t n h i =
        let le : size x ≤ p = leb-true (size x) p n in
        let m = map (λ z. z.member) (cells text (drop k r) x) in
        let all : shown_of (cells text (drop k r) x) ≡ m = all-shown (cells text (drop k r) x) (subst (λ z. AllAre (counts Above) z (cells text (drop k r) x)) t (run-all Above x text (drop k r))) in
        let d = shown_of (cells_of text (drop (k + room x) r) xs) in
        let e : shown_of (cells_of text (drop k r) (x ∷ xs)) ≡ m ++ d = whole ∙ ap (λ z. z ++ d) all in
        let lm : length m ≡ size x = length-map (cells text (drop k r) x) (λ z. z.member) ∙ size_of in
        let past : drop p (m ++ d) ≡ drop (p - size x) d =
        ap (λ j. drop j (m ++ d)) (omega (arith, le, lm)) ∙ (sym (drop-drop (p - size x) (length m) (m ++ d)) ∙ ap (drop (p - size x)) (drop-front m d)) in
        moved text r (cells_of text (drop k r) (x ∷ xs)) (cells_of text (drop (k + room x) r) xs) p (p - size x) (spot (p - size x) (k + room x) xs) (ap (drop p) e ∙ past)
        (omega (arith, ap length e, length-append m d, lm, le)) h
    step true false t n h i =
        let lt : p < size x = grind (arith, n, leb_tells) in
        let lp : p ≤ size x = omega (arith, lt) in
        let m = map (λ z. z.member) (cells text (drop k r) x) in
        let all : shown_of (cells text (drop k r) x) ≡ m = all-shown (cells text (drop k r) x) (subst (λ z. AllAre (counts Above) z (cells text (drop k r) x)) t (run-all Above x text (drop k r))) in
        let d = shown_of (cells_of text (drop (k + room x) r) xs) in
        let e : shown_of (cells_of text (drop k r) (x ∷ xs)) ≡ m ++ d = whole ∙ ap (λ z. z ++ d) all in
        let lm : length m ≡ size x = length-map (cells text (drop k r) x) (λ z. z.member) ∙ size_of in
        let st : size (tail_of p x) ≡ size x - p = size-tail p x in
        let last : length (drop p m) ≡ size (tail_of p x) = omega (arith, length-drop p m, lm, st) in
        let of : cells text (drop (k + room (head_of p x)) r) (tail_of p x) ≡ drop p (cells text (drop k r) x) =
        ap (λ z. cells text z (tail_of p x)) (drop-more k (room (head_of p x)) r) ∙ run-tail p x text (drop k r) lp in
        record {
          some = omega (arith, st, lt);
          within = within-tail p (length text) x lp w.0;
          there = omega (arith, run-rooms p x lp, l);
          is = ap (λ z. take (size (tail_of p x)) (drop p z)) e
              ∙ (ap (take (size (tail_of p x))) (drop-append-le p m d (omega (arith, lp, lm)))
              ∙ (ap (λ j. take j (drop p m ++ d)) (sym last)
              ∙ (take-front (drop p m) d
              ∙ (drop-map (λ z. z.member) p (cells text (drop k r) x) ∙ ap (map (λ z. z.member)) (sym of)))));
        }
