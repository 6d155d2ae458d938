-- Marks: sums of runs together, and what a walk knows of the blocks that it passes over.
use Rattle.std.proofs.Common.{◌≡◌, refl, sym, ap, ◌∙◌, subst, ℕ, zero, suc, ◌+◌, ◌-◌, ◌^◌, ◌≤◌, ◌<◌, ◌⊎◌, inl, inr, Bool, true, false, not, ◌&&◌, nat_le, nat_lt, List, [], ◌∷◌, ◌++◌, length, take, drop, get_or, set, slice_index_or, Option, arith, append-nil, append_assoc, drop-drop, length-append, length-take-le, length-drop, take-append-drop, take-take}
use Rattle.std.proofs.lemmas.List.{drop_more, set_split, take_all, take_more, drop-take}
use Rattle.std.proofs.lemmas.Bool.{leb-true}
use Rattle.std.proofs.lemmas.Bool.Decides.{nat_tests}
use Rattle.sam_pending.specs.Blocks.{flat, inserting_run, measure, older, oldest_inserting, oldest_removing, reaches, removing_run, made_in, taken_in, StandsBehind}
use Rattle.sam_pending.specs.Marks.{allows, plus, side_len, spans, sums_due, sums_of, IsBehind, IsMarked, Passes}
use Rattle.sam_pending.specs.declared.marks.Mark.{Mark}
use Rattle.sam_pending.specs.Runs.{above, first_due, first_typed, gone_in, has_due, lost_in, made_first, newest_of, place_in, rooms, spot, taken_first, waits, Within}
use Rattle.sam_pending.specs.declared.marks.Stop.{Stop}
use Rattle.sam_pending.specs.declared.marks.Stop.TheVariants.{Due, Place, Lost, Kept, Gone}
use Rattle.sam_pending.specs.declared.run.Run.{Run}
use Rattle.sam_pending.specs.declared.run.Deed.{Deed}
use Rattle.sam_pending.specs.declared.run.Deed.TheVariants.{Removes, Inserts}
use Rattle.sam_pending.specs.declared.run.Side.{Side}
use Rattle.sam_pending.specs.declared.run.Side.TheVariants.{Above, Below}
use Rattle.sam_pending.specs.declared.sums.Sums.{Sums}
use Rattle.sam_pending.proofs.RunLaws.{drop-front, rooms-append, take-front}
use Rattle.sam_pending.proofs.JoinLaws.{above-append, take-add, waits-append, within-last}
use Rattle.sam_pending.proofs.DropLaws.{taken_fits}
use Rattle.sam_pending.proofs.FirstLaws.{flat_made, flat_taken}
use Rattle.sam_pending.proofs.FlatLaws.{flat-append}
use Rattle.sam_pending.proofs.BlockLaws.{first-past, inserts_reach, made_fits, newest-append, older_moves, removes_reach, spot-past, typed-past}
use Rattle.sam_pending.proofs.LayerLaws.{above-most}
use Rattle.sam_pending.proofs.PartLaws.{measure-append, measure-none}
use Rattle.sam_pending.proofs.PassLaws.{gone-past, gone_most, lost-past, lost_most, place-append, place_shown}

-- ## Sums

removing-append : (a b : List Run) → oldest_removing (a ++ b) ≡ older (oldest_removing a) (oldest_removing b)
removing-append [] b = refl
removing-append (x ∷ a) b = ap (older (removing_run x)) (removing-append a b) ∙ sym (older_moves (removing_run x) (oldest_removing a) (oldest_removing b))

inserting-append : (a b : List Run) → oldest_inserting (a ++ b) ≡ older (oldest_inserting a) (oldest_inserting b)
inserting-append [] b = refl
inserting-append (x ∷ a) b = ap (older (inserting_run x)) (inserting-append a b) ∙ sym (older_moves (inserting_run x) (oldest_inserting a) (oldest_inserting b))

pub sums-append : (a b : List Run) → sums_of (a ++ b) ≡ plus (sums_of a) (sums_of b)
sums-append a b = rw (rooms-append a b, waits-append a b, above-append a b, newest-append a b, removing-append a b, inserting-append a b) refl

-- the first blocks, and the others
pub two : (bs : List (List Run)) (i : ℕ) → flat bs ≡ flat (take i bs) ++ flat (drop i bs)
two bs i = ap flat (sym (take-append-drop i bs)) ∙ flat-append (take i bs) (drop i bs)

-- the same, as a slice has the others
pub two_slices : (bs : List (List Run)) (i : ℕ) → flat bs ≡ flat (take i bs) ++ flat (take (length bs - i) (drop i bs))
two_slices bs i = two bs i ∙ ap (λ z. flat (take i bs) ++ flat z) (sym (take_all (length bs - i) (drop i bs) (omega (arith, length-drop i bs))))

-- so much more after n blocks more
pub sums-more : (bs : List (List Run)) (i n : ℕ) → sums_of (flat (take (i + n) bs)) ≡ plus (sums_of (flat (take i bs))) (sums_of (flat (take n (drop i bs))))
sums-more bs i n =
    ap (λ z. sums_of (flat z)) (take-add i n bs)
    ∙ (ap sums_of (flat-append (take i bs) (take n (drop i bs))) ∙ sums-append (flat (take i bs)) (flat (take n (drop i bs))))

pub record Fits (s m : Sums) : Type 0 where
  pub rasp : s.rasp_len + m.rasp_len < 2 ^ 32
  pub waiting : s.waiting_len + m.waiting_len < 2 ^ 32
  pub shown : s.shown_len + m.shown_len < 2 ^ 32

pub front_fits : (bs : List (List Run)) (i : ℕ) → rooms (flat (take i bs)) + waits (flat (take i bs)) ≤ rooms (flat bs) + waits (flat bs)
front_fits bs i =
    let a = flat (take i bs) in
    let b = flat (drop i bs) in
    omega (arith, ap rooms (two bs i), ap waits (two bs i), rooms-append a b, waits-append a b)

pub more_fits : (bs : List (List Run)) (i n : ℕ) (s m : Sums) → s ≡ sums_of (flat (take i bs)) → m ≡ sums_of (flat (take n (drop i bs)))
    → rooms (flat bs) + waits (flat bs) < 2 ^ 32 → Fits s m
more_fits bs i n s m e f l =
    let sum : plus s m ≡ sums_of (flat (take (i + n) bs)) = ap (λ z. plus z m) e ∙ (ap (plus (sums_of (flat (take i bs)))) f ∙ sym (sums-more bs i n)) in
    let r : s.rasp_len + m.rasp_len ≡ rooms (flat (take (i + n) bs)) = ap (λ z. z.rasp_len) sum in
    let w : s.waiting_len + m.waiting_len ≡ waits (flat (take (i + n) bs)) = ap (λ z. z.waiting_len) sum in
    let a : s.shown_len + m.shown_len ≡ above (flat (take (i + n) bs)) = ap (λ z. z.shown_len) sum in
    let fit = front_fits bs (i + n) in
    record {
      rasp = omega (arith, r, fit, l);
      waiting = omega (arith, w, fit, l);
      shown = omega (arith, a, fit, l, above-most (flat (take (i + n) bs)));
    }

pub sums_one : (bs : List (List Run)) (i : ℕ) (b : List Run) (s : Sums) → i < length bs → b ≡ get_or bs i b → s ≡ sums_of (flat (take i bs))
    → plus s (sums_of b) ≡ sums_of (flat (take (i + 1) bs))
sums_one bs i b s l e f =
    let one : flat (take (i + 1) bs) ≡ flat (take i bs) ++ b =
    ap flat (take_more bs i b l ∙ ap (λ z. take i bs ++ z ∷ []) (sym e)) ∙ (flat-append (take i bs) (b ∷ []) ∙ ap (λ z. flat (take i bs) ++ z) (append-nil b)) in
    ap (λ z. plus z (sums_of b)) f ∙ (sym (sums-append (flat (take i bs)) b) ∙ ap sums_of (sym one))

pub one_fits : (bs : List (List Run)) (i : ℕ) (b : List Run) (s m : Sums) → i < length bs → b ≡ get_or bs i b → s ≡ sums_of (flat (take i bs)) → m ≡ sums_of b
    → rooms (flat bs) + waits (flat bs) < 2 ^ 32 → Fits s m
one_fits bs i b s m l e f g h =
    let sum : plus s m ≡ sums_of (flat (take (i + 1) bs)) = ap (plus s) g ∙ sums_one bs i b s l e f in
    let r : s.rasp_len + m.rasp_len ≡ rooms (flat (take (i + 1) bs)) = ap (λ z. z.rasp_len) sum in
    let w : s.waiting_len + m.waiting_len ≡ waits (flat (take (i + 1) bs)) = ap (λ z. z.waiting_len) sum in
    let a : s.shown_len + m.shown_len ≡ above (flat (take (i + 1) bs)) = ap (λ z. z.shown_len) sum in
    let fit = front_fits bs (i + 1) in
    record {
      rasp = omega (arith, r, fit, h);
      waiting = omega (arith, w, fit, h);
      shown = omega (arith, a, fit, h, above-most (flat (take (i + 1) bs)));
    }

-- ## A walk over marks

pub marked_next : (ms : List Mark) (bs : List (List Run)) (j i : ℕ) (d : Mark) → j < length ms → IsMarked (drop j ms) (drop i bs)
    → ((slice_index_or ms j d).count ≤ length (drop i bs)) × ((slice_index_or ms j d).sums ≡ sums_of (flat (take (slice_index_or ms j d).count (drop i bs))))
    × IsMarked (drop (j + 1) ms) (drop (i + (slice_index_or ms j d).count) bs)
marked_next ms bs j i d l h =
    let m = slice_index_or ms j d in
    let both : IsMarked (m ∷ drop (j + 1) ms) (drop i bs) = subst (λ z. IsMarked z (drop i bs)) (drop_more ms j d l) h in
    (both.0, both.1, subst (IsMarked (drop (j + 1) ms)) (drop-drop m.count i bs) both.2)

pub passes_on : (stop : Stop) (bs : List (List Run)) (i n : ℕ) (s m : Sums) → s ≡ sums_of (flat (take i bs)) → m ≡ sums_of (flat (take n (drop i bs)))
    → allows stop (plus s m) ≡ true → Passes stop bs (i + n) (plus s m)
passes_on stop bs i n s m e f a = record {
  sums = ap (λ z. plus z m) e ∙ (ap (plus (sums_of (flat (take i bs)))) f ∙ sym (sums-more bs i n));
  allowed = inr a;
}

-- ## How many blocks marks stand for

pub spans_append : (a c : List Mark) → spans (a ++ c) ≡ spans a + spans c
spans_append [] c = omega arith
spans_append (m ∷ a) c = omega (arith, spans_append a c)

pub spans_most : (ms : List Mark) (bs : List (List Run)) → IsMarked ms bs → spans ms ≤ length bs
spans_most [] bs h = omega arith
spans_most (m ∷ ms) bs h = omega (arith, h.0, spans_most ms (drop m.count bs) h.2, length-drop m.count bs)

pub spans_more : (ms : List Mark) (j : ℕ) (d : Mark) → j < length ms → spans (take (j + 1) ms) ≡ spans (take j ms) + (slice_index_or ms j d).count
spans_more ms j d l =
    let m = slice_index_or ms j d in
    let one : take (j + 1) ms ≡ take j ms ++ m ∷ [] = take_more ms j d l in
    ap spans one ∙ (spans_append (take j ms) (m ∷ []) ∙ omega arith)

-- ## Marks of lists that are like each other

pub marked_append : (a c : List Mark) (bs : List (List Run)) → IsMarked a bs → IsMarked c (drop (spans a) bs) → IsMarked (a ++ c) bs
marked_append [] c bs h g = g
marked_append (m ∷ a) c bs h g =
    let up : m.count + spans a ≡ spans (m ∷ a) = omega arith in
    (h.0, h.1, marked_append a c (drop m.count bs) h.2 (subst (IsMarked c) (sym (drop-drop (spans a) m.count bs)) g))

pub marked_front : (a c : List Mark) (bs : List (List Run)) → IsMarked (a ++ c) bs → IsMarked a bs
marked_front [] c bs h = tt
marked_front (m ∷ a) c bs h = (h.0, h.1, marked_front a c (drop m.count bs) h.2)

pub marked_back : (a c : List Mark) (bs : List (List Run)) → IsMarked (a ++ c) bs → IsMarked c (drop (spans a) bs)
marked_back [] c bs h = h
marked_back (m ∷ a) c bs h = subst (IsMarked c) (drop-drop (spans a) m.count bs) (marked_back a c (drop m.count bs) h.2)

pub marked_take : (k : ℕ) (ms : List Mark) (bs : List (List Run)) → IsMarked ms bs → IsMarked (take k ms) bs
marked_take k ms bs h = marked_front (take k ms) (drop k ms) bs (subst (λ z. IsMarked z bs) (sym (take-append-drop k ms)) h)

marked_drop : (k : ℕ) (ms : List Mark) (bs : List (List Run)) → IsMarked ms bs → IsMarked (drop k ms) (drop (spans (take k ms)) bs)
marked_drop k ms bs h = marked_back (take k ms) (drop k ms) bs (subst (λ z. IsMarked z bs) (sym (take-append-drop k ms)) h)

-- a mark more
pub marked_push : (ms : List Mark) (m : Mark) (bs : List (List Run)) (start : ℕ) → IsMarked ms bs → start ≡ spans ms → start + m.count ≤ length bs
    → m.sums ≡ sums_of (flat (take m.count (drop start bs))) → IsMarked (ms ++ m ∷ []) bs
marked_push ms m bs start h e l f =
    let short : m.count ≤ length (drop start bs) = omega (arith, l, length-drop start bs) in
    marked_append ms (m ∷ []) bs h (subst (λ k. IsMarked (m ∷ []) (drop k bs)) e (short, f, tt))

-- a mark anew
pub marked_set : (ms : List Mark) (m : Mark) (bs : List (List Run)) (k start : ℕ) → k < length ms → IsMarked (take k ms) bs → start ≡ spans (take k ms)
    → start + m.count ≤ length bs → m.sums ≡ sums_of (flat (take m.count (drop start bs))) → IsMarked (drop (k + 1) ms) (drop (start + m.count) bs)
    → IsMarked (set ms k m) bs
marked_set ms m bs k start l h e n f g =
    let next : suc k ≡ k + 1 = omega arith in
    let short : m.count ≤ length (drop start bs) = omega (arith, n, length-drop start bs) in
    let back : IsMarked (m ∷ drop (k + 1) ms) (drop start bs) = (short, f, subst (IsMarked (drop (k + 1) ms)) (sym (drop-drop m.count start bs)) g) in
    subst (λ z. IsMarked z bs) (sym (set_split ms k m l ∙ ap (λ j. take k ms ++ m ∷ drop j ms) next))
    (marked_append (take k ms) (m ∷ drop (k + 1) ms) bs h (subst (λ j. IsMarked (m ∷ drop (k + 1) ms) (drop j bs)) e back))

-- a mark anew of a stretch in which something changed
pub change_set : (ms : List Mark) (m d : Mark) (bs : List (List Run)) (k start before after : ℕ) → k < length ms → IsMarked (take k ms) bs → start ≡ spans (take k ms)
    → start ≤ after → IsBehind (drop k ms) start before after bs → before ≤ start + (slice_index_or ms k d).count
    → m.count ≡ after - start + (start + (slice_index_or ms k d).count - before) → m.sums ≡ sums_of (flat (take m.count (drop start bs))) → IsMarked (set ms k m) bs
change_set ms m d bs k start before after l h e up g n size f =
    let old = slice_index_or ms k d in
    let both : IsBehind (old ∷ drop (k + 1) ms) start before after bs = subst (λ z. IsBehind z start before after bs) (drop_more ms k d l) g in
    let behind = both.1 n in
    let end : after + (start + old.count - before) ≡ start + m.count = omega (arith, size, up) in
    marked_set ms m bs k start l h e (omega (arith, behind.0, end)) f (subst (λ j. IsMarked (drop (k + 1) ms) (drop j bs)) end behind.1)

marked_same : (ms : List Mark) (n : ℕ) (bs cs : List (List Run)) → take n bs ≡ take n cs → spans ms ≤ n → IsMarked ms bs → IsMarked ms cs
marked_same [] n bs cs e l h = tt
marked_same (m ∷ ms) n bs cs e l h =
    let k = m.count in
    let few : k ≤ n = omega (arith, l) in
    let up : k + (n - k) ≡ n = omega (arith, few) in
    let first : take k bs ≡ take k cs = sym (take-take k n bs few) ∙ (ap (take k) e ∙ take-take k n cs few) in
    let all : take (k + (n - k)) bs ≡ take (k + (n - k)) cs = subst (λ j. take j bs ≡ take j cs) (sym up) e in
    let rest : take (n - k) (drop k bs) ≡ take (n - k) (drop k cs) = sym (drop-take k (n - k) bs) ∙ (ap (drop k) all ∙ drop-take k (n - k) cs) in
    let there : k ≤ length cs = omega (arith, sym (length-take-le k bs h.0) ∙ ap length first, length-take-most k cs) in
    (there, h.1 ∙ ap (λ z. sums_of (flat z)) first, marked_same ms (n - k) (drop k bs) (drop k cs) rest (omega (arith, l)) h.2)
  where
    length-take-most : (j : ℕ) (xs : List (List Run)) → length (take j xs) ≤ length xs
    length-take-most zero xs = omega arith
    length-take-most (suc j) [] = omega arith
    length-take-most (suc j) (x ∷ xs) = omega (arith, length-take-most j xs)

-- ## Marks after a change

-- of blocks that are like the old ones before block n
pub front_same : (ms : List Mark) (k n : ℕ) (bs cs : List (List Run)) → take n bs ≡ take n cs → spans (take k ms) ≤ n → IsMarked ms bs → IsMarked (take k ms) cs
front_same ms k n bs cs e l h = marked_same (take k ms) n bs cs e l (marked_take k ms bs h)

-- of blocks in which what stood from block b on stands from block c on
pub is_behind : (ms : List Mark) (k b c : ℕ) (bs cs : List (List Run)) → drop b bs ≡ drop c cs → (b ≤ length bs → c ≤ length cs) → length bs < 2 ^ 64 → IsMarked ms bs
    → IsBehind (drop k ms) (spans (take k ms)) b c cs
is_behind ms k b c bs cs e there l h = step (drop k ms) (marked_drop k ms bs h)
  where
    x : ℕ
    x = spans (take k ms)

    before : x ≤ length bs
    before = spans_most (take k ms) bs (marked_take k ms bs h)

    step : (rest : List Mark) → IsMarked rest (drop x bs) → IsBehind rest x b c cs
    step [] g = tt
    step (m ∷ rest) g =
        let end : x + m.count ≤ length bs = omega (arith, g.0, length-drop x bs, before) in
        (omega (arith, end, l), λ n. inside m rest g end n)
      where
        inside : (m : Mark) (rest : List Mark) → IsMarked (m ∷ rest) (drop x bs) → x + m.count ≤ length bs → b ≤ x + m.count
            → (c + (x + m.count - b) ≤ length cs) × IsMarked rest (drop (c + (x + m.count - b)) cs)
        inside m rest g end n =
            let y = x + m.count - b in
            let up : b + y ≡ x + m.count = omega (arith, n) in
            let same : drop (x + m.count) bs ≡ drop (c + y) cs =
            ap (λ j. drop j bs) (sym up) ∙ (sym (drop-drop y b bs) ∙ (ap (drop y) e ∙ drop-drop y c cs)) in
            let room : length (drop b bs) ≡ length (drop c cs) = ap length e in (
              omega (arith, end, n, room, length-drop b bs, length-drop c cs, there (omega (arith, end, n))),
              subst (IsMarked rest) (drop-drop m.count x bs ∙ same) g.2,
            )

pub piece_fits : (bs : List (List Run)) (i n : ℕ) → rooms (flat (take n (drop i bs))) + waits (flat (take n (drop i bs))) ≤ rooms (flat bs) + waits (flat bs)
piece_fits bs i n =
    let a = flat (take i bs) in
    let b = flat (drop i bs) in
    omega (arith, front_fits (drop i bs) n, ap rooms (two bs i), ap waits (two bs i), rooms-append a b, waits-append a b)

-- ## Sums of the first blocks

pub piece_small : (bs cs : List (List Run)) (i n : ℕ) → cs ≡ bs → rooms (flat bs) + waits (flat bs) < 2 ^ 32
    → rooms (flat (take n (drop i cs))) + waits (flat (take n (drop i cs))) < 2 ^ 32
piece_small bs cs i n e l = omega (arith, piece_fits cs i n, ap (λ z. rooms (flat z)) e, ap (λ z. waits (flat z)) e, l)

pub record SumsTo (bs : List (List Run)) (k : ℕ) (s m : Sums) : Type 0 where
  pub fits : Fits s m
  pub sum : plus s m ≡ sums_of (flat (take k bs))

pub sums_up_to : (bs cs : List (List Run)) (i k : ℕ) (s m : Sums) → cs ≡ bs → i ≤ k → s ≡ sums_of (flat (take i cs)) → m ≡ sums_of (flat (take (k - i) (drop i cs)))
    → rooms (flat bs) + waits (flat bs) < 2 ^ 32 → SumsTo bs k s m
sums_up_to bs cs i k s m same h e f l =
    let small : rooms (flat cs) + waits (flat cs) < 2 ^ 32 = omega (arith, ap (λ z. rooms (flat z)) same, ap (λ z. waits (flat z)) same, l) in
    let up : i + (k - i) ≡ k = omega (arith, h) in
    record {
      fits = more_fits cs i (k - i) s m e f small;
      sum = ap (λ z. plus z m) e
          ∙ (ap (plus (sums_of (flat (take i cs)))) f ∙ (sym (sums-more cs i (k - i)) ∙ (ap (λ j. sums_of (flat (take j cs))) up ∙ ap (λ z. sums_of (flat (take k z))) same)));
    }

-- ## Past the first blocks

and-parts : (a b : Bool) → a && b ≡ true → (a ≡ true) × (b ≡ true)
and-parts true b e = (refl, e)
and-parts false b e = absurd cc

not-true : (a : Bool) → not a ≡ true → a ≡ false
not-true true e = absurd cc
not-true false e = refl

less : (a b : ℕ) → nat_lt a b ≡ true → a < b
less a b e = grind (arith, nat_tests, e)

none-of : (bs : List (List Run)) (i : ℕ) → i ≡ 0 → flat (take i bs) ≡ []
none-of bs i e = ap (λ j. flat (take j bs)) e

pub due_sums : (w : Deed) (xs : List Run) → has_due w xs ≡ sums_due w (sums_of xs)
due_sums (Removes m) xs = removes_reach m xs
due_sums (Inserts m) xs = inserts_reach m xs

pub none_due : {w : Deed} {bs : List (List Run)} {i : ℕ} {s : Sums} → Passes (Due w) bs i s → has_due w (flat (take i bs)) ≡ false
none_due {w} {bs} {i} {s} p = step p.allowed
  where
    step : (i ≡ 0) ⊎ (not (sums_due w s) ≡ true) → has_due w (flat (take i bs)) ≡ false
    step (inl z) = ap (has_due w) (none-of bs i z)
    step (inr a) = due_sums w (flat (take i bs)) ∙ (ap (sums_due w) (sym p.sums) ∙ not-true (sums_due w s) a)

-- how much stands before the others
pub record Before (bs cs : List (List Run)) (i : ℕ) (s : Sums) : Type 0 where
  pub two : flat bs ≡ flat (take i bs) ++ flat (take (length cs - i) (drop i cs))
  pub rasp : s.rasp_len ≡ rooms (flat (take i bs))
  pub shown : s.shown_len ≡ above (flat (take i bs))
  pub rasp_fits : s.rasp_len + rooms (flat (take (length cs - i) (drop i cs))) ≡ rooms (flat bs)
  pub shown_fits : s.shown_len + above (flat (take (length cs - i) (drop i cs))) ≡ above (flat bs)
  pub fits : rooms (flat (take (length cs - i) (drop i cs))) + waits (flat (take (length cs - i) (drop i cs))) ≤ rooms (flat bs) + waits (flat bs)
  pub place : s.shown_len + (rooms (flat (take (length cs - i) (drop i cs))) + waits (flat (take (length cs - i) (drop i cs)))) ≤ rooms (flat bs) + waits (flat bs)

pub before : {stop : Stop} {bs : List (List Run)} {i : ℕ} {s : Sums} (cs : List (List Run)) → cs ≡ bs → Passes stop bs i s → Before bs cs i s
before {stop} {bs} {i} {s} cs e p =
    let a = flat (take i bs) in
    let b = flat (take (length cs - i) (drop i cs)) in
    let parts : flat bs ≡ a ++ b = two_slices bs i ∙ ap (λ z. a ++ flat (take (length z - i) (drop i z))) (sym e) in
    let r : s.rasp_len ≡ rooms a = ap (λ z. z.rasp_len) p.sums in
    let h : s.shown_len ≡ above a = ap (λ z. z.shown_len) p.sums in
    record {
      two = parts;
      rasp = r;
      shown = h;
      rasp_fits = omega (arith, r, ap rooms parts, rooms-append a b);
      shown_fits = omega (arith, h, ap above parts, above-append a b);
      fits = omega (arith, ap rooms parts, rooms-append a b, ap waits parts, waits-append a b);
      place = omega (arith, h, above-most a, ap rooms parts, rooms-append a b, ap waits parts, waits-append a b);
    }

pub first_behind : {w : Deed} {bs : List (List Run)} {i : ℕ} {s : Sums} (cs : List (List Run)) → cs ≡ bs → Passes (Due w) bs i s
    → first_due w s.rasp_len (flat (take (length cs - i) (drop i cs))) ≡ first_due w 0 (flat bs)
first_behind {w} {bs} {i} {s} cs e p =
    let b = flat (take (length cs - i) (drop i cs)) in
    let r = before cs e p in
    sym (ap (first_due w 0) r.two ∙ (first-past w (flat (take i bs)) b 0 (none_due p) ∙ ap (λ k. first_due w k b) (omega (arith, r.rasp))))

pub typed_behind : {m : Option ℕ} {bs : List (List Run)} {i : ℕ} {s : Sums} (cs : List (List Run)) → cs ≡ bs → Passes (Due (Inserts m)) bs i s
    → first_typed m s.shown_len (flat (take (length cs - i) (drop i cs))) ≡ first_typed m 0 (flat bs)
typed_behind {m} {bs} {i} {s} cs e p =
    let b = flat (take (length cs - i) (drop i cs)) in
    let r = before cs e p in
    sym (ap (first_typed m 0) r.two ∙ (typed-past m (flat (take i bs)) b 0 (none_due p) ∙ ap (λ k. first_typed m k b) (omega (arith, r.shown))))

pub side_sums : (v : Side) (xs : List Run) → side_len v (sums_of xs) ≡ measure v xs
side_sums Below xs = refl
side_sums Above xs = refl

pub none_past : {v : Side} {p : ℕ} {bs : List (List Run)} {i : ℕ} {s : Sums} → Passes (Place v p) bs i s
    → (side_len v s ≡ measure v (flat (take i bs))) × ((i ≡ 0) ⊎ (measure v (flat (take i bs)) < p)) × (measure v (flat (take i bs)) ≤ p)
none_past {v} {p} {bs} {i} {s} h = let near = step h.allowed in (size, near.0, near.1)
  where
    size : side_len v s ≡ measure v (flat (take i bs))
    size = ap (side_len v) h.sums ∙ side_sums v (flat (take i bs))

    step : (i ≡ 0) ⊎ (nat_lt (side_len v s) p ≡ true) → ((i ≡ 0) ⊎ (measure v (flat (take i bs)) < p)) × (measure v (flat (take i bs)) ≤ p)
    step (inl z) = (inl z, omega (arith, ap (measure v) (none-of bs i z), measure-none v))
    step (inr a) = let l = less (side_len v s) p a in (inr (omega (arith, l, size)), omega (arith, l, size))

pub spot_behind : {p : ℕ} {bs : List (List Run)} {i : ℕ} {s : Sums} (cs : List (List Run)) → cs ≡ bs → Passes (Place Above p) bs i s
    → spot (p - s.shown_len) s.rasp_len (flat (take (length cs - i) (drop i cs))) ≡ spot p 0 (flat bs)
spot_behind {p} {bs} {i} {s} cs e h =
    let a = flat (take i bs) in
    let b = flat (take (length cs - i) (drop i cs)) in
    let r = before cs e h in
    let near : above a ≤ p = (none_past h).2 in
    sym (ap (spot p 0) r.two
    ∙ (spot-past a b p 0 near ∙ (ap (λ k. spot k (0 + rooms a) b) (omega (arith, r.shown)) ∙ ap (λ k. spot (p - s.shown_len) k b) (omega (arith, r.rasp)))))

pub within_behind : (m : ℕ) {bs : List (List Run)} {i : ℕ} {s : Sums} {stop : Stop} (cs : List (List Run)) → cs ≡ bs → Passes stop bs i s → Within m (flat bs)
    → Within m (flat (take (length cs - i) (drop i cs)))
within_behind m {bs} {i} {s} {stop} cs e h w =
    within-last m (flat (take i bs)) (flat (take (length cs - i) (drop i cs))) (subst (Within m) (before cs e h).two w)

pub stands_behind : {v : Side} {p : ℕ} {bs : List (List Run)} {i j k : ℕ} {s : Sums} (cs : List (List Run)) → cs ≡ bs → i ≤ length bs → Passes (Place v p) bs i s
    → StandsBehind v (take (length cs - i) (drop i cs)) (p - side_len v s) j k → StandsBehind v bs p (i + j) k
stands_behind {v} {p} {bs} {i} {j} {k} {s} cs e l h at =
    let rest = drop i bs in
    let others : take (length cs - i) (drop i cs) ≡ rest =
    ap (λ z. take (length z - i) (drop i z)) e ∙ take_all (length bs - i) rest (omega (arith, length-drop i bs)) in
    let from : StandsBehind v rest (p - side_len v s) j k = subst (λ z. StandsBehind v z (p - side_len v s) j k) others at in
    let past = none_past h in
    let a = flat (take i bs) in
    let more : measure v (flat (take (i + j) bs)) ≡ measure v a + measure v (flat (take j rest)) =
    ap (λ z. measure v (flat z)) (take-add i j bs) ∙ (ap (measure v) (flat-append (take i bs) (take j rest)) ∙ measure-append v a (flat (take j rest))) in
    record {
      index = omega (arith, from.index, length-drop i bs, l);
      place = omega (arith, more, from.place, past.0, past.2);
      behind = step past.1 from.behind (λ z. omega (arith, from.place, past.0, ap (λ n. measure v (flat (take n rest))) z, measure-none v));
    }
  where
    step : (i ≡ 0) ⊎ (measure v (flat (take i bs)) < p) → (0 < k) ⊎ (j ≡ 0) → (j ≡ 0 → k + measure v (flat (take i bs)) ≡ p) → (0 < k) ⊎ (i + j ≡ 0)
    step a (inl b) f = inl b
    step (inl a) (inr b) f = inr (omega (arith, a, b))
    step (inr a) (inr b) f = inl (omega (arith, a, f b))

-- ## Places of requests

pub place_behind : {g p : ℕ} {bs : List (List Run)} {i : ℕ} {s : Sums} (cs : List (List Run)) → cs ≡ bs → Passes (Kept g p) bs i s
    → (s.rasp_len ≤ p) × (s.shown_len + place_in g (p - s.rasp_len) (flat (take (length cs - i) (drop i cs))) ≡ place_in g p (flat bs))
place_behind {g} {p} {bs} {i} {s} cs e h =
    let a = flat (take i bs) in
    let b = flat (take (length cs - i) (drop i cs)) in
    let r = before cs e h in
    let n : s.newest ≡ newest_of a = ap (λ z. z.newest) h.sums in
    let near = step r.rasp n h.allowed in (
      near.0,
      omega (arith, ap (place_in g p) r.two, place-append g p a b, near.1, r.shown, ap (λ k. place_in g (p - k) b) r.rasp),
    )
  where
    step : s.rasp_len ≡ rooms (flat (take i bs)) → s.newest ≡ newest_of (flat (take i bs)) → (i ≡ 0) ⊎ (nat_le s.newest g && nat_lt s.rasp_len p ≡ true)
        → (s.rasp_len ≤ p) × (place_in g p (flat (take i bs)) ≡ above (flat (take i bs)))
    step r n (inl z) =
        let no = none-of bs i z in (
          omega (arith, r, ap rooms no),
          ap (place_in g p) no ∙ sym (ap above no),
        )
    step r n (inr a) =
        let both = and-parts (nat_le s.newest g) (nat_lt s.rasp_len p) a in
        let old = leb-true s.newest g both.0 in
        let l = less s.rasp_len p both.1 in
        (omega (arith, l), place_shown g p (flat (take i bs)) (omega (arith, old, n)) (omega (arith, l, r)))

pub gone_behind : {g x p : ℕ} {bs : List (List Run)} {i : ℕ} {s : Sums} (k : ℕ) (cs : List (List Run)) → cs ≡ bs → Passes (Gone g x p) bs i s
    → (s.rasp_len ≤ p) × (s.shown_len ≤ x)
    × (s.shown_len + (x - s.shown_len - gone_in g (p - s.rasp_len) k (x - s.shown_len) (flat (take (length cs - i) (drop i cs)))) ≡ x - gone_in g p k x (flat bs))
gone_behind {g} {x} {p} {bs} {i} {s} k cs e h =
    let a = flat (take i bs) in
    let b = flat (take (length cs - i) (drop i cs)) in
    let r = before cs e h in
    let n : s.newest ≡ newest_of a = ap (λ z. z.newest) h.sums in
    let near = step r n h.allowed in
    let past : gone_in g p k x (flat bs) ≡ gone_in g (p - s.rasp_len) k (x - s.shown_len) b =
    ap (gone_in g p k x) r.two
    ∙ (gone-past g p k x a b near.0 (omega (arith, near.1, r.rasp)) (omega (arith, near.2, r.shown))
    ∙ (ap (λ j. gone_in g (p - j) k (x - above a) b) (sym r.rasp) ∙ ap (λ j. gone_in g (p - s.rasp_len) k (x - j) b) (sym r.shown))) in
    (near.1, near.2, omega (arith, past, near.2, gone_most g (p - s.rasp_len) k (x - s.shown_len) b))
  where
    step : Before bs cs i s → s.newest ≡ newest_of (flat (take i bs))
        → (i ≡ 0) ⊎ (nat_le s.newest g && (nat_le s.rasp_len p && nat_le s.shown_len x) ≡ true)
        → (newest_of (flat (take i bs)) ≤ g) × (s.rasp_len ≤ p) × (s.shown_len ≤ x)
    step r n (inl z) =
        let no = none-of bs i z in (omega (arith, ap newest_of no), omega (arith, r.rasp, ap rooms no), omega (arith, r.shown, ap above no))
    step r n (inr a) =
        let both = and-parts (nat_le s.newest g) (nat_le s.rasp_len p && nat_le s.shown_len x) a in
        let rest = and-parts (nat_le s.rasp_len p) (nat_le s.shown_len x) both.1 in
        (omega (arith, leb-true s.newest g both.0, n), leb-true s.rasp_len p rest.0, leb-true s.shown_len x rest.1)

pub lost_behind : {m : Option ℕ} {g x : ℕ} {bs : List (List Run)} {i : ℕ} {s : Sums} (cs : List (List Run)) → cs ≡ bs → Passes (Lost m g x) bs i s
    → (s.shown_len ≤ x)
    × (s.shown_len + (x - s.shown_len - lost_in m g (x - s.shown_len) (flat (take (length cs - i) (drop i cs)))) ≡ x - lost_in m g x (flat bs))
lost_behind {m} {g} {x} {bs} {i} {s} cs e h =
    let a = flat (take i bs) in
    let b = flat (take (length cs - i) (drop i cs)) in
    let r = before cs e h in
    let n : s.newest ≡ newest_of a = ap (λ z. z.newest) h.sums in
    let near = step r n h.allowed in
    let past : lost_in m g x (flat bs) ≡ lost_in m g (x - s.shown_len) b =
    ap (lost_in m g x) r.two ∙ (lost-past m g x a b near.0 near.1 (omega (arith, near.2, r.shown)) ∙ ap (λ j. lost_in m g (x - j) b) (sym r.shown)) in
    (near.2, omega (arith, past, near.2, lost_most m g (x - s.shown_len) b))
  where
    step : Before bs cs i s → s.newest ≡ newest_of (flat (take i bs))
        → (i ≡ 0) ⊎ (not (reaches m s.inserting) && (nat_le s.newest g && nat_le s.shown_len x) ≡ true)
        → (has_due (Inserts m) (flat (take i bs)) ≡ false) × (newest_of (flat (take i bs)) ≤ g) × (s.shown_len ≤ x)
    step r n (inl z) =
        let no = none-of bs i z in (ap (has_due (Inserts m)) no, omega (arith, ap newest_of no), omega (arith, r.shown, ap above no))
    step r n (inr a) =
        let both = and-parts (not (reaches m s.inserting)) (nat_le s.newest g && nat_le s.shown_len x) a in
        let rest = and-parts (nat_le s.newest g) (nat_le s.shown_len x) both.1 in
        let due : reaches m s.inserting ≡ reaches m (oldest_inserting (flat (take i bs))) = ap (λ z. reaches m z.inserting) h.sums in (
          inserts_reach m (flat (take i bs)) ∙ (sym due ∙ not-true (reaches m s.inserting) both.0),
          omega (arith, leb-true s.newest g rest.0, n),
          leb-true s.shown_len x rest.1,
        )

-- ## Sizes after a change

pub made_small : (w : Deed) (bs cs : List (List Run)) → cs ≡ made_in w bs → rooms (flat bs) + waits (flat bs) < 2 ^ 32 → rooms (flat cs) + waits (flat cs) < 2 ^ 32
made_small w bs cs e l =
    let same : flat cs ≡ made_first w (flat bs) = ap flat e ∙ flat_made w bs in
    omega (arith, ap rooms same, ap waits same, made_fits w (flat bs), l)

pub taken_small : (m : Option ℕ) (bs cs : List (List Run)) → cs ≡ taken_in m bs → rooms (flat bs) + waits (flat bs) < 2 ^ 32 → rooms (flat cs) + waits (flat cs) < 2 ^ 32
taken_small m bs cs e l =
    let same : flat cs ≡ taken_first m (flat bs) = ap flat e ∙ flat_taken m bs in
    omega (arith, ap rooms same, ap waits same, taken_fits m (flat bs), l)

-- ## Others in place of some blocks

pub put_front : (bs made : List (List Run)) (i n : ℕ) → i ≤ length bs → take i (take i bs ++ made ++ drop n bs) ≡ take i bs
put_front bs made i n l =
    let size : i ≡ length (take i bs) = sym (length-take-le i bs l) in
    ap (take i) (append_assoc (take i bs) made (drop n bs))
    ∙ (ap (λ k. take k (take i bs ++ (made ++ drop n bs))) size ∙ take-front (take i bs) (made ++ drop n bs))

pub put_back : (bs made : List (List Run)) (i n k : ℕ) → i ≤ length bs → k ≡ i + length made → drop k (take i bs ++ made ++ drop n bs) ≡ drop n bs
put_back bs made i n k l e =
    let size : k ≡ length (take i bs ++ made) = omega (arith, e, length-append (take i bs) made, length-take-le i bs l) in
    ap (λ k. drop k (take i bs ++ made ++ drop n bs)) size ∙ drop-front (take i bs ++ made) (drop n bs)

-- the marks of the stretches before block i
pub put_marks : (ms : List Mark) (j i n : ℕ) (bs cs made : List (List Run)) → cs ≡ take i bs ++ made ++ drop n bs → i ≤ length bs → spans (take j ms) ≤ i → IsMarked ms bs
    → IsMarked (take j ms) cs
put_marks ms j i n bs cs made e l m h = front_same ms j i bs cs (sym (ap (take i) e ∙ put_front bs made i n l)) m h

-- and those of the stretches behind
pub put_behind : (ms : List Mark) (j i n k : ℕ) (bs cs made : List (List Run)) → cs ≡ take i bs ++ made ++ drop n bs → k ≡ i + length made → i ≤ n → n ≤ length bs
    → length bs < 2 ^ 64 → IsMarked ms bs → IsBehind (drop j ms) (spans (take j ms)) n k cs
put_behind ms j i n k bs cs made e size m l few h =
    let there : i ≤ length bs = omega (arith, m, l) in
    let back : drop k cs ≡ drop n bs = ap (drop k) e ∙ put_back bs made i n k there size in
    let long : length cs ≡ length (take i bs ++ made) + length (drop n bs) = ap length e ∙ length-append (take i bs ++ made) (drop n bs) in
    is_behind ms j n k bs cs (sym back)
    (λ o. omega (arith, long, length-append (take i bs) made, length-take-le i bs there, size)) few h

no_items : (bs : List (List Run)) → length bs ≡ 0 → bs ≡ []
no_items [] e = refl
no_items (b ∷ bs) e = absurd (omega (arith, e))

-- all of them moved into an empty list
pub put_moved : (room bs all made cs : List (List Run)) (i n : ℕ) → length room ≡ 0 → all ≡ room ++ bs → cs ≡ take i all ++ made ++ drop n all
    → cs ≡ take i bs ++ made ++ drop n bs
put_moved room bs all made cs i n z e f =
    let same : all ≡ bs = e ∙ ap (λ y. y ++ bs) (no_items room z) in
    subst (λ y. cs ≡ take i y ++ made ++ drop n y) same f
